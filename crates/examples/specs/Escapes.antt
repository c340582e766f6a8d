-- What the rules and the host's limits are needed for. `escapes`: modules that break just one rule, at one place. `hosts`: accepted modules, in
-- states that a host may not make. Each row has what escapes in the first step tried that is not confined.
use Rattle.std.specs.Prelude.{ℕ, ◌+◌, ◌/◌, Bool, true, false, cond, ◌&&◌, ◌||◌, List, [], ◌∷◌, ◌++◌, eqb, leb, length, replicate, drop}
use Rattle.layout.specs.declared.Layout.{Layout}
use Rattle.layout.specs.Layout.{layout_of}
use Rattle.checker.specs.declared.verdict.Verdict.{Verdict}
use Rattle.checker.specs.Check.{Trial, trial, no_place, trials_of, is_broken, first_of, check_of}
use Rattle.checker.specs.Examples.{bytes_of}
use Rattle.machine.specs.declared.state.State.{State}
use Rattle.machine.specs.State.{join_of}
use Rattle.parts.specs.Parts.{special}
use Rattle.machine.specs.Apply.{Machine, Span, span}
use Rattle.machine.specs.Step.{access_at, step_of}
use Rattle.machine.specs.Resume.{is_served}
use Rattle.confinement.specs.Events.{Event, Run, Resume}
use Rattle.confinement.specs.Calls.{Lent, lent, methods}
use Rattle.confinement.specs.Lists.{list_tries}

-- ---- `Confined` of Demand as a test

abbrev pub is_within : ℕ → ℕ → Span → Bool
is_within base size x = leb base x.at && leb (x.at + x.width) (base + size)

abbrev pub fetch_inside : Layout → Machine → Bool
fetch_inside l t = is_within l.code_base l.code_size (span t.state.special.pc 4)

abbrev pub access_inside : Layout → Machine → Bool
access_inside l t =
    eqb (access_at t.state t.memory).width 0
    || is_within l.data_base l.data_size (access_at t.state t.memory)

abbrev pub exit_allowed : Machine → Bool
exit_allowed t = eqb (step_of t.state t.memory).number 0 || is_served (step_of t.state t.memory).number

unfoldable pub is_confined : Layout → Machine → Bool
is_confined l t = fetch_inside l t && (access_inside l t && exit_allowed t)

-- ---- what escapes

pub data Escape : Type 0 where
  FetchesAt : ℕ → Escape
  -- address and width
  AccessesAt : ℕ → ℕ → Escape
  Exits : ℕ → Escape
  -- every step is confined
  Nothing : Escape

-- what is not confined in a step tried
abbrev pub escape_at : Layout → Machine → Escape
escape_at l t =
    cond (fetch_inside l t)
    (cond (access_inside l t)
    (Exits (step_of t.state t.memory).number)
    (AccessesAt (access_at t.state t.memory).at (access_at t.state t.memory).width))
    (FetchesAt t.state.special.pc)

-- in the first step that is not confined
abbrev pub first_escape : Layout → List Machine → Escape
first_escape l [] = Nothing
first_escape l (t ∷ ts) = cond (is_confined l t) (first_escape l ts) (escape_at l t)

-- ---- rows

-- a module in its layout, a state, the rules broken, and what escapes
pub record Row : Type 0 where
  pub layout : Layout
  pub words : List ℕ
  pub state : State
  pub broken : List Trial
  pub escape : Escape

abbrev pub image_of : Row → List ℕ
image_of r = bytes_of r.words

-- 128 bytes: the image in the code area, and zeros
abbrev pub memory_length : ℕ
memory_length = 128

abbrev pub memory_of : Row → List ℕ
memory_of r =
    replicate r.layout.code_base 0
    ++ (image_of r ++ drop (r.layout.code_base + length (image_of r)) (replicate memory_length 0))

abbrev pub lent_of : Row → Lent State
lent_of r = lent r.state (memory_of r)

-- the list of every row
abbrev pub events : List Event
events = Run 16 ∷ Resume ∷ Run 16 ∷ []

abbrev pub tried_in : Row → List Machine
tried_in r = list_tries methods r.layout events (lent_of r)

-- every rule broken, at every word
abbrev pub broken_among : (Trial → Bool) → List Trial → List Trial
broken_among broken [] = []
broken_among broken (t ∷ ts) = cond (broken t) (t ∷ []) [] ++ broken_among broken ts

pub record Finding : Type 0 where
  pub says : Verdict
  pub broken : List Trial
  pub escape : Escape

abbrev pub found : Row → Finding
found r =
    record {
      says = check_of r.layout memory_length (image_of r);
      broken = broken_among (is_broken r.layout memory_length (image_of r)) (trials_of r.layout);
      escape = first_escape r.layout (tried_in r);
    }

-- the checker says what is broken, or accepts
abbrev pub wanted : Row → Finding
wanted r = record { says = first_of (λ (t : Trial). true) r.broken; broken = r.broken; escape = r.escape }

-- ---- states

-- at pc; x in register 8, and in register 9 the word that is stored, which is RFE
abbrev pub state_at : ℕ → ℕ → ℕ → ℕ → ℕ → State
state_at pc x r26 r27 status =
    join_of
    (replicate 8 0 ++ (x ∷ 0x42000010 ∷ replicate 16 0 ++ (r26 ∷ r27 ∷ replicate 4 0)))
    (special 0 0 pc (pc + 4) false 0 status 0 0)

-- a start, which is in user mode
abbrev pub start_of : Layout → ℕ → State
start_of l x = state_at l.code_base x l.data_base l.code_base 8

-- ---- words

abbrev pub nop : ℕ
nop = 0

-- ANDI 8,8,m
abbrev pub andi : ℕ → ℕ
andi m = 0x31080000 + m

-- OR 8,8,26
abbrev pub or26 : ℕ
or26 = 0x011A4025

-- OR 8,8,27
abbrev pub or27 : ℕ
or27 = 0x011B4025

-- SW 9,0(8)
abbrev pub sw : ℕ
sw = 0xAD090000

-- JR 8
abbrev pub jr : ℕ
jr = 0x01000008

-- J a
abbrev pub jump : ℕ → ℕ
jump a = 0x08000000 + a / 4

-- ADDIU 8,0,v
abbrev pub addiu : ℕ → ℕ
addiu v = 0x24080000 + v

-- SYSCALL
abbrev pub syscall : ℕ
syscall = 0x0000000C

-- a bundle, and one that jumps back to the code base
abbrev pub looped : ℕ → ℕ → ℕ → ℕ → List ℕ
looped a b c d = a ∷ b ∷ c ∷ d ∷ nop ∷ nop ∷ jump 64 ∷ nop ∷ []

-- ---- modules that break a rule

-- code at 64 to 95, and data at 32 to 47
abbrev pub usual : Layout
usual = layout_of 64 32 32 16

-- code at 64 to 127
abbrev pub wide : Layout
wide = layout_of 64 64 32 16

-- in layout l, rule n is broken at word p; x in register 8
abbrev pub breaks_in : Layout → ℕ → ℕ → ℕ → List ℕ → Escape → Row
breaks_in l n p x ws e =
    record { layout = l; words = ws; state = start_of l x; broken = trial n p ∷ []; escape = e }

abbrev pub breaks : ℕ → ℕ → ℕ → List ℕ → Escape → Row
breaks n p x ws e = breaks_in usual n p x ws e

abbrev pub escapes : List Row
escapes =
    -- data at 6 to 11, and at 34 to 49: words there are not aligned
    breaks_in (layout_of 64 32 6 6) 3 no_place 0 (looped (andi 0) or26 sw nop) (Exits 43)
    ∷ breaks_in (layout_of 64 32 34 16) 5 no_place 0 (looped (andi 12) or26 sw nop) (Exits 43)
    -- data past the memory's end
    ∷ breaks_in (layout_of 64 32 128 16) 5 no_place 0 (looped (andi 12) or26 sw nop) (Exits 43)
    -- data in the code: RFE is stored over word 3, which comes next
    ∷ breaks_in (layout_of 64 32 64 16) 6 no_place 12 (looped (andi 12) or26 sw nop) (Exits 45)
    -- no instruction
    ∷ breaks 8 0 0 (looped 0xFFFFFFFF nop nop nop) (Exits 49)
    -- MFC0 3,12; MTC0 3,12; RFE; BREAK 15
    ∷ breaks 9 0 0 (looped 0x40036000 nop nop nop) (Exits 44)
    ∷ breaks 9 0 0 (looped 0x40836000 nop nop nop) (Exits 44)
    ∷ breaks 9 0 0 (looped 0x42000010 nop nop nop) (Exits 45)
    ∷ breaks 9 0 0 (looped 0x000003CD nop nop nop) (Exits 51)
    -- LUI 26,0 and LUI 27,0 move the guard's base
    ∷ breaks 10 0 0 (looped 0x3C1A0000 (andi 12) or26 sw) (AccessesAt 0 4)
    ∷ breaks 10 0 0 (looped 0x3C1B0000 (andi 16) or27 jr) (FetchesAt 0)
    -- access without guard
    ∷ breaks 12 2 48 (looped nop nop sw nop) (AccessesAt 48 4)
    -- R is register 0: ANDI 0,8,12; OR 0,0,26; SW 9,0(0)
    ∷ breaks 12 2 0 (looped 0x3100000C 0x001A0025 0xAC090000 nop) (AccessesAt 0 4)
    -- mask, or mask and offset, too large: ANDI 8,8,28; SW 9,4(8)
    ∷ breaks 22 2 16 (looped (andi 28) or26 sw nop) (AccessesAt 48 4)
    ∷ breaks 22 2 12 (looped (andi 12) or26 0xAD090004 nop) (AccessesAt 48 4)
    -- offset negative: SW 9,-4(8)
    ∷ breaks 22 2 0 (looped (andi 12) or26 0xAD09FFFC nop) (AccessesAt 28 4)
    -- offset no multiple of the width: SW 9,1(8). A mask that is none has holes too, and breaks 25
    ∷ breaks 22 2 0 (looped (andi 4) or26 0xAD090001 nop) (Exits 43)
    -- guard in the bundle before, and JR to the access
    ∷ breaks_in wide 12 8 32 (andi 32 ∷ or27 ∷ jr ∷ nop ∷ nop ∷ nop ∷ andi 12 ∷ or26 ∷ looped sw nop nop nop) (AccessesAt 96 4)
    -- JR without guard
    ∷ breaks 13 2 96 (looped nop nop jr nop) (FetchesAt 96)
    -- R is register 0: ANDI 0,8,16; OR 0,0,27; JR 0
    ∷ breaks 13 2 0 (looped 0x31000010 0x001B0025 0x00000008 nop) (FetchesAt 0)
    -- mask too large
    ∷ breaks 13 2 32 (looped (andi 32) or27 jr nop) (FetchesAt 96)
    -- mask no multiple of 16, and JR to the access
    ∷ breaks 13 6 8 (andi 12 ∷ or26 ∷ sw ∷ nop ∷ andi 8 ∷ or27 ∷ jr ∷ nop ∷ []) (AccessesAt 72 4)
    -- target outside the code; on the last word
    ∷ breaks 15 0 0 (looped (jump 96) nop nop nop) (FetchesAt 96)
    ∷ breaks 15 0 0 (looped (jump 92) nop nop nop) (FetchesAt 96)
    -- target on an access; just before it, on OR
    ∷ breaks 15 6 0 (andi 12 ∷ or26 ∷ sw ∷ nop ∷ addiu 64 ∷ nop ∷ jump 72 ∷ nop ∷ []) (AccessesAt 64 4)
    ∷ breaks 15 6 0 (andi 12 ∷ or26 ∷ sw ∷ nop ∷ addiu 64 ∷ nop ∷ jump 68 ∷ nop ∷ []) (AccessesAt 96 4)
    -- target on JR; just before it, on OR
    ∷ breaks 15 6 16 (andi 16 ∷ or27 ∷ jr ∷ nop ∷ addiu 96 ∷ nop ∷ jump 72 ∷ nop ∷ []) (FetchesAt 96)
    ∷ breaks 15 6 16 (andi 16 ∷ or27 ∷ jr ∷ nop ∷ addiu 96 ∷ nop ∷ jump 68 ∷ nop ∷ []) (FetchesAt 96)
    -- last word but one no jump
    ∷ breaks 16 6 0 (nop ∷ nop ∷ nop ∷ nop ∷ nop ∷ nop ∷ nop ∷ nop ∷ []) (FetchesAt 96)
    ∷ []

-- ---- states that a host may not make

abbrev pub accepts : State → List ℕ → Escape → Row
accepts s ws e = record { layout = usual; words = ws; state = s; broken = []; escape = e }

abbrev pub hosts : List Row
hosts =
    -- PC at an access, with a register 8 that the guard did not make
    accepts (state_at 72 0 32 64 8) (looped (andi 12) or26 sw syscall) (AccessesAt 0 4)
    -- register 26, or 27, changed at an exit
    ∷ accepts (state_at 76 0 0 64 8) (looped (andi 12) or26 sw syscall) (AccessesAt 0 4)
    ∷ accepts (state_at 64 0 32 0 8) (looped syscall (andi 16) or27 jr) (FetchesAt 0)
    -- kernel mode: SYSCALL 15
    ∷ accepts (state_at 64 0 32 64 0) (looped 0x000003CC nop nop nop) (Exits 52)
    ∷ []
