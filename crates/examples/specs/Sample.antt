-- Demand 3 is not vacuous: a start and a list with every kind of event for document 01's module M, in its own layout and memory; and a start and
-- a list for a module that overflows.
use Rattle.std.specs.Prelude.{ℕ, ◌-◌, true, false, List, [], ◌∷◌, ◌++◌, replicate, set}
use Rattle.word.specs.Bytes.{load_of}
use Rattle.layout.specs.declared.Layout.{Layout}
use Rattle.checker.specs.Examples.{length_m, module_m}
use Rattle.effect.specs.Touched.{cell}
use Rattle.machine.specs.declared.state.State.{State}
use Rattle.machine.specs.State.{join_of}
use Rattle.parts.specs.Parts.{special}
use Rattle.confinement.specs.Events.{Register, Hi, Byte, Event, Step, Run, Resume, Change}
use Rattle.confinement.specs.Calls.{Lent, lent, Answer, Stepped, Ran, Resumed, Changed, Reply}
use Rattle.examples.specs.Escapes.{Nothing, Row, start_of, andi, or26, sw, looped, usual, accepts}

-- what is shown of a reply: the answer, PC, and the first word of data
pub record Shown : Type 0 where
  pub answer : Answer
  pub pc : ℕ
  pub first_word : ℕ

abbrev pub shown : Answer → ℕ → ℕ → Shown
shown a p w = record { answer = a; pc = p; first_word = w }

abbrev pub shown_of : Layout → Reply State → Shown
shown_of l r = shown r.answer r.left.state.special.pc (load_of 4 r.left.memory l.data_base)

-- ---- module M

-- in user mode at pc, with x in register 8
abbrev pub sample_at : ℕ → ℕ → ℕ → State
sample_at pc next x =
    join_of
    (replicate 8 0 ++ (x ∷ 0x04030201 ∷ replicate 16 0 ++ (0x20000 ∷ 0x10000 ∷ replicate 4 0)))
    (special 0 0 pc next false 0 8 0 0)

-- M's guard brings this register 8 to the data base, where M stores register 9
abbrev pub sample_state : State
sample_state = sample_at 0x10000 0x10004 0xFFFFFFC0

-- M in the code area, zeros elsewhere
abbrev pub sample_memory : List ℕ
sample_memory = replicate 0x10000 0 ++ (module_m ++ replicate (length_m - 0x10020) 0)

abbrev pub sample_lent : Lent State
sample_lent = lent sample_state sample_memory

-- the same, but for a byte that is neither code nor data
abbrev pub sample_other : Lent State
sample_other = lent sample_state (set sample_memory 0x1FFFF 255)

abbrev pub sample_events : List Event
sample_events = Run 10 ∷ Change (Register 8 5 ∷ Byte 0x20003 9 ∷ []) ∷ Step ∷ Resume ∷ Resume ∷ Run 3 ∷ []

abbrev pub sample_replies : List Shown
sample_replies =
    -- three steps, the last of them the store, then SYSCALL
    shown (Ran 46 3 (cell 0x20000 4 1)) 0x1000C 0x04030201
    ∷ shown (Changed true) 0x1000C 0x09030201
    -- the same exit, which touches nothing
    ∷ shown (Stepped 46 (cell 0 0 0)) 0x1000C 0x09030201
    ∷ shown (Resumed 0) 0x10010 0x09030201
    -- refused, at a word that ends in no exit
    ∷ shown (Resumed 19) 0x10010 0x09030201
    -- the budget is spent, with the jump's slot next
    ∷ shown (Ran 0 3 (cell 0 0 0)) 0x1001C 0x09030201
    ∷ []

-- PC of every step tried, a line for each call
abbrev pub sample_tried : List ℕ
sample_tried =
    0x10000 ∷ 0x10004 ∷ 0x10008 ∷ 0x1000C
    ∷ 0x1000C
    ∷ 0x1000C
    ∷ 0x10010
    ∷ 0x10010 ∷ 0x10014 ∷ 0x10018
    ∷ []

-- ---- a module that overflows: ADD 9,8,8, then a guarded SW 9,0(8)

abbrev pub overflow : Row
overflow = accepts (start_of usual 0x7FFFFFF0) (looped 0x01084820 (andi 12) or26 sw) Nothing

abbrev pub overflow_events : List Event
overflow_events =
    Run 1 ∷ Change (Register 26 0 ∷ []) ∷ Change (Byte 48 9 ∷ []) ∷ Resume ∷ Change (Hi 7 ∷ []) ∷ Run 12 ∷ []

abbrev pub overflow_replies : List Shown
overflow_replies =
    shown (Ran 40 0 (cell 0 0 0)) 64 0
    -- no host may write register 26, or the byte past the data
    ∷ shown (Changed false) 64 0
    ∷ shown (Changed false) 64 0
    ∷ shown (Resumed 0) 68 0
    -- no exit here
    ∷ shown (Changed false) 68 0
    -- the guard has made register 8 the data base, and the next ADD gives 32 + 32; the last store is not the last step
    ∷ shown (Ran 0 12 (cell 32 4 1)) 84 64
    ∷ []
