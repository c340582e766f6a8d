-- The start call (document 02, Ticket 8) on one module, with nothing wrong or with one or two things at once: what it answers, and the state that it hands back.
use Rattle.std.specs.Prelude.{ℕ, ◌+◌, true, List, [], ◌∷◌, ◌++◌, length, replicate, set, take, drop}
use Rattle.checker.specs.Check.{verdict, no_place}
use Rattle.checker.specs.Examples.{bytes_of}
use Rattle.machine.specs.declared.state.State.{State}
use Rattle.machine.specs.State.{join_of}
use Rattle.parts.specs.Parts.{special}
use Rattle.start.specs.Start.{StartAnswer, start_of}
use Rattle.examples.specs.Escapes.{usual, looped, andi, or26, sw, nop, memory_length}

-- an image, a state and a memory, number and place of the verdict, and the state that is handed back
pub record Begin : Type 0 where
  pub image : List ℕ
  pub state : State
  pub memory : List ℕ
  pub answer : StartAnswer State

abbrev pub begun : Begin → StartAnswer State
begun b = start_of usual b.image b.state b.memory

-- ANDI 8,8,12; OR 8,8,26; SW 9,0(8), and back
abbrev pub image : List ℕ
image = bytes_of (looped (andi 12) or26 sw nop)

-- the same without its OR
abbrev pub unguarded : List ℕ
unguarded = bytes_of (looped (andi 12) nop sw nop)

-- an image at a place, and zeros
abbrev pub memory_at : ℕ → List ℕ → List ℕ
memory_at a x = replicate a 0 ++ (x ++ drop (a + length x) (replicate memory_length 0))

abbrev pub memory : List ℕ
memory = memory_at 64 image

-- register 0 is z; 1 to 25 are 7, and 28 to 31 are 9; the LL bit is set
abbrev pub state_at : ℕ → ℕ → ℕ → ℕ → ℕ → ℕ → State
state_at z r26 r27 pc next status =
    join_of (z ∷ replicate 25 7 ++ (r26 ∷ r27 ∷ replicate 4 9)) (special 1 2 pc next true 3 status 4 5)

-- in kernel mode, anywhere
abbrev pub given : State
given = state_at 0 32 64 1024 8 0x1FF7

abbrev pub refuses : ℕ → ℕ → List ℕ → State → List ℕ → Begin
refuses n p i s m = record { image = i; state = s; memory = m; answer = record { verdict = verdict n p; state = s } }

abbrev pub starts : State → State → List ℕ → Begin
starts s t m = record { image = image; state = s; memory = m; answer = record { verdict = verdict 0 no_place; state = t } }

abbrev pub begins : List Begin
begins =
    -- at the first two words and in user mode, and all else as given
    starts given (state_at 0 32 64 64 68 0x1FFF) memory
    ∷ starts (state_at 0 32 64 64 68 8) (state_at 0 32 64 64 68 8) memory
    -- kernel mode, and user as the previous mode
    ∷ starts (state_at 0 32 64 0 4 16) (state_at 0 32 64 64 68 24) memory
    -- other bytes outside the code area
    ∷ starts given (state_at 0 32 64 64 68 0x1FFF) (set memory 63 1)
    ∷ starts given (state_at 0 32 64 64 68 0x1FFF) (set memory 96 1)
    -- the first and the last byte of the code area, and the image at the memory's start
    ∷ refuses 26 no_place image given (set memory 64 1)
    ∷ refuses 26 no_place image given (set memory 95 1)
    ∷ refuses 26 no_place image given (memory_at 0 image)
    -- another register 26, another 27, and the two exchanged
    ∷ refuses 27 no_place image (state_at 0 48 64 64 68 8) memory
    ∷ refuses 27 no_place image (state_at 0 32 0 64 68 8) memory
    ∷ refuses 27 no_place image (state_at 0 64 32 64 68 8) memory
    -- register 0; PC; next PC; a status bit above 12
    ∷ refuses 17 no_place image (state_at 1 32 64 64 68 8) memory
    ∷ refuses 17 no_place image (state_at 0 32 64 66 68 8) memory
    ∷ refuses 17 no_place image (state_at 0 32 64 64 70 8) memory
    ∷ refuses 17 no_place image (state_at 0 32 64 64 68 8200) memory
    -- the checker before 17, with its place; 17 before 26; 26 before 27
    ∷ refuses 12 2 unguarded (state_at 1 32 64 64 68 8) memory
    ∷ refuses 7 no_place (take 31 image) (state_at 1 32 64 64 68 8) memory
    ∷ refuses 4 no_place image (state_at 1 32 64 64 68 8) (take 95 memory)
    ∷ refuses 17 no_place image (state_at 1 32 64 64 68 8) (set memory 64 1)
    ∷ refuses 26 no_place image (state_at 0 0 0 64 68 8) (set memory 64 1)
    ∷ []
