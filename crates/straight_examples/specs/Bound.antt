-- The bound of a straight-through module (document 02, Ticket 2), in small. `sharp`: modules that complete as many steps as it allows.
-- `longer`: modules that break one rule of the profile alone, at one place, and complete more.
use Rattle.std.specs.Prelude.{ℕ, suc, List, [], ◌∷◌, ◌++◌, replicate}
use Rattle.layout.specs.declared.Layout.{Layout}
use Rattle.layout.specs.Layout.{layout_of}
use Rattle.checker.specs.Check.{Trial, trial, no_place, broken_by}
use Rattle.straight.specs.Check.{straight_trials, is_straight_broken}
use Rattle.effect.specs.Touched.{cell}
use Rattle.confinement.specs.Events.{Event, Run, Resume}
use Rattle.confinement.specs.Calls.{Answer, Ran, Resumed, methods}
use Rattle.termination.specs.Ends.{answers_of, bound}
use Rattle.examples.specs.Escapes.{Nothing, Row, image_of, memory_length, lent_of, broken_among, start_of, nop, andi, or27, jr, jump, syscall, usual, wide}

-- a module in its start, the rules of the profile that it breaks, and what a run of one step more than the bound answers; of `Row` all but
-- `escape` is used
pub record Timed : Type 0 where
  pub row : Row
  pub answer : Answer

pub record Finding : Type 0 where
  pub broken : List Trial
  pub answers : List Answer

abbrev pub timed : Timed → Finding
timed t =
    record {
      broken =
          broken_among (broken_by (is_straight_broken t.row.layout (image_of t.row)) t.row.layout memory_length (image_of t.row))
          (straight_trials t.row.layout);
      answers = answers_of methods t.row.layout (Run (suc (bound t.row.layout)) ∷ []) (lent_of t.row);
    }

abbrev pub expected : Timed → Finding
expected t = record { broken = t.row.broken; answers = t.answer ∷ [] }

abbrev pub timed_in : Layout → List ℕ → List Trial → ℕ → ℕ → Timed
timed_in l ws vs k n =
    record { row = record { layout = l; words = ws; state = start_of l 0; broken = vs; escape = Nothing }; answer = Ran k n (cell 0 0 0) }

-- ---- as many as the bound allows: words that do nothing, then the last bundle, at address a

abbrev pub ending : ℕ → List ℕ
ending a = syscall ∷ nop ∷ jump a ∷ nop ∷ []

abbrev pub shortest : Timed
shortest = timed_in (layout_of 64 16 32 16) (ending 64) [] 46 0

abbrev pub sharp : List Timed
sharp =
    shortest
    ∷ timed_in usual (replicate 4 nop ++ ending 80) [] 46 4
    -- BEQ two words on, which leaves none out
    ∷ timed_in usual (0x10000001 ∷ nop ∷ nop ∷ nop ∷ ending 80) [] 46 4
    ∷ timed_in wide (replicate 12 nop ++ ending 112) [] 46 12
    ∷ []

-- ---- one rule broken: five steps of a module of eight words, and no exit

abbrev pub runs_on : List ℕ → ℕ → ℕ → Timed
runs_on ws n p = timed_in usual ws (trial n p ∷ []) 0 5

abbrev pub longer : List Timed
longer =
    -- BEQ to its own slot, which is executed twice; BEQ to itself
    runs_on (0x10000000 ∷ nop ∷ nop ∷ nop ∷ ending 80) 20 0
    ∷ runs_on (0x1000FFFF ∷ nop ∷ nop ∷ nop ∷ ending 80) 20 0
    -- BEQ past SYSCALL
    ∷ runs_on (nop ∷ nop ∷ 0x10000002 ∷ nop ∷ ending 80) 20 2
    -- JR and JALR 31,8 with a fitting guard, to the first word
    ∷ runs_on (andi 16 ∷ or27 ∷ jr ∷ nop ∷ ending 80) 20 2
    ∷ runs_on (andi 16 ∷ or27 ∷ 0x0100F809 ∷ nop ∷ ending 80) 20 2
    -- no SYSCALL
    ∷ runs_on (nop ∷ nop ∷ nop ∷ nop ∷ nop ∷ nop ∷ jump 80 ∷ nop ∷ []) 21 no_place
    ∷ []

-- ---- resumed in its last bundle, a module goes round it to the same exit: three steps, so that four words need a run of four

abbrev pub resumed_events : List Event
resumed_events = Run 1 ∷ Resume ∷ Run 3 ∷ Run 1 ∷ Resume ∷ Run 4 ∷ []

abbrev pub resumed_answers : List Answer
resumed_answers =
    Ran 46 0 (cell 0 0 0)
    ∷ Resumed 0
    ∷ Ran 0 3 (cell 0 0 0)
    ∷ Ran 46 0 (cell 0 0 0)
    ∷ Resumed 0
    ∷ Ran 46 3 (cell 0 0 0)
    ∷ []
