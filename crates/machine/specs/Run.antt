-- A run: the step repeated until the budget is spent or a step does not complete (document 01, Machine).
use Rattle.std.specs.Prelude.{ℕ, zero, suc, ◌+◌, cond, List, eqb, length, Option, None, Result, Ok, Err}
use Rattle.effect.specs.declared.effect.Touched.{Touched}
use Rattle.effect.specs.Touched.{last_of}
use Rattle.effect.specs.Exit.{exit_number}
use Rattle.refusal.specs.declared.Refusal.{Refusal}
use Rattle.refusal.specs.Refusal.{number_of}
use Rattle.machine.specs.declared.state.State.{State}
use Rattle.machine.specs.declared.run.Ran.{Ran}
use Rattle.machine.specs.State.{refusal_of}
use Rattle.machine.specs.Apply.{Machine}
use Rattle.machine.specs.Step.{Outcome, outcome, step_of}

-- the number that a run answers (0: still running), the steps completed, the last access among them (document 02, Ticket 1), and the state and
-- memory reached
pub record Course : Type 0 where
  pub number : ℕ
  pub steps : ℕ
  pub touched : Option Touched
  pub machine : Machine

abbrev pub course : ℕ → ℕ → Option Touched → State → List ℕ → Course
course k n t s m = record { number = k; steps = n; touched = t; machine = record { state = s; memory = m } }

-- no step completed
abbrev pub halted : Outcome → Course
halted o = record { number = o.number; steps = 0; touched = None; machine = o.machine }

-- the same, begun n steps earlier; t is the last access among these, and counts where there is none after it
abbrev pub later : ℕ → Option Touched → Course → Course
later n t r = record { number = r.number; steps = n + r.steps; touched = last_of t r.touched; machine = r.machine }

-- the exiting step isn't counted
unfoldable pub repeat_of : ℕ → State → List ℕ → Course
repeat_of zero s m = halted (outcome 0 s m)
repeat_of (suc n) s m =
    cond (eqb (step_of s m).number 0)
    (later 1 (step_of s m).touched (repeat_of n (step_of s m).machine.state (step_of s m).machine.memory))
    (halted (step_of s m))

-- budget 0 completes none and says still running, where nothing is refused
unfoldable pub run_of : State → List ℕ → ℕ → Course
run_of s m budget =
    cond (eqb (refusal_of s (length m)) 0) (repeat_of budget s m) (halted (outcome (refusal_of s (length m)) s m))

-- a run, and where it is still running one more from the state and memory that it reached
unfoldable pub then_of : Course → ℕ → Course
then_of r budget =
    cond (eqb r.number 0) (later r.steps r.touched (run_of r.machine.state r.machine.memory budget)) r

-- a step, and where it completes a run
unfoldable pub after_of : Outcome → ℕ → Course
after_of o budget = cond (eqb o.number 0) (later 1 o.touched (run_of o.machine.state o.machine.memory budget)) (halted o)

-- ---- what the methods of a state answer

abbrev pub done_of : Ran → List ℕ → Course
done_of r m = course (exit_number r.exit) r.steps r.touched r.state m

-- a refusal leaves the state that it refuses
abbrev pub answer_of : State → Result Ran Refusal → List ℕ → Course
answer_of s (Ok r) m = done_of r m
answer_of s (Err e) m = course (number_of e) 0 None s m
