-- A resume after an exit (document 01, Machine).
use Rattle.std.specs.Prelude.{ℕ, Bool, false, cond, ◌||◌, List, eqb, length, Result, Ok, Err}
use Rattle.effect.specs.declared.exit.Exit.TheVariants as E
use Rattle.effect.specs.Exit as X
use Rattle.refusal.specs.declared.Refusal.{Refusal}
use Rattle.refusal.specs.Refusal.{number_of}
use Rattle.machine.specs.declared.state.State.{State}
use Rattle.machine.specs.State.{special_of, join_of, refusal_of}
use Rattle.parts.specs.Parts.{advance_of, linked_of}
use Rattle.machine.specs.Step.{Outcome, outcome, step_of}

-- the exits that a resume serves: 40, 46, 47 and 48
unfoldable pub is_served : ℕ → Bool
is_served k =
    eqb k (X.number_of E.IntegerOverflow)
    || (eqb k (X.number_of E.SystemCall) || (eqb k (X.number_of E.Breakpoint) || eqb k (X.number_of E.Trap)))

-- PC set to next PC, next PC to four more, the LL bit clear and all else kept
abbrev pub resumed_of : State → State
resumed_of s = join_of s.registers (linked_of (advance_of (special_of s)) false)

-- memory is only read; 19 where the step of the state does not end in one of these exits
unfoldable pub resume_of : State → List ℕ → Outcome
resume_of s m =
    cond (eqb (refusal_of s (length m)) 0)
    (cond (is_served (step_of s m).number) (outcome 0 (resumed_of s) m) (outcome 19 s m))
    (outcome (refusal_of s (length m)) s m)

-- what a state's resume answers: a refusal leaves the state that it refuses
abbrev pub answer_of : State → Result State Refusal → List ℕ → Outcome
answer_of s (Ok t) m = outcome 0 t m
answer_of s (Err e) m = outcome (number_of e) s m
