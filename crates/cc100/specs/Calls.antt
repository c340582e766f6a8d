-- What cc100_step, cc100_run and cc100_resume answer and leave: what the machine does, on a state as bytes (document 01).
use Rattle.std.specs.Prelude.{ℕ, ◌≡◌, ◌≤◌, true, false, cond, List, eqb, ltb, length, None, Result, Ok, Err}
use Rattle.word.specs.Bytes.{longest}
use Rattle.effect.specs.declared.effect.Cell.{Cell}
use Rattle.effect.specs.Exit.{exit_number}
use Rattle.effect.specs.Touched.{cell, cell_of}
use Rattle.refusal.specs.declared.Refusal.{Refusal}
use Rattle.refusal.specs.Refusal.{number_of}
use Rattle.machine.specs.declared.state.State.{State}
use Rattle.machine.specs.declared.step.Stepped.{Stepped}
use Rattle.machine.specs.declared.run.Ran.{Ran}
use Rattle.machine.specs.State.{refusal_of}
use Rattle.machine.specs.Step.{Outcome, step_of}
use Rattle.machine.specs.Run.{Course, run_of}
use Rattle.machine.specs.Resume.{resume_of}
use Rattle.codec.specs.Bytes.{is_state, state_of, bytes_of}

-- the refusals that the three calls try first: 1, then 17 by its rules of bytes and of states; 0 where none is due
unfoldable pub call_refusal : List ℕ → ℕ → ℕ
call_refusal b n = cond (is_state b) (refusal_of (state_of b) n) (cond (ltb longest n) 1 17)

-- r is the refusal that is due, or the state that the bytes stand for, whose own refusals the machine tries: a state is refused here for memory's length
-- alone
abbrev pub Decodes : List ℕ → ℕ → Result State Refusal → Type 0
Decodes b n (Ok s) = (n ≤ longest) × ((is_state b ≡ true) × (s ≡ state_of b))
Decodes b n (Err e) = (call_refusal b n ≡ number_of e) × (n ≤ longest → is_state b ≡ false)

-- ---- step and resume

-- the number that a call answers, what it touched (a resume nothing), and the bytes that it leaves
pub record Answer : Type 0 where
  pub number : ℕ
  pub touched : Cell
  pub state : List ℕ
  pub memory : List ℕ

abbrev pub step_answer : ℕ → Cell → List ℕ → List ℕ → Answer
step_answer k t b m = record { number = k; touched = t; state = b; memory = m }

-- a call that completes no step
abbrev pub answer : ℕ → List ℕ → List ℕ → Answer
answer k b m = step_answer k (cell_of None) b m

abbrev pub answered : Outcome → Answer
answered o = step_answer o.number (cell_of o.touched) (bytes_of o.machine.state) o.machine.memory

-- refused, with every byte as it was, or what the machine does
unfoldable pub call_of : List ℕ → List ℕ → Outcome → Answer
call_of b m o = cond (eqb (call_refusal b (length m)) 0) (answered o) (answer (call_refusal b (length m)) b m)

abbrev pub step_call : List ℕ → List ℕ → Answer
step_call b m = call_of b m (step_of (state_of b) m)

abbrev pub resume_call : List ℕ → List ℕ → Answer
resume_call b m = call_of b m (resume_of (state_of b) m)

-- what a step of a state says, with the bytes that are left
abbrev pub step_says : Result Stepped Refusal → List ℕ → List ℕ → Answer
step_says (Ok r) b m = step_answer (exit_number r.exit) (cell_of r.touched) b m
step_says (Err e) b m = answer (number_of e) b m

-- struct cc100_stepped of it
abbrev pub IsStepped : Result Stepped Refusal → ℕ → ℕ → ℕ → ℕ → Type 0
IsStepped r k a w d = (b m : List ℕ) → step_answer k (cell a w d) b m ≡ step_says r b m

-- ---- run

-- the same with the steps completed, and the last access among them
pub record RunAnswer : Type 0 where
  pub number : ℕ
  pub steps : ℕ
  pub touched : Cell
  pub state : List ℕ
  pub memory : List ℕ

abbrev pub run_answer : ℕ → ℕ → Cell → List ℕ → List ℕ → RunAnswer
run_answer k n t b m = record { number = k; steps = n; touched = t; state = b; memory = m }

abbrev pub run_answered : Course → RunAnswer
run_answered r =
    run_answer r.number r.steps (cell_of r.touched) (bytes_of r.machine.state) r.machine.memory

-- no step is completed where the call is refused
unfoldable pub run_call : List ℕ → List ℕ → ℕ → RunAnswer
run_call b m budget =
    cond (eqb (call_refusal b (length m)) 0)
    (run_answered (run_of (state_of b) m budget))
    (run_answer (call_refusal b (length m)) 0 (cell_of None) b m)

-- what a run of a state says, with the bytes that are left
abbrev pub run_says : Result Ran Refusal → List ℕ → List ℕ → RunAnswer
run_says (Ok r) b m = run_answer (exit_number r.exit) r.steps (cell_of r.touched) b m
run_says (Err e) b m = run_answer (number_of e) 0 (cell_of None) b m

-- struct cc100_ran of it
abbrev pub IsRan : Result Ran Refusal → ℕ → ℕ → ℕ → ℕ → ℕ → Type 0
IsRan r k n a w d = (b m : List ℕ) → run_answer k n (cell a w d) b m ≡ run_says r b m
