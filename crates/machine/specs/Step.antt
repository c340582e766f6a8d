-- One step, from the fetch to the state and memory that it leaves (document 01, Machine).
use Rattle.std.specs.Prelude.{ℕ, ◌+◌, cond, List, eqb, leb, length, Option, Some, None, Result, Ok, Err}
use Rattle.word.specs.Bytes.{load_of}
use Rattle.isa.specs.declared.kind.Instruction.{Instruction}
use Rattle.isa.specs.Reading.{read_of}
use Rattle.isa.specs.Width.{bytes_of}
use Rattle.class.specs.Class.{width_accessed}
use Rattle.effect.specs.declared.effect.Effect.{Effect}
use Rattle.effect.specs.declared.effect.Touched.{Touched}
use Rattle.effect.specs.Touched.{touched_of}
use Rattle.effect.specs.declared.exit.Exit.{Exit}
use Rattle.effect.specs.declared.exit.Exit.TheVariants as E
use Rattle.effect.specs.Exit as X
use Rattle.access.specs.Access.{address_of}
use Rattle.decision.specs.Decision.{decision_of}
use Rattle.refusal.specs.declared.Refusal.{Refusal}
use Rattle.refusal.specs.Refusal.{number_of}
use Rattle.machine.specs.declared.state.State.{State}
use Rattle.machine.specs.declared.step.Stepped.{Stepped}
use Rattle.machine.specs.State.{register_of, special_of, refusal_of}
use Rattle.machine.specs.Apply.{Machine, Span, span, apply_of}

-- what an instruction does in a state, with n bytes of memory: 72 clauses, joined in crate decision, decided by GPR[rs] and GPR[rt]
unfoldable pub effect_of : Instruction → State → ℕ → Result Effect Exit
effect_of i s n = decision_of i (register_of s.registers i.rs) (register_of s.registers i.rt) (special_of s) n

abbrev pub read_effect : Option Instruction → State → ℕ → Result Effect Exit
read_effect None s n = Err E.NoInstruction
read_effect (Some i) s n = effect_of i s n

-- a fetch needs four bytes inside memory; 50 comes before 49
unfoldable pub effect_at : State → List ℕ → Result Effect Exit
effect_at s m = cond (leb (s.special.pc + 4) (length m)) (read_effect (read_of (load_of 4 m s.special.pc)) s (length m)) (Err E.Fetch)

-- an instruction's access: the bytes at base plus offset that it loads or stores, none where it is no access
abbrev pub instruction_access : Instruction → State → Span
instruction_access i s = span (address_of (register_of s.registers i.rs) i.value) (bytes_of (width_accessed i.kind))

abbrev pub read_access : Option Instruction → State → Span
read_access None s = span 0 0
read_access (Some i) s = instruction_access i s

-- the access that a step tries; an SC counts also where it does not store, and any access where the step exits
unfoldable pub access_at : State → List ℕ → Span
access_at s m = cond (leb (s.special.pc + 4) (length m)) (read_access (read_of (load_of 4 m s.special.pc)) s) (span 0 0)

-- the number that a call answers, what it touched (document 02, Ticket 1: the access that its step completed), and the state and memory that it
-- leaves
pub record Outcome : Type 0 where
  pub number : ℕ
  pub touched : Option Touched
  pub machine : Machine

abbrev pub stepped : ℕ → Option Touched → State → List ℕ → Outcome
stepped k t s m = record { number = k; touched = t; machine = record { state = s; memory = m } }

-- a call that completes no step
abbrev pub outcome : ℕ → State → List ℕ → Outcome
outcome k s m = stepped k None s m

-- an effect is carried out; an exit completes nothing and leaves all as it was
abbrev pub tried_of : Result Effect Exit → State → List ℕ → Outcome
tried_of (Ok e) s m = record { number = 0; touched = touched_of e; machine = apply_of e s m }
tried_of (Err x) s m = outcome (X.number_of x) s m

-- a step that nothing refuses
unfoldable pub try_of : State → List ℕ → Outcome
try_of s m = tried_of (effect_at s m) s m

unfoldable pub step_of : State → List ℕ → Outcome
step_of s m = cond (eqb (refusal_of s (length m)) 0) (try_of s m) (outcome (refusal_of s (length m)) s m)

-- ---- what the methods of a state answer

abbrev pub done_of : Stepped → List ℕ → Outcome
done_of r m = stepped (X.exit_number r.exit) r.touched r.state m

-- a refusal leaves the state that it refuses
abbrev pub answer_of : State → Result Stepped Refusal → List ℕ → Outcome
answer_of s (Ok r) m = done_of r m
answer_of s (Err e) m = outcome (number_of e) s m
