-- A step that divides, and what it may change (document 02, Ticket 4); the theorems about it are stated by these.
use Rattle.std.specs.Prelude.{ℕ, ◌+◌, ◌≤◌, ◌≡◌, List, None, Some, length}
use Rattle.word.specs.Bytes.{load_of}
use Rattle.isa.specs.declared.kind.Multiply.{Multiply}
use Rattle.isa.specs.declared.kind.Kind.TheVariants as K
use Rattle.isa.specs.declared.kind.Instruction.{Instruction}
use Rattle.isa.specs.Reading.{read_of}
use Rattle.parts.specs.Parts.{advance_of, pair_of}
use Rattle.arithmetic.specs.Arithmetic.{Divides}
use Rattle.machine.specs.declared.state.State.{State}
use Rattle.machine.specs.State.{join_of, refusal_of}
use Rattle.machine.specs.Step.{Outcome, stepped}

-- nothing refuses the step, its four bytes are inside memory, and they read as DIV or DIVU
pub record Division (s : State) (m : List ℕ) (i : Instruction) : Type 0 where
  pub unrefused : refusal_of s (length m) ≡ 0
  pub fetched : s.special.pc + 4 ≤ length m
  pub reads : read_of (load_of 4 m s.special.pc) ≡ Some i
  pub kind : Multiply
  pub is : i.kind ≡ K.Multiply kind
  pub divides : Divides kind

-- the step completes, PC and next PC advance, HI gets h and LO l; all else of the state, and memory, stay
abbrev pub sets : State → List ℕ → ℕ → ℕ → Outcome
sets s m h l = stepped 0 None (join_of s.registers (pair_of (advance_of s.special) h l)) m
