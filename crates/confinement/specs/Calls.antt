-- Step, run and resume as a list makes them, on two levels: the methods of `State`, and the calls exported to C, whose state is bytes.
use Rattle.std.specs.Prelude.{ℕ, ◌*◌, Bool, List, set}
use Rattle.word.specs.Bytes.{store_of}
use Rattle.effect.specs.declared.effect.Cell.{Cell}
use Rattle.effect.specs.Touched.{cell_of}
use Rattle.machine.specs.declared.state.State.{State}
use Rattle.machine.specs.State.{special_of, join_of, refusal_of, Typed, Bytes}
use Rattle.parts.specs.Parts.{pair_of}
use Rattle.machine.specs.Step.{Outcome, step_of}
use Rattle.machine.specs.Run.{Course, run_of}
use Rattle.machine.specs.Resume.{resume_of}
use Rattle.codec.specs.Bytes.{state_of}
use Rattle.cc100.specs.Calls as C
use Rattle.confinement.specs.Events.{Write, Register, Hi, Lo, Byte}

-- what a call is lent, and what it leaves: a state, as S, and the memory
pub record Lent (S : Type 0) : Type 0 where
  pub state : S
  pub memory : List ℕ

abbrev pub lent : {S : Type 0} → S → List ℕ → Lent S
lent s m = record { state = s; memory = m }

-- what an event hands back beside the state: a call its number, a step and a run what they touched (document 02, Ticket 1), a run its step total too,
-- and a change whether it stands
pub data Answer : Type 0 where
  Stepped : ℕ → Cell → Answer
  Ran : ℕ → ℕ → Cell → Answer
  Resumed : ℕ → Answer
  Changed : Bool → Answer

pub record Reply (S : Type 0) : Type 0 where
  pub answer : Answer
  pub left : Lent S

abbrev pub reply : {S : Type 0} → Answer → S → List ℕ → Reply S
reply a s m = record { answer = a; left = lent s m }

-- the calls of one level
pub record Calls (S : Type 0) : Type 1 where
  -- what the types of the code say of a state
  pub Sized : S → Type 0
  -- the state that it stands for
  pub view : S → State
  -- 1 or 17, 0 where neither is due, from a state and the memory's length
  pub refusal : S → ℕ → ℕ
  pub step : S → List ℕ → Reply S
  pub run : ℕ → S → List ℕ → Reply S
  pub resume : S → List ℕ → Reply S
  -- a host's write to the state
  pub put : Write → S → S

-- ---- the methods of State

abbrev pub replied : (ℕ → Cell → Answer) → Outcome → Reply State
replied f o = reply (f o.number (cell_of o.touched)) o.machine.state o.machine.memory

abbrev pub ran_to : Course → Reply State
ran_to r = reply (Ran r.number r.steps (cell_of r.touched)) r.machine.state r.machine.memory

abbrev pub put_state : Write → State → State
put_state (Register r v) s = join_of (set s.registers r v) (special_of s)
put_state (Hi v) s = join_of s.registers (pair_of (special_of s) v s.special.lo)
put_state (Lo v) s = join_of s.registers (pair_of (special_of s) s.special.hi v)
put_state (Byte a v) s = s

abbrev pub methods : Calls State
methods =
    record {
      Sized = Typed;
      view = λ s. s;
      refusal = refusal_of;
      step = λ s m. replied Stepped (step_of s m);
      run = λ n s m. ran_to (run_of s m n);
      resume = λ s m. replied (λ k _. Resumed k) (resume_of s m);
      put = put_state;
    }

-- ---- the exported calls: cc100_step, cc100_run, cc100_resume

abbrev pub answered : (ℕ → Cell → Answer) → C.Answer → Reply (List ℕ)
answered f r = reply (f r.number r.touched) r.state r.memory

abbrev pub ran_bytes : C.RunAnswer → Reply (List ℕ)
ran_bytes r = reply (Ran r.number r.steps r.touched) r.state r.memory

-- of the 41 words, registers 0 to 31 come first, then HI and LO
abbrev pub put_bytes : Write → List ℕ → List ℕ
put_bytes (Register r v) b = store_of 4 b (4 * r) v
put_bytes (Hi v) b = store_of 4 b (4 * 32) v
put_bytes (Lo v) b = store_of 4 b (4 * 33) v
put_bytes (Byte a v) b = b

abbrev pub exported : Calls (List ℕ)
exported =
    record {
      Sized = Bytes;
      view = state_of;
      refusal = C.call_refusal;
      step = λ b m. answered Stepped (C.step_call b m);
      run = λ n b m. ran_bytes (C.run_call b m n);
      resume = λ b m. answered (λ k _. Resumed k) (C.resume_call b m);
      put = put_bytes;
    }
