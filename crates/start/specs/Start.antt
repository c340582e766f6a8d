-- The start call (document 02, Ticket 8): what it answers, and the state that it hands back.
use Rattle.std.specs.Prelude.{ℕ, ◌+◌, ◌^◌, ◌≡◌, Bool, cond, not, ◌&&◌, List, eqb, length, Result, Ok, Err}
use Rattle.std.specs.Str.{bytes_eq}
use Rattle.refusal.specs.declared.Refusal.{Refusal}
use Rattle.refusal.specs.Refusal.{number_of}
use Rattle.layout.specs.declared.Layout.{Layout}
use Rattle.system.specs.System.{is_user}
use Rattle.machine.specs.declared.state.State.{State}
use Rattle.machine.specs.State.{register_of, join_of, refusal_of}
use Rattle.codec.specs.Bytes.{state_of, bytes_of}
use Rattle.cc100.specs.Calls.{call_refusal}
use Rattle.checker.specs.declared.verdict.Refused.{Refused}
use Rattle.checker.specs.declared.verdict.Verdict.{Verdict}
use Rattle.checker.specs.Check.{verdict, no_place, check_of, code_of}
use Rattle.checker.specs.Said.{verdict_of}

-- ---- the state that is handed back

-- a status whose current mode, bit 3, is user: set where it was clear, and every other bit as it was
unfoldable pub user_of : ℕ → ℕ
user_of status = cond (is_user status) status (status + 2 ^ 3)

-- PC and next PC at the first two words, in user mode, and all else as given
abbrev pub started_of : Layout → State → State
started_of l s =
    join_of s.registers
    (record {
      hi = s.special.hi;
      lo = s.special.lo;
      pc = l.code_base;
      next_pc = l.code_base + 4;
      ll = s.special.ll;
      bad = s.special.bad;
      status = user_of s.special.status;
      cause = s.special.cause;
      epc = s.special.epc;
    })

-- ---- what is refused after the checker

-- register 26 holds the data base and 27 the code base
unfoldable pub is_based : Layout → State → Bool
is_based l s =
    eqb (register_of s.registers 26) l.data_base && eqb (register_of s.registers 27) l.code_base

-- 26 where a code byte differs from the image, then 27 where register 26 or 27 holds another value, else 0
unfoldable pub placing_refusal : Layout → List ℕ → State → List ℕ → ℕ
placing_refusal l img s m = cond (not (bytes_eq (code_of l m) img)) 26 (cond (not (is_based l s)) 27 0)

-- what is tried after the checker: `own`, the state's own refusal, which is 17 then, since 1 was the checker's; and then these
unfoldable pub later_refusal : ℕ → Layout → List ℕ → State → List ℕ → ℕ
later_refusal own l img s m = cond (eqb own 0) (placing_refusal l img s m) own

-- of what is given: a state, or a refusal in its place
abbrev pub given_refusal : Layout → List ℕ → Result State Refusal → List ℕ → ℕ
given_refusal l img (Ok s) m = later_refusal (refusal_of s (length m)) l img s m
given_refusal l img (Err e) m = number_of e

-- ---- the answers

-- the checker's verdict where it refuses, with the length of the memory that is lent; else number k, without a place
abbrev pub after_check : Layout → List ℕ → List ℕ → ℕ → Verdict
after_check l img m k = cond (eqb (check_of l (length m) img).number 0) (verdict k no_place) (check_of l (length m) img)

unfoldable pub verdict_by : Layout → List ℕ → Result State Refusal → List ℕ → Verdict
verdict_by l img given m = after_check l img m (given_refusal l img given m)

-- the state that is handed back where nothing is refused
abbrev pub StartedFrom : Layout → Result State Refusal → State → Type 0
StartedFrom l (Ok s) t = t ≡ started_of l s
StartedFrom l (Err e) t = ⊥

-- what a start answers, and the state that it hands back
pub record StartAnswer (S : Type 0) : Type 0 where
  pub verdict : Verdict
  pub state : S

-- the new state at number 0, and else the old one
abbrev pub start_answer : {S : Type 0} → Verdict → S → S → StartAnswer S
start_answer v old new = record { verdict = v; state = cond (eqb v.number 0) new old }

-- of a state by value
unfoldable pub start_of : Layout → List ℕ → State → List ℕ → StartAnswer State
start_of l img s m = start_answer (after_check l img m (later_refusal (refusal_of s (length m)) l img s m)) s (started_of l s)

abbrev pub says : State → Result State Refused → StartAnswer State
says s (Ok t) = record { verdict = verdict_of {A = State} (Ok t); state = t }
says s (Err r) = record { verdict = verdict_of {A = State} (Err r); state = s }

-- of a state as bytes: 17 is tried of these and then of the state that they stand for, and 26 and 27 of that state
unfoldable pub start_call : Layout → List ℕ → List ℕ → List ℕ → StartAnswer (List ℕ)
start_call l img b m =
    start_answer
    (after_check l img m (later_refusal (call_refusal b (length m)) l img (state_of b) m))
    b
    (bytes_of (started_of l (state_of b)))
