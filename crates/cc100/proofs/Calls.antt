-- The theorems about step, run and resume on bytes: what a refused call leaves, and that the others do what the machine does.
use Prim.Native.Nat.{ℕ, ◌<◌, ◌≤◌}
use mathlib.Core.Path.{◌≡◌, refl, sym, ap, ◌∙◌}
use mathlib.Core.Bool.{Bool, true, false, cond}
use mathlib.Core.List.{List}
use mathlib.Core.Logic.{⊎_elim}
use native.Mathlib.Omega.{arith}
use lib.Dec.{ltb}
use lib.ListN.{length}
use borrow.Author.Tests.{ne_eqb, ltb-true, lt-ltb, le-ltb}
use Rattle.std.specs.Prelude.{Option, None, Result, Ok, Err}
use Rattle.word.proofs.Choice.{by_zero}
use Rattle.machine.specs.declared.state.State.{State}
use Rattle.word.specs.Bytes.{longest}
use Rattle.machine.specs.State.{refusal_of, Bytes}
use Rattle.effect.specs.declared.effect.Touched.{Touched}
use Rattle.effect.specs.Touched.{cell_of}
use Rattle.refusal.specs.declared.Refusal.{Refusal}
use Rattle.refusal.specs.declared.Refusal.TheVariants as R
use Rattle.refusal.specs.Refusal.{number_of, refused_when}
use Rattle.refusal.proofs.Numbers.{number_some}
use Rattle.machine.specs.Step.{Outcome, stepped, outcome, step_of}
use Rattle.machine.specs.Run.{course, run_of}
use Rattle.machine.specs.Resume.{resume_of}
use Rattle.machine.proofs.Steps.{too_long, when_broken, step_refused, exit_leaves}
use Rattle.machine.proofs.Touches.{touched_exits}
use Rattle.machine.proofs.Runs.{run_refused, run_numbers}
use Rattle.machine.proofs.Resumes.{resume_refused, resume_leaves}
use Rattle.codec.specs.Bytes.{is_state, state_of, bytes_of, decoded_of, encoded, encoded_of}
use Rattle.codec.proofs.RoundTrip.{state_length, state_typed, bytes_state}
use Rattle.cc100.specs.Calls.{call_refusal, Decodes, Answer, step_answer, answer, answered, call_of, step_says, step_call, resume_call, RunAnswer, run_answer, run_answered, run_says, run_call}

-- ---- the state that a call is lent, by what the code finds

module _ (b : List ℕ) (n : ℕ) where
  too_long_by : (t : Bool) → longest < n → cond t (refusal_of (state_of b) n) (cond (ltb longest n) 1 17) ≡ 1
  too_long_by true h = sym (too_long (state_of b) n h)
  too_long_by false h = rw (lt-ltb longest n h)

  pub decodes_too_long : (e : Refusal) → Err e ≡ refused_when R.MemoryTooLong (ltb longest n) → Decodes b n (Err e)
  unfolding call_refusal
  decodes_too_long e h =
      let w = when_broken R.MemoryTooLong e (ltb longest n) h in
      let g : longest < n = ltb-true _ _ w.1 in
      (too_long_by (is_state b) g ∙ sym w.0, λ (h : n ≤ longest). let x : ⊥ = omega (arith, g, h) in absurd x)

  decodes_by : (t : Bool) → is_state b ≡ t → n ≤ longest → Decodes b n (cond t (Ok (state_of b)) (Err R.State))
  unfolding call_refusal
  decodes_by true q h = (h, (q, refl))
  decodes_by false q h = (rw (q, le-ltb longest n h), λ _. q)

  pub decodes : n ≤ longest → (r : Result State Refusal) → r ≡ decoded_of b → Decodes b n r
  unfolding decoded_of
  decodes h r e = rw e (decodes_by (is_state b) refl h)

-- a call that is not refused is lent the bytes of a state
served_by : (b : List ℕ) (n : ℕ) (t u : Bool) → is_state b ≡ t → ltb longest n ≡ u → call_refusal b n ≡ 0 → is_state b ≡ true
unfolding call_refusal
served_by b n true u e f z = e
served_by b n false true e f z = let y = rw (e, f) at z in let x : ⊥ = omega (arith, y) in absurd x
served_by b n false false e f z = let y = rw (e, f) at z in let x : ⊥ = omega (arith, y) in absurd x

pub call_state : (b : List ℕ) (n : ℕ) → call_refusal b n ≡ 0 → is_state b ≡ true
call_state b n z = served_by b n (is_state b) (ltb longest n) refl refl z

-- an outcome that is not 0 leaves state and memory
abbrev Leaving : State → List ℕ → Outcome → Type 0
Leaving s m o = (o.number ≡ 0 → ⊥) → o.machine ≡ record { state = s; memory = m }

-- what encode answers and leaves of a state's bytes
pub encode_bytes : (s : State) (b x : List ℕ) (k : ℕ) → is_state b ≡ true → encoded k x ≡ encoded_of s b → (k ≡ 0) × (x ≡ bytes_of s)
unfolding encoded_of
encode_bytes s b x k e h =
    let l : length b ≡ 164 = state_length b e in
    (ap (λ o. o.number) h ∙ rw l, ap (λ o. o.bytes) h ∙ rw l)

-- ---- the calls do what the machine does, refused or not

module _ (b m : List ℕ) (g : Bytes b) (e : is_state b ≡ true) where
  abbrev refusal : ℕ
  refusal = refusal_of (state_of b) (length m)

  same_refusal : call_refusal b (length m) ≡ refusal
  unfolding call_refusal
  same_refusal = rw e

  call_as : (o : Outcome) → ((refusal ≡ 0 → ⊥) → outcome refusal (state_of b) m ≡ o) → call_of b m o ≡ answered o
  unfolding call_of
  call_as o h =
      rw same_refusal (by_zero (λ r. r ≡ answered o) refusal (λ _. refl) (λ n. rw (← h n, bytes_state b g e)))

  pub step_call_law : step_call b m ≡ answered (step_of (state_of b) m)
  step_call_law = call_as (step_of (state_of b) m) (step_refused (state_of b) m refusal refl)

  pub resume_call_law : resume_call b m ≡ answered (resume_of (state_of b) m)
  resume_call_law = call_as (resume_of (state_of b) m) (resume_refused (state_of b) m refusal refl)

  pub run_call_law : (budget : ℕ) → run_call b m budget ≡ run_answered (run_of (state_of b) m budget)
  unfolding run_call
  run_call_law budget =
      rw same_refusal (by_zero (λ r. r ≡ run_answered (run_of (state_of b) m budget)) refusal (λ _. refl) (λ n. rw (← run_refused (state_of b) m budget refusal refl n, bytes_state b g e)))

-- ---- the calls, by what the code finds

module _ (b m : List ℕ) where
  call_refused : (e : Refusal) → call_refusal b (length m) ≡ number_of e → (o : Outcome) → answer (number_of e) b m ≡ call_of b m o
  unfolding call_of
  call_refused e k o = rw (k, ne_eqb (number_of e) 0 (number_some e))

  pub step_refused_call : (e : Refusal) → call_refusal b (length m) ≡ number_of e → step_says (Err e) b m ≡ step_call b m
  step_refused_call e k = call_refused e k (step_of (state_of b) m)

  pub resume_refused_call : (e : Refusal) → call_refusal b (length m) ≡ number_of e → answer (number_of e) b m ≡ resume_call b m
  resume_refused_call e k = call_refused e k (resume_of (state_of b) m)

  pub run_refused_call : (budget : ℕ) (e : Refusal) → call_refusal b (length m) ≡ number_of e → run_says (Err e) b m ≡ run_call b m budget
  unfolding run_call
  run_refused_call budget e k = rw (k, ne_eqb (number_of e) 0 (number_some e))

  module _ (g : Bytes b) (s : State) (lent : (is_state b ≡ true) × (s ≡ state_of b)) where
    -- the bytes stand for the state as it was
    same : bytes_of s ≡ b
    same = rw lent.1 (bytes_state b g lent.0)

    -- a state's bytes are always long enough
    pub encodes : {P : Type 0} (t : State) (x : List ℕ) (e : Refusal) → encoded (number_of e) x ≡ encoded_of t b → P
    encodes t x e h = absurd (number_some e (encode_bytes t b x (number_of e) lent.0 h).0)

    -- what the machine refuses leaves them
    pub step_left : (e : Refusal) (y : List ℕ) → outcome (number_of e) s y ≡ step_of s m → step_says (Err e) b y ≡ step_call b m
    step_left e y h = rw (step_call_law b m g lent.0, ← lent.1, ← h, same)

    pub resume_left : (e : Refusal) → outcome (number_of e) s m ≡ resume_of s m → answer (number_of e) b m ≡ resume_call b m
    resume_left e h = rw (resume_call_law b m g lent.0, ← lent.1, ← h, same)

    pub run_left : (e : Refusal) (y : List ℕ) (budget : ℕ) → course (number_of e) 0 None s y ≡ run_of s m budget → run_says (Err e) b y ≡ run_call b m budget
    run_left e y budget h = rw (run_call_law b m g lent.0 budget, ← lent.1, ← h, same)

    module _ (t : State) (x : List ℕ) (k : ℕ) (left : encoded k x ≡ encoded_of t b) where
      bytes : x ≡ bytes_of t
      bytes = (encode_bytes t b x k lent.0 left).1

      pub step_done_call : (o : ℕ) (u : Option Touched) (y : List ℕ) → stepped o u t y ≡ step_of s m → step_answer o (cell_of u) x y ≡ step_call b m
      step_done_call o u y h = rw (step_call_law b m g lent.0, ← lent.1, ← h, bytes)

      pub run_done_call : (o n : ℕ) (u : Option Touched) (y : List ℕ) (budget : ℕ) → course o n u t y ≡ run_of s m budget → run_answer o n (cell_of u) x y ≡ run_call b m budget
      run_done_call o n u y budget h = rw (run_call_law b m g lent.0 budget, ← lent.1, ← h, bytes)

      pub resume_done_call : outcome 0 t m ≡ resume_of s m → answer k x m ≡ resume_call b m
      resume_done_call h =
          rw (resume_call_law b m g lent.0, ← lent.1, ← h, bytes, (encode_bytes t b x k lent.0 left).0)

-- the same of a call that nothing refuses, whatever numbers its bytes are
module _ (b m : List ℕ) (s : State) (served : (call_refusal b (length m) ≡ 0) × (s ≡ state_of b)) (t : State) (x : List ℕ) (k : ℕ) (left : encoded k x ≡ encoded_of t b) where
  done_bytes : x ≡ bytes_of t
  done_bytes = (encode_bytes t b x k (call_state b (length m) served.0) left).1

  pub step_call_done : (o : ℕ) (u : Option Touched) (y : List ℕ) → stepped o u t y ≡ step_of s m → step_answer o (cell_of u) x y ≡ step_call b m
  unfolding call_of
  step_call_done o u y h = rw (served.0, ← served.1, ← h, done_bytes)

  pub run_call_done : (o n : ℕ) (u : Option Touched) (y : List ℕ) (budget : ℕ) → course o n u t y ≡ run_of s m budget → run_answer o n (cell_of u) x y ≡ run_call b m budget
  unfolding run_call
  run_call_done o n u y budget h = rw (served.0, ← served.1, ← h, done_bytes)

-- ---- an exit and a refusal leave every byte

module _ (b m : List ℕ) (g : Bytes b) where
  -- an answer that is not 0 left both as they were
  abbrev Leaves : Answer → Type 0
  Leaves r = (r.number ≡ 0 → ⊥) → (r.state ≡ b) × (r.memory ≡ m)

  left_as : (o : Outcome) → Leaving (state_of b) m o → is_state b ≡ true → Leaves (answered o)
  left_as o h e n = (ap (λ x. bytes_of x.state) (h n) ∙ bytes_state b g e, ap (λ x. x.memory) (h n))

  call_leaves : (o : Outcome) → Leaving (state_of b) m o → Leaves (call_of b m o)
  unfolding call_of
  call_leaves o h =
      by_zero Leaves (call_refusal b (length m)) (λ z. left_as o h (call_state b (length m) z)) (λ _ _. (refl, refl))

  pub step_call_leaves : ((step_call b m).number ≡ 0 → ⊥) → ((step_call b m).state ≡ b) × ((step_call b m).memory ≡ m)
  step_call_leaves = call_leaves (step_of (state_of b) m) (exit_leaves (state_of b) m)

  pub resume_call_leaves : ((resume_call b m).number ≡ 0 → ⊥) → ((resume_call b m).state ≡ b) × ((resume_call b m).memory ≡ m)
  resume_call_leaves = call_leaves (resume_of (state_of b) m) (resume_leaves (state_of b) m)

  -- and carried no access
  abbrev Bare : Answer → Type 0
  Bare r = (r.number ≡ 0 → ⊥) → r.touched ≡ cell_of None

  pub step_call_bare : ((step_call b m).number ≡ 0 → ⊥) → (step_call b m).touched ≡ cell_of None
  unfolding call_of
  step_call_bare =
      by_zero Bare (call_refusal b (length m)) (λ _ n. ap cell_of (touched_exits (state_of b) m n)) (λ _ _. refl)

  -- a refused run, which its number tells, left both as they were, completed no step and carried no access
  abbrev Unrun : RunAnswer → Type 0
  Unrun r = (r.number ≡ 0 → ⊥) → r.number < 40 → ((r.steps ≡ 0) × (r.touched ≡ cell_of None)) × ((r.state ≡ b) × (r.memory ≡ m))

  ran : Bytes m → (budget : ℕ) → call_refusal b (length m) ≡ 0 → Unrun (run_answered (run_of (state_of b) m budget))
  ran h budget z n l =
      let e : is_state b ≡ true = call_state b (length m) z in
      let k = run_numbers (state_of b) m (state_typed b g) h budget (sym (same_refusal b m g e) ∙ z) in
      ⊎_elim (λ y. absurd (n y)) (λ y. absurd (omega (arith, y.0, l))) k

  pub run_call_leaves : Bytes m → (budget : ℕ) → ((run_call b m budget).number ≡ 0 → ⊥) → (run_call b m budget).number < 40 → (((run_call b m budget).steps ≡ 0) × ((run_call b m budget).touched ≡ cell_of None)) × (((run_call b m budget).state ≡ b) × ((run_call b m budget).memory ≡ m))
  unfolding run_call
  run_call_leaves h budget =
      by_zero Unrun (call_refusal b (length m)) (ran h budget) (λ _ _ _. ((refl, refl), (refl, refl)))
