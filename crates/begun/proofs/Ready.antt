-- What the start call leaves where it answers 0 is demand 3's start, and a start is given back: of states by value, and of states as bytes.
use Prim.Native.Nat.{ℕ, ◌+◌, ◌≤◌}
use mathlib.Core.Path.{◌≡◌, refl, sym, ap, subst, ◌∙◌}
use mathlib.Core.List.{List}
use mathlib.Core.Logic.{◌⊎◌, ⊎_elim}
use native.Mathlib.Omega.{arith}
use lib.ListN.{length}
use Rattle.word.specs.Bytes.{longest}
use Rattle.layout.specs.declared.Layout.{Layout}
use Rattle.machine.specs.declared.state.State.{State}
use Rattle.machine.specs.State.{join_of, refusal_of, Typed, Bytes}
use Rattle.machine.proofs.Steps.{not_refused, refused_alike}
use Rattle.codec.specs.Bytes.{state_of, bytes_of}
use Rattle.codec.proofs.RoundTrip.{state_typed}
use Rattle.cc100.specs.Calls.{call_refusal}
use Rattle.rules.specs.Not.{Not}
use Rattle.checker.specs.Check.{accepted, check_of}
use Rattle.checker.proofs.Whole.{accepted_lawful}
use Rattle.start.specs.Start.{user_of, started_of, placing_refusal, later_refusal, after_check, start_of, start_call}
use Rattle.start.proofs.Kept.{register_0_zero, ready_lawful, ready_typed, handed_back, unrefused}
use Rattle.start.proofs.Starts.{user_is, user_same, state_zero, after_zero, after_accepted, placing_zero, placing_ready}
use Rattle.start.proofs.Told.{own_numbers, call_numbers}
use Rattle.confinement.specs.Calls.{Lent, lent, methods, exported}
use Rattle.confinement.specs.Demand.{Start}
use Rattle.confinement.proofs.Areas.{Code, base_aligned}
use Rattle.confinement.proofs.Exported.{viewed, start_viewed, start_bytes, start_encoded}
use Rattle.begun.specs.Begun.{BegunStarts, StartsGivenBack}

-- ---- the state that is made ready

module _ (l : Layout) (img : List ℕ) (s : State) (m : List ℕ) (t : Typed s) (b : Bytes m) where
  -- after the checker, the state and the placing: a start
  pub ready : check_of l (length m) img ≡ accepted → refusal_of s (length m) ≡ 0 → placing_refusal l img s m ≡ 0 → Start methods l (length m) img (lent (started_of l s) m)
  ready a own z =
      let ok = accepted_lawful l (length m) img a in
      let e = not_refused s (length m) own in
      let p = placing_zero l img m s z in
      let unrefused = refused_alike s (started_of l s) (length m) own (ready_lawful l s e (base_aligned l (length m) img ok Code)) in
      record {
        placed = p.code;
        length_told = refl;
        not_17 = λ q. omega (arith, unrefused, q);
        first_word = refl;
        then_next = refl;
        user_mode = user_is s.special.status;
        register_0 = register_0_zero s e;
        register_26 = p.based.0;
        register_27 = p.based.1;
        sized = ready_typed l s t e (omega (arith, ok.r1, ok.r4.1, ok.r2.1.0));
        bytes = b;
      }

-- ---- what is left is a start

pub starts_methods : BegunStarts methods start_of
unfolding start_of
starts_methods l img w b =
    let own = refusal_of w.state (length w.memory) in
    let n = later_refusal own l img w.state w.memory in
    let (a, z) = after_zero l img w.memory n b.done in
    let (e, placed) = state_zero l img w.state w.memory own z in
    let p = ready l img w.state w.memory b.sized b.bytes a e placed in
    let t = handed_back (after_check l img w.memory n) w.state (started_of l w.state) b.done in
    (a, subst (λ x. Start methods l (length w.memory) img (lent x w.memory)) (sym t) p)

pub starts_exported : BegunStarts exported start_call
unfolding start_call
starts_exported l img w b =
    let s = state_of w.state in
    let own = call_refusal w.state (length w.memory) in
    let n = later_refusal own l img s w.memory in
    let (a, z) = after_zero l img w.memory n b.done in
    let (e, placed) = state_zero l img s w.memory own z in
    let p = ready l img s w.memory (state_typed w.state b.sized) b.bytes a (unrefused w.state (length w.memory) e) placed in
    let t = handed_back (after_check l img w.memory n) w.state (bytes_of (started_of l s)) b.done in
    (a, subst (λ x. Start exported l (length w.memory) img (lent x w.memory)) (sym t) (start_encoded l (length w.memory) img (lent (started_of l s) w.memory) p))

-- ---- a start is given back

unchanged : (s : State) (p q u : ℕ) → p ≡ s.special.pc → q ≡ s.special.next_pc → u ≡ s.special.status
    → join_of s.registers
    (record {
      hi = s.special.hi;
      lo = s.special.lo;
      pc = p;
      next_pc = q;
      ll = s.special.ll;
      bad = s.special.bad;
      status = u;
      cause = s.special.cause;
      epc = s.special.epc;
    })
    ≡ s
unchanged s p q u e f g = rw (e, f, g) refl

-- a state's own refusal is 0 where it is not 17
not_17 : {k : ℕ} → Not (k ≡ 17) → (k ≡ 0) ⊎ (k ≡ 17) → k ≡ 0
not_17 n o = ⊎_elim (λ e. e) (λ e. absurd (n e)) o

module _ (l : Layout) (len : ℕ) (img : List ℕ) (a : check_of l len img ≡ accepted) where
  long : (m : List ℕ) → length m ≡ len → length m ≤ longest
  long m e = omega (arith, (accepted_lawful l len img a).r1, e)

  module _ (w : Lent State) (p : Start methods l len img w) where
    same_state : started_of l w.state ≡ w.state
    same_state =
        unchanged w.state l.code_base (l.code_base + 4) (user_of w.state.special.status)
        (sym p.first_word) (sym p.then_next) (user_same w.state.special.status p.user_mode)

    placing : placing_refusal l img w.state w.memory ≡ 0
    placing = placing_ready l img w.memory w.state (record { code = p.placed; based = (p.register_26, p.register_27) })

    checked : check_of l (length w.memory) img ≡ accepted
    checked = ap (λ n. check_of l n img) p.length_told ∙ a

    -- nothing is refused where the state's own refusal is 0
    said : (own : ℕ) → own ≡ 0 → after_check l img w.memory (later_refusal own l img w.state w.memory) ≡ accepted
    unfolding later_refusal
    said own e = rw e (ap (λ k. after_check l img w.memory k) placing ∙ after_accepted l img w.memory 0 checked)

pub given_back_methods : StartsGivenBack methods start_of
unfolding start_of
given_back_methods l len img a w p =
    let own = refusal_of w.state (length w.memory) in
    let e : own ≡ 0 = not_17 (λ q. p.not_17 (ap (refusal_of w.state) (sym p.length_told) ∙ q)) (own_numbers w.state (length w.memory) (long l len img a w.memory p.length_told)) in
    rw (said l len img a w p own e, same_state l len img a w p) refl

pub given_back_exported : StartsGivenBack exported start_call
unfolding start_call
given_back_exported l len img a w p =
    let h : len ≤ longest = (accepted_lawful l len img a).r1 in
    let v = viewed w in
    let q = start_viewed l len img h w p in
    let own = call_refusal w.state (length w.memory) in
    let e : own ≡ 0 = not_17 (λ z. p.not_17 (ap (call_refusal w.state) (sym p.length_told) ∙ z)) (call_numbers w.state (length w.memory) (long l len img a w.memory p.length_told)) in
    let b : bytes_of v.state ≡ w.state = ap (λ x. x.state) (start_bytes l len img h w p) in
    rw (said l len img a v q own e, same_state l len img a v q, b) refl
