-- What the bytes of a state that is started keep, and what of the memory a start looks at.
use Prim.Native.Nat.{ℕ, zero, suc, ◌+◌, ◌-◌, ◌%◌, ◌^◌, ◌<◌}
use mathlib.Core.Path.{◌≡◌, refl, sym, ap, subst, ◌∙◌}
use mathlib.Core.Bool.{Bool, true, false}
use mathlib.Core.List.{List}
use native.Mathlib.Omega.{arith}
use lib.Dec.{eqb, ltb}
use lib.ListN.{length, get_or, get_or-append}
use lib.Seq.{get_or-append-add}
use borrow.Author.Tests.{eqb-true, ltb-true, ltb-false, lt-ltb}
use Rattle.word.proofs.Choice.{both}
use Rattle.effect.specs.declared.effect.Special.{Special}
use Rattle.layout.specs.declared.Layout.{Layout}
use Rattle.machine.specs.declared.state.State.{State}
use Rattle.machine.specs.State.{register_of, is_lawful, refusal_of, special_of, Words, Typed, Bytes}
use Rattle.machine.proofs.Steps.{not_refused}
use Rattle.codec.specs.Bytes.{bit_of, others_of, words_of, bytes_of, word_at, state_of}
use Rattle.codec.proofs.Words.{append_every, word_flat}
use Rattle.codec.proofs.RoundTrip.{bytes_length, state_typed, bytes_state}
use Rattle.cc100.specs.Calls.{call_refusal}
use Rattle.cc100.proofs.Calls.{call_state}
use Rattle.rules.specs.Not.{Not}
use Rattle.checker.specs.declared.verdict.Verdict.{Verdict}
use Rattle.checker.specs.Check.{code_of}
use Rattle.checker.proofs.Whole.{accepted_lawful}
use Rattle.start.specs.Start.{user_of, started_of, placing_refusal, later_refusal, after_check, start_answer, start_of, start_call}
use Rattle.start.specs.Told.{Kept}
use Rattle.start.proofs.Starts.{user_below, state_zero, after_zero}

-- ---- the state that is made ready

pub register_0_zero : (s : State) → is_lawful s ≡ true → register_of s.registers 0 ≡ 0
unfolding is_lawful
register_0_zero s e = eqb-true _ 0 (both (eqb (register_of s.registers 0) 0) _ e).0

-- what 17 asks of it
pub ready_lawful : (l : Layout) (s : State) → is_lawful s ≡ true → l.code_base % 4 ≡ 0 → is_lawful (started_of l s) ≡ true
unfolding is_lawful
ready_lawful l s e a =
    let (z, e₁) = both (eqb (register_of s.registers 0) 0) _ e in
    let (_, e₂) = both (eqb (s.special.pc % 4) 0) _ e₁ in
    let (_, e₃) = both (eqb (s.special.next_pc % 4) 0) _ e₂ in
    let next : (l.code_base + 4) % 4 ≡ 0 = omega (arith, a) in
    rw (z, a, next, lt-ltb (user_of s.special.status) (2 ^ 13) (user_below s.special.status (ltb-true _ _ e₃)))

pub ready_typed : (l : Layout) (s : State) → Typed s → is_lawful s ≡ true → l.code_base + 4 < 2 ^ 32 → Typed (started_of l s)
unfolding is_lawful
ready_typed l s t e h =
    let (_, e₁) = both (eqb (register_of s.registers 0) 0) _ e in
    let (_, e₂) = both (eqb (s.special.pc % 4) 0) _ e₁ in
    let (_, e₃) = both (eqb (s.special.next_pc % 4) 0) _ e₂ in
    record {
      count = t.count;
      registers = t.registers;
      special =
          record {
            hi = t.special.hi;
            lo = t.special.lo;
            pc = omega (arith, h);
            next_pc = h;
            bad = t.special.bad;
            status = omega (arith, user_below s.special.status (ltb-true _ _ e₃));
            cause = t.special.cause;
            epc = t.special.epc;
          };
    }

-- ---- what is handed back

-- a number 0 hands the new state back
pub handed_back : {S : Type 0} (v : Verdict) (old new : S) → (start_answer v old new).verdict.number ≡ 0 → (start_answer v old new).state ≡ new
handed_back v old new e = rw e refl

pub unrefused : (x : List ℕ) (n : ℕ) → call_refusal x n ≡ 0 → refusal_of (state_of x) n ≡ 0
unfolding call_refusal
unrefused x n e = let y = rw (call_state x n e) at e in y

-- ---- its words

others_fit : (c : Special) → Words c → (j : ℕ) → get_or (others_of c) j 0 < 2 ^ 32
others_fit c w zero = w.hi
others_fit c w (suc zero) = w.lo
others_fit c w (suc (suc zero)) = w.pc
others_fit c w (suc (suc (suc zero))) = w.next_pc
others_fit c w (suc (suc (suc (suc zero)))) = bit_fits c.ll
  where
    bit_fits : (t : Bool) → bit_of t < 2 ^ 32
    bit_fits true = omega arith
    bit_fits false = omega arith
others_fit c w (suc (suc (suc (suc (suc zero))))) = w.bad
others_fit c w (suc (suc (suc (suc (suc (suc zero)))))) = w.status
others_fit c w (suc (suc (suc (suc (suc (suc (suc zero))))))) = w.cause
others_fit c w (suc (suc (suc (suc (suc (suc (suc (suc zero)))))))) = w.epc
others_fit c w (suc (suc (suc (suc (suc (suc (suc (suc (suc j))))))))) = omega arith

module _ (s : State) (t : Typed s) where
  fits : (k : ℕ) → get_or (words_of s) k 0 < 2 ^ 32
  unfolding words_of
  fits = append_every (λ x. x < 2 ^ 32) s.registers (others_of s.special) t.registers (others_fit s.special t.special)

  word_is : (k : ℕ) → word_at (bytes_of s) k ≡ get_or (words_of s) k 0
  unfolding bytes_of
  word_is k = word_flat (words_of s) k (fits k)

  other_is : (j : ℕ) → get_or (words_of s) (32 + j) 0 ≡ get_or (others_of s.special) j 0
  unfolding words_of
  other_is j = rw (← t.count) (get_or-append-add s.registers (others_of s.special) j 0)

  register_is : (k : ℕ) → k < 32 → get_or (words_of s) k 0 ≡ get_or s.registers k 0
  unfolding words_of
  register_is k h = get_or-append s.registers (others_of s.special) 0 k (omega (arith, t.count, h))

module _ (l : Layout) (s : State) (t : Typed s) (u : Typed (started_of l s)) where
  abbrev Same : ℕ → Type 0
  Same k = get_or (words_of (started_of l s)) k 0 ≡ get_or (words_of s) k 0

  other_same : (j : ℕ) → Not (j ≡ 2) → Not (j ≡ 3) → Not (j ≡ 6) → get_or (others_of (special_of (started_of l s))) j 0 ≡ get_or (others_of s.special) j 0
  other_same zero a b c = refl
  other_same (suc zero) a b c = refl
  other_same (suc (suc zero)) a b c = absurd (a refl)
  other_same (suc (suc (suc zero))) a b c = absurd (b refl)
  other_same (suc (suc (suc (suc zero)))) a b c = refl
  other_same (suc (suc (suc (suc (suc zero))))) a b c = refl
  other_same (suc (suc (suc (suc (suc (suc zero)))))) a b c = absurd (c refl)
  other_same (suc (suc (suc (suc (suc (suc (suc j))))))) a b c = refl

  word_same : (k : ℕ) → Not (k ≡ 34) → Not (k ≡ 35) → Not (k ≡ 38) → Same k
  word_same k a b c = go (ltb k 32) refl
    where
      go : (x : Bool) → ltb k 32 ≡ x → Same k
      go true e =
          let h = ltb-true k 32 e in
          register_is (started_of l s) u k h ∙ sym (register_is s t k h)
      go false e =
          let h = ltb-false k 32 e in
          let z : k ≡ 32 + (k - 32) = omega (arith, h) in
          subst Same (sym z)
          (other_is (started_of l s) u (k - 32)
          ∙ other_same (k - 32) (λ q. a (omega (arith, q, h))) (λ q. b (omega (arith, q, h))) (λ q. c (omega (arith, q, h)))
          ∙ sym (other_is s t (k - 32)))

  kept : (b : List ℕ) → bytes_of s ≡ b → s.special.status ≡ word_at b 38 → Kept l b (bytes_of (started_of l s))
  kept b e q =
      let n = started_of l s in
      record {
        long = bytes_length n u.count;
        pc = word_is n u 34 ∙ other_is n u 2;
        next_pc = word_is n u 35 ∙ other_is n u 3;
        status = word_is n u 38 ∙ other_is n u 6 ∙ ap user_of q;
        others = λ k _ x y z. word_is n u k ∙ word_same k x y z ∙ sym (word_is s t k) ∙ ap (λ c. word_at c k) e;
      }

-- ---- the two statements

pub start_kept : (l : Layout) (img b m : List ℕ) → Bytes b → (start_call l img b m).verdict.number ≡ 0 → Kept l b (start_call l img b m).state
unfolding start_call state_of
start_kept l img b m g e =
    let s = state_of b in
    let own = call_refusal b (length m) in
    let n = later_refusal own l img s m in
    let (a, z) = after_zero l img m n e in
    let o : own ≡ 0 = (state_zero l img s m own z).0 in
    let ok = accepted_lawful l (length m) img a in
    let h : l.code_base + 4 < 2 ^ 32 = omega (arith, ok.r1, ok.r4.1, ok.r2.1.0) in
    let t : Typed s = state_typed b g in
    let u : Typed (started_of l s) = ready_typed l s t (not_refused s (length m) (unrefused b (length m) o)) h in
    subst (Kept l b) (sym (handed_back (after_check l img m n) b (bytes_of (started_of l s)) e))
    (kept l s t u b (bytes_state b g (call_state b (length m) o)) refl)

-- of the memory a start looks at the length and the code area alone
module _ (l : Layout) (img m n : List ℕ) (e : length m ≡ length n) (c : code_of l m ≡ code_of l n) where
  pub start_looks : (s : State) → start_of l img s m ≡ start_of l img s n
  unfolding start_of later_refusal placing_refusal
  start_looks s = rw (e, c) refl

  pub call_looks : (b : List ℕ) → start_call l img b m ≡ start_call l img b n
  unfolding start_call later_refusal placing_refusal
  call_looks b = rw (e, c) refl
