-- What each answer of the start call tells, of a state by value and of one as bytes.
use Prim.Native.Nat.{ℕ, ◌≤◌}
use mathlib.Core.Path.{◌≡◌, refl, sym, ap, ◌∙◌}
use mathlib.Core.Bool.{Bool, true, false, cond, not, true≢false}
use mathlib.Core.List.{List}
use mathlib.Core.Logic.{◌⊎◌, inl, inr, ⊎_elim}
use native.Mathlib.Omega.{arith}
use lib.ListN.{length}
use borrow.Author.Tests.{le-ltb}
use Rattle.std.specs.Str.{bytes_eq}
use Rattle.std.proofs.lemmas.Slice.Eq.{bytes_eq-Decides}
use Rattle.word.specs.Bytes.{longest}
use Rattle.word.proofs.Choice.{by_test, by_zero}
use Rattle.layout.specs.declared.Layout.{Layout}
use Rattle.machine.specs.declared.state.State.{State}
use Rattle.machine.specs.State.{is_lawful, refusal_of}
use Rattle.codec.specs.Bytes.{is_state, state_of}
use Rattle.cc100.specs.Calls.{call_refusal}
use Rattle.rules.specs.Not.{Not}
use Rattle.checker.specs.declared.verdict.Verdict.{Verdict}
use Rattle.checker.specs.Check.{verdict, no_place, accepted, check_of, code_of}
use Rattle.checker.proofs.Verdicts.{verdict_told}
use Rattle.checker.proofs.Whole.{accepted_lawful, number_accepted}
use Rattle.start.specs.Start.{is_based, placing_refusal, later_refusal, after_check, start_of, start_call}
use Rattle.start.proofs.Starts.{based_is, is_then_based}
use Rattle.start.specs.Told.{Based, Told}

module _ (l : Layout) (img : List ℕ) (s : State) (m : List ℕ) where
  -- by what is tried after the state
  by_placing : (P : ℕ → Type 0) → (Not (code_of l m ≡ img) → P 26) → (code_of l m ≡ img → Not (Based l s) → P 27) → (code_of l m ≡ img → Based l s → P 0)
      → P (placing_refusal l img s m)
  unfolding placing_refusal
  by_placing P f g z = go (bytes_eq (code_of l m) img) refl (is_based l s) refl
    where
      decides : (bytes_eq (code_of l m) img ≡ true → code_of l m ≡ img) × (code_of l m ≡ img → bytes_eq (code_of l m) img ≡ true)
      decides = bytes_eq-Decides (code_of l m) img

      go : (t : Bool) → bytes_eq (code_of l m) img ≡ t → (u : Bool) → is_based l s ≡ u → P (cond (not t) 26 (cond (not u) 27 0))
      go true p true q = z (decides.0 p) (is_then_based l s q)
      go true p false q = g (decides.0 p) (λ b. absurd (true≢false (sym (based_is l s b) ∙ q)))
      go false p u q = f (λ e. absurd (true≢false (sym (decides.1 e) ∙ p)))

  module _ (own : ℕ) where
    abbrev checked : Verdict
    checked = check_of l (length m) img

    -- by all that is tried
    by_answer : (P : Verdict → Type 0)
        → (Not (checked ≡ accepted) → P checked)
        → (checked ≡ accepted → Not (own ≡ 0) → P (verdict own no_place))
        → (checked ≡ accepted → own ≡ 0 → P (verdict (placing_refusal l img s m) no_place))
        → P (after_check l img m (later_refusal own l img s m))
    unfolding later_refusal
    by_answer P f g h =
        by_zero P checked.number
        (λ e. let a = number_accepted l (length m) img e in by_zero (λ k. P (verdict k no_place)) own (h a) (g a))
        (λ n. f (λ a. n (ap (λ v. v.number) a)))

    abbrev Tells : Verdict → Type 0
    Tells v = Told own l img s m v

    refused : Not (checked ≡ accepted) → Tells checked
    refused n =
        let t = verdict_told l (length m) img in
        record {
          on_refusal = λ _. refl;
          number_is = λ a. absurd (n a);
          no_word = λ a. absurd (n a);
          on_17 = λ e. absurd (omega (arith, e, t.number_is));
          on_26 = λ e. absurd (omega (arith, e, t.number_is));
          on_27 = λ e. absurd (omega (arith, e, t.number_is));
          on_0 = λ e. absurd (n (number_accepted l (length m) img e));
        }

    module _ (a : checked ≡ accepted) where
      -- of number k, one of the four, from what each tells
      after : (k : ℕ) → (k ≡ 0) ⊎ ((k ≡ 17) ⊎ ((k ≡ 26) ⊎ (k ≡ 27)))
          → (k ≡ 17 → own ≡ 17)
          → (k ≡ 26 → (own ≡ 0) × Not (code_of l m ≡ img))
          → (k ≡ 27 → (own ≡ 0) × ((code_of l m ≡ img) × Not (Based l s)))
          → (k ≡ 0 → (own ≡ 0) × ((code_of l m ≡ img) × Based l s))
          → Tells (verdict k no_place)
      after k n f g h d =
          record {
            on_refusal = λ c. absurd (c a);
            number_is = λ _. n;
            no_word = λ _. refl;
            on_17 = λ e. (a, f e);
            on_26 = λ e. (a, g e);
            on_27 = λ e. (a, h e);
            on_0 = λ e. (a, d e);
          }

      by_state : Not (own ≡ 0) → own ≡ 17 → Tells (verdict own no_place)
      by_state n e =
          after own (inr (inl e)) (λ _. e) (λ z. absurd (omega (arith, e, z))) (λ z. absurd (omega (arith, e, z))) (λ z. absurd (n z))

      placed : own ≡ 0 → Tells (verdict (placing_refusal l img s m) no_place)
      placed z =
          by_placing (λ k. Tells (verdict k no_place))
          (λ n. after 26 (inr (inr (inl refl))) (λ e. absurd (omega (arith, e))) (λ _. (z, n)) (λ e. absurd (omega (arith, e))) (λ e. absurd (omega (arith, e))))
          (λ p n. after 27 (inr (inr (inr refl))) (λ e. absurd (omega (arith, e))) (λ e. absurd (omega (arith, e))) (λ _. (z, (p, n))) (λ e. absurd (omega (arith, e))))
          (λ p b. after 0 (inl refl) (λ e. absurd (omega (arith, e))) (λ e. absurd (omega (arith, e))) (λ e. absurd (omega (arith, e))) (λ _. (z, (p, b))))

    told : (checked ≡ accepted → (own ≡ 0) ⊎ (own ≡ 17)) → Tells (after_check l img m (later_refusal own l img s m))
    told o =
        by_answer Tells refused (λ a n. by_state a n (⊎_elim (λ z. absurd (n z)) (λ e. e) (o a))) (λ a z. placed a z)

-- 1 was the checker's
pub own_numbers : (s : State) (n : ℕ) → n ≤ longest → (refusal_of s n ≡ 0) ⊎ (refusal_of s n ≡ 17)
unfolding refusal_of
own_numbers s n h = rw (le-ltb longest n h) (by_test (λ k. (k ≡ 0) ⊎ (k ≡ 17)) (is_lawful s) (λ _. inl refl) (λ _. inr refl))

pub call_numbers : (b : List ℕ) (n : ℕ) → n ≤ longest → (call_refusal b n ≡ 0) ⊎ (call_refusal b n ≡ 17)
unfolding call_refusal
call_numbers b n h =
    by_test (λ k. (k ≡ 0) ⊎ (k ≡ 17)) (is_state b) (λ _. own_numbers (state_of b) n h) (λ _. rw (le-ltb longest n h) (inr refl))

pub start_told : (l : Layout) (img : List ℕ) (s : State) (m : List ℕ) → Told (refusal_of s (length m)) l img s m (start_of l img s m).verdict
unfolding start_of
start_told l img s m =
    told l img s m (refusal_of s (length m)) (λ a. own_numbers s (length m) (accepted_lawful l (length m) img a).r1)

pub call_told : (l : Layout) (img b m : List ℕ) → Told (call_refusal b (length m)) l img (state_of b) m (start_call l img b m).verdict
unfolding start_call
call_told l img b m =
    told l img (state_of b) m (call_refusal b (length m)) (λ a. call_numbers b (length m) (accepted_lawful l (length m) img a).r1)
