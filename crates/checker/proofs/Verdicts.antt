-- What verdicts there are: their numbers, the places that go with them, and that a module that is placed is never refused by 7.
use Prim.Native.Nat.{ℕ, zero, suc, ◌≤◌, ◌<◌}
use mathlib.Core.Path.{◌≡◌, refl, sym, subst, ◌∙◌}
use mathlib.Core.Bool.{Bool, true, false, false≢true}
use mathlib.Core.List.{List}
use mathlib.Core.Logic.{◌⊎◌, inl, inr, ⊎_elim}
use lib.Dec.{eqb}
use borrow.Author.Tests.{ne_eqb, eqb-true, eqb-false}
use native.Mathlib.Nat.{zero-add}
use native.Mathlib.Omega.{arith}
use native.Mathlib.Decide.{dec_lt}
use lib.ListN.{length, drop, length-take, length-drop}
use Rattle.layout.specs.declared.Layout.{Layout}
use Rattle.layout.specs.Layout.{layout_refusal}
use Rattle.layout.proofs.Kept.{kept}
use Rattle.rules.specs.Not.{Not}
use Rattle.checker.specs.declared.verdict.Verdict.{Verdict}
use Rattle.checker.specs.Check.{Trial, trial, verdict, of_mask, said, no_place, trials_at, trials_after, in_turn, trials_by, is_word_broken, broken_by, first_of, check_of, code_of, placed_of}
use Rattle.checker.specs.Scan.{file_refusal}
use Rattle.checker.specs.Lawful.{words_in}
use Rattle.checker.specs.Refusal.{All, Told}
use Rattle.checker.proofs.Trials.{implied, of_words, first_of_law}
use Rattle.checker.proofs.Scan.{OfWords, file_refused, words_tried, sized, by_file, all_of_words}

-- a verdict is that of rules 1 to 6, that of 7, or that of the words
module _ (P : Verdict → Type 0) (word : ℕ → ℕ → Bool) (at after : ℕ → List Trial) (l : Layout) (len : ℕ) (img : List ℕ)
    (above : All OfWords (in_turn at after (words_in l) 0))
    (file : (k : ℕ) → k ≤ 6 → P (verdict k no_place))
    (image : layout_refusal l len ≡ 0 → Not (length img ≡ l.code_size) → P (verdict 7 no_place))
    (words : 16 ≤ l.code_size → All (λ t. P (said t)) (in_turn at after (words_in l) 0)) where
  by_number : (r : ℕ) → r ≡ file_refusal l len img → P (first_of (broken_by word l len img) (trials_by at after l))
  by_number zero e =
      subst P (words_tried word at after l len img e refl above refl)
      (first_of_law P _ (in_turn at after (words_in l) 0) (file 0 (omega arith)) (words (sized l len img e).least))
  by_number (suc r) e =
      subst P (file_refused word at after l len img e (λ z. omega (arith, z)))
      (subst (λ k. P (verdict k no_place)) (sym e) (by_file (λ k. P (verdict k no_place)) l len img file image))

  pub by_verdict : P (first_of (broken_by word l len img) (trials_by at after l))
  by_verdict = by_number (file_refusal l len img) refl

-- ---- numbers and places

module _ (l : Layout) where
  -- the first sixteen rules are not of a guard's mask
  not_of_mask : (k : ℕ) → k ≤ 16 → of_mask k ≡ false
  not_of_mask k h = rw (ne_eqb k 22 (λ e. omega (arith, h, e)), ne_eqb k 25 (λ e. omega (arith, h, e))) refl

  pub file_told : (k : ℕ) → k < 8 → Told l (verdict k no_place)
  file_told k h = record { number_is = inl (omega arith); no_word = λ _. refl; a_word = λ p. absurd (omega (arith, h, p)); a_mask = λ e. absurd (false≢true (sym (not_of_mask k (omega (arith, h))) ∙ e)) }

  -- 22 and 25 name the ANDI
  andi_told : (k i : ℕ) → (k ≡ 22) ⊎ (k ≡ 25) → 16 ≤ l.code_size → i < words_in l → Told l (said (trial k i))
  andi_told k i c h p = ⊎_elim (λ e. rw e (told 22 (inl refl) refl (omega arith))) (λ e. rw e (told 25 (inr refl) refl (omega arith))) c
    where
      told : (n : ℕ) → (n ≡ 22) ⊎ (n ≡ 25) → of_mask n ≡ true → 8 ≤ n → Told l (said (trial n i))
      told n c e g =
          rw e
          (record { number_is = inr c; no_word = λ r. absurd (omega (arith, r, g)); a_word = λ _. omega (arith, p); a_mask = λ _. omega (arith, h, p) })

  -- all others name the word itself
  word_told : (k i : ℕ) → 8 ≤ k → k ≤ 16 → i < words_in l → Told l (said (trial k i))
  word_told k i p q h =
      rw (not_of_mask k q)
      (record { number_is = inl q; no_word = λ r. absurd (omega (arith, p, r)); a_word = λ _. h; a_mask = λ e. absurd (false≢true (sym (not_of_mask k q) ∙ e)) })

  either : (k : ℕ) → (Not (k ≡ 22) → k ≡ 25) → (k ≡ 22) ⊎ (k ≡ 25)
  either k f = go (eqb k 22) refl
    where
      go : (b : Bool) → eqb k 22 ≡ b → (k ≡ 22) ⊎ (k ≡ 25)
      go true e = inl (eqb-true k 22 e)
      go false e = inr (f (eqb-false k 22 e))

  abbrev ToldBy : Trial → Type 0
  ToldBy t = Told l (said t)

  pub at_told : (i : ℕ) → 16 ≤ l.code_size → i < words_in l → All ToldBy (trials_at i)
  at_told i h p =
      implied (λ t. (8 ≤ t.number) × ((16 < t.number → Not (t.number ≡ 22) → t.number ≡ 25) × (t.word ≡ i))) ToldBy
      (λ t f. elim (dec_lt 16 t.number) [
        | yes g ↦ andi_told t.number t.word (either t.number (f.1.0 g)) h (omega (arith, p, f.1.1))
        | no g ↦ word_told t.number t.word f.0 (omega (arith, g)) (omega (arith, p, f.1.1))
      ])
      (trials_at i) (omega arith)

  pub after_told : 16 ≤ l.code_size → All ToldBy (trials_after (words_in l))
  after_told h = (word_told 16 _ (omega arith) (omega arith) (omega (arith, h)), tt)

  words_told : 16 ≤ l.code_size → All ToldBy (in_turn trials_at trials_after (words_in l) 0)
  words_told h =
      of_words ToldBy trials_at trials_after (words_in l) 0 (λ j _ q. at_told j h (omega (arith, q)), rw zero-add (after_told h))

  pub verdict_told : (len : ℕ) (img : List ℕ) → Told l (check_of l len img)
  unfolding check_of
  verdict_told len img =
      by_verdict (Told l) (is_word_broken l img) trials_at trials_after l len img (all_of_words (words_in l) 0)
      (λ k h. file_told k (omega (arith, h))) (λ _ _. file_told 7 (omega arith)) words_told

-- ---- a module that is placed

module _ (l : Layout) (mem : List ℕ) where
  code_length : layout_refusal l (length mem) ≡ 0 → length (code_of l mem) ≡ l.code_size
  unfolding code_of
  code_length z =
      let k = kept l (length mem) z in
      length-take l.code_size (drop l.code_base mem) ∙ omega (arith, k.inside, length-drop l.code_base mem)

  pub placed_never_7 : Not ((placed_of l mem).number ≡ 7)
  unfolding check_of
  placed_never_7 =
      by_verdict (λ v. Not (v.number ≡ 7)) (is_word_broken l (code_of l mem)) trials_at trials_after l (length mem) (code_of l mem) (all_of_words (words_in l) 0)
      (λ k h e. omega (arith, h, e))
      (λ z h. absurd (h (code_length z)))
      (λ _. of_words (λ t. Not (t.number ≡ 7)) trials_at trials_after (words_in l) 0 (λ j p q. omega arith, omega arith))
