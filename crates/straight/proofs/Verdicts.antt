-- What verdicts of the profile there are: their numbers, and the places that go with them.
use Prim.Native.Nat.{ℕ, ◌≤◌, ◌<◌}
use mathlib.Core.Path.{◌≡◌, refl}
use mathlib.Core.Bool.{false≢true}
use mathlib.Core.Logic.{inl, inr, ⊎_elim}
use mathlib.Core.List.{List, [], ◌∷◌}
use native.Mathlib.Nat.{zero-add}
use native.Mathlib.Omega.{arith}
use Rattle.layout.specs.declared.Layout.{Layout}
use Rattle.checker.specs.declared.verdict.Verdict.{Verdict}
use Rattle.rules.specs.Not.{Not}
use Rattle.checker.specs.Check.{Trial, trial, verdict, said, no_place, trials_at, trials_after, in_turn}
use Rattle.checker.specs.Lawful.{words_in}
use Rattle.checker.specs.Refusal.{All, Told}
use Rattle.checker.proofs.Trials.{join, implied, of_words}
use Rattle.checker.proofs.Verdicts.{by_verdict, file_told, at_told, after_told}
use Rattle.straight.specs.Check.{straight_at, straight_after, is_straight_broken, straight_of}
use Rattle.straight.specs.Refusal.{StraightTold}
use Rattle.straight.proofs.Scan.{all_of_words}

module _ (l : Layout) where
  -- what the checker's verdicts tell, the profile's tell
  widened : (t : Verdict) → Told l t → StraightTold l t
  widened t h =
      record {
        number_is = ⊎_elim (λ p. inl p) (λ p. inr (inr (inr p))) h.number_is;
        no_word = λ p. h.no_word (⊎_elim (λ q. q) (λ q. absurd (not_21 q)) p);
        a_word = λ p _. h.a_word p;
        a_mask = h.a_mask;
      }
    where
      not_21 : Not (t.number ≡ 21)
      not_21 q = ⊎_elim (λ p. omega (arith, p, q)) (λ p. ⊎_elim (λ r. omega (arith, r, q)) (λ r. omega (arith, r, q)) p) h.number_is

  told_20 : (i : ℕ) → i < words_in l → StraightTold l (said (trial 20 i))
  told_20 i h =
      record {
        number_is = inr (inl refl);
        no_word = λ p. ⊎_elim (λ q. absurd (omega (arith, q))) (λ q. absurd (omega (arith, q))) p;
        a_word = λ _ _. h;
        a_mask = λ e. absurd (false≢true e);
      }

  told_21 : StraightTold l (said (trial 21 no_place))
  told_21 =
      record {
        number_is = inr (inr (inl refl));
        no_word = λ _. refl;
        a_word = λ _ n. absurd (n refl);
        a_mask = λ e. absurd (false≢true e);
      }

  abbrev ToldBy : Trial → Type 0
  ToldBy t = StraightTold l (said t)

  -- the checker's trials are told as the profile tells
  wider : (s : List Trial) → All (λ t. Told l (said t)) s → All ToldBy s
  wider = implied (λ t. Told l (said t)) ToldBy (λ t. widened (said t))

  words_told : 16 ≤ l.code_size → All ToldBy (in_turn straight_at straight_after (words_in l) 0)
  words_told h =
      of_words ToldBy straight_at straight_after (words_in l) 0 (
        λ j _ q. join ToldBy (trials_at j) (trial 20 j ∷ []) (wider (trials_at j) (at_told l j h (omega (arith, q)))) (told_20 j (omega (arith, q)), tt),
        rw zero-add
            (join ToldBy (trials_after (words_in l)) (trial 21 no_place ∷ []) (wider (trials_after (words_in l)) (after_told l h)) (told_21, tt)),
      )

  pub straight_told : (len : ℕ) (img : List ℕ) → StraightTold l (straight_of l len img)
  unfolding straight_of
  straight_told len img =
      by_verdict (StraightTold l) (is_straight_broken l img) straight_at straight_after l len img (all_of_words (words_in l) 0)
      (λ k h. widened (verdict k no_place) (file_told l k (omega (arith, h)))) (λ _ _. widened (verdict 7 no_place) (file_told l 7 (omega arith))) words_told
