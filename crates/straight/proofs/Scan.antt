-- The words of an image in their order: what the parts of the code say, put together.
use Prim.Native.Nat.{ℕ, ◌-◌, ◌/◌}
use mathlib.Core.Path.{◌≡◌, refl, ap, ◌∙◌}
use mathlib.Core.Bool.{Bool, true, false, not, cond, ◌||◌}
use mathlib.Core.List.{List}
use native.Mathlib.Nat.{zero-add}
use native.Mathlib.Omega.{arith}
use lib.Dec.{eqb}
use Rattle.layout.specs.declared.Layout.{Layout}
use Rattle.view.specs.declared.View.{View}
use Rattle.std.specs.Prelude.{Option, Some, None}
use Rattle.view.specs.View.{passes, is_relative, is_region, is_register, is_branch, is_jump}
use Rattle.rules.specs.Rules.{view_at, view_before}
use Rattle.checker.specs.declared.verdict.Verdict.{Verdict}
use Rattle.checker.specs.Check.{Trial, trial, verdict, said, no_place, in_turn, is_word_broken, first_of}
use Rattle.checker.specs.Refusal.{All}
use Rattle.checker.specs.Scan.{word_refusal, number_of_branch, number_of_word, number_at, end_verdict, words_verdict, image_verdict, words_by}
use Rattle.checker.proofs.Trials.{of_words}
use Rattle.checker.proofs.Scan.{given, seen_ladder, Gives, turned, neither, OfWords, image_tried}
use Rattle.profile.specs.Rules.{broken20, broken21}
use Rattle.profile.proofs.Tests.{undirected}
use Rattle.straight.specs.Check.{straight_at, straight_after, is_straight_broken, straight_of}
use Rattle.straight.specs.Scan.{of_branch, of_whole}

-- a word that is no branch cannot break 20
not_branch : (l : Layout) (i : ℕ) (v : View) → is_branch v ≡ false → false ≡ broken20 l i v
not_branch l i v z =
    let g = neither (is_relative v.flow) (is_region v.flow || is_register v.flow) z in
    let j = neither (is_region v.flow) (is_register v.flow) g.1 in
    undirected l i v j.1 (ap (λ (x : Bool). x || is_region v.flow) g.0 ∙ j.0)

-- so that it may be asked of all words
asked : (l : Layout) (i : ℕ) (o : Option View) → cond (passes (broken20 l i) o) 20 0 ≡ number_of_branch of_branch l i o
asked l i None = refl
asked l i (Some v) = go (is_branch v) refl
  where
    go : (b : Bool) → is_branch v ≡ b → of_branch l i v ≡ cond b (of_branch l i v) 0
    go true e = refl
    go false e = rw (← not_branch l i v e)

-- one trial more, 20
longer : (t : ℕ → Verdict) (x : Verdict) (k : ℕ) (z b : Bool) → eqb k 0 ≡ z
    → cond z (cond b (t 20) x) (t k) ≡ given t x (cond z (cond b 20 0) k)
longer t x k true true h = refl
longer t x k true false h = refl
longer t x k false b h = rw h

module _ (l : Layout) (img : List ℕ) where
  word_first : (i : ℕ) → Gives (is_straight_broken l img) straight_at straight_after i (number_at of_branch l img i)
  unfolding is_straight_broken is_word_broken number_of_word
  word_first i ts =
      let t : ℕ → Verdict = λ k. said (trial k i) in
      let o = view_at img i in
      let b = passes is_branch (view_before img i) in
      let x = first_of (λ (u : Trial). is_straight_broken l img u.number u.word) ts in
      let k = word_refusal l img i b o in
      seen_ladder t (cond (passes (broken20 l i) o) (t 20) x) l img i b o
      ∙ longer t x k _ (passes (broken20 l i) o) refl
      ∙ ap (λ (j : ℕ). given t x (cond (eqb k 0) j k)) (asked l i o)

  ended : (n : ℕ) → first_of (λ (t : Trial). is_straight_broken l img t.number t.word) (straight_after n) ≡ end_verdict of_whole l img n
  unfolding is_straight_broken is_word_broken
  ended n = ap (cond (not (passes is_jump (view_at img (n - 2)))) (said (trial 16 (n - 2)))) (last (broken21 l img))
    where
      last : (b : Bool) → cond b (verdict 21 no_place) (verdict 0 no_place) ≡ cond (eqb (cond b 21 0) 0) (verdict 0 no_place) (verdict (cond b 21 0) no_place)
      last true = refl
      last false = refl

  pub straight_words : words_verdict of_branch of_whole l img ≡ words_by (is_straight_broken l img) straight_at straight_after (l.code_size / 4) 0
  unfolding words_verdict
  straight_words =
      turned (is_straight_broken l img) straight_at straight_after (number_at of_branch l img) _ word_first (l.code_size / 4) 0
      (rw zero-add (ended (l.code_size / 4)))

-- ---- the profile's verdict

pub all_of_words : (n i : ℕ) → All OfWords (in_turn straight_at straight_after n i)
all_of_words n i = of_words OfWords straight_at straight_after n i (λ j _ _. omega arith, omega arith)

module _ (l : Layout) (len : ℕ) (img : List ℕ) where
  pub straight_image : image_verdict of_branch of_whole l len img ≡ straight_of l len img
  unfolding straight_of
  straight_image =
      image_tried (is_straight_broken l img) straight_at straight_after l len img (all_of_words (l.code_size / 4) 0) _ _ (straight_words l img)
