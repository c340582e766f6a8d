-- The profile accepts exactly the lawful modules that are straight-through, and refuses any other by the first broken rule and its place.
use Prim.Native.Nat.{ℕ, ◌+◌, ◌<◌}
use mathlib.Core.Path.{◌≡◌, ap, ◌∙◌}
use mathlib.Core.List.{List, [], ◌∷◌}
use native.Mathlib.Omega.{arith}
use Rattle.layout.specs.declared.Layout.{Layout}
use Rattle.rules.specs.Not.{Not}
use Rattle.checker.specs.declared.verdict.Verdict.{Verdict}
use Rattle.checker.specs.Check.{Trial, trial, said, no_place, accepted, file_trials, trials_at, trials_after, in_turn, trials_of, broken_by, first_of, check_of}
use Rattle.checker.specs.Lawful.{words_in, Lawful}
use Rattle.checker.specs.Refusal.{Keeps, All, Unguarded, Misfit, Holed}
use Rattle.checker.proofs.Trials.{join, halves, of_words, to_words, at_after, all_after}
use Rattle.checker.proofs.Whole.{Numbered, Found, kept_accepted, accepted_kept, refused_at, first_found, zero_accepted, kept_lawful, lawful_kept, lawful_accepted}
use Rattle.checker.proofs.Guarded.{told_12, told_22, told_25}
use Rattle.straight.specs.Straight.{Straight}
use Rattle.straight.specs.Check.{straight_at, straight_after, straight_trials, is_straight_broken, straight_of}
use Rattle.straight.specs.Refusal.{StraightKeeps, StraightRefusal}
use Rattle.straight.proofs.Reflection.{straight_tests}

numbered : (l : Layout) → All Numbered (straight_trials l)
numbered l =
    join Numbered file_trials (in_turn straight_at straight_after (words_in l) 0) (omega arith)
    (of_words Numbered straight_at straight_after (words_in l) 0 (λ j p q. omega arith, omega arith))

module _ (l : Layout) (len : ℕ) (img : List ℕ) where
  abbrev Kept : Trial → Type 0
  Kept = StraightKeeps l len img

  -- the trials of document 01, and what the profile adds
  parted : All Kept (straight_trials l) → All (Keeps l len img) (trials_of l) × Straight l img
  parted h =
      let s = halves Kept file_trials (in_turn straight_at straight_after (words_in l) 0) h in
      let w = to_words Kept straight_at straight_after (words_in l) 0 s.1 in
      let at : (i : ℕ) → i < 0 + words_in l → All Kept (trials_at i) × All Kept (trial 20 i ∷ []) =
      λ i q. halves Kept (trials_at i) (trial 20 i ∷ []) (w.0 i (omega arith) q) in
      let after = halves Kept (trials_after (0 + words_in l)) (trial 21 no_place ∷ []) w.1 in (
        join (Keeps l len img) file_trials (in_turn trials_at trials_after (words_in l) 0) s.0
            (of_words (Keeps l len img) trials_at trials_after (words_in l) 0 (λ i p q. (at i q).0, after.0)),
        record { r20 = λ i p. (at i (omega (arith, p))).1.0; r21 = after.1.0 },
      )

  joined : All (Keeps l len img) (trials_of l) → Straight l img → All Kept (straight_trials l)
  joined h r =
      let s = halves (Keeps l len img) file_trials (in_turn trials_at trials_after (words_in l) 0) h in
      let w = to_words (Keeps l len img) trials_at trials_after (words_in l) 0 s.1 in
      join Kept file_trials (in_turn straight_at straight_after (words_in l) 0) s.0
      (of_words Kept straight_at straight_after (words_in l) 0 (
        λ i p q. join Kept (trials_at i) (trial 20 i ∷ []) (w.0 i p q) (r.r20 i (omega (arith, q)), tt),
        join Kept (trials_after (0 + words_in l)) (trial 21 no_place ∷ []) w.1 (r.r21, tt),
      ))

  all_kept : straight_of l len img ≡ accepted → All Kept (straight_trials l)
  unfolding straight_of
  all_kept e = accepted_kept Kept (broken_by (is_straight_broken l img) l len img) (straight_tests l len img) (straight_trials l) (numbered l) e

  -- ---- the theorems

  pub straight_lawful : straight_of l len img ≡ accepted → Lawful l len img
  straight_lawful e = kept_lawful l len img (parted (all_kept e)).0

  pub straight_straight : straight_of l len img ≡ accepted → Straight l img
  straight_straight e = (parted (all_kept e)).1

  pub lawful_straight : Lawful l len img → Straight l img → straight_of l len img ≡ accepted
  unfolding straight_of
  lawful_straight w r =
      kept_accepted Kept (broken_by (is_straight_broken l img) l len img) (straight_tests l len img) (straight_trials l)
      (joined (lawful_kept l len img w) r)

  -- what the profile accepts, the checker accepts
  pub straight_accepted : straight_of l len img ≡ accepted → check_of l len img ≡ accepted
  straight_accepted e = lawful_accepted l len img (straight_lawful e)

  -- a host that finds number 0 has a module that the profile accepts
  pub straight_number : (straight_of l len img).number ≡ 0 → straight_of l len img ≡ accepted
  unfolding straight_of
  straight_number = zero_accepted (broken_by (is_straight_broken l img) l len img) (straight_trials l) (numbered l)

  pub straight_refused_first : Not (straight_of l len img ≡ accepted)
      → (t : Trial) × (StraightRefusal l len img t × (straight_of l len img ≡ said t))
  unfolding straight_of
  straight_refused_first h = refused_at Kept (broken_by (is_straight_broken l img) l len img) (straight_tests l len img) (straight_trials l) h

  -- what the rules refuse is what the profile says
  pub straight_refusal_unique : (t : Trial) → StraightRefusal l len img t → straight_of l len img ≡ said t
  unfolding straight_of
  straight_refusal_unique t r =
      ap (first_of (broken_by (is_straight_broken l img) l len img)) r.order
      ∙ first_found Kept (broken_by (is_straight_broken l img) l len img) (straight_tests l len img) r.before r.after t r.kept r.broken

  -- ---- 12, 22 and 25 tell what the checker's tell

  found : {k : ℕ} → 0 < k → (straight_of l len img).number ≡ k → Found Kept (straight_trials l) (straight_of l len img)
  found h e = straight_refused_first (λ a. omega (arith, h, e, ap (λ (v : Verdict). v.number) a))

  pub straight_guard_told : (straight_of l len img).number ≡ 12 → Unguarded img (straight_of l len img).place
  straight_guard_told e = told_12 Kept (found (omega arith) e) img (λ i h. h) e

  pub straight_mask_told : (straight_of l len img).number ≡ 22 → Misfit l img ((straight_of l len img).place + 2)
  straight_mask_told e = told_22 Kept (found (omega arith) e) l img (λ i h. h) e

  pub straight_hole_told : (straight_of l len img).number ≡ 25 → Holed l img ((straight_of l len img).place + 2)
  straight_hole_told e =
      let a =
      all_after straight_at straight_after
      (λ i ts h. at_after i (trial 20 i ∷ ts) (λ s. (λ p. absurd (omega (arith, p)), h (trial 20 i))))
      (λ i s. (λ p. absurd (omega (arith, p)), (λ p. absurd (omega (arith, p)), tt))) l in
      told_25 Kept (found (omega arith) e) l img (λ i h. h) (λ i h. h) tt a e
