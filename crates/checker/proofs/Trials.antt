-- Lists of trials: what holds of all of them, part by part, and of those of the words in turn.
use Prim.Native.Nat.{ℕ, zero, suc, ◌+◌, ◌≤◌, ◌<◌}
use mathlib.Core.Path.{◌≡◌, refl, subst}
use mathlib.Core.Bool.{Bool}
use mathlib.Core.List.{List, [], ◌∷◌, ◌++◌}
use native.Mathlib.Omega.{arith}
use native.Mathlib.Decide.{dec_lt}
use Rattle.word.proofs.Choice.{by_test}
use Rattle.checker.specs.declared.verdict.Verdict.{Verdict}
use Rattle.layout.specs.declared.Layout.{Layout}
use Rattle.checker.specs.Check.{Trial, trial, said, accepted, no_place, trials_at, trials_after, in_turn, trials_by, first_of}
use Rattle.rules.specs.Not.{Not}
use Rattle.checker.specs.Lawful.{words_in}
use Rattle.checker.specs.Refusal.{All}

module _ {A : Type 0} (P : A → Type 0) where
  pub join : (s t : List A) → All P s → All P t → All P (s ++ t)
  join [] t p q = q
  join (x ∷ s) t p q = (p.0, join s t p.1 q)

  pub halves : (s t : List A) → All P (s ++ t) → All P s × All P t
  halves [] t p = (tt, p)
  halves (x ∷ s) t p = let h = halves s t p.1 in ((p.0, h.0), h.1)

  pub implied : (Q : A → Type 0) → ((x : A) → P x → Q x) → (s : List A) → All P s → All Q s
  implied Q f [] h = h
  implied Q f (x ∷ s) h = (f x h.0, implied Q f s h.1)

module _ (P : Trial → Type 0) (at after : ℕ → List Trial) where
  -- P of what is tried of the words i to i + n - 1, and after them
  abbrev pub Words : ℕ → ℕ → Type 0
  Words n i = ((j : ℕ) → i ≤ j → j < i + n → All P (at j)) × All P (after (i + n))

  pub of_words : (n i : ℕ) → Words n i → All P (in_turn at after n i)
  of_words zero i w = let e : i + 0 ≡ i = omega arith in rw e at w.1
  of_words (suc n) i w =
      let e : i + suc n ≡ suc i + n = omega arith in
      join P (at i) (in_turn at after n (suc i)) (w.0 i (omega arith) (omega arith))
      (of_words n (suc i) (λ j p q. w.0 j (omega arith) (omega arith), rw e at w.1))

  pub to_words : (n i : ℕ) → All P (in_turn at after n i) → Words n i
  to_words zero i h = let e : i + 0 ≡ i = omega arith in (λ j p q. absurd (omega arith), rw e h)
  to_words (suc n) i h =
      let e : i + suc n ≡ suc i + n = omega arith in
      let s = halves P (at i) (in_turn at after n (suc i)) h in
      let w = to_words n (suc i) s.1 in
      (λ j p q. elim (dec_lt i j) [ yes g ↦ w.0 j g (omega arith) | no g ↦ (let z : j ≡ i = omega arith in rw z s.0) ], rw e w.1)

-- what holds of `accepted`, and of what is said of each trial, holds of the verdict
pub first_of_law : (P : Verdict → Type 0) (b : Trial → Bool) (ts : List Trial) → P accepted → All (λ t. P (said t)) ts → P (first_of b ts)
first_of_law P b [] a h = a
first_of_law P b (t ∷ ts) a h = by_test P (b t) (λ _. h.0) (λ _. first_of_law P b ts a h.1)

-- ---- 25 of a word is tried directly after 22 of that word

-- of ts, with s tried before them
abbrev pub After : Trial → List Trial → Type 0
After s [] = Unit {0}
After s (t ∷ ts) = (t.number ≡ 25 → s ≡ trial 22 t.word) × After t ts

-- so that 22 is kept at a word where 25 is the first that is broken
pub before_25 : (P : Trial → Type 0) (s t : Trial) (before after : List Trial) → After s (before ++ (t ∷ after)) → P s → All P before → t.number ≡ 25
    → P (trial 22 t.word)
before_25 P s t [] after a p h e = subst P (a.0 e) p
before_25 P s t (u ∷ before) after a p h e = before_25 P u t before after a.1 h.0 h.1 e

other : (k : ℕ) {A : Type 0} → Not (k ≡ 25) → k ≡ 25 → A
other k n e = absurd (n e)

pub at_after : (i : ℕ) (ts : List Trial) → ((s : Trial) → After s ts) → (s : Trial) → After s (trials_at i ++ ts)
at_after i ts h s =
    (other 8 (omega arith), (other 9 (omega arith), (other 10 (omega arith), (other 11 (omega arith), (other 12 (omega arith), (other 22 (omega arith), (λ _. refl, (other 13 (omega arith), (other 14 (omega arith), (other 15 (omega arith), h (trial 15 i)))))))))))

pub end_after : (i : ℕ) (s : Trial) → After s (trials_after i)
end_after i s = (other 16 (omega arith), tt)

module _ (at after : ℕ → List Trial) (word : (i : ℕ) (ts : List Trial) → ((s : Trial) → After s ts) → (s : Trial) → After s (at i ++ ts))
    (end : (i : ℕ) (s : Trial) → After s (after i)) where
  turn_after : (n i : ℕ) (s : Trial) → After s (in_turn at after n i)
  turn_after zero i = end i
  turn_after (suc n) i = word i (in_turn at after n (suc i)) (turn_after n (suc i))

  pub all_after : (l : Layout) → After (trial 0 no_place) (trials_by at after l)
  all_after l =
      (other 1 (omega arith), (other 2 (omega arith), (other 3 (omega arith), (other 4 (omega arith), (other 5 (omega arith), (other 6 (omega arith), (other 7 (omega arith), turn_after (words_in l) 0 (trial 7 no_place))))))))
