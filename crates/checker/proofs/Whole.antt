-- The checker accepts exactly the lawful modules, and refuses any other by the first broken rule and its place.
use Prim.Native.Nat.{ℕ, ◌+◌, ◌<◌}
use mathlib.Core.Path.{◌≡◌, refl, ap, ◌∙◌}
use mathlib.Core.Bool.{Bool, cond}
use mathlib.Core.List.{List, [], ◌∷◌, ◌++◌}
use native.Mathlib.Omega.{arith}
use Rattle.layout.specs.declared.Layout.{Layout}
use Rattle.checker.specs.declared.verdict.Verdict.{Verdict}
use Rattle.checker.specs.Check.{Trial, said, accepted, file_trials, trials_at, trials_after, in_turn, trials_of, is_broken, first_of, check_of}
use Rattle.rules.specs.Not.{Not}
use Rattle.checker.specs.Lawful.{Lawful, words_in}
use Rattle.checker.specs.Refusal.{Keeps, All, FirstBroken, Refusal}
use Rattle.checker.proofs.Says.{Denies, breaks, keeps, passes, stops}
use Rattle.checker.proofs.Reflection.{rule_tests}
use Rattle.checker.proofs.Trials.{join, halves, implied, of_words, to_words, first_of_law}

-- ---- the first trial that is broken

-- what is said of the trial is not `accepted`
abbrev pub Numbered : Trial → Type 0
Numbered t = Not (t.number ≡ 0)

module _ (P : Trial → Type 0) where
  later : {s t : Trial} {ts : List Trial} → P s → FirstBroken P ts t → FirstBroken P (s ∷ ts) t
  later {s} p f =
      record { before = s ∷ f.before; after = f.after; order = ap (λ l. s ∷ l) f.order; kept = (p, f.kept); broken = f.broken }

  -- v is what is said of the first of ts that is broken
  abbrev pub Found : List Trial → Verdict → Type 0
  Found ts v = (t : Trial) × (FirstBroken P ts t × (v ≡ said t))

  module _ (b : Trial → Bool) (tests : (t : Trial) → Denies (P t) (b t)) where
    pub kept_accepted : (ts : List Trial) → All P ts → first_of b ts ≡ accepted
    kept_accepted [] h = refl
    kept_accepted (t ∷ ts) h = rw (passes (tests t) h.0) (kept_accepted ts h.1)

    pub accepted_kept : (ts : List Trial) → All Numbered ts → first_of b ts ≡ accepted → All P ts
    accepted_kept [] n e = tt
    accepted_kept (t ∷ ts) n e = go (tests t) e (accepted_kept ts n.1)
      where
        go : {c : Bool} → Denies (P t) c → cond c (said t) (first_of b ts) ≡ accepted → (first_of b ts ≡ accepted → All P ts) → P t × All P ts
        go (breaks p) e f = absurd (n.0 (ap (λ v. v.number) e))
        go (keeps p) e f = (p, f e)

    pub refused_at : (ts : List Trial) → Not (first_of b ts ≡ accepted) → Found ts (first_of b ts)
    refused_at [] h = absurd (h refl)
    refused_at (t ∷ ts) h = go (tests t) h (refused_at ts)
      where
        go : {c : Bool} → Denies (P t) c → Not (cond c (said t) (first_of b ts) ≡ accepted)
            → (Not (first_of b ts ≡ accepted) → Found ts (first_of b ts)) → Found (t ∷ ts) (cond c (said t) (first_of b ts))
        go (breaks p) h f = (t, (record { before = []; after = ts; order = refl; kept = tt; broken = p }, refl))
        go (keeps p) h f = let (u, (r, e)) = f h in (u, (later p r, e))

    pub first_found : (before after : List Trial) (t : Trial) → All P before → Not (P t) → first_of b (before ++ (t ∷ after)) ≡ said t
    first_found [] after t h p = rw (stops (tests t) p)
    first_found (s ∷ before) after t h p = rw (passes (tests s) h.0) (first_found before after t h.1 p)

-- where the first has number 0, there is none
pub zero_accepted : (b : Trial → Bool) (ts : List Trial) → All Numbered ts → (first_of b ts).number ≡ 0 → first_of b ts ≡ accepted
zero_accepted b ts h =
    first_of_law (λ v. v.number ≡ 0 → v ≡ accepted) b ts (λ _. refl)
    (implied Numbered (λ t. t.number ≡ 0 → said t ≡ accepted) (λ t n z. absurd (n z)) ts h)

-- ---- all trials

numbered : (l : Layout) → All Numbered (trials_of l)
numbered l =
    join Numbered file_trials (in_turn trials_at trials_after (words_in l) 0) (omega arith)
    (of_words Numbered trials_at trials_after (words_in l) 0 (λ j p q. omega arith, omega arith))

-- ---- the verdict

module _ (l : Layout) (len : ℕ) (img : List ℕ) where
  -- a host that finds number 0 has an accepted module
  pub number_accepted : (check_of l len img).number ≡ 0 → check_of l len img ≡ accepted
  unfolding check_of
  number_accepted = zero_accepted (is_broken l len img) (trials_of l) (numbered l)

  abbrev Kept : Trial → Type 0
  Kept = Keeps l len img

  pub kept_lawful : All Kept (trials_of l) → Lawful l len img
  kept_lawful h =
      let s = halves Kept file_trials (in_turn trials_at trials_after (words_in l) 0) h in
      let f = s.0 in
      let w = to_words Kept trials_at trials_after (words_in l) 0 s.1 in
      let at : (i : ℕ) → i < words_in l → All Kept (trials_at i) = λ i p. w.0 i (omega arith) (omega arith) in
      let e : 0 + words_in l ≡ words_in l = omega arith in
      record {
        r1 = f.0;
        r2 = f.1.0;
        r3 = f.1.1.0;
        r4 = f.1.1.1.0;
        r5 = f.1.1.1.1.0;
        r6 = f.1.1.1.1.1.0;
        r7 = f.1.1.1.1.1.1.0;
        r8 = λ i p. (at i p).0;
        r9 = λ i p. (at i p).1.0;
        r10 = λ i p. (at i p).1.1.0;
        r11 = λ i p. (at i p).1.1.1.0;
        r12 = λ i p. (at i p).1.1.1.1.0;
        r22 = λ i p. (at i p).1.1.1.1.1.0;
        r25 = λ i p. (at i p).1.1.1.1.1.1.0;
        r13 = λ i p. (at i p).1.1.1.1.1.1.1.0;
        r14 = λ i p. (at i p).1.1.1.1.1.1.1.1.0;
        r15 = λ i p. (at i p).1.1.1.1.1.1.1.1.1.0;
        r16 = rw e at w.1.0;
      }

  pub lawful_kept : Lawful l len img → All Kept (trials_of l)
  lawful_kept w =
      let e : 0 + words_in l ≡ words_in l = omega arith in
      join Kept file_trials (in_turn trials_at trials_after (words_in l) 0) (w.r1, (w.r2, (w.r3, (w.r4, (w.r5, (w.r6, (w.r7, tt)))))))
      (of_words Kept trials_at trials_after (words_in l) 0 (λ i _ q. word i (omega arith), (rw e w.r16, tt)))
    where
      word : (i : ℕ) → i < words_in l → All Kept (trials_at i)
      word i p = (w.r8 i p, (w.r9 i p, (w.r10 i p, (w.r11 i p, (w.r12 i p, (w.r22 i p, (w.r25 i p, (w.r13 i p, (w.r14 i p, (w.r15 i p, tt))))))))))

  pub accepted_lawful : check_of l len img ≡ accepted → Lawful l len img
  unfolding check_of
  accepted_lawful e = kept_lawful (accepted_kept Kept (is_broken l len img) (rule_tests l len img) (trials_of l) (numbered l) e)

  pub lawful_accepted : Lawful l len img → check_of l len img ≡ accepted
  unfolding check_of
  lawful_accepted w = kept_accepted Kept (is_broken l len img) (rule_tests l len img) (trials_of l) (lawful_kept w)

  pub refused_first : Not (check_of l len img ≡ accepted) → (t : Trial) × (Refusal l len img t × (check_of l len img ≡ said t))
  unfolding check_of
  refused_first h = refused_at Kept (is_broken l len img) (rule_tests l len img) (trials_of l) h

  -- what the rules refuse is what the checker says
  pub refusal_unique : (t : Trial) → Refusal l len img t → check_of l len img ≡ said t
  unfolding check_of
  refusal_unique t r =
      ap (first_of (is_broken l len img)) r.order
      ∙ first_found Kept (is_broken l len img) (rule_tests l len img) r.before r.after t r.kept r.broken
