-- Rules 12, 22 and 25: the first two together are document 01's rule of data guards, and what a refusal by each of them tells (document 02, Tickets 5 and 7).
use Prim.Native.Nat.{ℕ, ◌+◌, ◌-◌, ◌<◌}
use mathlib.Core.Path.{◌≡◌, sym, subst, ap, ◌∙◌}
use mathlib.Core.Bool.{not}
use mathlib.Core.List.{List}
use mathlib.Core.Logic.{◌↔◌}
use native.Mathlib.Omega.{arith}
use Rattle.std.specs.Prelude.{Some}
use Rattle.isa.specs.Width.{bytes_of}
use Rattle.class.specs.Class.{width_accessed}
use Rattle.layout.specs.declared.Layout.{Layout}
use Rattle.view.specs.View.{seen, passes}
use Rattle.rules.specs.Not.{Not}
use Rattle.rules.specs.Offset.{offset_of}
use Rattle.rules.specs.Rules.{view_at, fits_data, is_contiguous, broken12, broken22, broken25}
use Rattle.checker.specs.declared.verdict.Verdict.{Verdict}
use Rattle.checker.specs.Check.{Trial, trial, named, no_place, accepted, trials_at, trials_after, trials_of, check_of}
use Rattle.checker.specs.Lawful.{FitsData, width_of, Rule12, Rule22, Rule25, Lawful}
use Rattle.checker.specs.Before.{FittingGuard, Unholed, LawfulBefore}
use Rattle.checker.specs.Refusal.{Unguarded, Misfit, Holed, Keeps}
use Rattle.checker.proofs.Says.{Says, nots, ands, stops, held}
use Rattle.checker.proofs.Reflection.{accesses, some_word, only_mask, guarded, guards, fits_data_law, contiguous_law, rule12, rule22, rule25}
use Rattle.checker.proofs.Trials.{After, before_25, at_after, end_after, all_after}
use Rattle.checker.proofs.Whole.{Found, accepted_lawful, lawful_accepted, refused_first}

-- ---- the two are one rule of document 01

module _ (l : Layout) (img : List ℕ) (i : ℕ) where
  pub together : Rule12 img i → Rule22 l img i → FittingGuard l img i
  together a b x s u = let (m, g) = a x s u in (m, (g, b x s u m g))

  pub apart : FittingGuard l img i → Rule12 img i × Rule22 l img i
  apart f = (
    λ x s u. let g = f x s u in (g.0, g.1.0),
    λ x s u m g. let h = f x s u in
        let e : h.0 ≡ m = only_mask img i 26 x.rs h.1.0 ∙ sym (only_mask img i 26 x.rs g) in
        subst (λ (k : ℕ). FitsData l.data_size k (offset_of x.value) (width_of x)) e h.1.1,
  )

-- so that the modules that are lawful, and accepted, are those that were before, and whose masks have no holes
module _ (l : Layout) (len : ℕ) (img : List ℕ) where
  lawful_before : Lawful l len img → LawfulBefore l len img
  lawful_before w =
      record {
        r1 = w.r1;
        r2 = w.r2;
        r3 = w.r3;
        r4 = w.r4;
        r5 = w.r5;
        r6 = w.r6;
        r7 = w.r7;
        r8 = w.r8;
        r9 = w.r9;
        r10 = w.r10;
        r11 = w.r11;
        r12 = λ i h. together l img i (w.r12 i h) (w.r22 i h);
        r13 = w.r13;
        r14 = w.r14;
        r15 = w.r15;
        r16 = w.r16;
      }

  before_lawful : LawfulBefore l len img → Unholed l img → Lawful l len img
  before_lawful w f =
      record {
        r1 = w.r1;
        r2 = w.r2;
        r3 = w.r3;
        r4 = w.r4;
        r5 = w.r5;
        r6 = w.r6;
        r7 = w.r7;
        r8 = w.r8;
        r9 = w.r9;
        r10 = w.r10;
        r11 = w.r11;
        r12 = λ i h. (apart l img i (w.r12 i h)).0;
        r22 = λ i h. (apart l img i (w.r12 i h)).1;
        r25 = f;
        r13 = w.r13;
        r14 = w.r14;
        r15 = w.r15;
        r16 = w.r16;
      }

  pub same_modules : Lawful l len img ↔ (LawfulBefore l len img × Unholed l img)
  same_modules = (λ w. (lawful_before w, w.r25), λ p. before_lawful p.0 p.1)

  pub same_accepted : (check_of l len img ≡ accepted) ↔ (LawfulBefore l len img × Unholed l img)
  same_accepted = (λ e. same_modules.0 (accepted_lawful l len img e), λ p. lawful_accepted l len img (same_modules.1 p))

-- ---- what breaks them

module _ (img : List ℕ) (i : ℕ) where
  unguardeds : Says (Unguarded img i) (passes (broken12 img i) (view_at img i))
  unfolding seen broken12
  unguardeds =
      some_word img i _ (broken12 img i) (λ x. ands (accesses (width_accessed x.kind)) (nots (guarded img i 26 x.rs)))

  pub unguarded : Not (Rule12 img i) → Unguarded img i
  unguarded n = held unguardeds (stops (rule12 img i) n)

module _ (l : Layout) (img : List ℕ) (i : ℕ) where
  misfits : Says (Misfit l img i) (passes (broken22 l.data_size img i) (view_at img i))
  unfolding seen broken22
  misfits =
      some_word img i _ (broken22 l.data_size img i)
      (λ x. ands (accesses (width_accessed x.kind))
      (guards img i 26 x.rs _ (λ m. not (fits_data l.data_size m (offset_of x.value) (bytes_of (width_accessed x.kind)))) (λ m. nots (fits_data_law _ m _ _))))

  -- of an access whose mask and offset fit
  holed : Rule22 l img i → Not (Rule25 img i) → Holed l img (i - 2 + 2)
  unfolding seen broken25
  holed f n =
      let test =
      some_word img i _ (broken25 img i)
      (λ x. ands (accesses (width_accessed x.kind))
      (guards img i 26 x.rs _ (λ m. not (is_contiguous m (bytes_of (width_accessed x.kind)))) (λ m. nots (contiguous_law m _)))) in
      let (x, (s, (u, (m, (g, h))))) = held test (stops (rule25 l img i) n) in
      let e : i ≡ i - 2 + 2 = omega (arith, g.0) in
      subst (Holed l img) e (x, (s, (u, (m, (g, (f x s u m g, h))))))

  -- the ANDI is the word two before the access
  pub misfit : Not (Rule22 l img i) → Misfit l img (i - 2 + 2)
  misfit n =
      let m = held misfits (stops (rule22 l img i) n) in
      let e : i ≡ i - 2 + 2 = omega (arith, m.1.1.1.1.0.0) in
      subst (Misfit l img) e m

  -- no word breaks both
  pub never_both : Unguarded img i → Misfit l img i → ⊥
  never_both (x, (s, (u, n))) (y, (t, (v, (m, (g, h))))) =
      let e : Some x ≡ Some y = sym s ∙ t in
      let r : x.rs ≡ y.rs = cc in
      n (m, rw r g)

-- ---- what is told of them: 12 at the access, 22 and 25 at the ANDI of its guard

module _ (P : Trial → Type 0) {ts : List Trial} {v : Verdict} (f : Found P ts v) where
  -- the trial of number k is broken at some word, and the verdict names what k names there
  told : (k : ℕ) → v.number ≡ k → (i : ℕ) × (Not (P (trial k i)) × (v.place ≡ named k i))
  told k e =
      let (t, (r, q)) = f in
      let n : t.number ≡ k = ap (λ (u : Verdict). u.number) (sym q) ∙ e in
      (t.word, (subst (λ (j : ℕ). Not (P (trial j t.word))) n r.broken, ap (λ (u : Verdict). u.place) q ∙ ap (λ (j : ℕ). named j t.word) n))

  pub told_12 : (img : List ℕ) → ((i : ℕ) → Rule12 img i → P (trial 12 i)) → v.number ≡ 12 → Unguarded img v.place
  told_12 img g e =
      let (i, (n, p)) = told 12 e in
      subst (Unguarded img) (sym p) (unguarded img i (λ h. n (g i h)))

  pub told_22 : (l : Layout) (img : List ℕ) → ((i : ℕ) → Rule22 l img i → P (trial 22 i)) → v.number ≡ 22 → Misfit l img (v.place + 2)
  told_22 l img g e =
      let (i, (n, p)) = told 22 e in
      subst (λ (k : ℕ). Misfit l img (k + 2)) (sym p) (misfit l img i (λ h. n (g i h)))

  -- and 22 is kept there
  pub told_25 : (l : Layout) (img : List ℕ) → ((i : ℕ) → Rule25 img i → P (trial 25 i)) → ((i : ℕ) → P (trial 22 i) → Rule22 l img i)
      → P (trial 0 no_place) → After (trial 0 no_place) ts → v.number ≡ 25 → Holed l img (v.place + 2)
  unfolding told
  told_25 l img g k z a e =
      let (i, (n, p)) = told 25 e in
      let (t, (r, q)) = f in
      let c : t.number ≡ 25 = ap (λ (u : Verdict). u.number) (sym q) ∙ e in
      let h : P (trial 22 t.word) = before_25 P (trial 0 no_place) t r.before r.after (subst (After (trial 0 no_place)) r.order a) z r.kept c in
      subst (λ (j : ℕ). Holed l img (j + 2)) (sym p) (holed l img i (k i h) (λ h. n (g i h)))

module _ (l : Layout) (len : ℕ) (img : List ℕ) where
  found : {k : ℕ} → 0 < k → (check_of l len img).number ≡ k → Found (Keeps l len img) (trials_of l) (check_of l len img)
  found h e = refused_first l len img (λ a. omega (arith, h, e, ap (λ (v : Verdict). v.number) a))

  pub guard_told : (check_of l len img).number ≡ 12 → Unguarded img (check_of l len img).place
  guard_told e = told_12 (Keeps l len img) (found (omega arith) e) img (λ i h. h) e

  pub mask_told : (check_of l len img).number ≡ 22 → Misfit l img ((check_of l len img).place + 2)
  mask_told e = told_22 (Keeps l len img) (found (omega arith) e) l img (λ i h. h) e

  pub hole_told : (check_of l len img).number ≡ 25 → Holed l img ((check_of l len img).place + 2)
  hole_told e = told_25 (Keeps l len img) (found (omega arith) e) l img (λ i h. h) (λ i h. h) tt (all_after trials_at trials_after at_after end_after l) e
