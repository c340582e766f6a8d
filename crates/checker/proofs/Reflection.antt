-- Each test of the checker is the test of its rule.
use Prim.Native.Nat.{ℕ, suc, ◌+◌, ◌-◌, ◌*◌, ◌%◌, ◌^◌, ◌≤◌, ◌<◌}
use mathlib.Core.Path.{◌≡◌, refl, sym, subst, ap, ◌∙◌}
use mathlib.Core.Bool.{Bool, true, false, not, cond, ◌&&◌, ◌||◌, false≢true}
use mathlib.Core.List.{List}
use native.Mathlib.Omega.{arith}
use lib.Dec.{T, eqb, leb, ltb}
use lib.IntN.{ℤ, pos, negsuc}
use lib.ListN.{length}
use lib.Pow.{pow_mono}
use Rattle.std.specs.Prelude.{Option, Some, None, is_some}
use Rattle.word.specs.Bytes.{longest, load_of}
use Rattle.isa.specs.declared.kind.Alu.TheVariants.{Or}
use Rattle.isa.specs.declared.kind.Immediate.TheVariants.{Andi}
use Rattle.isa.specs.declared.kind.Branch.TheVariants.{Jalr}
use Rattle.isa.specs.declared.kind.System.TheVariants.{Break, Rfe, Mfc0, Mtc0}
use Rattle.isa.specs.declared.kind.Kind.{Kind}
use Rattle.isa.specs.declared.kind.Kind.TheVariants as K
use Rattle.isa.specs.declared.kind.Instruction.{Instruction}
use Rattle.isa.specs.declared.width.Width.{Width}
use Rattle.isa.specs.declared.width.Width.TheVariants.{Byte, Half, Word}
use Rattle.class.specs.declared.Flow.{Flow}
use Rattle.class.specs.declared.Flow.TheVariants.{Onward, Relative, Region, Register}
use Rattle.isa.specs.Width.{bytes_of}
use Rattle.class.specs.Class.{class_of, width_accessed}
use Rattle.isa.specs.Table.{instructions}
use Rattle.isa.specs.Reading.{read_of}
use Rattle.isa.proofs.Codes.{key_of, every}
use Rattle.isa.proofs.Same.{is, same_kind, same_test}
use Rattle.layout.specs.declared.Layout.{Layout}
use Rattle.layout.specs.Layout.{is_power, is_code_size, is_data_size, is_placed, is_apart}
use Rattle.layout.proofs.Sizes.{Exponent, exponent_of, power_holds, at_least, one_bit}
use Rattle.view.specs.declared.View.{View}
use Rattle.view.specs.View.{is_barred, is_relative, is_region, is_register, seen, view_of, word_view, passes, is_branch, is_jump, needs_guard}
use Rattle.view.specs.Guard as G
use Rattle.view.specs.Guard.{is_mask, is_merge, value_in, is_mask_of, mask_in, is_merge_of}
use Rattle.rules.specs.Rules as C
use Rattle.checker.specs.Check.{Trial, is_word_broken, is_file_broken, is_broken}
use Rattle.checker.specs.Lawful as L
use Rattle.rules.specs.Not.{Not}
use Rattle.checker.specs.Lawful.{Stands, flow_of}
use Rattle.checker.specs.Refusal.{FileRule, WordRule, Keeps}
use Rattle.checker.proofs.Says.{Says, holds, fails, Denies, keeps, eqs, les, lts, ands, ors, nots, imps, both, lacks, bars, spares, picks, saying, denying, every_reading, some_reading}

-- ---- the layout

module _ (n : ℕ) where
  exponents : (lo k : ℕ) → Says (Exponent lo k n) (is_power lo k n)
  exponents lo k = go (is_power lo k n) refl
    where
      go : (b : Bool) → is_power lo k n ≡ b → Says (Exponent lo k n) b
      go true h = holds (exponent_of lo k n h)
      go false h = fails (λ x. false≢true (sym h ∙ power_holds n lo k x))

  powers : (lo k : ℕ) → Says (L.Power (2 ^ lo) (2 ^ (lo + k)) n) (is_power lo (suc k) n)
  powers lo k =
      saying
      (λ x. ((x.exponent, x.power), rw x.power (pow_mono x.least, pow_mono (omega (arith, x.most)))))
      (λ p. let e = p.0.0 in let z : n ≡ 2 ^ e = p.0.1 in
      record {
        exponent = e;
        least = at_least lo e (rw z at p.1.0);
        most = omega (arith, at_least e (lo + k) (rw z at p.1.1));
        power = z;
      })
      (exponents lo (suc k))

places : (base size len : ℕ) → Says (L.Placed base size len) (is_placed base size len)
unfolding is_placed
places base size len = ands (eqs _ _) (les _ _)

aparts : (l : Layout) → Says (L.Apart l) (is_apart l)
unfolding is_apart
aparts l = ors (les _ _) (les _ _)

-- longer than m
overs : (m n : ℕ) → Denies (n ≤ m) (ltb m n)
overs m n = denying (λ h. omega (arith, h)) (λ h. omega (arith, h)) (bars (lts m n))

module _ (l : Layout) (len : ℕ) (img : List ℕ) where
  pub file_rules : (n : ℕ) → Denies (FileRule l len img n) (is_file_broken l len img n)
  unfolding is_file_broken is_code_size is_data_size
  file_rules n =
      picks (eqb n 1) (overs longest len)
      (picks (eqb n 2) (lacks (powers l.code_size 4 12))
      (picks (eqb n 3) (lacks (powers l.data_size 2 14))
      (picks (eqb n 4) (lacks (places _ _ len))
      (picks (eqb n 5) (lacks (places _ _ len))
      (picks (eqb n 6) (lacks (aparts l))
      (picks (eqb n 7) (lacks (eqs (length img) l.code_size)) (keeps tt)))))))

-- ---- kinds

kinds : (k j : Kind) → Says (k ≡ j) (is j k)
kinds k j = saying (same_kind k j) (ap key_of) (eqs (key_of k) (key_of j))

-- the test of one kind
pub sole : (t : Kind → Bool) (j : Kind) → T (every (λ k. cond (t k) (is j k) (not (is j k))) instructions) → (k : Kind)
    → Says (k ≡ j) (t k)
sole t j h k = subst (Says (k ≡ j)) (same_test t (is j) h k) (kinds k j)

masks : (k : Kind) → Says (k ≡ K.Immediate Andi) (is_mask k)
masks = sole is_mask (K.Immediate Andi) tt

merges : (k : Kind) → Says (k ≡ K.Alu Or) (is_merge k)
merges = sole is_merge (K.Alu Or) tt

jalrs : (k : Kind) → Says (k ≡ K.Branch Jalr) ((class_of k).link && is_register (class_of k).flow)
jalrs = sole (λ k. (class_of k).link && is_register (class_of k).flow) (K.Branch Jalr) tt

module _ (v : ℕ) where
  abbrev is_barred_kind : Kind → Bool
  is_barred_kind k = is (K.System Mfc0) k || (is (K.System Mtc0) k || (is (K.System Rfe) k || is (K.System Break) k && eqb v 15))

  -- both tests compute once the comparison of the code is known
  barred_kinds : (b : Bool) → eqb v 15 ≡ b
      → T (every (λ k. cond (is_barred k v) (is_barred_kind k) (not (is_barred_kind k))) instructions)
  barred_kinds true e = rw e tt
  barred_kinds false e = rw e tt

  barred : (k : Kind)
      → Denies
      (Not (k ≡ K.System Mfc0) × (Not (k ≡ K.System Mtc0) × (Not (k ≡ K.System Rfe) × ((k ≡ K.System Break) → Not (v ≡ 15)))))
      (is_barred k v)
  barred k =
      subst (Denies _) (same_test (λ j. is_barred j v) is_barred_kind (barred_kinds (eqb v 15) refl) k)
      (both (bars (kinds k _)) (both (bars (kinds k _)) (both (bars (kinds k _)) (imps (kinds k _) (bars (eqs v 15))))))

-- ---- flow of control

-- a flow that fails the test of another is another
other : (t : Flow → Bool) {f g : Flow} → t f ≡ false → t g ≡ true → Not (f ≡ g)
other t p q e = false≢true (sym p ∙ ap t e ∙ q)

relatives : (f : Flow) → Says (f ≡ Relative) (is_relative f)
relatives Onward = fails (other is_relative refl refl)
relatives Relative = holds refl
relatives Region = fails (other is_relative refl refl)
relatives Register = fails (other is_relative refl refl)

regions : (f : Flow) → Says (f ≡ Region) (is_region f)
regions Onward = fails (other is_region refl refl)
regions Relative = fails (other is_region refl refl)
regions Region = holds refl
regions Register = fails (other is_region refl refl)

pub registers : (f : Flow) → Says (f ≡ Register) (is_register f)
registers Onward = fails (other is_register refl refl)
registers Relative = fails (other is_register refl refl)
registers Region = fails (other is_register refl refl)
registers Register = holds refl

pub accesses : (w : Option Width) → Says (Not (bytes_of w ≡ 0)) (is_some w)
accesses None = fails (λ h. h refl)
accesses (Some Byte) = holds (λ e. omega (arith, e))
accesses (Some Half) = holds (λ e. omega (arith, e))
accesses (Some Word) = holds (λ e. omega (arith, e))

module _ (x : Instruction) where
  branches : Says (L.Branches x) (is_branch (seen x))
  unfolding seen
  branches = go (flow_of x)
    where
      go : (f : Flow) → Says (Not (f ≡ Onward)) (is_relative f || (is_region f || is_register f))
      go Onward = fails (λ h. h refl)
      go Relative = holds (λ e. other is_relative refl refl (sym e))
      go Region = holds (λ e. other is_region refl refl (sym e))
      go Register = holds (λ e. other is_register refl refl (sym e))

  needs_guard_law : Says (L.NeedsGuard x) (needs_guard (seen x))
  unfolding seen
  needs_guard_law = ors (accesses (width_accessed x.kind)) (registers (flow_of x))

-- ---- words

-- what word i reads as
abbrev pub reading_at : List ℕ → ℕ → Option Instruction
reading_at img i = read_of (load_of 4 img (4 * i))

module _ (img : List ℕ) (i : ℕ) (P : Instruction → Type 0) (t : View → Bool) where
  pub every_word : ((x : Instruction) → Denies (P x) (t (seen x))) → Denies ((x : Instruction) → Stands img i x → P x) (passes t (C.view_at img i))
  unfolding word_view C.view_at
  every_word f = every_reading P (λ r. passes t (view_of r)) refl f (reading_at img i)

  pub some_word : ((x : Instruction) → Says (P x) (t (seen x))) → Says ((x : Instruction) × (Stands img i x × P x)) (passes t (C.view_at img i))
  unfolding word_view C.view_at
  some_word f = some_reading P (λ r. passes t (view_of r)) refl (reading_at img i) (λ x e. f x)

module _ (img : List ℕ) (i : ℕ) where
  rule8 : Denies (L.Rule8 img i) (not (passes (λ v. true) (C.view_at img i)))
  rule8 =
      lacks (saying (λ h. (h.0, h.1.0)) (λ h. (h.0, (h.1, tt)))
      (some_word img i (λ x. Unit {0}) (λ v. true) (λ x. holds tt)))

  rule9 : Denies (L.Rule9 img i) (passes (λ v. v.barred) (C.view_at img i))
  unfolding seen
  rule9 = every_word img i _ (λ v. v.barred) (λ x. barred x.value x.kind)

  rule10 : Denies (L.Rule10 img i) (passes C.broken10 (C.view_at img i))
  unfolding seen C.broken10
  rule10 = every_word img i _ C.broken10 (λ x. both (bars (eqs _ _)) (bars (eqs _ _)))

  rule11 : Denies (L.Rule11 img i) (passes C.broken11 (C.view_at img i))
  unfolding seen C.broken11
  rule11 =
      every_word img i _ C.broken11
      (λ x. subst (Denies _) (links (class_of x.kind).link _ _ _ _)
      (both (imps (jalrs x.kind) (bars (eqs _ _))) (imps (ands (trues _) (relatives (flow_of x))) (bars (eqs _ _)))))
    where
      trues : (b : Bool) → Says (b ≡ true) b
      trues true = holds refl
      trues false = fails false≢true

      links : (l a b c d : Bool) → (l && a) && b || (l && c) && d ≡ l && (a && b || c && d)
      links true a b c d = refl
      links false a b c d = refl

  frees : Denies (L.Free img i) (passes needs_guard (C.view_at img i))
  unfolding seen
  frees = every_word img i _ needs_guard (λ x. bars (needs_guard_law x))

  rule16 : Denies (L.Rule16 img i) (not (passes is_jump (C.view_at img i)))
  unfolding seen
  rule16 = lacks (some_word img i _ is_jump (λ x. ors (regions (flow_of x)) (registers (flow_of x))))

module _ (img : List ℕ) (i : ℕ) where
  -- the word before, if there is one, doesn't branch
  abbrev AfterNone : Type 0
  AfterNone = 0 < i → (y : Instruction) → Stands img (i - 1) y → Not (L.Branches y)

  branch_before : Denies AfterNone (passes is_branch (C.view_before img i))
  unfolding seen C.view_before
  branch_before = go (les 1 i)
    where
      go : {b : Bool} → Says (1 ≤ i) b → Denies AfterNone (passes is_branch (cond b (C.view_at img (i - 1)) None))
      go (holds h) = denying (λ f _. f) (λ f. f h) (every_word img (i - 1) _ is_branch (λ y. bars (branches y)))
      go (fails h) = keeps (λ p. absurd (h p))

  rule14 : Denies (L.Rule14 img i) (passes (C.broken14 (passes is_branch (C.view_before img i))) (C.view_at img i))
  unfolding C.broken14
  rule14 =
      denying (λ f x y s b p. f x s b p y) (λ f x s b p y. f x y s b p)
      (every_word img i _ (C.broken14 (passes is_branch (C.view_before img i))) (λ x. imps (branches x) branch_before))

-- ---- guards

pub fits_data_law : (size m : ℕ) (z : ℤ) (w : ℕ) → Says (L.FitsData size m z w) (C.fits_data size m z w)
unfolding C.fits_data
fits_data_law size m (pos o) w = saying (λ h. (o, (refl, h))) from (ands (eqs _ _) (ands (eqs _ _) (les _ _)))
  where
    from : L.FitsData size m (pos o) w → (m % w ≡ 0) × ((o % w ≡ 0) × (m + o + w ≤ size))
    from (p, (e, h)) = let z : p ≡ o = cc in rw z at h
fits_data_law size m (negsuc o) w = fails (λ h. let e = h.1.0 in let z : ◌≡◌ {A = ℕ} 0 1 = cc in omega arith)

fits_code_law : (size m : ℕ) → Says (L.FitsCode size m) (C.fits_code size m)
unfolding C.fits_code
fits_code_law size m = ands (eqs _ _) (les _ _)

pub contiguous_law : (m w : ℕ) → Says ((e : ℕ) × (m + w ≡ 2 ^ e)) (C.is_contiguous m w)
unfolding C.is_contiguous
contiguous_law m w = let o = one_bit (m + w) in saying o.0 o.1 (eqs _ _)

module _ (img : List ℕ) (i r : ℕ) where
  -- the mask is the value that is read
  mask_value : {m : ℕ} → L.Masks img i r m → m ≡ mask_in (C.word_at img i)
  unfolding mask_in
  mask_value (x, (s, (k, (t, v)))) = sym v ∙ ap value_in (sym s)

  masks_at : Says (L.Masks img i r (mask_in (C.word_at img i))) (is_mask_of r (C.word_at img i))
  unfolding is_mask_of mask_in
  masks_at =
      some_reading _ (G.masks r) refl (reading_at img i)
      (λ x e. saying (λ h. (h.0, (h.1, ap value_in (sym e)))) (λ h. (h.0, h.1.0)) (ands (masks x.kind) (eqs x.rt r)))

  merges_at : (base : ℕ) → Says (L.Merges img i r base) (is_merge_of base r (C.word_at img i))
  unfolding is_merge_of
  merges_at base =
      some_reading _ (G.merges base r) refl (reading_at img i)
      (λ x e. ands (merges x.kind) (ands (eqs _ _) (ands (eqs _ _) (eqs _ _))))

module _ (img : List ℕ) (i base r : ℕ) where
  -- a guard has one mask
  pub only_mask : {m : ℕ} → L.Guarded img i r base m → m ≡ C.mask_at img i
  only_mask g = mask_value img (i - 2) r g.1.0.0

  guarded_at : Says (L.Guarded img i r base (C.mask_at img i)) (C.has_guard img i base r)
  unfolding C.is_guarded
  guarded_at =
      ands (les 2 (i % 4))
      (saying (λ g. ((g.0, g.1.0), g.1.1)) (λ g. (g.0.0, (g.0.1, g.1)))
      (ands (masks_at img (i - 2) r) (ands (merges_at img (i - 1) r base)
      (ands (nots (eqs _ _)) (ands (nots (eqs _ _)) (nots (eqs _ _)))))))

  -- whatever the mask
  pub guarded : Says ((m : ℕ) × L.Guarded img i r base m) (C.has_guard img i base r)
  guarded = saying (λ g. (C.mask_at img i, g)) (λ g. let e = only_mask g.1 in rw e at g.1) guarded_at

  -- with a mask as Q asks
  module _ (Q : ℕ → Type 0) (t : ℕ → Bool) (q : (m : ℕ) → Says (Q m) (t m)) where
    pub guards : Says ((m : ℕ) × (L.Guarded img i r base m × Q m)) (C.has_guard img i base r && t (C.mask_at img i))
    guards = saying (λ g. (C.mask_at img i, g)) (λ g. let e = only_mask g.1.0 in rw e at g.1) (ands guarded_at (q _))

    fitting : Denies ((m : ℕ) → L.Guarded img i r base m → Q m) (C.has_guard img i base r && not (t (C.mask_at img i)))
    fitting =
        denying (λ f m g. let e = only_mask g in subst Q (sym e) (f (rw e at g))) (λ f. f (C.mask_at img i))
        (imps guarded_at (lacks (q _)))

pub rule12 : (img : List ℕ) (i : ℕ) → Denies (L.Rule12 img i) (passes (C.broken12 img i) (C.view_at img i))
unfolding seen C.broken12
rule12 img i =
    every_word img i _ (C.broken12 img i) (λ x. imps (accesses (width_accessed x.kind)) (lacks (guarded img i 26 x.rs)))

module _ (l : Layout) (img : List ℕ) (i : ℕ) where
  pub rule22 : Denies (L.Rule22 l img i) (passes (C.broken22 l.data_size img i) (C.view_at img i))
  unfolding seen C.broken22
  rule22 =
      every_word img i _ (C.broken22 l.data_size img i)
      (λ x. imps (accesses (width_accessed x.kind)) (fitting img i 26 x.rs _ _ (λ m. fits_data_law _ m _ _)))

  pub rule25 : Denies (L.Rule25 img i) (passes (C.broken25 img i) (C.view_at img i))
  unfolding seen C.broken25
  rule25 =
      every_word img i _ (C.broken25 img i)
      (λ x. imps (accesses (width_accessed x.kind)) (fitting img i 26 x.rs _ _ (λ m. contiguous_law m _)))

  rule13 : Denies (L.Rule13 l img i) (passes (C.broken13 l.code_size img i) (C.view_at img i))
  unfolding seen C.broken13
  rule13 =
      every_word img i _ (C.broken13 l.code_size img i)
      (λ x. imps (registers (flow_of x)) (lacks (guards img i 27 x.rs _ _ (λ m. fits_code_law _ m))))

  -- ---- targets

  landings : (t : ℕ) → Says (L.Lands l img t) (C.lands l img t)
  unfolding C.lands C.is_entry
  landings t = ands (les _ _) (ands (lts _ _) (ands (nots (eqs _ _)) (ands (spares (frees img _)) (spares (frees img _)))))

  -- a test of the direct target, where there is one
  module _ (x : Instruction) (P : ℕ → Type 0) (t : ℕ → Bool) (p : (a : ℕ) → Denies (P a) (t a)) where
    pub targets : Denies (L.AtTarget l i x P) ((is_relative (seen x).flow || is_region (seen x).flow) && t (C.target_of (seen x) (l.code_base + 4 * i)))
    unfolding seen C.target_of
    targets = go (flow_of x) _ _
      where
        go : (f : Flow) (a b : ℕ) → Denies (((f ≡ Relative) → P a) × ((f ≡ Region) → P b)) ((is_relative f || is_region f) && t (cond (is_relative f) a b))
        go Onward a b = keeps (λ e. absurd (other is_relative refl refl e), λ e. absurd (other is_region refl refl e))
        go Relative a b = denying (λ h. (λ _. h, λ e. absurd (other is_region refl refl e))) (λ h. h.0 refl) (p a)
        go Region a b = denying (λ h. (λ e. absurd (other is_relative refl refl e), λ _. h)) (λ h. h.1 refl) (p b)
        go Register a b = keeps (λ e. absurd (other is_relative refl refl e), λ e. absurd (other is_region refl refl e))

  rule15 : Denies (L.Rule15 l img i) (passes (C.broken15 l img i) (C.view_at img i))
  unfolding C.broken15
  rule15 = every_word img i _ (C.broken15 l img i) (λ x. targets x (L.Lands l img) (λ a. not (C.lands l img a)) (λ a. lacks (landings a)))

  pub word_rules : (n : ℕ) → Denies (WordRule l img n i) (is_word_broken l img n i)
  unfolding is_word_broken
  word_rules n =
      picks (eqb n 8) (rule8 img i)
      (picks (eqb n 9) (rule9 img i)
      (picks (eqb n 10) (rule10 img i)
      (picks (eqb n 11) (rule11 img i)
      (picks (eqb n 12) (rule12 img i)
      (picks (eqb n 22) rule22
      (picks (eqb n 25) rule25
      (picks (eqb n 13) rule13
      (picks (eqb n 14) (rule14 img i)
      (picks (eqb n 15) rule15
      (picks (eqb n 16) (rule16 img i) (keeps tt)))))))))))

pub rule_tests : (l : Layout) (len : ℕ) (img : List ℕ) (t : Trial) → Denies (Keeps l len img t) (is_broken l len img t)
rule_tests l len img t = picks (leb t.number 7) (file_rules l len img t.number) (word_rules l img t.word t.number)
