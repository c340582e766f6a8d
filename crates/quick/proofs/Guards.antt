-- Words of a guard, words that need one, and jumps, told by their fields.
use Prim.Native.Nat.{ℕ, ◌%◌, ◌^◌}
use mathlib.Core.Path.{◌≡◌, refl, ap, sym, subst, ◌∙◌}
use mathlib.Core.Bool.{Bool, true, false, cond, not, ◌&&◌, ◌||◌, false≢true}
use native.Mathlib.Omega.{arith}
use lib.Dec.{T, eqb, eqb→eq}
use borrow.Author.Tests.{eq-eqb, eqb-true}
use Rattle.std.proofs.Math.Bool.{and_comm}
use Rattle.std.specs.Prelude.{Option, Some, None, is_some}
use Rattle.word.specs.declared.field.Fields.{Fields}
use Rattle.word.specs.Field.{cut_of, Fit}
use Rattle.word.proofs.Choice as Choice
use Rattle.isa.specs.declared.kind.Alu.TheVariants.{Or}
use Rattle.isa.specs.declared.kind.Immediate.TheVariants.{Andi}
use Rattle.isa.specs.declared.kind.Branch.TheVariants.{J, Jal, Jr, Jalr}
use Rattle.isa.specs.declared.kind.Kind.{Kind}
use Rattle.isa.specs.declared.kind.Kind.TheVariants as K
use Rattle.isa.specs.declared.kind.Instruction.{Instruction}
use Rattle.isa.specs.declared.format.Role.{Role}
use Rattle.isa.specs.declared.format.Role.TheVariants.{Operand, Control, Fixed, Code, Part}
use Rattle.isa.specs.Table.{row_of, instructions}
use Rattle.class.specs.Class.{class_of, width_accessed}
use Rattle.isa.specs.Reading.{accepts, fits, decode_of, drawing_for, fits_kind, read_fields, read_of}
use Rattle.isa.proofs.Codes.{key_of, every, every_kind, both}
use Rattle.isa.proofs.Same.{is, same_kind, same_test}
use Rattle.isa.proofs.Roles.{is_true}
use Rattle.isa.proofs.Drawings.{matched}
use Rattle.isa.proofs.ByKey.{not_so, came, read_fits}
use Rattle.isa.proofs.Members.{split_or}
use Rattle.view.specs.declared.View.{View}
use Rattle.view.specs.View as V
use Rattle.view.specs.View.{is_region, is_register, seen, view_of, word_view, passes, is_jump, needs_guard}
use Rattle.view.specs.Guard.{is_mask, is_merge, masks, merges, is_mask_of, mask_in, is_merge_of}
use Rattle.table.specs.Tables as Tables
use Rattle.quick.specs.Set.{is_in}
use Rattle.quick.proofs.Patterns.{any, settles_all, pattern_fits, opcode}
use Rattle.quick.proofs.Sets.{leads, led}

-- ---- a test of the kind that is read

abbrev pub kind_is : (Kind → Bool) → Option Instruction → Bool
kind_is t (Some i) = t i.kind
kind_is t None = false

module _ (f : Fields ℕ) where
  -- the test holds where fields that pass it by their kind are read
  pub told_true : (t : Kind → Bool) (k : Kind) → T (fits_kind k f) → t k ≡ true → kind_is t (read_fields f) ≡ true
  unfolding decode_of
  told_true t k h e = rw (read_fits f k h) e

  -- it fails where no kind that fits passes it
  pub told_false : (t : Kind → Bool) → ((k : Kind) → T (fits_kind k f) → t k ≡ true → ⊥) → kind_is t (read_fields f) ≡ false
  unfolding decode_of
  told_false t h = go (read_fields f) refl
    where
      go : (r : Option Instruction) → read_fields f ≡ r → kind_is t r ≡ false
      go (Some i) e =
          let c = came f i e in
          not_so (t i.kind) (λ q. h c.kind c.fit (ap t (ap (λ (x : Instruction). x.kind) c.same) ∙ is_true (t i.kind) q))
      go None e = refl

  -- the test of one kind
  pub told_kind : (j : Kind) → kind_is (is j) (read_fields f) ≡ fits_kind j f
  told_kind j = go (fits_kind j f) refl
    where
      go : (b : Bool) → fits_kind j f ≡ b → kind_is (is j) (read_fields f) ≡ b
      go true e = told_true (is j) j (subst T (sym e) tt) (eq-eqb (key_of j) (key_of j) refl)
      go false e =
          told_false (is j) (λ k h p. false≢true (sym e ∙ same_fit (same_kind k j (eqb-true (key_of k) (key_of j) p)) h))
        where
          same_fit : {k : Kind} → k ≡ j → T (fits_kind k f) → fits_kind j f ≡ true
          same_fit {k} q h = rw (← q) (is_true (fits_kind k f) h)

-- ---- accesses and jumps

abbrev accesses : Kind → Bool
accesses k = is_some (width_accessed k)

abbrev by_register : Kind → Bool
by_register k = is_register (class_of k).flow

abbrev in_region : Kind → Bool
in_region k = is_region (class_of k).flow

-- a field that holds the code
abbrev is_code : Role → Bool
is_code Operand = false
is_code Control = false
is_code (Fixed m) = false
is_code Code = true
is_code Part = false

is_code_law : (r : Role) (n x : ℕ) → T (is_code r) → T (accepts r n x) → x ≡ n
is_code_law Operand n x t h = absurd t
is_code_law Control n x t h = absurd t
is_code_law (Fixed m) n x t h = absurd t
is_code_law Code n x t h = eqb→eq x n h
is_code_law Part n x t h = absurd t

-- the opcode of an access is in the set
abbrev holds_access : ℕ → Kind → Bool
holds_access set k = not (accesses k) || (is_code (drawing_for k).op && is_in set (row_of k).code)

module _ (f : Fields ℕ) (fit : Fit f) where
  -- a set of opcodes: each leads to an access, and that of each access is in it
  told_access : (set : ℕ) → T (leads set Tables.opcode (λ k. accesses k && settles_all (opcode any) (drawing_for k))) → T (every (holds_access set) instructions)
      → kind_is accesses (read_fields f) ≡ is_in set f.op
  told_access set h inside = go (is_in set f.op) refl
    where
      go : (b : Bool) → is_in set f.op ≡ b → kind_is accesses (read_fields f) ≡ b
      go true e =
          let k = led set Tables.opcode (λ k. accesses k && settles_all (opcode any) (drawing_for k)) h f.op fit.op e in
          let t = both (accesses k.kind) _ k.passed in
          told_true f accesses k.kind
          (pattern_fits (opcode any) (drawing_for k.kind) (row_of k.kind).code f t.1
          (record { op = sym k.code; rs = tt; rt = tt; rd = tt; shift = tt; funct = tt }))
          (is_true (accesses k.kind) t.0)
      go false e = told_false f accesses away
        where
          away : (k : Kind) → T (fits_kind k f) → accesses k ≡ true → ⊥
          away k h p =
              let t = both (is_code (drawing_for k).op) _ (split_or (accesses k) _ (every_kind (holds_access set) inside k) (subst T (sym p) tt)) in
              let c : f.op ≡ (row_of k).code = is_code_law (drawing_for k).op (row_of k).code f.op t.0 (matched (drawing_for k) (row_of k).code f h).op in
              false≢true (sym e ∙ (rw c (is_true (is_in set (row_of k).code) t.1)))

  -- JR and JALR
  told_register : kind_is by_register (read_fields f) ≡ fits_kind (K.Branch Jr) f || fits_kind (K.Branch Jalr) f
  told_register = two (read_fields f) ∙ (rw (told_kind f (K.Branch Jr), told_kind f (K.Branch Jalr)))
    where
      two : (r : Option Instruction) → kind_is by_register r ≡ kind_is (is (K.Branch Jr)) r || kind_is (is (K.Branch Jalr)) r
      two (Some i) = same_test (λ k. is (K.Branch Jr) k || is (K.Branch Jalr) k) by_register tt i.kind
      two None = refl

  -- J and JAL
  told_region : kind_is in_region (read_fields f) ≡ eqb f.op 2 || eqb f.op 3
  unfolding fits
  told_region =
      two (read_fields f) ∙ (rw (told_kind f (K.Branch J), told_kind f (K.Branch Jal))) ∙ shorter (eqb f.op 2) (eqb f.op 3)
    where
      two : (r : Option Instruction) → kind_is in_region r ≡ kind_is (is (K.Branch J)) r || kind_is (is (K.Branch Jal)) r
      two (Some i) = same_test (λ k. is (K.Branch J) k || is (K.Branch Jal) k) in_region tt i.kind
      two None = refl

      shorter : (a b : Bool) → (a && true) || (b && true) ≡ a || b
      shorter true b = refl
      shorter false true = refl
      shorter false false = refl

-- what a view says of the kind that was read
module _ (r : Option Instruction) where
  access_view : passes (λ v. is_some v.width) (view_of r) ≡ kind_is accesses r
  unfolding seen
  access_view = go r
    where
      go : (r : Option Instruction) → passes (λ v. is_some v.width) (view_of r) ≡ kind_is accesses r
      go (Some i) = refl
      go None = refl

  register_view : passes V.by_register (view_of r) ≡ kind_is by_register r
  unfolding seen
  register_view = go r
    where
      go : (r : Option Instruction) → passes V.by_register (view_of r) ≡ kind_is by_register r
      go (Some i) = refl
      go None = refl

  region_view : passes (λ v. is_region v.flow) (view_of r) ≡ kind_is in_region r
  unfolding seen
  region_view = go r
    where
      go : (r : Option Instruction) → passes (λ v. is_region v.flow) (view_of r) ≡ kind_is in_region r
      go (Some i) = refl
      go None = refl

either_passes : (t u : View → Bool) (o : Option View) → passes (λ v. t v || u v) o ≡ passes t o || passes u o
either_passes t u (Some v) = refl
either_passes t u None = refl

-- ---- a test of two, by the first where it holds, and else by the second

pub by_first : {a c x : Bool} (b : Bool) → a ≡ c → c || b ≡ x → a ≡ true → a ≡ x
by_first b p e h = let q = sym p ∙ h in h ∙ (rw q at e)

pub by_second : {a c b d x : Bool} → a ≡ c → b ≡ d → c || d ≡ x → a ≡ false → b ≡ x
by_second p q e h = let z = sym p ∙ h in q ∙ (rw z at e)

module _ (w : ℕ) {f : Fields ℕ} (e : f ≡ cut_of w) (fit : Fit f) where
  -- the fields of a JR but for rs, and those of a JALR but for rs and rd
  pub register_jump : eqb f.op 0 && (eqb f.rs f.rs && (eqb f.rt 0 && (eqb f.rd 0 && (eqb f.shift 0 && eqb f.funct 8))))
      || eqb f.op 0 && (eqb f.rs f.rs && (eqb f.rt 0 && (eqb f.rd f.rd && (eqb f.shift 0 && eqb f.funct 9))))
      ≡ passes V.by_register (word_view w)
  unfolding word_view read_of fits
  register_jump = rw (eq-eqb f.rs f.rs refl, eq-eqb f.rd f.rd refl, ← e, register_view (read_fields f), told_register f fit)

  pub needs_guard_law : (set : ℕ)
      → T (leads set Tables.opcode (λ k. accesses k && settles_all (opcode any) (drawing_for k))) → T (every (holds_access set) instructions)
      → is_in set f.op || passes V.by_register (word_view w) ≡ passes needs_guard (word_view w)
  unfolding word_view read_of
  needs_guard_law set h inside = rw (← e, either_passes (λ v. is_some v.width) V.by_register, access_view (read_fields f), told_access f fit set h inside)

  pub jumps : (eqb f.op 2 || eqb f.op 3) || passes V.by_register (word_view w) ≡ passes is_jump (word_view w)
  unfolding word_view read_of
  jumps = rw (← e, either_passes (λ v. is_region v.flow) V.by_register, region_view (read_fields f), told_region f fit)

-- ---- words of a guard

-- one kind, and a test of the instruction beside it
abbrev pub both_are : (Kind → Bool) → (Instruction → Bool) → Option Instruction → Bool
both_are t u (Some i) = t i.kind && u i
both_are t u None = false

module _ (t : Kind → Bool) (j : Kind) (h : T (every (λ k. cond (t k) (is j k) (not (is j k))) instructions)) (u : Instruction → Bool) (f : Fields ℕ) where
  pub told_both : both_are t u (read_fields f) ≡ fits_kind j f && u (decode_of j (drawing_for j) f)
  unfolding decode_of
  told_both = go (fits_kind j f) refl
    where
      sole : (r : Option Instruction) → kind_is (is j) r ≡ kind_is t r
      sole (Some i) = same_test t (is j) h i.kind
      sole None = refl

      fails : (r : Option Instruction) → kind_is t r ≡ false → both_are t u r ≡ false
      fails (Some i) q = rw q
      fails None q = refl

      go : (b : Bool) → fits_kind j f ≡ b → both_are t u (read_fields f) ≡ b && u (decode_of j (drawing_for j) f)
      go true e =
          rw (read_fits f j (subst T (sym e) tt), sym (same_test t (is j) h j) ∙ eq-eqb (key_of j) (key_of j) refl)
      go false e = fails (read_fields f) (sym (sole (read_fields f)) ∙ told_kind f j ∙ e)

module _ (w : ℕ) {f : Fields ℕ} (e : f ≡ cut_of w) where
  abbrev andi : Kind
  andi = K.Immediate Andi

  mask_both : (r : ℕ) (x : Option Instruction) → masks r x ≡ both_are is_mask (λ i. eqb i.rt r) x
  mask_both r (Some i) = refl
  mask_both r None = refl

  pub mask_told : (r : ℕ) → eqb f.op 12 && eqb f.rt r ≡ is_mask_of r w
  unfolding is_mask_of read_of fits decode_of
  mask_told r =
      rw (← e, mask_both r (read_fields f), told_both is_mask andi tt (λ i. eqb i.rt r) f) (shorter (eqb f.op 12))
    where
      shorter : (b : Bool) → b && eqb f.rt r ≡ (b && true) && eqb f.rt r
      shorter true = refl
      shorter false = refl

  merge_both : (base r : ℕ) (x : Option Instruction) → merges base r x ≡ both_are is_merge (λ i. eqb i.rd r && (eqb i.rs r && eqb i.rt base)) x
  merge_both base r (Some i) = refl
  merge_both base r None = refl

  -- in the order of the fields, of which rd is the first that is asked
  in_order : (o s t d x : Bool) → o && (s && (t && (d && x))) ≡ (o && x) && (d && (s && t))
  in_order false s t d x = refl
  in_order true true true d x = and_comm d x ∙ (rw (and_comm d true))
  in_order true true false d x = rw (and_comm d false, and_comm x false)
  in_order true false t d x = rw (and_comm d false, and_comm x false)

  pub merge_told : (base r : ℕ)
      → eqb f.op 0 && (eqb f.rs r && (eqb f.rt base && (eqb f.rd r && (eqb f.shift 0 && eqb f.funct 37)))) ≡ is_merge_of base r w
  unfolding is_merge_of read_of fits decode_of
  merge_told base r =
      rw (← e, merge_both base r (read_fields f), told_both is_merge (K.Alu Or) tt (λ i. eqb i.rd r && (eqb i.rs r && eqb i.rt base)) f)
      (in_order (eqb f.op 0) (eqb f.rs r) (eqb f.rt base) (eqb f.rd r) (eqb f.shift 0 && eqb f.funct 37))

-- the mask is the word's lower half
pub mask_value : (w r : ℕ) → is_mask_of r w ≡ true → mask_in w ≡ w % 2 ^ 16
unfolding mask_in read_of decode_of
mask_value w r h =
    let f = cut_of w in
    let op = (Choice.both (eqb f.op 12) _ (mask_told w refl r ∙ h)).0 in
    rw (read_fits f (K.Immediate Andi) (pattern_fits (opcode any) (drawing_for (K.Immediate Andi)) 12 f tt
    (record { op = eqb-true _ _ op; rs = tt; rt = tt; rd = tt; shift = tt; funct = tt }))) (omega arith)
