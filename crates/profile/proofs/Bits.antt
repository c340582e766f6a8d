-- The words of the last bundle, told from their bits.
use Prim.Native.Nat.{ℕ, ◌+◌, ◌*◌, ◌/◌, ◌%◌, ◌^◌, ◌<◌}
use mathlib.Core.Path.{◌≡◌, refl, ap, ◌∙◌}
use mathlib.Core.Bool.{Bool, true, false, not, ◌&&◌}
use native.Mathlib.Omega.{arith}
use lib.Dec.{eqb}
use borrow.Author.Tests.{eqb-true, eq-eqb}
use Rattle.std.specs.Prelude.{Option, Some, None}
use Rattle.word.specs.declared.field.Fields.{Fields}
use Rattle.word.specs.Field.{cut_of, join_of, Fit}
use Rattle.word.proofs.Fields.{cut_fit, join_cut}
use Rattle.word.proofs.Choice.{both}
use Rattle.isa.specs.declared.kind.Instruction.{Instruction}
use Rattle.isa.specs.declared.kind.Branch.TheVariants.{J}
use Rattle.isa.specs.declared.kind.System.TheVariants.{Syscall}
use Rattle.isa.specs.declared.kind.Kind.{Kind}
use Rattle.isa.specs.declared.kind.Kind.TheVariants as K
use Rattle.isa.specs.Reading.{fits, decode_of, read_fields, read_of}
use Rattle.class.specs.Class.{class_of}
use Rattle.branch.specs.Branch.{region_of}
use Rattle.layout.specs.declared.Layout.{Layout}
use Rattle.layout.proofs.Sizes.{same_test}
use Rattle.view.specs.View.{passes, is_region, seen, view_of, word_view}
use Rattle.quick.proofs.Guards.{both_are, told_both}
use Rattle.profile.specs.Rules.{is_last_bundle, is_syscall_kind, syscalls0, is_syscall0, is_back}

-- all fields but the opcode, as one number
abbrev lower : Fields ℕ → ℕ
lower f = ((((0 + f.rs) * 32 + f.rt) * 32 + f.rd) * 32 + f.shift) * 64 + f.funct

below_opcode : (f : Fields ℕ) → Fit f → lower f ≡ join_of f % 2 ^ 26
below_opcode f h =
    let e : join_of f ≡ f.op * 2 ^ 26 + lower f = omega arith in
    let b : lower f < 2 ^ 26 = omega (arith, h.rs, h.rt, h.rd, h.shift, h.funct) in
    rw e (omega (arith, b))

module _ (w : ℕ) (h : w < 2 ^ 32) where
  lower_is : lower (cut_of w) ≡ w % 2 ^ 26
  lower_is = below_opcode (cut_of w) (cut_fit w h) ∙ ap (λ (x : ℕ). x % 2 ^ 26) (join_cut w)

  -- ---- SYSCALL with code 0

  syscall_both : (x : Option Instruction) → syscalls0 x ≡ both_are is_syscall_kind (λ i. eqb i.value 0) x
  syscall_both (Some i) = refl
  syscall_both None = refl

  pub syscall0_told : eqb w 12 ≡ is_syscall0 w
  unfolding is_syscall0 read_of fits decode_of
  syscall0_told =
      rw (syscall_both (read_fields (cut_of w)), told_both is_syscall_kind (K.System Syscall) tt (λ i. eqb i.value 0) (cut_of w))
      (same_test _ _ (λ e. rw (eqb-true w 12 e)) (λ e. fields (cut_of w) (join_cut w) e))
    where
      fields : (f : Fields ℕ) → join_of f ≡ w
          → (eqb f.op 0 && eqb f.funct 12) && eqb ((((0 + f.rs) * 32 + f.rt) * 32 + f.rd) * 32 + f.shift) 0 ≡ true → eqb w 12 ≡ true
      fields f j e =
          let v = both (eqb f.op 0 && eqb f.funct 12) _ e in
          let u = both (eqb f.op 0) (eqb f.funct 12) v.0 in
          eq-eqb w 12 (omega (arith, j, eqb-true f.op 0 u.0, eqb-true f.funct 12 u.1, eqb-true ((((0 + f.rs) * 32 + f.rt) * 32 + f.rd) * 32 + f.shift) 0 v.1))

  -- ---- J to the last bundle's start

  abbrev is_jump : Kind → Bool
  is_jump k = is_region (class_of k).flow && not (class_of k).link

  module _ (l : Layout) (i : ℕ) where
    abbrev leads_back : ℕ → Bool
    leads_back v = is_last_bundle l (region_of (l.code_base + 4 * i) v)

    back_both : (x : Option Instruction) → passes (is_back l i) (view_of x) ≡ both_are is_jump (λ y. leads_back y.value) x
    unfolding is_back seen
    back_both (Some y) = refl
    back_both None = refl

    -- a region takes the index out of a word by itself
    same_region : leads_back (w % 2 ^ 26) ≡ leads_back w
    unfolding region_of
    same_region = let z : w % 2 ^ 26 % 2 ^ 26 ≡ w % 2 ^ 26 = omega arith in rw z

    pub back_told : passes (is_back l i) (word_view w) ≡ eqb (w / 2 ^ 26) 2 && leads_back w
    unfolding word_view read_of fits decode_of
    back_told =
        rw (back_both (read_fields (cut_of w)), told_both is_jump (K.Branch J) tt (λ y. leads_back y.value) (cut_of w))
        (shorter (eqb (w / 2 ^ 26) 2) ∙ ap (λ (v : ℕ). eqb (w / 2 ^ 26) 2 && leads_back v) lower_is ∙ ap (λ (b : Bool). eqb (w / 2 ^ 26) 2 && b) same_region)
      where
        shorter : (b : Bool) → (b && true) && leads_back (lower (cut_of w)) ≡ b && leads_back (lower (cut_of w))
        shorter true = refl
        shorter false = refl
