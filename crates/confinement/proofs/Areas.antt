-- The two areas of a lawful module, and what a guard makes of a register: a displacement in its area.
use Prim.Native.Nat.{ℕ, ◌+◌, ◌%◌, ◌^◌, ◌≤◌, ◌<◌}
use mathlib.Core.Path.{◌≡◌, refl, ◌∙◌, subst}
use mathlib.Core.List.{List}
use native.Mathlib.Nat.{mod_self}
use native.Mathlib.Omega.{arith}
use lib.Bits.{bit_and, bit_or, or_comm, and_le_r}
use Rattle.std.specs.Prelude.{Option, Some, None}
use Rattle.word.proofs.Bits.{mask_multiple, or_sum}
use Rattle.isa.specs.declared.kind.Instruction.{Instruction}
use Rattle.isa.specs.declared.width.Width.{Width}
use Rattle.isa.specs.declared.width.Width.TheVariants.{Byte, Half, Word}
use Rattle.isa.specs.Width.{bytes_of}
use Rattle.class.specs.Class.{width_accessed}
use Rattle.layout.specs.declared.Layout.{Layout}
use Rattle.layout.proofs.Sizes.{divides}
use Rattle.rules.specs.Offset.{offset_of}
use Rattle.rules.specs.Not.{Not}
use Rattle.checker.specs.Lawful.{Stands, Accesses, ByRegister, width_of, Guarded, FitsData, FitsCode, Placed, words_in, Lawful}
use Rattle.checker.proofs.Guarded.{together}

pub data Area : Type 0 where
  Data : Area
  Code : Area

-- the register that holds the area's base
abbrev pub base_register : Area → ℕ
base_register Data = 26
base_register Code = 27

abbrev pub base_of : Layout → Area → ℕ
base_of l Data = l.data_base
base_of l Code = l.code_base

abbrev pub size_of : Layout → Area → ℕ
size_of l Data = l.data_size
size_of l Code = l.code_size

-- the instructions that need a guard for it
abbrev pub Uses : Area → Instruction → Type 0
Uses Data x = Accesses x
Uses Code x = ByRegister x

-- displacement d is one that their guards allow: a masked value is as good as the mask
abbrev pub Fits : Layout → Area → Instruction → ℕ → Type 0
Fits l Data x d = FitsData l.data_size d (offset_of x.value) (width_of x)
Fits l Code x d = FitsCode l.code_size d

-- ---- widths

mask_width : (x : Option Width) → Not (bytes_of x ≡ 0) → (v m : ℕ) → m % bytes_of x ≡ 0 → bit_and v m % bytes_of x ≡ 0
mask_width None u v m h = absurd (u refl)
mask_width (Some Byte) u v m h = mask_multiple 0 v m h
mask_width (Some Half) u v m h = mask_multiple 1 v m h
mask_width (Some Word) u v m h = mask_multiple 2 v m h

pub sum_width : (x : Option Width) → Not (bytes_of x ≡ 0) → (b d o : ℕ) → b % 4 ≡ 0 → d % bytes_of x ≡ 0 → o % bytes_of x ≡ 0
    → (b + d + o) % bytes_of x ≡ 0
sum_width None u b d o p q r = absurd (u refl)
sum_width (Some Byte) u b d o p q r = omega arith
sum_width (Some Half) u b d o p q r = omega arith
sum_width (Some Word) u b d o p q r = omega arith

-- ---- displacements

pub fits_mask : (l : Layout) (a : Area) (x : Instruction) → Uses a x → (v m : ℕ) → Fits l a x m → Fits l a x (bit_and v m)
fits_mask l Data x u v m (o, (z, (p, (q, r)))) =
    let h : bit_and v m ≤ m = and_le_r v m in
    (o, (z, (mask_width (width_accessed x.kind) u v m p, (q, omega arith))))
fits_mask l Code x u v m (p, q) =
    let h : bit_and v m ≤ m = and_le_r v m in
    (mask_multiple 4 v m p, omega arith)

pub fits_below : (l : Layout) (a : Area) (x : Instruction) → Uses a x → (d : ℕ) → Fits l a x d → d < size_of l a
fits_below l Data x u d (o, (z, (p, (q, r)))) = omega (arith, r, u)
fits_below l Code x u d (p, q) = omega (arith, q)

-- ---- the areas of a lawful module

module _ (l : Layout) (len : ℕ) (img : List ℕ) (ok : Lawful l len img) where
  pub size_power : (a : Area) → (e : ℕ) × (size_of l a ≡ 2 ^ e)
  size_power Data = ok.r3.0
  size_power Code = ok.r2.0

  pub placed : (a : Area) → Placed (base_of l a) (size_of l a) len
  placed Data = ok.r5
  placed Code = ok.r4

  size_least : (a : Area) → 4 ≤ size_of l a
  size_least Data = ok.r3.1.0
  size_least Code = omega (arith, ok.r2.1.0)

  pub base_aligned : (a : Area) → base_of l a % 4 ≡ 0
  base_aligned a = divides 2 (size_of l a) (base_of l a) (size_power a) (size_least a) (placed a).0

  pub code_bundles : l.code_size % 16 ≡ 0
  code_bundles =
      divides 4 l.code_size l.code_size ok.r2.0 ok.r2.1.0 (mod_self l.code_size)

  pub size_most : (a : Area) → size_of l a ≤ 65536
  size_most Data = ok.r3.1.1
  size_most Code = ok.r2.1.1

  -- OR with the base of an area adds it
  pub joins : (a : Area) (d : ℕ) → d < size_of l a → bit_or d (base_of l a) ≡ base_of l a + d
  joins a d h =
      let (e, p) = size_power a in
      or_comm d (base_of l a) ∙ or_sum e (base_of l a) d (subst (λ (x : ℕ). base_of l a % x ≡ 0) p (placed a).0) (subst (λ (x : ℕ). d < x) p h)

  -- an instruction that needs a guard has a fitting one
  pub guard_of : (a : Area) (i : ℕ) (x : Instruction) → i < words_in l → Stands img i x → Uses a x → (m : ℕ) × (Guarded img i x.rs (base_register a) m × Fits l a x m)
  guard_of Data i x h s u = together l img i (ok.r12 i h) (ok.r22 i h) x s u
  guard_of Code i x h s u = ok.r13 i h x s u
