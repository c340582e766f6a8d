-- Guards: what the tests of the code say.
use Prim.Native.Nat.{ℕ, ◌+◌, ◌%◌, ◌^◌, ◌≤◌, ◌<◌}
use mathlib.Core.Path.{◌≡◌, refl, sym}
use mathlib.Core.Bool.{true, false, ◌&&◌}
use mathlib.Core.List.{[], ◌∷◌, map}
use native.Mathlib.Omega.{arith}
use lib.Dec.{eqb, leb}
use Rattle.isa.specs.declared.width.Width.{Width}
use Rattle.isa.specs.declared.width.Width.TheVariants.{Byte, Half, Word}
use Rattle.isa.specs.Width.{bytes_in}
use Rattle.word.proofs.Choice.{both}
use Rattle.word.proofs.Numbers.{signed_low, signed_high}
use Rattle.view.specs.Guard.{is_mask_of, mask_in}
use Rattle.quick.proofs.Guards.{mask_value}
use Rattle.rules.specs.Offset.{offset_of}
use Rattle.rules.specs.Rules.{is_guarded, in_bundle, fits_data}

-- the third and the fourth word of a bundle have two words before them in it
pub in_bundle_law : map in_bundle (0 ∷ 1 ∷ 2 ∷ 3 ∷ 4 ∷ 5 ∷ 6 ∷ 7 ∷ []) ≡ false ∷ false ∷ true ∷ true ∷ false ∷ false ∷ true ∷ true ∷ []
in_bundle_law = refl

pub bytes_some : (w : Width) → 0 < bytes_in w
bytes_some Byte = omega arith
bytes_some Half = omega arith
bytes_some Word = omega arith

module _ (size m v w : ℕ) where
  pub negative_offset : 2 ^ 15 ≤ v % 2 ^ 16 → false ≡ fits_data size m (offset_of v) w
  unfolding offset_of fits_data
  negative_offset h = rw (signed_high 16 (v % 2 ^ 16) h (omega arith))

  pub offset_fits : v % 2 ^ 16 < 2 ^ 15
      → fits_data size m (offset_of v) w ≡ eqb (m % w) 0 && (eqb (v % 2 ^ 16 % w) 0 && leb (m + v % 2 ^ 16 + w) size)
  unfolding offset_of fits_data
  offset_fits h = rw (signed_low 16 (v % 2 ^ 16) h)

pub masked : (a b base r : ℕ) → true ≡ is_guarded a b base r → mask_in a ≡ a % 2 ^ 16
unfolding is_guarded
masked a b base r q = mask_value a r (both (is_mask_of r a) _ (sym q)).0
