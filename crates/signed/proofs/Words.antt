-- Words as the library casts them to signed integers and back.
use Rattle.std.proofs.Common.{◌≡◌, ℕ, zero, suc, ◌/◌, ◌^◌, ◌<◌, ◌≤◌, true, false, ℤ, pos, negsuc, ◌*ℤ◌, neg_ℤ, ◌∙◌, ⊎_elim, div-le_self, arith, le-ltb, lt-ltb, le-leb, to_z, of_z, Some, None}
use mir.Val.{SFits}
use borrow.Author.Tests.{lt-leb}
use Rattle.std.specs.Int.{w32, w64}
use Rattle.std.specs.Int.Signed.{mag, quot_z, shr_z, mag_shr, nat_abs-le}
use Rattle.std.proofs.lemmas.Bool.{cases_lt}
use Rattle.std.proofs.lemmas.Int.{of_z-to_z, to_z-of_z, fits_signed_mul}
use Rattle.std.proofs.Math.Facts.{sfits_to_z}
use Rattle.word.specs.Number.{signed_of, fits_of, wrap_of}
use Rattle.word.proofs.Numbers.{signed_low, signed_high}
use Rattle.signed.specs.Checked.{checked_of}

pub signed_word : (x : ℕ) → x < 2 ^ 32 → to_z w32 x ≡ signed_of 32 x
signed_word x h =
    ⊎_elim
    (λ l. rw (signed_low 32 x l, lt-ltb x (2 ^ 31) l))
    (λ l. rw (signed_high 32 x l h, le-ltb x (2 ^ 31) l))
    (cases_lt x (2 ^ 31))

signed_below : (x : ℕ) → x < 2 ^ 32 → mag (signed_of 32 x) < 2 ^ 31
signed_below x h = rw (← signed_word x h) (sfits_to_z {w = w32} {n = x} (record { fits = h })).sfits

wrap_word : (z : ℤ) → mag z < 2 ^ 32 → of_z w32 z ≡ wrap_of 32 z
wrap_word (pos n) h = omega arith
wrap_word (negsuc n) h = omega arith

wrap_double : (z : ℤ) → mag z < 2 ^ 64 → of_z w64 z ≡ wrap_of 64 z
wrap_double (pos n) h = omega arith
wrap_double (negsuc n) h = omega arith

-- the word that the code casts a signed integer to
pub cast_word : (z : ℤ) → mag z < 2 ^ 31 → of_z w32 (to_z w32 (of_z w32 z)) ≡ wrap_of 32 z
cast_word z h = rw (to_z-of_z w32 z (record { sfits = h })) (wrap_word z (omega arith))

cast_double : (z : ℤ) → mag z < 2 ^ 63 → of_z w64 (to_z w64 (of_z w64 z)) ≡ wrap_of 64 z
cast_double z h = rw (to_z-of_z w64 z (record { sfits = h })) (wrap_double z (omega arith))

-- ---- sums that fit

fits_true : (z : ℤ) → mag z < 2 ^ 31 → fits_of 32 z ≡ true
fits_true (pos n) h = lt-ltb n (2 ^ 31) h
fits_true (negsuc n) h = rw (le-leb n 0x7FFFFFFF (omega arith))

fits_false : (z : ℤ) → 2 ^ 31 ≤ mag z → fits_of 32 z ≡ false
fits_false (pos n) h = le-ltb n (2 ^ 31) h
fits_false (negsuc n) h = rw (lt-leb n 0x7FFFFFFF (omega arith))

checked_some : (z : ℤ) → SFits w32 z → Some (wrap_of 32 z) ≡ checked_of z
unfolding checked_of
checked_some z f = rw (fits_true z f.sfits)

pub checked_none : (z : ℤ) → (SFits w32 z → ⊥) → None ≡ checked_of z
unfolding checked_of
checked_none z f = ⊎_elim (λ l. absurd (f (record { sfits = l }))) (λ l. rw (fits_false z l)) (cases_lt (mag z) (2 ^ 31))

pub checked_uncast : (z : ℤ) → SFits w32 z → Some (of_z w32 (to_z w32 (of_z w32 z))) ≡ checked_of z
checked_uncast z f = rw (cast_word z f.sfits) (checked_some z f)

-- ---- the quotient of -2^31 and -1 alone is no signed word

mag_neg : (n : ℕ) → mag (neg_ℤ (pos n)) ≤ n
mag_neg zero = omega arith
mag_neg (suc n) = omega arith

mag_quot : (a b : ℤ) → mag (quot_z a b) ≤ suc (mag a)
mag_quot (pos a) (pos b) = omega (arith, div-le_self a b)
mag_quot (pos a) (negsuc b) = omega (arith, mag_neg (a / suc b), div-le_self a (suc b))
mag_quot (negsuc a) (pos b) = omega (arith, mag_neg (suc a / b), div-le_self (suc a) b)
mag_quot (negsuc a) (negsuc b) = omega (arith, div-le_self (suc a) (suc b))

bits_below : (z : ℤ) → mag z < 2 ^ 32 → of_z w32 z < 2 ^ 32
bits_below (pos n) h = h
bits_below (negsuc n) h = omega arith

pub quotient_word : (a b : ℕ) → a < 2 ^ 32 → of_z w32 (to_z w32 (of_z w32 (quot_z (signed_of 32 a) (signed_of 32 b)))) ≡ wrap_of 32 (quot_z (signed_of 32 a) (signed_of 32 b))
quotient_word a b h =
    let q : ℤ = quot_z (signed_of 32 a) (signed_of 32 b) in
    let l : mag q < 2 ^ 32 = omega (arith, mag_quot (signed_of 32 a) (signed_of 32 b), signed_below a h) in
    of_z-to_z w32 (of_z w32 q) (bits_below q l) ∙ wrap_word q l

-- ---- products and shifts

pub product_word : (a b : ℕ) → a < 2 ^ 32 → b < 2 ^ 32 → of_z w64 (to_z w64 (of_z w64 (signed_of 32 a *ℤ signed_of 32 b))) ≡ wrap_of 64 (signed_of 32 a *ℤ signed_of 32 b)
product_word a b ha hb =
    let x : ℤ = signed_of 32 a in
    let y : ℤ = signed_of 32 b in
    let f : SFits w64 (x *ℤ y) =
    fits_signed_mul w64 x y (2 ^ 31) (2 ^ 31) (nat_abs-le x (signed_below a ha)) (nat_abs-le y (signed_below b hb)) (omega arith) in
    cast_double (x *ℤ y) f.sfits

pub shift_word : (x m : ℕ) → x < 2 ^ 32 → of_z w32 (to_z w32 (of_z w32 (shr_z (signed_of 32 x) m))) ≡ wrap_of 32 (shr_z (signed_of 32 x) m)
shift_word x m h = cast_word _ (omega (arith, mag_shr (signed_of 32 x) m, signed_below x h))

-- what the functions are proved by
pub ruleset casts = (to_z-of_z, signed_word, cast_word, quotient_word, product_word, shift_word, checked_none, checked_uncast)
