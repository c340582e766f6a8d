-- Sizes of areas: what the test of one says, and its k.
use Prim.Native.Nat.{ℕ, zero, suc, ◌/◌, ◌%◌, ◌^◌, ◌<◌}
use mathlib.Core.Path.{◌≡◌, refl, sym, subst, ap, ◌∙◌}
use mathlib.Core.Bool.{Bool, true, false, not, ◌&&◌, false≢true}
use native.Mathlib.Omega.{arith}
use lib.Dec.{leb}
use native.Mathlib.Nat.{pow-suc}
use borrow.Author.Tests.{not-true, not-false}
use lib.Count.{count_trailing_zeros}
use Rattle.std.specs.Int.{is_power_of_two}
use Rattle.layout.specs.Layout.{is_code_size}
use Rattle.layout.proofs.Sizes.{exponent_of, power_holds, code_sizes}
use Rattle.allocator.specs.Record.{IsSize, Size}

module _ (n : ℕ) where
  abbrev is_size : Bool
  is_size = is_power_of_two n && (leb 16 n && leb n 65536)

  pub sized : is_size ≡ true → Size n
  unfolding is_code_size
  sized h =
      let x = exponent_of 4 13 n (sym (code_sizes n) ∙ h) in
      (x.exponent, ((x.least, omega (arith, x.most)), x.power))

  pub unsized : is_size ≡ false → ¬ (Size n)
  unfolding is_code_size
  unsized h s =
      false≢true (sym h ∙ code_sizes n
      ∙ power_holds n 4 13 (record { exponent = s.0; least = s.1.0.0; most = omega (arith, s.1.0.1); power = s.1.1 }))

-- its k is counted from the lowest bit on
count_power : (k m : ℕ) → k < m → count_trailing_zeros m (2 ^ k) ≡ k
unfolding count_trailing_zeros
count_power k zero h = absurd (omega (arith, h))
count_power zero (suc m) h = refl
count_power (suc k) (suc m) h =
    let d = pow-suc 2 k in
    let e : 2 ^ suc k % 2 ≡ 0 = omega (arith, d) in
    let f : 2 ^ suc k / 2 ≡ 2 ^ k = omega (arith, d) in
    rw (e, f) (ap suc (count_power k m (omega (arith, h))))

counted : (n k : ℕ) → IsSize k n → count_trailing_zeros 32 n ≡ k
counted n k s = ap (λ (m : ℕ). count_trailing_zeros 32 m) s.1 ∙ count_power k 32 (omega (arith, s.0.1))

-- a size has one k
pub one_exponent : (n j k : ℕ) → IsSize j n → IsSize k n → j ≡ k
one_exponent n j k v w = sym (counted n j v) ∙ counted n k w

module _ (n : ℕ) {t : Bool} (e : t ≡ is_size n) where
  -- of what is a size
  module _ (h : not t ≡ false) where
    pub exponent : IsSize (count_trailing_zeros 32 n) n
    exponent =
        let s = sized n (sym e ∙ not-false t h) in
        subst (λ (k : ℕ). IsSize k n) (sym (counted n s.0 s.1)) s.1

    pub exponent_byte : count_trailing_zeros 32 n < 256
    exponent_byte = omega (arith, exponent.0.1)

  pub no_size : not t ≡ true → ¬ (Size n)
  no_size h = unsized n (sym e ∙ not-true t h)
