-- Multiples of powers of two.
use Prim.Native.Nat.{ℕ, ◌+◌, ◌-◌, ◌*◌, ◌/◌, ◌%◌, ◌^◌, ◌≤◌, ◌<◌}
use mathlib.Core.Path.{◌≡◌, ap, ◌∙◌}
use mathlib.Core.Bool.{true}
use native.Mathlib.Omega.{arith}
use lib.Pow.{pow_mono, pow-add}
use Rattle.std.proofs.Math.Nat.{mod-lt, mul-suc, div-add-mod, mul-le-mul_left, lt_of_mul-lt-mul_left, mul-mod_left, mul-mod_right}
use Rattle.std.specs.Int.{is_power_of_two}
use Rattle.std.specs.Int.Bits.{bit_and}
use Rattle.layout.proofs.Sizes.{remainder, power_positive, ones_power}
use Rattle.allocator.specs.Record.{Size}
use Rattle.allocator.specs.Pass.{rounded}

pub cut : (n x : ℕ) → is_power_of_two n ≡ true → x + (n - 1) - bit_and (x + (n - 1)) (n - 1) ≡ rounded n x
cut n x h =
    let e : x + (n - 1) ≡ x + n - 1 = omega (arith, power_positive n h) in
    rw (remainder (x + (n - 1)) n h, e)

pub power_most : (k : ℕ) → k ≤ 16 → 2 ^ k ≤ 65536
power_most k h = pow_mono h

-- 1 shifted by k, as a word
pub shifted_tested : (k : ℕ) → k ≤ 16 → is_power_of_two (1 * 2 ^ k % 4294967296) ≡ true
shifted_tested k h =
    let e : 1 * 2 ^ k % 4294967296 ≡ 2 ^ k = omega (arith, power_most k h) in
    rw (e, ones_power k)

-- of two multiples the larger is a multiple further on
pub further : (n b c : ℕ) → b % n ≡ 0 → c % n ≡ 0 → b < c → b + n ≤ c
further n b c p q h =
    let x : n * (b / n) ≡ b = omega (arith, div-add-mod b n, p) in
    let y : n * (c / n) ≡ c = omega (arith, div-add-mod c n, q) in
    let l : n * (b / n) < n * (c / n) = omega (arith, x, y, h) in
    let s = mul-le-mul_left n (lt_of_mul-lt-mul_left n l) in
    omega (arith, x, y, s, mul-suc n (b / n))

module _ (n x : ℕ) (h : 0 < n) where
  pub rounded_multiple : rounded n x % n ≡ 0
  rounded_multiple =
      let y = x + n - 1 in
      let e : y - y % n ≡ n * (y / n) = omega (arith, div-add-mod y n) in
      rw e (mul-mod_right n (y / n))

  pub rounded_least : x ≤ rounded n x
  rounded_least = omega (arith, mod-lt (x + n - 1) h)

  pub rounded_most : rounded n x < x + n
  rounded_most = omega (arith, h)

pub power_some : (k : ℕ) → 0 < 2 ^ k
power_some k = pow_mono {i = 0} {j = k} (omega arith)

-- what the keeper has is a multiple of every size
pub kept_multiple : (k : ℕ) → k ≤ 16 → 1048576 % 2 ^ k ≡ 0
kept_multiple k h =
    let e : 20 ≡ 20 - k + k = omega (arith, h) in
    let f : 2 ^ (20 - k + k) ≡ 2 ^ (20 - k) * 2 ^ k = pow-add 2 (20 - k) k in
    let g : 1048576 ≡ 2 ^ (20 - k) * 2 ^ k = ap (λ (n : ℕ). 2 ^ n) e ∙ f in
    rw g (mul-mod_left (2 ^ (20 - k)) (2 ^ k))

module _ (n : ℕ) (s : Size n) where
  pub size_tested : is_power_of_two n ≡ true
  size_tested = rw (s.1.1, ones_power s.0)

  pub size_most : n ≤ 65536
  size_most = omega (arith, s.1.1, power_most s.0 s.1.0.1)
