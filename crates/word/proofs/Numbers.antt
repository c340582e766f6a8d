-- What sign extension comes to in unsigned arithmetic, over the width.
use Rattle.std.proofs.Common.{◌≡◌, ℕ, suc, ◌+◌, ◌-◌, ◌*◌, ◌/◌, ◌%◌, ◌^◌, ◌<◌, ◌≤◌, ℤ, pos, negsuc, sym, ap, ◌∙◌, ⊎_elim, mod-lt, mod-eq_of_lt, arith, pow_pos, pow_mono, le-ltb, lt-ltb, to_z, of_z}
use mir.Val.{SFits}
use Rattle.std.specs.Int.{w32}
use Rattle.std.specs.Int.Signed.{shr_z, mag, mag_shr}
use Rattle.std.proofs.Math.Nat.{mul-mod_left, mul-le-mul_right}
use Rattle.std.proofs.lemmas.Bool.{cases_lt}
use Rattle.std.proofs.lemmas.Int.{to_z_pos, to_z-of_z}
use Rattle.std.proofs.Math.Facts.{sfits_to_z}
use Rattle.std.proofs.lemmas.Nat.{mod-pow-add, shl-shr, shl_below, pow-add, div-mul-add}
use Rattle.word.specs.Number.{signed_of, wrap_of, extend_of}

pub signed_low : (k x : ℕ) → x < 2 ^ (k - 1) → signed_of k x ≡ pos x
unfolding signed_of
signed_low k x h = rw (lt-ltb x (2 ^ (k - 1)) h)

pub signed_high : (k x : ℕ) → 2 ^ (k - 1) ≤ x → x < 2 ^ k → signed_of k x ≡ negsuc (2 ^ k - suc x)
unfolding signed_of
signed_high k x h l = rw (le-ltb x (2 ^ (k - 1)) h, lt-ltb x (2 ^ k) l)

-- sign extension of the low k bits
module _ (k x : ℕ) (width : k ≤ 32) where
  -- the top bit is clear
  pub extend_clear : x % 2 ^ k < 2 ^ (k - 1) → extend_of k x ≡ x % 2 ^ k
  unfolding extend_of
  extend_clear h =
      let m : 2 ^ k ≤ 2 ^ 32 = pow_mono width in
      let l : x % 2 ^ k < 2 ^ k = mod-lt x (pow_pos k) in
      rw (signed_low k (x % 2 ^ k) h) (mod-eq_of_lt (omega arith))

  -- the top bit is set
  pub extend_set : 2 ^ (k - 1) ≤ x % 2 ^ k → extend_of k x ≡ x % 2 ^ k + (2 ^ 32 - 2 ^ k)
  unfolding extend_of
  extend_set h =
      let m : 2 ^ k ≤ 2 ^ 32 = pow_mono width in
      let l : x % 2 ^ k < 2 ^ k = mod-lt x (pow_pos k) in
      let e : (2 ^ k - suc (x % 2 ^ k)) % 2 ^ 32 ≡ 2 ^ k - suc (x % 2 ^ k) = mod-eq_of_lt (omega arith) in
      rw (signed_high k (x % 2 ^ k) h l, e) (omega arith)

pub wrap_below : (k : ℕ) (z : ℤ) → wrap_of k z < 2 ^ k
wrap_below k (pos n) = mod-lt n (pow_pos k)
wrap_below k (negsuc n) = let p : 0 < 2 ^ k = pow_pos k in omega arith

negative_quotient : (d y m : ℕ) → (d + suc y) * m ≡ 2 ^ 32 → 0 < m → (2 ^ 32 - suc (y * m)) / m ≡ d
negative_quotient d y m e p =
    let f : 2 ^ 32 - suc (y * m) ≡ d * m + (m - 1) = omega arith in
    rw f (div-mul-add d m (m - 1) (omega arith))

-- the low j bits of a word, shifted up by k and back as a signed integer
module _ (j k x : ℕ) (whole : j + k ≡ 32) (some : 0 < j) where
  shifted : x * 2 ^ k % 2 ^ 32 ≡ x % 2 ^ j * 2 ^ k
  shifted =
      let e : x * 2 ^ k % 2 ^ (j + k) ≡ x % 2 ^ j * 2 ^ k = mod-pow-add (x * 2 ^ k) j k ∙ rw (shl-shr x k, mul-mod_left x (2 ^ k)) (omega arith) in
      rw whole at e

  clear : x % 2 ^ j < 2 ^ (j - 1) → of_z w32 (shr_z (to_z w32 (x % 2 ^ j * 2 ^ k)) (2 ^ k)) ≡ x % 2 ^ j
  clear h =
      let l : x % 2 ^ j * 2 ^ k < 2 ^ (j - 1 + k) = shl_below (x % 2 ^ j) (j - 1) k h in
      let e : j - 1 + k ≡ 31 = omega arith in
      let b : x % 2 ^ j * 2 ^ k < 2 ^ 31 = rw e at l in
      rw (to_z_pos w32 (x % 2 ^ j * 2 ^ k) b) (shl-shr (x % 2 ^ j) k)

  set : 2 ^ (j - 1) ≤ x % 2 ^ j → of_z w32 (shr_z (to_z w32 (x % 2 ^ j * 2 ^ k)) (2 ^ k)) ≡ x % 2 ^ j + (2 ^ 32 - 2 ^ j)
  set h =
      let l : x % 2 ^ j < 2 ^ j = mod-lt x (pow_pos j) in
      let p : 0 < 2 ^ k = pow_pos k in
      let half : j - 1 + k ≡ 31 = omega arith in
      let e : 2 ^ (j - 1) * 2 ^ k ≡ 2 ^ 31 = rw (← pow-add 2 (j - 1) k) (ap (λ (n : ℕ). 2 ^ n) half) in
      let w : 2 ^ j * 2 ^ k ≡ 2 ^ 32 = rw (← pow-add 2 j k) (ap (λ (n : ℕ). 2 ^ n) whole) in
      let b : 2 ^ 31 ≤ x % 2 ^ j * 2 ^ k = omega (arith, mul-le-mul_right (2 ^ k) h, e) in
      let d : 2 ^ j - suc (x % 2 ^ j) + suc (x % 2 ^ j) ≡ 2 ^ j = omega arith in
      let q : (2 ^ 32 - suc (x % 2 ^ j * 2 ^ k)) / 2 ^ k ≡ 2 ^ j - suc (x % 2 ^ j) =
      negative_quotient (2 ^ j - suc (x % 2 ^ j)) (x % 2 ^ j) (2 ^ k) (rw d w) p in
      let n : j ≤ 32 = omega arith in
      let m : 2 ^ j ≤ 2 ^ 32 = pow_mono n in
      rw (le-ltb (x % 2 ^ j * 2 ^ k) (2 ^ 31) b, q) (omega arith)

  extend_shifted : of_z w32 (shr_z (to_z w32 (x * 2 ^ k % 2 ^ 32)) (2 ^ k)) ≡ extend_of j x
  extend_shifted =
      rw shifted
      (⊎_elim
      (λ l. clear l ∙ sym (extend_clear j x (omega arith) l))
      (λ l. set l ∙ sym (extend_set j x (omega arith) l))
      (cases_lt (x % 2 ^ j) (2 ^ (j - 1))))

-- the same, as the code casts what it gives
pub extend_word : (j x : ℕ) → 0 < j → j ≤ 32 → of_z w32 (to_z w32 (of_z w32 (shr_z (to_z w32 (x * 2 ^ (32 - j) % 2 ^ 32)) (2 ^ (32 - j))))) ≡ extend_of j x
extend_word j x p l =
    let n : ℕ = x * 2 ^ (32 - j) % 2 ^ 32 in
    let f : SFits w32 (to_z w32 n) = sfits_to_z {w = w32} {n = n} (record { fits = omega arith }) in
    let h : mag (shr_z (to_z w32 n) (2 ^ (32 - j))) < 2 ^ 31 = omega (arith, mag_shr (to_z w32 n) (2 ^ (32 - j)), f.sfits) in
    ap (of_z w32) (to_z-of_z w32 (shr_z (to_z w32 n) (2 ^ (32 - j))) (record { sfits = h })) ∙ extend_shifted j (32 - j) x (omega arith) p

-- what `extend` is proved by
pub ruleset casts = (to_z-of_z, extend_word)
