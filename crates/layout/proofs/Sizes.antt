-- Sizes of areas: what the tests of a power of two say.
use Prim.Native.Nat.{ℕ, zero, suc, ◌+◌, ◌-◌, ◌*◌, ◌/◌, ◌%◌, ◌^◌, ◌≤◌, ◌<◌}
use mathlib.Core.Path.{◌≡◌, refl, sym, subst, ap, ◌∙◌}
use mathlib.Core.Bool.{Bool, true, false, not, ◌&&◌, ◌||◌}
use mathlib.Core.Logic.{◌↔◌}
use native.Mathlib.Nat.{zero-mod, pow-suc}
use native.Mathlib.Numerals.{unary_clauses}
use native.Mathlib.Omega.{arith}
use native.Mathlib.Decide.{dec_le, dec_lt}
use lib.Dec.{eqb, leb}
use lib.Count.{ones, ones_step}
use lib.Pow.{pow_mono, pow-lt, mod-mod-pow}
use borrow.Author.Tests.{eqb-true, eqb-false, leb-true, le-leb, not-false}
use Rattle.std.specs.Int.{is_power_of_two}
use Rattle.std.specs.Prelude.{count_ones}
use Rattle.std.proofs.Common.{le_refl}
use Rattle.std.proofs.lemmas.Nat.{ones_le_self, zero_from_ones, and_mask}
use Rattle.std.specs.Int.Bits.{bit_and}
use Rattle.word.proofs.Choice.{both}
use Rattle.layout.specs.Layout.{is_power, is_code_size, is_data_size}

-- the exponent
pub record Exponent (lo k n : ℕ) : Type 0 where
  pub exponent : ℕ
  pub least : lo ≤ exponent
  pub most : exponent < lo + k
  pub power : n ≡ 2 ^ exponent

pub exponent_of : (lo k n : ℕ) → is_power lo k n ≡ true → Exponent lo k n
exponent_of lo zero n e = absurd (mathlib.Core.Bool.false≢true e)
exponent_of lo (suc k) n e = go (eqb n (2 ^ lo)) refl e (exponent_of (suc lo) k n)
  where
    later : Exponent (suc lo) k n → Exponent lo (suc k) n
    later x = record { exponent = x.exponent; least = omega (arith, x.least); most = omega (arith, x.most); power = x.power }

    go : (b : Bool) → eqb n (2 ^ lo) ≡ b → b || is_power (suc lo) k n ≡ true → (is_power (suc lo) k n ≡ true → Exponent (suc lo) k n) → Exponent lo (suc k) n
    go true p q f = record { exponent = lo; least = omega arith; most = omega arith; power = eqb-true n (2 ^ lo) p }
    go false p q f = later (f q)

-- what a power of two from 2^k on divides, 2^k divides
pub divides : (k n y : ℕ) → (e : ℕ) × (n ≡ 2 ^ e) → 2 ^ k ≤ n → y % n ≡ 0 → y % 2 ^ k ≡ 0
divides k n y (e, p) h z = elim (dec_le k e) [
  | yes g ↦
      let q : e ≡ e - k + k = omega arith in
      let r : y % 2 ^ (e - k + k) ≡ 0 = subst (λ (x : ℕ). y % x ≡ 0) (p ∙ ap (λ (x : ℕ). 2 ^ x) q) z in
      sym (mod-mod-pow y (e - k) k) ∙ ap (λ (x : ℕ). x % 2 ^ k) r ∙ zero-mod (2 ^ k)
  | no g ↦ (let f : 2 ^ e < 2 ^ k = pow-lt (omega arith) in absurd (omega (arith, f, p, h)))
]

-- ---- the test by the count of ones is that by the exponents

halved : (d n : ℕ) → n ≤ d → count_ones n ≡ 1 → (e : ℕ) × (n ≡ 2 ^ e)
halved zero n h e = let z : n ≡ 0 = omega arith in absurd (omega (arith, e, ones_le_self n, z))
halved (suc d) n h e =
    let s = ones_step n in
    elim (dec_lt 0 (n % 2)) [
      | yes g ↦ (let z : n / 2 ≡ 0 = zero_from_ones (n / 2) (omega arith) in (0, omega (arith, z, g)))
      | no g ↦
          (let p : 0 < n = elim (dec_lt 0 n) [ yes q ↦ q | no q ↦ (let z : n ≡ 0 = omega arith in absurd (omega (arith, e, ones_le_self n, z))) ] in
          let r = halved d (n / 2) (omega arith) (omega arith) in
          (suc r.0, (let t : n ≡ n / 2 * 2 = omega arith in simp unary_clauses (t ∙ ap (λ (k : ℕ). k * 2) r.1))))
    ]

pub ones_power : (e : ℕ) → count_ones (2 ^ e) ≡ 1
unfolding ones
ones_power zero = refl
ones_power (suc e) =
    let d = pow-suc 2 e in
    let z : 2 ^ suc e / 2 ≡ 2 ^ e = omega (arith, d) in
    omega (arith, d, ones_step (2 ^ suc e), ones_power e, ap count_ones z)

-- a number has one 1 exactly where it is a power of two
pub one_bit : (n : ℕ) → ((count_ones n ≡ 1) ↔ ((e : ℕ) × (n ≡ 2 ^ e)))
one_bit n = (λ h. halved n n (le_refl n) h, λ p. rw p.1 (ones_power p.0))

pub power_holds : (n lo k : ℕ) → Exponent lo k n → is_power lo k n ≡ true
power_holds n lo zero x = absurd (omega (arith, x.least, x.most))
power_holds n lo (suc k) x = go (eqb n (2 ^ lo)) refl (power_holds n (suc lo) k)
  where
    go : (b : Bool) → eqb n (2 ^ lo) ≡ b → (Exponent (suc lo) k n → is_power (suc lo) k n ≡ true) → b || is_power (suc lo) k n ≡ true
    go true p f = refl
    go false p f =
        let later : x.exponent ≡ lo → ⊥ = λ z. eqb-false n (2 ^ lo) p (x.power ∙ ap (λ (k : ℕ). 2 ^ k) z) in
        f (record { exponent = x.exponent; least = omega (arith, x.least, later); most = omega (arith, x.most); power = x.power })

pub at_least : (lo e : ℕ) → 2 ^ lo ≤ 2 ^ e → lo ≤ e
at_least lo e q = elim (dec_lt e lo) [ yes g ↦ absurd (omega (arith, pow-lt g)) | no g ↦ omega arith ]

-- two tests, of which each holds where the other does
pub same_test : (a b : Bool) → (a ≡ true → b ≡ true) → (b ≡ true → a ≡ true) → a ≡ b
same_test true b p q = sym (p refl)
same_test false true p q = q refl
same_test false false p q = refl

sizes : (lo k n : ℕ) → is_power_of_two n && (leb (2 ^ lo) n && leb n (2 ^ (lo + k))) ≡ is_power lo (suc k) n
sizes lo k n = same_test _ _ to from
  where
    to : is_power_of_two n && (leb (2 ^ lo) n && leb n (2 ^ (lo + k))) ≡ true → is_power lo (suc k) n ≡ true
    to h =
        let p = both (is_power_of_two n) _ h in
        let q = both (leb (2 ^ lo) n) _ p.1 in
        let e = halved n n (le_refl n) (eqb-true (count_ones n) 1 p.0) in
        let z = e.1 in
        power_holds n lo (suc k)
        (record {
          exponent = e.0;
          least = at_least lo e.0 (let h = leb-true (2 ^ lo) n q.0 in rw z at h);
          most = omega (arith, at_least e.0 (lo + k) (let h = leb-true n (2 ^ (lo + k)) q.1 in rw z at h));
          power = z;
        })

    from : is_power lo (suc k) n ≡ true → is_power_of_two n && (leb (2 ^ lo) n && leb n (2 ^ (lo + k))) ≡ true
    from h =
        let x = exponent_of lo (suc k) n h in
        rw (x.power, ones_power x.exponent, le-leb _ _ (pow_mono x.least), le-leb (2 ^ x.exponent) (2 ^ (lo + k)) (pow_mono (omega (arith, x.most)))) refl

pub code_sizes : (n : ℕ) → is_power_of_two n && (leb 16 n && leb n 65536) ≡ is_code_size n
unfolding is_code_size
code_sizes n = sizes 4 12 n

pub data_sizes : (n : ℕ) → is_power_of_two n && (leb 4 n && leb n 65536) ≡ is_data_size n
unfolding is_data_size
data_sizes n = sizes 2 14 n

pub code_size_told : (n : ℕ) {t : Bool} → t ≡ is_power_of_two n && (leb 16 n && leb n 65536) → t ≡ is_code_size n
code_size_told n e = e ∙ code_sizes n

pub data_size_told : (n : ℕ) {t : Bool} → t ≡ is_power_of_two n && (leb 4 n && leb n 65536) → t ≡ is_data_size n
data_size_told n e = e ∙ data_sizes n

pub size_power : (n lo : ℕ) {t : Bool} → t ≡ is_power_of_two n && (leb lo n && leb n 65536) → not t ≡ false → is_power_of_two n ≡ true
size_power n lo e h = (both (is_power_of_two n) _ (sym e ∙ not-false _ h)).0

pub power_positive : (n : ℕ) → is_power_of_two n ≡ true → 0 < n
power_positive n h = omega (arith, eqb-true (count_ones n) 1 h, ones_le_self n)

pub remainder : (m n : ℕ) → is_power_of_two n ≡ true → bit_and m (n - 1) ≡ m % n
remainder m n h =
    let e = halved n n (le_refl n) (eqb-true (count_ones n) 1 h) in
    rw e.1 (and_mask m e.0)
