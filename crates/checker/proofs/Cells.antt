-- Masks without holes keep cells apart (document 02, Ticket 7): where the mask of an access goes with its width, a value is masked to its place in the
-- table, and so two places in the table to two cells; where it has a hole, two places go to one.
use Prim.Native.Nat.{ℕ, zero, suc, ◌+◌, ◌-◌, ◌*◌, ◌/◌, ◌%◌, ◌^◌, ◌≤◌, ◌<◌}
use mathlib.Core.Path.{◌≡◌, refl, sym, ap, subst, ◌∙◌}
use mathlib.Core.List.{List}
use native.Mathlib.Nat.{zero-mul, add-mod_right, mod_self, mod-lt, mod-eq_of_lt, div-add-mod', pow-suc}
use native.Mathlib.Omega.{arith}
use native.Mathlib.Decide.{dec_lt}
use Rattle.std.specs.Int.Bits.{bit_and}
use Rattle.std.specs.Int.{bit_at}
use Rattle.std.proofs.lemmas.Nat.{pow_pos, and_comm, and_mod, mod-pow-add}
use Rattle.std.proofs.lemmas.Nat.Bits.{and_high_mask, and_pow, bit_at_cat_low, bit_at_above}
use Rattle.std.proofs.Math.Pow.{mod-mod-pow}
use Rattle.std.specs.Prelude.{Option, Some, None, pos}
use lib.Bits.{and_le_r}
use lib.Count.{ones}
use lib.Pow.{pow_mono}
use Rattle.layout.proofs.Sizes.{at_least, divides, one_bit}
use Rattle.layout.specs.declared.Layout.{Layout}
use Rattle.isa.specs.declared.width.Width.{Width}
use Rattle.isa.specs.declared.width.Width.TheVariants.{Byte, Half, Word}
use Rattle.isa.specs.declared.kind.Instruction.{Instruction}
use Rattle.isa.specs.Width.{bytes_of}
use Rattle.class.specs.Class.{width_accessed}
use Rattle.rules.specs.Not.{Not}
use Rattle.checker.specs.Lawful.{FitsData, Stands, Accesses, Guarded, width_of, words_in, Lawful}
use Rattle.checker.specs.Cells.{cell}
use Rattle.checker.specs.Refusal.{Holed}

-- ---- numbers

-- width w is a power of two, and with mask m it makes one
module _ (m w e j : ℕ) (p : w ≡ 2 ^ j) (q : m + w ≡ 2 ^ e) where
  least : 0 < w
  least = omega (arith, p, pow_pos j)

  -- every value is masked to its place in the table
  pub cell_of : (a : ℕ) → bit_and a m ≡ cell m w a
  cell_of a =
      let h : j ≤ e = at_least j e (omega (arith, p, q)) in
      let b : ℕ = a % 2 ^ e in
      let f : bit_and a m < 2 ^ e = omega (arith, and_le_r a m, q, least) in
      let cut : bit_and a m ≡ bit_and b m =
      sym (mod-eq_of_lt f) ∙ and_mod a m e ∙ ap (bit_and b) (mod-eq_of_lt (omega (arith, q, least))) in
      let g : m ≡ 2 ^ e - 2 ^ j = omega (arith, p, q) in
      let high : bit_and b m ≡ b / 2 ^ j * 2 ^ j = ap (bit_and b) g ∙ and_high_mask e j h b (mod-lt a (pow_pos e)) in
      let r : b % 2 ^ j ≡ a % 2 ^ j = subst (λ (n : ℕ). a % 2 ^ n % 2 ^ j ≡ a % 2 ^ j) (omega (arith, h)) (mod-mod-pow a (e - j) j) in
      omega (arith, cut, high, div-add-mod' b (2 ^ j), r, ap (λ (n : ℕ). a % n) p, ap (λ (n : ℕ). a % n) q)

  pub cell_itself : (a : ℕ) → a % w ≡ 0 → a < m + w → bit_and a m ≡ a
  cell_itself a h l = omega (arith, cell_of a, h, mod-eq_of_lt l)

  pub cells_apart : (a b : ℕ) → a % w ≡ 0 → b % w ≡ 0 → a < m + w → b < m + w → Not (a ≡ b) → Not (bit_and a m ≡ bit_and b m)
  cells_apart a b g h k l n s = n (sym (cell_itself a g k) ∙ s ∙ cell_itself b h l)

-- the place of the lowest 1 of a number
record Lowest (n : ℕ) : Type 0 where
  place : ℕ
  one : n % 2 ^ suc place ≡ 2 ^ place

doubled : (n i : ℕ) → n % 2 ≡ 0 → n / 2 % 2 ^ suc i ≡ 2 ^ i → n % 2 ^ suc (suc i) ≡ 2 ^ suc i
doubled n i z h =
    let e : suc i + 1 ≡ suc (suc i) = omega arith in
    let d : n % 2 ^ suc (suc i) ≡ n / 2 % 2 ^ suc i * 2 + n % 2 = rw (← e) (mod-pow-add n (suc i) 1) in
    omega (arith, d, h, z, pow-suc 2 i)

lowest : (fuel n : ℕ) → n < fuel → 0 < n → Lowest n
lowest zero n h g = absurd (omega (arith, h))
lowest (suc fuel) n h g = elim (dec_lt 0 (n % 2)) [
  | yes o ↦ record { place = 0; one = omega (arith, o) }
  | no o ↦
      let r = lowest fuel (n / 2) (omega (arith, h, g)) (omega (arith, o, g)) in
      record { place = suc r.place; one = doubled n r.place (omega (arith, o)) r.one }
]

-- where they make none, a multiple of the width below the mask is masked to the cell of 0 (2 to the place of the sum's lowest 1)
module _ (m w j : ℕ) (p : w ≡ 2 ^ j) (z : m % w ≡ 0) (n : Not ((e : ℕ) × (m + w ≡ 2 ^ e))) where
  low : Lowest (m + w)
  low = lowest (suc (m + w)) (m + w) (omega arith) (omega (arith, p, pow_pos j))

  abbrev i : ℕ
  i = low.place

  abbrev above : ℕ
  above = (m + w) / 2 ^ suc i

  -- it is no lower than the width
  deep : j ≤ i
  deep = elim (dec_lt i j) [
    | yes h ↦
        let f : 2 ^ suc i ≤ 2 ^ j = pow_mono (omega (arith, h)) in
        absurd (omega (arith, divides (suc i) w (m + w) (j, p) (omega (arith, f, p)) (add-mod_right m w ∙ z), low.one, pow_pos i))
    | no h ↦ omega arith
  ]

  narrow : w ≤ 2 ^ i
  narrow = let f : 2 ^ j ≤ 2 ^ i = pow_mono deep in omega (arith, f, p)

  -- the mask has no 1 there
  hole : bit_and (2 ^ i) m ≡ 0
  hole =
      let s : m ≡ above * 2 ^ suc i + (2 ^ i - w) = omega (arith, div-add-mod' (m + w) (2 ^ suc i), low.one, narrow) in
      let b : bit_at m i ≡ 0 =
      ap (λ (k : ℕ). bit_at k i) s
      ∙ bit_at_cat_low above (suc i) (2 ^ i - w) i (omega arith)
      ∙ bit_at_above (2 ^ i - w) i i (omega (arith, p, pow_pos j, pow_pos i)) (omega arith) in
      and_comm (2 ^ i) m ∙ and_pow m i ∙ ap (λ (k : ℕ). k * 2 ^ i) b ∙ zero-mul (2 ^ i)

  -- but one above
  inside : 2 ^ i < m
  inside = elim (dec_lt (2 ^ i) m) [
    | yes h ↦ h
    | no h ↦ elim (dec_lt (m + w) (2 ^ suc i)) [
      | yes g ↦ absurd (n (i, sym (mod-eq_of_lt g) ∙ low.one))
      | no g ↦ absurd (n (suc i, omega (arith, h, g, narrow, pow-suc 2 i)))
    ]
  ]

  pub hole_shares : (b : ℕ) × ((b % w ≡ 0) × ((0 < b) × ((b < m) × (bit_and b m ≡ bit_and 0 m))))
  hole_shares =
      let f : 2 ^ i % 2 ^ j ≡ 0 = divides j (2 ^ i) (2 ^ i) (i, refl) (pow_mono deep) (mod_self (2 ^ i)) in
      (2 ^ i, (ap (λ (k : ℕ). 2 ^ i % k) p ∙ f, (pow_pos i, (inside, hole))))

-- ---- modules

width_power : (w : Option Width) → Not (bytes_of w ≡ 0) → (j : ℕ) × (bytes_of w ≡ 2 ^ j)
width_power None n = absurd (n refl)
width_power (Some Byte) n = (0, refl)
width_power (Some Half) n = (1, refl)
width_power (Some Word) n = (2, refl)

-- every access of a lawful module
module _ (l : Layout) (len : ℕ) (img : List ℕ) (ok : Lawful l len img) (i : ℕ) (h : i < words_in l) (x : Instruction) (s : Stands img i x) (u : Accesses x)
    (m : ℕ) (g : Guarded img i x.rs 26 m) where
  width : (j : ℕ) × (width_of x ≡ 2 ^ j)
  width = width_power (width_accessed x.kind) u

  reach : (e : ℕ) × (m + width_of x ≡ 2 ^ e)
  reach = ok.r25 i h x s u m g

  pub row_kept : (a : ℕ) → bit_and a m ≡ cell m (width_of x) a
  row_kept = cell_of m (width_of x) reach.0 width.0 width.1 reach.1

  pub row_itself : (a : ℕ) → a % width_of x ≡ 0 → a < m + width_of x → bit_and a m ≡ a
  row_itself = cell_itself m (width_of x) reach.0 width.0 width.1 reach.1

  pub rows_apart : (a b : ℕ) → a % width_of x ≡ 0 → b % width_of x ≡ 0 → a < m + width_of x → b < m + width_of x → Not (a ≡ b) → Not (bit_and a m ≡ bit_and b m)
  rows_apart = cells_apart m (width_of x) reach.0 width.0 width.1 reach.1

-- every access that 25 refuses: its mask sends two rows to one cell
pub rows_shared : (l : Layout) (img : List ℕ) (i : ℕ) → Holed l img i
    → (x : Instruction)
    × (Stands img i x
    × ((m : ℕ)
    × (Guarded img i x.rs 26 m × ((b : ℕ) × ((b % width_of x ≡ 0) × ((0 < b) × ((b < m) × (bit_and b m ≡ bit_and 0 m))))))))
rows_shared l img i (x, (s, (u, (m, (g, (f, n)))))) =
    let w = width_power (width_accessed x.kind) u in
    (x, (s, (m, (g, hole_shares m (width_of x) w.0 w.1 f.1.1.0 n))))

-- the author's mask, 0x34 with words: it fitted 64 bytes, and masked the rows at 0 and at 8 to one cell; with the width it is 56, no power of two
pub shared_cell : FitsData 64 0x34 (pos 0) 4 × ((bit_and 0 0x34 ≡ bit_and 8 0x34) × Not ((e : ℕ) × (0x34 + 4 ≡ 2 ^ e)))
unfolding ones
shared_cell = ((0, (refl, (refl, (refl, omega arith)))), (refl, λ p. (let c : 3 ≡ 1 = (one_bit 56).1 p in omega (arith, c))))
