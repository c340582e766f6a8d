-- Branches and jumps lead to multiples of four.
use Prim.Native.Nat.{ℕ, ◌*◌, ◌%◌, ◌^◌, ◌≤◌, ◌<◌}
use mathlib.Core.Path.{◌≡◌}
use mathlib.Core.Logic.{⊎_elim}
use native.Mathlib.Omega.{arith}
use Rattle.word.specs.Number.{extend_of}
use Rattle.word.proofs.Numbers.{extend_clear, extend_set}
use Rattle.std.proofs.lemmas.Bool.{cases_lt}
use Rattle.effect.specs.Sound.{Aligned}
use Rattle.branch.specs.Branch.{slot_of, relative_of, region_of}

-- a multiple of four of 18 bits stays one when it is extended
extend_aligned : (x : ℕ) → extend_of 18 (x * 4) % 4 ≡ 0
extend_aligned x = ⊎_elim low high (cases_lt (x * 4 % 2 ^ 18) (2 ^ 17))
  where
    low : x * 4 % 2 ^ 18 < 2 ^ 17 → extend_of 18 (x * 4) % 4 ≡ 0
    low h = rw (extend_clear 18 (x * 4) (omega arith) h) (omega arith)

    high : 2 ^ 17 ≤ x * 4 % 2 ^ 18 → extend_of 18 (x * 4) % 4 ≡ 0
    high h = rw (extend_set 18 (x * 4) (omega arith) h) (omega arith)

pub slot_aligned : {pc : ℕ} → Aligned pc → Aligned (slot_of pc)
unfolding slot_of
slot_aligned (h, k) = (omega arith, omega arith)

pub relative_aligned : {pc : ℕ} (v : ℕ) → Aligned pc → Aligned (relative_of pc v)
unfolding relative_of
relative_aligned v h =
    let e : extend_of 18 (v % 2 ^ 16 * 4) % 4 ≡ 0 = extend_aligned (v % 2 ^ 16) in
    let k : slot_of _ % 4 ≡ 0 = (slot_aligned h).1 in
    (omega arith, omega arith)

pub region_aligned : {pc : ℕ} (v : ℕ) → Aligned pc → Aligned (region_of pc v)
unfolding region_of
region_aligned v h =
    let l : slot_of _ < 2 ^ 32 = (slot_aligned h).0 in
    (omega arith, omega arith)
