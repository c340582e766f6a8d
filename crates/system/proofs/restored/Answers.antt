use Prim.Native.Nat.{ℕ, ◌+◌, ◌*◌, ◌/◌, ◌%◌, ◌^◌}
use mathlib.Core.Path.{◌≡◌, ◌∙◌}
use native.Mathlib.Omega.{arith}
use lib.Bits.{bit_and}
use Rattle.std.proofs.lemmas.Nat.{and_mask}
use Rattle.system.specs.System.{restored}
use Rattle.system.proofs.restored.Goals as goal

enables : (s : ℕ) → bit_and (s / 2) 3 ≡ s / 2 ^ 0 % 2 ^ 3 / 2 * 2 ^ 0
enables s = and_mask (s / 2) 2 ∙ omega arith

modes : (s : ℕ) → bit_and (s / 16) 3 * 8 % 4294967296 ≡ s / 2 ^ 3 % 2 ^ 3 / 2 * 2 ^ 3
modes s = let m = and_mask (s / 16) 2 in rw m (omega arith)

history : (s : ℕ) → bit_and (s / 128) 63 * 64 % 4294967296 ≡ s / 2 ^ 6 % 2 ^ 7 / 2 * 2 ^ 6
history s = let m = and_mask (s / 128) 6 in rw m (omega arith)

grouped : {a b c x y z : ℕ} → a ≡ x → b ≡ y → c ≡ z → a + b + c ≡ x + (y + z)
grouped p q r = omega arith

pub returns : goal.returns
unfolding restored
returns c = grouped (enables c.args.status) (modes c.args.status) (history c.args.status)
