use Rattle.std.proofs.Common.{ℕ, ◌*◌}
use Rattle.allocator.specs.Record.{IsSize}
use Rattle.allocator.specs.Pass.{Seen}
use Rattle.allocator.proofs.pass.scan.Given as goal

abbrev pub invariant-loop-i : goal.invariant-loop-i
invariant-loop-i l = (k : ℕ) → IsSize k l.fn.size → Seen l.fn.bytes k (16 * (8 * l.i)) l.seen
