use Rattle.std.proofs.Common.{ℕ, ◌*◌}
use Rattle.allocator.specs.Record.{IsSize}
use Rattle.allocator.specs.Pass.{Seen}
use Rattle.allocator.proofs.pass.Pass.eight.Given as goal

abbrev pub invariant-loop-at : goal.invariant-loop-at
invariant-loop-at l = (k : ℕ) → IsSize k l.fn.size → Seen l.fn.bytes k (16 * l.at) l.seen
