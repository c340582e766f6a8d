use mathlib.Core.Path.{◌≡◌, refl}
use native.Mathlib.Omega.{arith}
use Rattle.std.proofs.Common.{◌*◌, ◌+◌}
use Rattle.allocator.proofs.Clear.{seen_clear}
use Rattle.allocator.proofs.pass.scan.Goals.{then-not-is_clear+in_ok-seen, else-not-is_clear}
use Rattle.allocator.proofs.pass.scan.Goals as goal

pub loop-i-preserved : goal.loop-i-preserved
loop-i-preserved c = λ k s.
    let e : 8 * (c.loop-i.i + 1) ≡ 8 * c.loop-i.i + 8 = omega arith in
    rw e
    (elim c.if-not-is_clear.branch [
      | then-not-is_clear+in_ok-seen w ↦ rw w.seen-is (w.in_ok-seen.ensures k s)
      | else-not-is_clear w ↦ rw w.seen-is (seen_clear c.args.bytes.now (8 * c.loop-i.i) k c.loop-i.seen (w.if-not-is_clear.ensures.0 refl) (c.loop-i.invariant k s))
    ])
