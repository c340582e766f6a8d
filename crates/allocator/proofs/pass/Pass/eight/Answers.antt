use mathlib.Core.Path.{refl, sym, subst}
use native.Mathlib.Omega.{arith}
use Rattle.std.proofs.Common.{◌*◌, ◌+◌}
use Rattle.allocator.specs.Pass.{Known}
use Rattle.allocator.proofs.Seen.{known_area, known_none}
use Rattle.allocator.proofs.pass.Pass.eight.Goals.{then-bytes-at-ne0+in_ok-seen, else-bytes-at-ne0}
use Rattle.allocator.proofs.pass.Pass.eight.Goals as goal

pub returns-in_err-seen : goal.returns-in_err-seen
returns-in_err-seen c = λ k s.
    let n = known_area c.args.bytes.now k c.args.size c.loop-at.at _ c.loop-at.seen s c.requires.length (omega arith) (c.loop-at.invariant k s) refl c.if-bytes-at-ne0.true in
    rw c.from_residual.ensures (subst (Known c.args.bytes.now k (16 * (c.loop-at.at + 1))) (sym c.in_err-seen.ensures) n)

pub loop-at-preserved : goal.loop-at-preserved
loop-at-preserved c = λ k s.
    let r = c.args.bytes.now in
    elim c.if-bytes-at-ne0.branch [
      | then-bytes-at-ne0+in_ok-seen w ↦
          (let n = known_area r k c.args.size c.loop-at.at _ c.loop-at.seen s c.requires.length (omega arith) (c.loop-at.invariant k s) refl w.if-bytes-at-ne0.true in
          rw w.seen-is (subst (Known r k (16 * (c.loop-at.at + 1))) (sym w.in_ok-seen.ensures) n))
      | else-bytes-at-ne0 w ↦
          rw w.seen-is (known_none r k c.args.size c.loop-at.at 0 c.loop-at.seen s c.requires.length (omega arith) (c.loop-at.invariant k s) w.if-bytes-at-ne0.false)
    ]
