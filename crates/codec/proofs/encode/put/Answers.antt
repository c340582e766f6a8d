use mathlib.Core.Path.{◌∙◌}
use Prim.Native.Nat.{◌+◌, ◌*◌}
use native.Mathlib.Omega.{arith}
use Rattle.codec.specs.Stores.{stores_of}
use Rattle.codec.proofs.Words.{stores_more, stores_end}
use Rattle.codec.proofs.encode.put.Goals as goal

pub loop-k-preserved : goal.loop-k-preserved
loop-k-preserved g c =
    let a = c.args in
    rw c.store.ensures (stores_more c.loop-k.bytes a.words (stores_of a.bytes.now a.at a.words) c.loop-k.k a.at (omega arith) c.loop-k.invariant)

pub returns : goal.returns
returns g c =
    let a = c.args in
    stores_end c.loop-k.bytes a.words (a.at + 4 * c.loop-k.k) c.loop-k.k (omega arith) ∙ c.loop-k.invariant
