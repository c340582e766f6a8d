use Rattle.std.proofs.Common.{◌≡◌, ◌+◌, ◌-◌, arith}
use Rattle.word.proofs.Memory.{store_copied}
use Rattle.word.proofs.bytes.store.Goals as goal

pub returns : goal.returns
returns g c =
    let e : c.args.at + g.row.N - c.args.at ≡ g.row.N = omega arith in
    rw (c.copy_from_slice.ensures.after, c.to_le_bytes.ensures, e)
    (store_copied g.row.N c.args.s.now c.args.at c.args.v c.requires.within c.requires.width)
