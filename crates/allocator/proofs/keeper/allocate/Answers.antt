use Rattle.allocator.proofs.Calls.{refuse_space}
use Rattle.allocator.proofs.keeper.allocate.Goals as goal

pub returns-then-seen-size-gt-MEMORY_SIZE : goal.returns-then-seen-size-gt-MEMORY_SIZE
returns-then-seen-size-gt-MEMORY_SIZE c =
    let s = c.in_ok-k.ensures in
    refuse_space c.args.bytes.now c.args.size c.in_ok-k.k s c.in-Some.seen (c.in-Some.ensures.passed c.in_ok-k.k s) c.if-seen-size-gt-MEMORY_SIZE.true
