use Rattle.allocator.proofs.Calls.{keep_odd, keep_past, keep_other, take_back}
use Rattle.allocator.proofs.keeper.release.Goals.{then-base-ne0-via-then-base-ne0, then-base-ne0-via-else-base-ne0+then-base-ge-MEMORY_SIZE, then-base-ne0-via-else-base-ne0+else-base-ge-MEMORY_SIZE+then-bytes-at}
use Rattle.allocator.proofs.keeper.release.Goals as goal

pub returns-then-base-ne0 : goal.returns-then-base-ne0
returns-then-base-ne0 c =
    let k = c.in_ok-k.k in
    let s = c.in_ok-k.ensures in
    let h = c.in-Some.ensures.passed k s in
    elim c.then-base-ne0.branch [
      | then-base-ne0-via-then-base-ne0 w ↦ keep_odd c.args.bytes.now c.args.base c.args.size k s c.in-Some.field-0 h w.if-base-ne0.true
      | then-base-ne0-via-else-base-ne0+then-base-ge-MEMORY_SIZE w ↦ keep_past c.args.bytes.now c.args.base c.args.size k s c.in-Some.field-0 h w.if-base-ge-MEMORY_SIZE.true
      | then-base-ne0-via-else-base-ne0+else-base-ge-MEMORY_SIZE+then-bytes-at w ↦ keep_other c.args.bytes.now c.args.base c.args.size k s c.in-Some.field-0 h w.if-bytes-at.true
    ]

pub returns : goal.returns
returns c =
    let k = c.in_ok-k.k in
    let s = c.in_ok-k.ensures in
    take_back c.args.bytes.now c.args.base c.args.size k s c.in-Some.field-0 (c.in-Some.ensures.passed k s) c.if-base-ne0.false c.if-base-ge-MEMORY_SIZE.false c.if-bytes-at.false
