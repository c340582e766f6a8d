use Rattle.quick.proofs.Guards.{needs_guard_law, by_first, by_second}
use Rattle.table.specs.Tables.{opcodes}
use Rattle.quick.specs.Set.{is_in}
use Rattle.quick.proofs.guard.needs_guard.Goals as goal

pub returns-then-has : goal.returns-then-has
unfolding is_in opcodes
returns-then-has c = by_first _ c.has.ensures (needs_guard_law _ c.from-f.ensures.0 c.from-f.ensures.1 _ tt tt) c.if-has.true

pub returns-else-has : goal.returns-else-has
unfolding is_in opcodes
returns-else-has c = by_second c.has.ensures c.is_register_jump.ensures (needs_guard_law _ c.from-f.ensures.0 c.from-f.ensures.1 _ tt tt) c.if-has.false
