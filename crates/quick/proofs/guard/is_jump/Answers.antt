use Rattle.quick.proofs.Guards.{jumps, by_first, by_second}
use Rattle.quick.proofs.guard.is_jump.Goals as goal

pub returns-then-is_region_jump : goal.returns-then-is_region_jump
returns-then-is_region_jump c = by_first _ c.is_region_jump.ensures (jumps _ c.from-f.ensures.0 c.from-f.ensures.1) c.if-is_region_jump.true

pub returns-else-is_region_jump : goal.returns-else-is_region_jump
returns-else-is_region_jump c = by_second c.is_region_jump.ensures c.is_register_jump.ensures (jumps _ c.from-f.ensures.0 c.from-f.ensures.1) c.if-is_region_jump.false
