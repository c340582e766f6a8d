use Rattle.quick.proofs.Guards.{register_jump, by_first, by_second}
use Rattle.quick.proofs.guard.is_register_jump.Goals as goal

pub returns-then-eq : goal.returns-then-eq
returns-then-eq c = by_first _ c.eq.ensures (register_jump _ c.from-f.ensures.0 c.from-f.ensures.1) c.if-eq.true

pub returns-else-eq : goal.returns-else-eq
returns-else-eq c = by_second c.eq.ensures c.eq-else-eq.ensures (register_jump _ c.from-f.ensures.0 c.from-f.ensures.1) c.if-eq.false
