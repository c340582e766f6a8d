use Rattle.quick.proofs.Plains.{frequent_plain, other_plain}
use Rattle.table.specs.Tables.{functions}
use Rattle.quick.specs.Set.{is_in}
use Rattle.quick.proofs.plain.is_plain_special.Goals as goal

pub returns-then-three-shifts : goal.returns-then-three-shifts
unfolding is_in functions
returns-then-three-shifts c = frequent_plain _ c.requires.0 c.requires.1 c.is_base-spared.ensures _ _ c.has.ensures c.has-2.ensures tt tt c.if-three-shifts.true

pub returns : goal.returns
unfolding is_in functions
returns c = other_plain _ c.requires.0 c.requires.1 c.is_base-spared.ensures _ _ _ c.has-3.ensures c.has-4.ensures c.has-full.ensures tt tt tt
