use Rattle.quick.proofs.Guards.{merge_told}
use mathlib.Core.Path.{◌∙◌}
use Rattle.quick.proofs.guard.is_merge.Goals as goal

pub returns : goal.returns
returns c = c.eq.ensures ∙ merge_told _ c.from.ensures.0 _ _
