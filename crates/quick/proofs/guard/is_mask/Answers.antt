use Rattle.quick.proofs.Guards.{mask_told}
use mathlib.Core.Path.{◌∙◌}
use Rattle.quick.proofs.guard.is_mask.Goals as goal

pub returns : goal.returns
returns c = c.eq.ensures ∙ mask_told _ c.from-f.ensures.0 _
