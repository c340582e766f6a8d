use mathlib.Core.Path.{◌∙◌}
use Rattle.word.proofs.Memory.{load_copied, load_lt}
use Rattle.word.proofs.bytes.load.Goals as goal

pub returns-clause-value : goal.returns-clause-value
returns-clause-value g c =
    rw c.copy_from_slice.ensures.after at c.from_le_bytes.ensures ∙ load_copied g.row.N c.args.s.now c.args.at c.requires.within c.requires.width

pub returns-clause-bound : goal.returns-clause-bound
returns-clause-bound g c =
    rw (rw c.copy_from_slice.ensures.after at c.from_le_bytes.ensures ∙ load_copied g.row.N c.args.s.now c.args.at c.requires.within c.requires.width) (load_lt g.row.N c.args.s.now c.args.at (λ i. (c.type_inv.s i).fits))
