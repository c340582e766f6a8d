use Rattle.isa.specs.Table.{row_of}
use Rattle.isa.proofs.Numbers.{own_row, own}
use Rattle.isa.proofs.kind.Kind.row.Goals as goal

pub returns-clause-kind : goal.returns-clause-kind
returns-clause-kind c = rw (c.from.ensures) (own_row _ _ c.rows.ensures.kinds c.args.self)

pub returns-clause-format : goal.returns-clause-format
returns-clause-format c = rw (c.from.ensures) (own _ _ c.rows.ensures.kinds (λ r. r.format) (λ k. (row_of k).format) c.rows.ensures.formats c.args.self)

pub returns-clause-code : goal.returns-clause-code
returns-clause-code c = rw (c.from.ensures) (own _ _ c.rows.ensures.kinds (λ r. r.code) (λ k. (row_of k).code) c.rows.ensures.codes c.args.self)
