use Rattle.std.proofs.Common.{rules, arith}
use Rattle.table.specs.declared.tables.Entry.TheVariants.{Empty}
use Rattle.table.proofs.Lookup.{halves}
use Rattle.table.proofs.entry_in.Goals as goal

pub returns : goal.returns
returns c = halves c.args.low c.args.high c.args.n _ Empty (search rules) (λ h. omega arith) c.entry_at-beyond.ensures c.entry_at.ensures
