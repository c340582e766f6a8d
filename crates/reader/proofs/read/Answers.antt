use mathlib.Core.Path.{sym, ◌∙◌}
use native.Mathlib.Omega.{arith}
use Rattle.std.proofs.Common.{rules}
use Rattle.table.proofs.Reading.{read_none}
use Rattle.reader.proofs.read.Goals as goal

pub returns-in_err-kind : goal.returns-in_err-kind
returns-in_err-kind c = let none = read_none c.args.w (omega arith) (sym c.entry.ensures ∙ search rules) in search rules
