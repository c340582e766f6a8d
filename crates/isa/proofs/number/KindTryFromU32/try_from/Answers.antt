use native.Mathlib.Omega.{arith}
use Rattle.isa.proofs.Numbers.{known, unknown}
use Rattle.isa.proofs.number.KindTryFromU32.try_from.Goals as goal

pub returns-in-1-to-72 : goal.returns-in-1-to-72
returns-in-1-to-72 c = known _ _ c.rows.ensures.kinds c.args.number (omega arith) (omega arith)

pub returns-in_default : goal.returns-in_default
returns-in_default c = unknown c.args.number (λ h. omega arith)

pub returns-in_default-2 : goal.returns-in_default-2
returns-in_default-2 c = unknown c.args.number (λ h. omega arith)
