use Rattle.checker.proofs.Scan.{sized_when}
use Rattle.checker.proofs.check.Candidate.module.Goals as goal

pub invariant_of-result : goal.invariant_of-result
invariant_of-result c = record { sized = sized_when _ _ _ c.in_ok-check.ensures _ _ c.from-code_size.ensures c.in_ok-when.ensures }
