use Rattle.std.proofs.Math.Bool.{and_assoc}
use Rattle.isa.proofs.Encoding.{fitting}
use Rattle.writer.proofs.is_legal.Goals as goal

pub returns : goal.returns
returns c =
    let d = c.args.d in
    let i = c.args.i in
    rw (and_assoc _ _ _, and_assoc _ _ _, and_assoc _ _ _)
    (fitting d i c.operand_fits.ensures c.operand_fits-2.ensures c.operand_fits-3.ensures c.operand_fits-4.ensures c.requires)
