use Rattle.std.proofs.lemmas.Result.{err_from_is_err_and}
use Rattle.cc100.proofs.Calls.{decodes_too_long}
use Rattle.cc100.proofs.decode.Goals as goal

pub returns-in_err-when : goal.returns-in_err-when
returns-in_err-when c =
    let p = err_from_is_err_and c.from_residual.result c.from_residual.ensures.1 in
    rw (p.1, p.2) (decodes_too_long c.args.bytes.now c.args.length _ c.in_err-when.ensures)
