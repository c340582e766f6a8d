use Rattle.std.proofs.lemmas.Result.{err_from_is_err_and}
use Rattle.cc100_start.proofs.Calls.{refused, encodes, done}
use Rattle.cc100_start.proofs.started.Goals as goal

pub returns-in_err-s : goal.returns-in_err-s
returns-in_err-s c =
    let p = err_from_is_err_and c.from_residual.result c.from_residual.ensures.1 in
    rw (p.1, p.2)
    (refused c.args.layout c.args.image.now c.args.state.now c.args.memory.now c.decode.result c.decode.ensures c.in_err-s.field-0.0 c.in_err-s.ensures.verdict)

pub returns-in_err-encode : goal.returns-in_err-encode
returns-in_err-encode c =
    encodes c.args.layout c.args.image.now c.args.state.now c.args.memory.now c.decode.result c.decode.ensures
    c.in_ok-s.s c.in_ok-s.ensures.state _ _ c.in_err-encode.ensures

pub returns : goal.returns
returns c =
    done c.args.layout c.args.image.now c.args.state.now c.args.memory.now c.decode.result c.decode.ensures
    c.in_ok-s.s c.in_ok-s.ensures.state _ _ c.encode.ensures c.in_ok-s.ensures.verdict
