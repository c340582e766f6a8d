use Rattle.std.proofs.lemmas.Result.{err_from_is_err_and}
use borrow.Author.Rules.{rules}
use Rattle.cc100.proofs.Calls.{step_refused_call, encodes, step_left, step_done_call}
use Rattle.cc100_step.proofs.stepped.Goals as goal

pub returns-in_err-s : goal.returns-in_err-s
returns-in_err-s c =
    let p = err_from_is_err_and c.from_residual.result c.from_residual.ensures.1 in
    rw (p.1, p.2) (step_refused_call c.args.state.now c.args.memory.now _ c.in_err-s.ensures.0)

pub returns-in_err-r : goal.returns-in_err-r
returns-in_err-r c =
    let p = err_from_is_err_and c.from_residual-in_err-r.result c.from_residual-in_err-r.ensures.1 in
    rw (p.1, p.2) (step_left c.args.state.now c.args.memory.now (λ i. search rules) c.in_ok-s.s c.in_ok-s.ensures.1 _ _ c.in_err-r.ensures)

pub returns-in_err-encode : goal.returns-in_err-encode
returns-in_err-encode c =
    encodes c.args.state.now c.args.memory.now (λ i. search rules) c.in_ok-s.s c.in_ok-s.ensures.1 _ _ _ c.in_err-encode.ensures

pub returns : goal.returns
returns c =
    step_done_call c.args.state.now c.args.memory.now (λ i. search rules) c.in_ok-s.s c.in_ok-s.ensures.1 _ _ _ c.encode.ensures _ _ _ c.in_ok-r.ensures
