use Rattle.std.proofs.lemmas.Result.{err_from_is_err_and}
use borrow.Author.Rules.{rules}
use Rattle.cc100.proofs.Calls.{resume_refused_call, resume_left, resume_done_call}
use Rattle.cc100_resume.proofs.resumed.Goals as goal

pub returns-in_err-s : goal.returns-in_err-s
returns-in_err-s c =
    let p = err_from_is_err_and c.from_residual.result c.from_residual.ensures.1 in
    rw (p.1, p.2) (resume_refused_call c.args.state.now c.args.memory.now _ c.in_err-s.ensures.0)

pub returns-in_err-after : goal.returns-in_err-after
returns-in_err-after c =
    let p = err_from_is_err_and c.from_residual-in_err-after.result c.from_residual-in_err-after.ensures.1 in
    rw (p.1, p.2) (resume_left c.args.state.now c.args.memory.now (λ i. search rules) c.in_ok-s.s c.in_ok-s.ensures.1 _ c.in_err-after.ensures)

pub returns : goal.returns
returns c =
    resume_done_call c.args.state.now c.args.memory.now (λ i. search rules) c.in_ok-s.s c.in_ok-s.ensures.1 _ _ _ c.encode.ensures c.in_ok-after.ensures
