use mathlib.Core.Path.{sym, ◌∙◌}
use Rattle.effect.proofs.Touched.{last_first}
use Rattle.machine.proofs.Steps.{step_exits, step_completes, not_refused}
use Rattle.machine.proofs.state.State.step.Goals as goal

pub apply-special-requires : goal.apply-special-requires
apply-special-requires c = (c.in-Ok.ensures.1 (not_refused c.args.self _ (sym c.in_ok-refusal.ensures))).0

pub returns-in-Ok : goal.returns-in-Ok
returns-in-Ok c =
    let z = sym c.in_ok-refusal.ensures in
    let t = c.apply-special.ensures.access ∙ last_first _ in
    rw t (step_completes c.args.self c.args.memory.now z _ c.in-Ok.ensures.0 _ _ _ c.apply-special.ensures.applied)

pub returns-in-Err : goal.returns-in-Err
returns-in-Err c =
    step_exits c.args.self c.args.memory.now (sym c.in_ok-refusal.ensures) _ c.in-Err.ensures.0
