use mathlib.Core.Path.{◌≡◌, ap, sym, ◌∙◌}
use lib.ListN.{length}
use Rattle.machine.specs.State.{refusal_of, join_of}
use Rattle.machine.specs.Run.{course}
use Rattle.machine.proofs.Steps.{not_refused}
use Rattle.machine.proofs.Runs.{turn_exits, turn_lawful, turn_completes, turns_begin, turns_done}
use native.Mathlib.Omega.{arith}
use Rattle.machine.proofs.state.State.run.Goals as goal

pub loop-steps-init : goal.loop-steps-init
loop-steps-init c =
    let a = c.args in
    (sym c.in_ok-refusal.ensures, turns_begin a.self a.memory.now a.budget (sym c.in_ok-refusal.ensures))

pub returns-in-Err : goal.returns-in-Err
returns-in-Err c =
    let loop = c.loop-steps in
    turn_exits (join_of loop.registers loop.special) loop.memory (rw loop.auto.memory loop.invariant.0) loop.steps c.args.budget (omega arith) loop.touched _ c.in-Err.ensures.0 ∙ loop.invariant.1

pub apply-special-requires : goal.apply-special-requires
apply-special-requires c =
    let loop = c.loop-steps in
    (c.in-Ok.ensures.1 (not_refused (join_of loop.registers loop.special) _ loop.invariant.0)).0

pub loop-steps-preserved : goal.loop-steps-preserved
loop-steps-preserved c =
    let loop = c.loop-steps in
    let effect = c.in-Ok.ensures in
    let applied = c.apply-special.ensures in
    let s = (join_of loop.registers loop.special) in
    let z : refusal_of s (length loop.memory) ≡ 0 = rw loop.auto.memory loop.invariant.0 in (
      turn_lawful s loop.memory z _ _ _ _ _ applied.applied loop.invariant.0 (effect.1 (not_refused s _ loop.invariant.0)).1,
      rw applied.access (turn_completes s loop.memory z loop.steps c.args.budget (omega arith) loop.touched _ effect.0 _ _ _ applied.applied) ∙ loop.invariant.1,
    )

pub returns : goal.returns
returns c =
    let loop = c.loop-steps in
    let s = (join_of loop.registers loop.special) in
    let spent : c.args.budget ≡ loop.steps = omega arith in
    ap (λ n. course 0 n loop.touched s loop.memory) spent ∙ turns_done s loop.memory loop.steps c.args.budget loop.touched (omega arith) ∙ loop.invariant.1
