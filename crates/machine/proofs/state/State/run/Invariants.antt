use Rattle.std.proofs.Common.{◌≡◌, ◌-◌, length}
use Rattle.machine.specs.State.{refusal_of, join_of}
use Rattle.machine.specs.Run.{later, repeat_of, run_of}
use Rattle.machine.proofs.state.State.run.Given as goal

-- the state is not refused, and what is left to run from here gives the whole answer
abbrev pub invariant-loop-steps : goal.invariant-loop-steps
invariant-loop-steps l =
    (refusal_of (join_of l.registers l.special) (length l.initial.memory) ≡ 0)
    × (later l.steps l.touched (repeat_of (l.budget - l.steps) (join_of l.registers l.special) l.memory)
    ≡ run_of l.fn.self l.initial.memory l.budget)
