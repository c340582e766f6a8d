use mathlib.Core.List.{List}
use Prim.Native.Nat.{ℕ}
use mathlib.Core.Path.{◌≡◌, ◌∙◌}
use native.Mathlib.Omega.{arith}
use lib.ListN.{length}
use Rattle.std.proofs.lemmas.Result.{err_from_is_err_and}
use Rattle.isa.specs.declared.kind.Instruction.{Instruction}
use Rattle.isa.proofs.RoundTrip.{Operands}
use Rattle.decision.specs.Decision.{decision_of}
use Rattle.decision.proofs.Sound.{decision_sound}
use Rattle.machine.specs.declared.state.State.{State}
use Rattle.machine.specs.State.{register_of, special_of, join_of, Words}
use Rattle.machine.proofs.Valid.{regular, performs}
use Rattle.machine.proofs.Steps.{fetch_outside, fetch_inside, fetch_nothing, fetch_decided, fetch_operands}
use Rattle.machine.proofs.step.effect_at.Goals as goal

pub returns-in_err-when : goal.returns-in_err-when
returns-in_err-when c =
    let a = c.args in
    let p = err_from_is_err_and c.from_residual.result c.from_residual.ensures.1 in
    rw (p.1, p.2) (fetch_outside (join_of a.registers.now a.c) a.memory.now _ c.in_err-when.ensures, λ l. tt)

pub returns-in_err-i : goal.returns-in_err-i
returns-in_err-i c =
    let a = c.args in
    let s = join_of a.registers.now a.c in
    let p = err_from_is_err_and c.from_residual-in_err-i.result c.from_residual-in_err-i.ensures.1 in
    rw (p.1, p.2) (
      fetch_nothing s a.memory.now (fetch_inside s a.memory.now c.in_ok-when.ensures) _ _ c.load-w.ensures.value c.read.ensures _ c.in_err-i.ensures.value,
      λ l. tt,
    )

pub register-a-requires : goal.register-a-requires
register-a-requires c =
    let o = fetch_operands c.args.memory.now _ _ _ c.in_ok-i.i (λ x. (c.type_inv.memory x).fits) c.load-w.ensures.value c.read.ensures c.in_ok-i.ensures.ok_part in
    omega (arith, o.rs, o.rt)

pub register-b-requires : goal.register-b-requires
register-b-requires c =
    let o = fetch_operands c.args.memory.now _ _ _ c.in_ok-i.i (λ x. (c.type_inv.memory x).fits) c.load-w.ensures.value c.read.ensures c.in_ok-i.ensures.ok_part in
    omega (arith, o.rs, o.rt)

pub returns : goal.returns
returns c =
    let a = c.args in
    let m : List ℕ = a.memory.now in
    let s : State = join_of a.registers.now a.c in
    let i : Instruction = c.in_ok-i.i in
    let w : Words a.c = record { hi = omega arith; lo = omega arith; pc = omega arith; next_pc = omega arith; bad = omega arith; status = omega arith; cause = omega arith; epc = omega arith } in
    let o : Operands i = fetch_operands m _ _ _ i (λ x. (c.type_inv.memory x).fits) c.load-w.ensures.value c.read.ensures c.in_ok-i.ensures.ok_part in
    let e : c.decide.result ≡ decision_of i (register_of s.registers i.rs) (register_of s.registers i.rt) (special_of s) (length m) = rw (c.decide.ensures, c.register-b.ensures.0, c.register-a.ensures.0) in (
      e ∙ fetch_decided s m (fetch_inside s m c.in_ok-when.ensures) _ _ c.load-w.ensures.value c.read.ensures i c.in_ok-i.ensures.ok_part,
      λ l. performs s m _ c.decide.ensures (decision_sound i o c.register-a.ensures.1 c.register-b.ensures.1 (regular a.registers.now a.c w l) (length m)) w l,
    )
