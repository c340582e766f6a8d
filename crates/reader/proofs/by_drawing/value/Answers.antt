use Rattle.std.proofs.Common.{ℕ, ◌*◌, ◌^◌, ◌<◌, arith}
use Rattle.isa.specs.declared.format.Role.{Role}
use Rattle.isa.specs.declared.format.Role.TheVariants.{Operand, Control, Fixed, Code, Part}
use Rattle.isa.specs.Reading.{append}
use Rattle.reader.proofs.by_drawing.value.Goals as goal

-- a value below n, a field of five bits appended
appended : (r : Role) (v x n : ℕ) → v < n → x < 2 ^ 5 → append r 5 v x < n * 32
appended Operand v x n h l = omega arith
appended Control v x n h l = omega arith
appended (Fixed m) v x n h l = omega arith
appended Code v x n h l = omega arith
appended Part v x n h l = omega arith

pub append-requires-clause-above : goal.append-requires-clause-above
append-requires-clause-above c =
    let f = c.args.f in
    let d = c.args.d in
    let a : c.append-a.result < 32 = rw (c.append-a.ensures) (appended d.rs 0 f.rs 1 (omega arith) c.requires.rs) in
    let b : c.append-b.result < 32 * 32 = rw (c.append-b.ensures) (appended d.rt c.append-a.result f.rt 32 a c.requires.rt) in
    let x : c.append-c.result < 32 * 32 * 32 = rw (c.append-c.ensures) (appended d.rd c.append-b.result f.rd (32 * 32) b c.requires.rd) in
    let e : c.append-e.result < 2 ^ 20 = rw (c.append-e.ensures) (appended d.shift c.append-c.result f.shift (32 * 32 * 32) x c.requires.shift) in
    omega (arith, e)
