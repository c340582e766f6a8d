use Rattle.std.proofs.Common.{rules, ap, ◌∙◌}
use Rattle.table.specs.Tables.{entry_of}
use Rattle.table.proofs.Reading.{to_function, to_condition, to_control, to_none}
use Rattle.table.proofs.entry.Goals.{in-Special, in-Regimm, in-Cop0, in_default}
use Rattle.table.proofs.entry.Goals as goal

pub returns : goal.returns
returns c =
    let f = c.from-f.result in
    let p = c.by_opcode-first.ensures in
    let q = c.kind.ensures in
    let last = c.match-first.last in
    elim c.match-first.branch [
      | in-Special w ↦ to_function f p last q w.in-Special.is (w.last-is ∙ w.by_function-last.ensures)
      | in-Regimm w ↦ to_condition f p last q w.in-Regimm.is (w.last-is ∙ w.by_condition-last.ensures)
      | in-Cop0 w ↦ to_control f p last q w.in-Cop0.is (w.last-is ∙ w.by_control-last.ensures)
      | in_default w ↦ to_none f p last q (search rules) (search rules) (search rules) w.last-is
    ]
    ∙ ap entry_of c.from-f.ensures.0
