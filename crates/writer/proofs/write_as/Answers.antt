use Rattle.isa.proofs.Encoding.{drawing_found, written_fit, written, refused}
use Rattle.writer.proofs.write_as.Goals as goal

pub join-requires : goal.join-requires
join-requires c =
    let d = drawing_found c.args.i c.requires c.drawing-d.ensures in
    written_fit c.args.i d c.code.ensures c.encode-e.ensures.0 c.is_legal.ensures c.if-is_legal.true

pub returns-then-is_legal : goal.returns-then-is_legal
returns-then-is_legal c =
    let d = drawing_found c.args.i c.requires c.drawing-d.ensures in
    rw (← written c.args.i d c.code.ensures c.encode-e.ensures.0 c.is_legal.ensures c.if-is_legal.true c.join.ensures)

pub returns-else-is_legal : goal.returns-else-is_legal
returns-else-is_legal c =
    let d = drawing_found c.args.i c.requires c.drawing-d.ensures in
    rw (← refused c.args.i d c.code.ensures c.encode-e.ensures.0 c.is_legal.ensures c.if-is_legal.false)
