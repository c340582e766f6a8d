use Rattle.isa.proofs.Encoding.{encoding}
use Rattle.writer.proofs.encode.Goals as goal

pub returns : goal.returns
returns c =
    encoding c.args.d c.args.code c.args.i
    c.rest_of-a.ensures
    c.rest_of-b.ensures
    c.rest_of-c.ensures
    c.rest_of-e.ensures
    c.field.ensures
    c.field-2.ensures
    c.field-3.ensures
    c.field-4.ensures
    c.field-5.ensures
    c.field-6.ensures
    c.rest_of.ensures
