use borrow.Author.Rules.{rules}
use Rattle.start.proofs.Order.{code_inside}
use Rattle.start.proofs.start_by.Goals as goal

pub begun-requires : goal.begun-requires
begun-requires c =
    code_inside c.args.layout c.args.image.now c.args.memory.now c.args.given (search rules)
