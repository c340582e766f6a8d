use Rattle.quick.proofs.Plains.{opcode_plain, word_plain}
use Rattle.table.specs.Tables.{opcodes}
use Rattle.quick.specs.Set.{is_in}
use Rattle.quick.proofs.plain.is_plain.Goals as goal

pub returns-then-f-eq-SPECIAL : goal.returns-then-f-eq-SPECIAL
returns-then-f-eq-SPECIAL c = λ h. word_plain _ c.from-f.ensures.0 (c.is_plain_special.ensures h)

pub returns : goal.returns
unfolding is_in opcodes
returns c = λ h. word_plain _ c.from-f.ensures.0 (opcode_plain _ c.from-f.ensures.1 c.is_base.ensures _ c.has-constant.ensures tt h)
