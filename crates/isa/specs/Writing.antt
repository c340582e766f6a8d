-- What an instruction is written as: the word of its drawing, or refusal 18 (document 01, Refusal table).
use Rattle.std.specs.Prelude.{ℕ, ◌/◌, ◌%◌, ◌^◌, Bool, ◌&&◌, eqb, ltb, Option, Some, None}
use Rattle.std.specs.Bool.{then_some}
use Rattle.word.specs.declared.field.Fields.{Fields}
use Rattle.word.specs.Field.{join_of}
use Rattle.isa.specs.declared.kind.Instruction.{Instruction}
use Rattle.isa.specs.declared.format.Role.{Role}
use Rattle.isa.specs.declared.format.Role.TheVariants.{Operand, Control, Fixed, Code, Part}
use Rattle.isa.specs.Drawing.{Drawing}
use Rattle.isa.specs.Table.{row_of}
use Rattle.isa.specs.Control.{is_control}
use Rattle.isa.specs.Reading.{drawing_for}

-- ---- one field: x is the instruction's operand of that name

-- an operand fits its field, is a control register where that is asked, and is 0 where the format has none
abbrev pub operand_fits : Role → ℕ → Bool
operand_fits Operand x = ltb x (2 ^ 5)
operand_fits Control x = is_control x
operand_fits (Fixed m) x = eqb x 0
operand_fits Code x = eqb x 0
operand_fits Part x = eqb x 0

-- what stands in the field: n is the instruction's code, v what is left of its value for this field of b bits and those above
abbrev pub field_of : Role → ℕ → ℕ → ℕ → ℕ → ℕ
field_of Operand n b v x = x
field_of Control n b v x = x
field_of (Fixed m) n b v x = m
field_of Code n b v x = n
field_of Part n b v x = v % 2 ^ b

-- what is left of the value for the fields above
abbrev pub rest : Role → ℕ → ℕ → ℕ
rest Operand b v = v
rest Control b v = v
rest (Fixed m) b v = v
rest Code b v = v
rest Part b v = v / 2 ^ b

-- ---- all fields, from the lowest

abbrev pub rest_funct : Drawing → ℕ → ℕ
rest_funct d v = rest d.funct 6 v

abbrev pub rest_shift : Drawing → ℕ → ℕ
rest_shift d v = rest d.shift 5 (rest_funct d v)

abbrev pub rest_rd : Drawing → ℕ → ℕ
rest_rd d v = rest d.rd 5 (rest_shift d v)

abbrev pub rest_rt : Drawing → ℕ → ℕ
rest_rt d v = rest d.rt 5 (rest_rd d v)

abbrev pub rest_rs : Drawing → ℕ → ℕ
rest_rs d v = rest d.rs 5 (rest_rt d v)

unfoldable pub encode_of : Drawing → ℕ → Instruction → Fields ℕ
encode_of d n i =
    record {
      op = field_of d.op n 6 0 0;
      rs = field_of d.rs n 5 (rest_rt d i.value) i.rs;
      rt = field_of d.rt n 5 (rest_rd d i.value) i.rt;
      rd = field_of d.rd n 5 (rest_shift d i.value) i.rd;
      shift = field_of d.shift n 5 (rest_funct d i.value) i.shift;
      funct = field_of d.funct n 6 i.value 0;
    }

-- each operand fits, and nothing of the value is left over
unfoldable pub legal : Drawing → Instruction → Bool
legal d i =
    operand_fits d.rs i.rs && (operand_fits d.rt i.rt && (operand_fits d.rd i.rd && (operand_fits d.shift i.shift && eqb (rest_rs d i.value) 0)))

-- ---- the writing

unfoldable pub write_of : Instruction → Option ℕ
write_of i = then_some (legal (drawing_for i.kind) i) (join_of (encode_of (drawing_for i.kind) (row_of i.kind).code i))

-- document 01's number for each case, and the word beside it: 0 with the word, or 18 with 0
abbrev pub written_number : Option ℕ → ℕ
written_number (Some w) = 0
written_number None = 18

abbrev pub written_word : Option ℕ → ℕ
written_word (Some w) = w
written_word None = 0
