-- The six fields of an instruction word, from bit 31 down: opcode, rs, rt, rd, shift amount, function (document 004, section 1.2, the drawings).
use Rattle.std.specs.Prelude.{ℕ, ◌+◌, ◌*◌, ◌/◌, ◌%◌, ◌^◌, ◌<◌}
use Rattle.word.specs.declared.field.Fields.{Fields}

abbrev pub cut_of : ℕ → Fields ℕ
cut_of w =
    record {
      op = w / 2 ^ 26;
      rs = w / 2 ^ 21 % 2 ^ 5;
      rt = w / 2 ^ 16 % 2 ^ 5;
      rd = w / 2 ^ 11 % 2 ^ 5;
      shift = w / 2 ^ 6 % 2 ^ 5;
      funct = w % 2 ^ 6;
    }

abbrev pub join_of : Fields ℕ → ℕ
join_of f = f.op * 2 ^ 26 + (f.rs * 2 ^ 21 + (f.rt * 2 ^ 16 + (f.rd * 2 ^ 11 + (f.shift * 2 ^ 6 + f.funct))))

-- each field has no more bits than its place
pub record Fit (f : Fields ℕ) : Type 0 where
  pub op : f.op < 2 ^ 6
  pub rs : f.rs < 2 ^ 5
  pub rt : f.rt < 2 ^ 5
  pub rd : f.rd < 2 ^ 5
  pub shift : f.shift < 2 ^ 5
  pub funct : f.funct < 2 ^ 6
