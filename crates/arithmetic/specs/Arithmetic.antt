-- Document 004, sections 1.1.1 to 1.1.4: one clause for each instruction, beside its Operation in 1.2. a is GPR[rs], b is GPR[rt].
use Rattle.std.specs.Prelude.{ℕ, ◌≡◌, ◌⊎◌, ◌*◌, ◌-◌, ◌%◌, ◌/◌, ◌^◌, Bool, cond, eqb, ltb, Result, Ok, Err, ℤ, ◌+ℤ◌, ◌-ℤ◌, ◌*ℤ◌}
use Rattle.std.specs.Int.Bits.{bit_and, bit_or, bit_xor}
use Rattle.std.specs.Int.Signed.{lt_z, quot_z, rem_z, shr_z}
use Rattle.word.specs.Number.{signed_of, fits_of, wrap_of, extend_of, sum_of, difference_of}
use Rattle.isa.specs.declared.kind.Alu.{Alu}
use Rattle.isa.specs.declared.kind.Alu.TheVariants.{Add, Addu, Sub, Subu, Slt, Sltu, And, Or, Xor, Nor}
use Rattle.isa.specs.declared.kind.Immediate.{Immediate}
use Rattle.isa.specs.declared.kind.Immediate.TheVariants.{Addi, Addiu, Slti, Sltiu, Andi, Ori, Xori, Lui}
use Rattle.isa.specs.declared.kind.Shift.{Shift}
use Rattle.isa.specs.declared.kind.Shift.TheVariants.{Sll, Srl, Sra, Sllv, Srlv, Srav}
use Rattle.isa.specs.declared.kind.Multiply.{Multiply}
use Rattle.isa.specs.declared.kind.Multiply.TheVariants.{Mult, Multu, Div, Divu, Mfhi, Mthi, Mflo, Mtlo}
use Rattle.effect.specs.declared.effect.Effect.{Effect}
use Rattle.effect.specs.declared.effect.Effect.TheVariants.{Write, Pair}
use Rattle.effect.specs.declared.exit.Exit.{Exit}
use Rattle.effect.specs.declared.exit.Exit.TheVariants as E

-- a test's answer in a register: 0^31 || 1, or 0^32
unfoldable pub bit : Bool → ℕ
bit t = cond t 1 0

-- register r gets the integer z, unless 32 bits do not hold it
unfoldable pub checked : ℕ → ℤ → Result Effect Exit
checked r z = cond (fits_of 32 z) (Ok (Write r (wrap_of 32 z))) (Err E.IntegerOverflow)

-- 1.1.1, 3-operand ALU; XOR has no exception (document 01, Machine)
abbrev pub alu_of : Alu → ℕ → ℕ → ℕ → Result Effect Exit
alu_of Add rd a b = checked rd (signed_of 32 a +ℤ signed_of 32 b)
alu_of Addu rd a b = Ok (Write rd (sum_of a b))
alu_of Sub rd a b = checked rd (signed_of 32 a -ℤ signed_of 32 b)
alu_of Subu rd a b = Ok (Write rd (difference_of a b))
alu_of Slt rd a b = Ok (Write rd (bit (lt_z (signed_of 32 a) (signed_of 32 b))))
alu_of Sltu rd a b = Ok (Write rd (bit (ltb a b)))
alu_of And rd a b = Ok (Write rd (bit_and a b))
alu_of Or rd a b = Ok (Write rd (bit_or a b))
alu_of Xor rd a b = Ok (Write rd (bit_xor a b))
alu_of Nor rd a b = Ok (Write rd (2 ^ 32 - 1 - bit_or a b))

-- 1.1.2, ALU with an immediate operand; SLTI and SLTIU write rt (document 01, Machine), and SLTIU's constant is sign-extended (Traps for the builder)
abbrev pub immediate_of : Immediate → ℕ → ℕ → ℕ → Result Effect Exit
immediate_of Addi rt a v = checked rt (signed_of 32 a +ℤ signed_of 32 (extend_of 16 v))
immediate_of Addiu rt a v = Ok (Write rt (sum_of a (extend_of 16 v)))
immediate_of Slti rt a v = Ok (Write rt (bit (lt_z (signed_of 32 a) (signed_of 32 (extend_of 16 v)))))
immediate_of Sltiu rt a v = Ok (Write rt (bit (ltb a (extend_of 16 v))))
immediate_of Andi rt a v = Ok (Write rt (bit_and a (v % 2 ^ 16)))
immediate_of Ori rt a v = Ok (Write rt (bit_or a (v % 2 ^ 16)))
immediate_of Xori rt a v = Ok (Write rt (bit_xor a (v % 2 ^ 16)))
immediate_of Lui rt a v = Ok (Write rt (v % 2 ^ 16 * 2 ^ 16))

-- a word shifted by k bits, SLL and SLLV by their Purpose, as their Operation moves nothing; the arithmetical shift rounds the signed integer down
unfoldable pub shifted_left : ℕ → ℕ → ℕ
shifted_left b k = b * 2 ^ k % 2 ^ 32

unfoldable pub shifted_right : ℕ → ℕ → ℕ
shifted_right b k = b / 2 ^ k

unfoldable pub shifted_signed : ℕ → ℕ → ℕ
shifted_signed b k = wrap_of 32 (shr_z (signed_of 32 b) (2 ^ k))

-- 1.1.3, shifts; the shift amount has five bits
abbrev pub shift_of : Shift → ℕ → ℕ → ℕ → ℕ → Effect
shift_of Sll rd a b sa = Write rd (shifted_left b (sa % 2 ^ 5))
shift_of Srl rd a b sa = Write rd (shifted_right b (sa % 2 ^ 5))
shift_of Sra rd a b sa = Write rd (shifted_signed b (sa % 2 ^ 5))
shift_of Sllv rd a b sa = Write rd (shifted_left b (a % 2 ^ 5))
shift_of Srlv rd a b sa = Write rd (shifted_right b (a % 2 ^ 5))
shift_of Srav rd a b sa = Write rd (shifted_signed b (a % 2 ^ 5))

-- a product of 64 bits: HI gets its upper word, LO its lower
unfoldable pub product : ℕ → Effect
product p = Pair (p / 2 ^ 32) (p % 2 ^ 32)

-- a zero divisor: LO gets 0xFFFFFFFF and HI the dividend, for DIV and DIVU alike (document 02, Ticket 4, in place of document 01's line)
abbrev pub zero_divisor : ℕ → Effect
zero_divisor dividend = Pair dividend 0xFFFFFFFF

-- Pair sets HI first: HI gets the remainder, LO the quotient
unfoldable pub divided : ℕ → ℕ → ℕ → ℕ → Effect
divided dividend divisor quotient remainder = cond (eqb divisor 0) (zero_divisor dividend) (Pair remainder quotient)

-- 1.1.4, multiply and divide; DIV truncates towards zero, and its remainder has the dividend's sign (document 01, Machine)
abbrev pub multiply_of : Multiply → ℕ → ℕ → ℕ → ℕ → ℕ → Effect
multiply_of Mult rd a b hi lo = product (wrap_of 64 (signed_of 32 a *ℤ signed_of 32 b))
multiply_of Multu rd a b hi lo = product (a * b)
multiply_of Div rd a b hi lo =
    divided a b (wrap_of 32 (quot_z (signed_of 32 a) (signed_of 32 b))) (wrap_of 32 (rem_z (signed_of 32 a) (signed_of 32 b)))
multiply_of Divu rd a b hi lo = divided a b (a / b) (a % b)
multiply_of Mfhi rd a b hi lo = Write rd hi
multiply_of Mthi rd a b hi lo = Pair a lo
multiply_of Mflo rd a b hi lo = Write rd lo
multiply_of Mtlo rd a b hi lo = Pair hi a

-- the instructions that divide
abbrev pub Divides : Multiply → Type 0
Divides k = (k ≡ Div) ⊎ (k ≡ Divu)
