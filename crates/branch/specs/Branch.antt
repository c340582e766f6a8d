-- Document 004, section 1.1.6: jumps and branches, each beside its Operation in 1.2. a is GPR[rs], b is GPR[rt]; pc and next are the two program counters.
use Rattle.std.specs.Prelude.{ℕ, ◌+◌, ◌*◌, ◌%◌, ◌/◌, ◌^◌, Bool, cond, not, eqb, pos, Result, Ok, Err}
use Rattle.std.specs.Int.Signed.{lt_z, le_z}
use Rattle.word.specs.Number.{signed_of, extend_of, sum_of}
use Rattle.isa.specs.declared.kind.Branch.{Branch}
use Rattle.isa.specs.declared.kind.Branch.TheVariants.{J, Jal, Jr, Jalr, Beq, Bne, Blez, Bgtz, Bltz, Bgez, Bltzal, Bgezal}
use Rattle.effect.specs.declared.effect.Effect.{Effect}
use Rattle.effect.specs.declared.effect.Effect.TheVariants.{Advance, Jump, Link}
use Rattle.effect.specs.declared.exit.Exit.{Exit}
use Rattle.effect.specs.declared.exit.Exit.TheVariants as E

-- four more: the delay slot of the instruction at pc, also where that one stands in a slot itself (document 01, Machine)
unfoldable pub slot_of : ℕ → ℕ
slot_of pc = sum_of pc 4

-- the return address
unfoldable pub link_of : ℕ → ℕ
link_of pc = sum_of pc 8

-- slot + sign_extend(offset || 0^2)
unfoldable pub relative_of : ℕ → ℕ → ℕ
relative_of pc offset = sum_of (slot_of pc) (extend_of 18 (offset % 2 ^ 16 * 4))

-- the slot's top four bits || index || 0^2
unfoldable pub region_of : ℕ → ℕ → ℕ
region_of pc index = slot_of pc / 2 ^ 28 * 2 ^ 28 + index % 2 ^ 26 * 4

unfoldable pub branch_if : Bool → ℕ → ℕ → Effect
branch_if t pc offset = cond t (Jump (relative_of pc offset)) Advance

-- the link is written whether or not the branch is taken (document 01, Machine)
unfoldable pub link_if : Bool → ℕ → ℕ → ℕ → Effect
link_if t pc next offset = Link 31 (link_of pc) (cond t (relative_of pc offset) (slot_of next))

-- a jump to an address that is not word-aligned exits
unfoldable pub jump_if : ℕ → Effect → Result Effect Exit
jump_if target e = cond (eqb (target % 4) 0) (Ok e) (Err E.Address)

abbrev pub branch_of : Branch → ℕ → ℕ → ℕ → ℕ → ℕ → ℕ → Result Effect Exit
branch_of J rd a b v pc next = Ok (Jump (region_of pc v))
branch_of Jal rd a b v pc next = Ok (Link 31 (link_of pc) (region_of pc v))
branch_of Jr rd a b v pc next = jump_if a (Jump a)
branch_of Jalr rd a b v pc next = jump_if a (Link rd (link_of pc) a)
branch_of Beq rd a b v pc next = Ok (branch_if (eqb a b) pc v)
branch_of Bne rd a b v pc next = Ok (branch_if (not (eqb a b)) pc v)
branch_of Blez rd a b v pc next = Ok (branch_if (le_z (signed_of 32 a) (pos 0)) pc v)
branch_of Bgtz rd a b v pc next = Ok (branch_if (lt_z (pos 0) (signed_of 32 a)) pc v)
branch_of Bltz rd a b v pc next = Ok (branch_if (lt_z (signed_of 32 a) (pos 0)) pc v)
branch_of Bgez rd a b v pc next = Ok (branch_if (le_z (pos 0) (signed_of 32 a)) pc v)
branch_of Bltzal rd a b v pc next = Ok (link_if (lt_z (signed_of 32 a) (pos 0)) pc next v)
branch_of Bgezal rd a b v pc next = Ok (link_if (le_z (pos 0) (signed_of 32 a)) pc next v)
