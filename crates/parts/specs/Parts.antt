-- What an effect is carried out on: the 32 registers, the other registers and memory; and each change of them.
use Rattle.std.specs.Prelude.{ℕ, ◌%◌, ◌^◌, Bool, cond, List, eqb, set}
use Rattle.isa.specs.declared.control.Control.{Control}
use Rattle.isa.specs.declared.control.Control.TheVariants.{BadAddress, Status, Cause, ReturnAddress}
use Rattle.word.specs.Number.{extend_of}
use Rattle.effect.specs.declared.effect.Special.{Special}
use Rattle.effect.specs.declared.effect.Extension.{Extension}
use Rattle.effect.specs.declared.effect.Extension.TheVariants.{Zero, Sign}
use Rattle.branch.specs.Branch.{slot_of}

-- what an effect is carried out on
pub record Parts : Type 0 where
  pub registers : List ℕ
  pub special : Special
  pub memory : List ℕ

abbrev pub parts : List ℕ → Special → List ℕ → Parts
parts l c m = record { registers = l; special = c; memory = m }

-- writes to register 0 vanish
unfoldable pub put_of : List ℕ → ℕ → ℕ → List ℕ
put_of l r v = cond (eqb r 0) l (set l r v)

-- ---- the other registers, some of them changed

abbrev pub special : ℕ → ℕ → ℕ → ℕ → Bool → ℕ → ℕ → ℕ → ℕ → Special
special h l p q k b s u e = record { hi = h; lo = l; pc = p; next_pc = q; ll = k; bad = b; status = s; cause = u; epc = e }

-- PC becomes next PC, and next PC the target
abbrev pub jump_of : Special → ℕ → Special
jump_of c t = special c.hi c.lo c.next_pc t c.ll c.bad c.status c.cause c.epc

-- an ordinary step: next PC becomes four more
abbrev pub advance_of : Special → Special
advance_of c = jump_of c (slot_of c.next_pc)

abbrev pub pair_of : Special → ℕ → ℕ → Special
pair_of c h l = special h l c.pc c.next_pc c.ll c.bad c.status c.cause c.epc

abbrev pub linked_of : Special → Bool → Special
linked_of c k = special c.hi c.lo c.pc c.next_pc k c.bad c.status c.cause c.epc

abbrev pub bad_of : Special → ℕ → Special
bad_of c v = special c.hi c.lo c.pc c.next_pc c.ll v c.status c.cause c.epc

abbrev pub status_of : Special → ℕ → Special
status_of c v = special c.hi c.lo c.pc c.next_pc c.ll c.bad v c.cause c.epc

abbrev pub cause_of : Special → ℕ → Special
cause_of c v = special c.hi c.lo c.pc c.next_pc c.ll c.bad c.status v c.epc

abbrev pub epc_of : Special → ℕ → Special
epc_of c v = special c.hi c.lo c.pc c.next_pc c.ll c.bad c.status c.cause v

-- a control register; the status keeps bits 0 to 12, writes to the rest are ignored (document 01, Machine)
abbrev pub controlled_of : Special → Control → ℕ → Special
controlled_of c BadAddress v = bad_of c v
controlled_of c Status v = status_of c (v % 2 ^ 13)
controlled_of c Cause v = cause_of c v
controlled_of c ReturnAddress v = epc_of c v

-- what a load brings: k bits x, sign-extended or zero-extended
abbrev pub loaded_of : ℕ → Extension → ℕ → ℕ
loaded_of k Zero x = x
loaded_of k Sign x = extend_of k x
