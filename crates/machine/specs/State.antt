-- The state, and what of it refusal 17 refuses (document 01, Machine and Refusal table).
use Rattle.std.specs.Prelude.{ℕ, ◌%◌, ◌^◌, ◌<◌, ◌≡◌, Bool, cond, ◌&&◌, List, eqb, ltb, length, get_or}
use Rattle.word.specs.Bytes.{longest}
use Rattle.effect.specs.declared.effect.Special.{Special}
use Rattle.effect.specs.Sound.{Word}
use Rattle.machine.specs.declared.state.State.{State}

-- GPR[r]
abbrev pub register_of : List ℕ → ℕ → ℕ
register_of l r = get_or l r 0

-- the state in two parts: the 32 registers and the others
abbrev pub special_of : State → Special
special_of s = s.special

abbrev pub join_of : List ℕ → Special → State
join_of l c = record { registers = l; special = c }

-- register 0 is zero, PC and next PC are multiples of 4, no status bit above 12 is set
unfoldable pub is_lawful : State → Bool
is_lawful s =
    eqb (register_of s.registers 0) 0
    && (eqb (s.special.pc % 4) 0 && (eqb (s.special.next_pc % 4) 0 && ltb s.special.status (2 ^ 13)))

-- the refusals that step, run and resume try first, in this order; 0 where neither is due
unfoldable pub refusal_of : State → ℕ → ℕ
refusal_of s n = cond (ltb longest n) 1 (cond (is_lawful s) 0 17)

-- what the types of the code say of every state and memory: words of 32 bits, 32 registers, bytes of 8 bits
pub record Words (c : Special) : Type 0 where
  pub hi : Word c.hi
  pub lo : Word c.lo
  pub pc : Word c.pc
  pub next_pc : Word c.next_pc
  pub bad : Word c.bad
  pub status : Word c.status
  pub cause : Word c.cause
  pub epc : Word c.epc

pub record Typed (s : State) : Type 0 where
  pub count : length s.registers ≡ 32
  pub registers : (r : ℕ) → Word (register_of s.registers r)
  pub special : Words (special_of s)

abbrev pub Bytes : List ℕ → Type 0
Bytes m = (a : ℕ) → get_or m a 0 < 2 ^ 8
