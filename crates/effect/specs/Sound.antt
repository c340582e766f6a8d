-- What every effect of an instruction keeps to, so that it can be carried out on 32 registers and n bytes of memory. An exit carries nothing out.
use Rattle.std.specs.Prelude.{ℕ, ◌+◌, ◌%◌, ◌^◌, ◌≤◌, ◌<◌, ◌≡◌, Result}
use Rattle.std.specs.Result.{IfOk}
use Rattle.effect.specs.declared.exit.Exit.{Exit}
use Rattle.effect.specs.declared.effect.Special.{Special}
use Rattle.effect.specs.declared.effect.Effect.{Effect}
use Rattle.effect.specs.declared.effect.Effect.TheVariants.{Advance, Write, Pair, Jump, Link, LoadByte, LoadHalf, LoadWord, LoadLinked, StoreByte, StoreHalf, StoreWord, StoreLinked, Control, Return}

-- a register's number, a word, a word-aligned address
abbrev pub Register : ℕ → Type 0
Register r = r < 2 ^ 5

abbrev pub Word : ℕ → Type 0
Word v = v < 2 ^ 32

abbrev pub Aligned : ℕ → Type 0
Aligned a = (a < 2 ^ 32) × (a % 4 ≡ 0)

-- w bytes at address a: inside the memory, and those that the instruction accesses
pub record Reach (a w n at width : ℕ) : Type 0 where
  pub inside : a + w ≤ n
  pub same_address : a ≡ at
  pub same_width : w ≡ width

abbrev pub Keeps : Effect → ℕ → ℕ → ℕ → Type 0
Keeps Advance n at width = Unit {0}
Keeps (Write r v) n at width = Register r × Word v
Keeps (Pair h l) n at width = Word h × Word l
Keeps (Jump t) n at width = Aligned t
Keeps (Link r v t) n at width = Register r × (Word v × Aligned t)
Keeps (LoadByte r a s) n at width = Register r × Reach a 1 n at width
Keeps (LoadHalf r a s) n at width = Register r × Reach a 2 n at width
Keeps (LoadWord r a) n at width = Register r × Reach a 4 n at width
Keeps (LoadLinked r a) n at width = Register r × Reach a 4 n at width
Keeps (StoreByte a v) n at width = Reach a 1 n at width
Keeps (StoreHalf a v) n at width = Reach a 2 n at width
Keeps (StoreWord a v) n at width = Reach a 4 n at width
Keeps (StoreLinked r a v) n at width = Register r × Reach a 4 n at width
Keeps (Control r v) n at width = Word v
Keeps (Return s) n at width = s < 2 ^ 13

-- with n bytes of memory, by an instruction whose access, if it is one, is of `width` bytes at `at`
pub record Sound (d : Result Effect Exit) (n at width : ℕ) : Type 0 where
  pub keeps : IfOk d (λ e. Keeps e n at width)

-- special registers that refusal 17 lets pass: words, aligned program counters, no status bit above 12
pub record Regular (s : Special) : Type 0 where
  pub hi : Word s.hi
  pub lo : Word s.lo
  pub pc : Aligned s.pc
  pub next_pc : Aligned s.next_pc
  pub bad : Word s.bad
  pub status : s.status < 2 ^ 13
  pub cause : Word s.cause
  pub epc : Word s.epc

-- it can be carried out with n bytes of memory, as it is some instruction's
pub record Performable (e : Effect) (n : ℕ) : Type 0 where
  pub at : ℕ
  pub width : ℕ
  pub keeps : Keeps e n at width
