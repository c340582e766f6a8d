-- Document 004, sections 1.1.5 and 1.1.7: loads and stores, each beside its Operation in 1.2. a is GPR[base], b is GPR[rt], n the memory's length.
use Rattle.std.specs.Prelude.{ℕ, ◌+◌, ◌%◌, Bool, cond, ◌&&◌, eqb, leb, Result, Ok, Err}
use Rattle.word.specs.Number.{extend_of, sum_of}
use Rattle.isa.specs.declared.kind.Access.{Access}
use Rattle.isa.specs.declared.kind.Access.TheVariants.{Lb, Lbu, Sb, Lh, Lhu, Sh, Lw, Sw, Ll, Sc}
use Rattle.effect.specs.declared.effect.Extension.TheVariants.{Zero, Sign}
use Rattle.effect.specs.declared.effect.Effect.{Effect}
use Rattle.effect.specs.declared.effect.Effect.TheVariants.{Write, LoadByte, LoadHalf, LoadWord, LoadLinked, StoreByte, StoreHalf, StoreWord, StoreLinked}
use Rattle.effect.specs.declared.exit.Exit.{Exit}
use Rattle.effect.specs.declared.exit.Exit.TheVariants as E

-- the effective address: the signed offset is added to the base
unfoldable pub address_of : ℕ → ℕ → ℕ
address_of base offset = sum_of base (extend_of 16 offset)

-- aligned, and not reserved: each of the w bytes lies inside the memory (document 01, Machine)
unfoldable pub reaches : ℕ → ℕ → ℕ → Bool
reaches w address n = eqb (address % w) 0 && leb (address + w) n

unfoldable pub load_if : Bool → Effect → Result Effect Exit
load_if t e = cond t (Ok e) (Err E.Load)

unfoldable pub store_if : Bool → Effect → Result Effect Exit
store_if t e = cond t (Ok e) (Err E.Store)

-- SC looks at the LL bit and never at the address that LL used (document 01, Machine)
unfoldable pub conditional : Bool → ℕ → ℕ → ℕ → Effect
conditional ll rt address b = cond ll (StoreLinked rt address b) (Write rt 0)

abbrev pub access_of : Access → ℕ → ℕ → ℕ → ℕ → Bool → ℕ → Result Effect Exit
access_of Lb rt a b v ll n = load_if (reaches 1 (address_of a v) n) (LoadByte rt (address_of a v) Sign)
access_of Lbu rt a b v ll n = load_if (reaches 1 (address_of a v) n) (LoadByte rt (address_of a v) Zero)
access_of Sb rt a b v ll n = store_if (reaches 1 (address_of a v) n) (StoreByte (address_of a v) b)
access_of Lh rt a b v ll n = load_if (reaches 2 (address_of a v) n) (LoadHalf rt (address_of a v) Sign)
access_of Lhu rt a b v ll n = load_if (reaches 2 (address_of a v) n) (LoadHalf rt (address_of a v) Zero)
access_of Sh rt a b v ll n = store_if (reaches 2 (address_of a v) n) (StoreHalf (address_of a v) b)
access_of Lw rt a b v ll n = load_if (reaches 4 (address_of a v) n) (LoadWord rt (address_of a v))
access_of Sw rt a b v ll n = store_if (reaches 4 (address_of a v) n) (StoreWord (address_of a v) b)
access_of Ll rt a b v ll n = load_if (reaches 4 (address_of a v) n) (LoadLinked rt (address_of a v))
access_of Sc rt a b v ll n = store_if (reaches 4 (address_of a v) n) (conditional ll rt (address_of a v) b)
