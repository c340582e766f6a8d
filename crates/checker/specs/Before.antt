-- Document 01's rules as they stood before document 02, Ticket 5, parted its rule of data guards into 12 and 22, and Ticket 7 asked for data guards' masks without holes.
-- `same_modules` of proofs/Guarded says that by Ticket 5 nothing else changed, and by Ticket 7 only that.
use Rattle.std.specs.Prelude.{ℕ, ◌-◌, ◌<◌, ◌≤◌, ◌≡◌, List, length}
use Rattle.word.specs.Bytes.{longest}
use Rattle.layout.specs.declared.Layout.{Layout}
use Rattle.checker.specs.Lawful.{Power, Placed, Apart, Stands, Accesses, Guarded, FitsData, width_of, words_in, Rule8, Rule9, Rule10, Rule11, Rule25, Rule13, Rule14, Rule15, Rule16}
use Rattle.isa.specs.declared.kind.Instruction.{Instruction}
use Rattle.rules.specs.Offset.{offset_of}

-- an access has a fitting guard
abbrev pub FittingGuard : Layout → List ℕ → ℕ → Type 0
FittingGuard l img i =
    (x : Instruction) → Stands img i x → Accesses x
    → (m : ℕ) × (Guarded img i x.rs 26 m × FitsData l.data_size m (offset_of x.value) (width_of x))

-- what Ticket 7 asks besides: the mask of no data guard has holes
abbrev pub Unholed : Layout → List ℕ → Type 0
Unholed l img = (i : ℕ) → i < words_in l → Rule25 img i

pub record LawfulBefore (l : Layout) (len : ℕ) (img : List ℕ) : Type 0 where
  pub r1 : len ≤ longest
  pub r2 : Power 16 65536 l.code_size
  pub r3 : Power 4 65536 l.data_size
  pub r4 : Placed l.code_base l.code_size len
  pub r5 : Placed l.data_base l.data_size len
  pub r6 : Apart l
  pub r7 : length img ≡ l.code_size
  pub r8 : (i : ℕ) → i < words_in l → Rule8 img i
  pub r9 : (i : ℕ) → i < words_in l → Rule9 img i
  pub r10 : (i : ℕ) → i < words_in l → Rule10 img i
  pub r11 : (i : ℕ) → i < words_in l → Rule11 img i
  pub r12 : (i : ℕ) → i < words_in l → FittingGuard l img i
  pub r13 : (i : ℕ) → i < words_in l → Rule13 l img i
  pub r14 : (i : ℕ) → i < words_in l → Rule14 img i
  pub r15 : (i : ℕ) → i < words_in l → Rule15 l img i
  pub r16 : Rule16 img (words_in l - 2)
