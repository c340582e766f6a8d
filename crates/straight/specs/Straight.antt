-- The straight-through profile as a reader of document 02, Ticket 2, states it: propositions about the instructions of an image, beside those of
-- document 01 (`Lawful`), with no order and no checker.
use Rattle.std.specs.Prelude.{ℕ, ◌+◌, ◌-◌, ◌*◌, ◌≤◌, ◌<◌, ◌≡◌, ◌⊎◌, List}
use Rattle.word.specs.Bytes.{load_of}
use Rattle.isa.specs.declared.kind.Branch.TheVariants.{J}
use Rattle.isa.specs.declared.kind.System.TheVariants.{Syscall}
use Rattle.isa.specs.declared.kind.Kind.TheVariants as K
use Rattle.isa.specs.declared.kind.Instruction.{Instruction}
use Rattle.branch.specs.Branch.{region_of}
use Rattle.layout.specs.declared.Layout.{Layout}
use Rattle.rules.specs.Not.{Not}
use Rattle.checker.specs.Lawful.{Stands, ByRegister, AtTarget, words_in}

-- ---- targets

-- target t is at least two words after word i, and not past the last bundle's start
abbrev pub Ahead : Layout → ℕ → ℕ → Type 0
Ahead l i t = (l.code_base + 4 * (i + 2) ≤ t) × (t + 16 ≤ l.code_base + l.code_size)

-- address t is the last bundle's start
abbrev pub LastBundle : Layout → ℕ → Type 0
LastBundle l t = t + 16 ≡ l.code_base + l.code_size

-- x is a J to the last bundle's start in the last word but one, whatever the rest of the bundle holds
abbrev pub Excused : Layout → ℕ → Instruction → ℕ → Type 0
Excused l i x t = (x.kind ≡ K.Branch J) × ((i + 2 ≡ words_in l) × LastBundle l t)

-- no JR or JALR, and a direct target is ahead or excused
abbrev pub Rule20 : Layout → List ℕ → ℕ → Type 0
Rule20 l img i =
    (x : Instruction) → Stands img i x → Not (ByRegister x) × AtTarget l i x (λ t. Ahead l i t ⊎ Excused l i x t)

-- ---- the last bundle

-- word i is SYSCALL with code 0
abbrev pub Syscall0 : List ℕ → ℕ → Type 0
Syscall0 img i = (x : Instruction) × (Stands img i x × ((x.kind ≡ K.System Syscall) × (x.value ≡ 0)))

-- word i is J to the last bundle's start
abbrev pub Back : Layout → List ℕ → ℕ → Type 0
Back l img i =
    (x : Instruction) × (Stands img i x × ((x.kind ≡ K.Branch J) × LastBundle l (region_of (l.code_base + 4 * i) x.value)))

abbrev pub Zero : List ℕ → ℕ → Type 0
Zero img i = load_of 4 img (4 * i) ≡ 0

-- the last four of n words are SYSCALL with code 0, a zero word, J to the last bundle's start, a zero word
abbrev pub Ending : Layout → List ℕ → ℕ → Type 0
Ending l img n = Syscall0 img (n - 4) × (Zero img (n - 3) × (Back l img (n - 2) × Zero img (n - 1)))

abbrev pub Rule21 : Layout → List ℕ → Type 0
Rule21 l img = Ending l img (words_in l)

-- ---- the whole

pub record Straight (l : Layout) (img : List ℕ) : Type 0 where
  pub r20 : (i : ℕ) → i < words_in l → Rule20 l img i
  pub r21 : Rule21 l img
