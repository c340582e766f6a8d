-- The rules as a reader of document 01, with Tickets 5 and 7 of document 02, states them: propositions about the instructions of an image, with no order and no checker.
use Rattle.std.specs.Prelude.{ℕ, ◌+◌, ◌-◌, ◌*◌, ◌/◌, ◌%◌, ◌^◌, ◌≤◌, ◌<◌, ◌≡◌, true, ◌⊎◌, List, ℤ, pos, length, Some}
use Rattle.word.specs.Bytes.{load_of, longest}
use Rattle.isa.specs.declared.kind.Alu.TheVariants.{Or}
use Rattle.isa.specs.declared.kind.Immediate.TheVariants.{Andi}
use Rattle.isa.specs.declared.kind.Branch.TheVariants.{Jalr}
use Rattle.isa.specs.declared.kind.System.TheVariants.{Break, Rfe, Mfc0, Mtc0}
use Rattle.isa.specs.declared.kind.Kind.TheVariants as K
use Rattle.isa.specs.declared.kind.Instruction.{Instruction}
use Rattle.class.specs.declared.Flow.{Flow}
use Rattle.class.specs.declared.Flow.TheVariants.{Onward, Relative, Region, Register}
use Rattle.isa.specs.Width.{bytes_of}
use Rattle.class.specs.Class.{class_of, width_accessed, register_written}
use Rattle.isa.specs.Reading.{read_of}
use Rattle.layout.specs.declared.Layout.{Layout}
use Rattle.branch.specs.Branch.{relative_of, region_of}
use Rattle.rules.specs.Not.{Not}
use Rattle.rules.specs.Offset.{offset_of}

-- ---- the layout

-- a power of two, lo to hi
abbrev pub Power : ℕ → ℕ → ℕ → Type 0
Power lo hi n = ((e : ℕ) × (n ≡ 2 ^ e)) × ((lo ≤ n) × (n ≤ hi))

-- the area starts at a multiple of its own size, and lies inside memory
abbrev pub Placed : ℕ → ℕ → ℕ → Type 0
Placed base size len = (base % size ≡ 0) × (base + size ≤ len)

-- one area ends before the other starts
abbrev pub Apart : Layout → Type 0
Apart l = (l.code_base + l.code_size ≤ l.data_base) ⊎ (l.data_base + l.data_size ≤ l.code_base)

-- ---- instructions

-- instruction x stands at word i of the image
abbrev pub Stands : List ℕ → ℕ → Instruction → Type 0
Stands img i x = read_of (load_of 4 img (4 * i)) ≡ Some x

abbrev pub width_of : Instruction → ℕ
width_of x = bytes_of (width_accessed x.kind)

abbrev pub flow_of : Instruction → Flow
flow_of x = (class_of x.kind).flow

-- LB, LBU, SB, LH, LHU, SH, LW, SW, LL or SC
abbrev pub Accesses : Instruction → Type 0
Accesses x = Not (width_of x ≡ 0)

-- JR or JALR
abbrev pub ByRegister : Instruction → Type 0
ByRegister x = flow_of x ≡ Register

abbrev pub NeedsGuard : Instruction → Type 0
NeedsGuard x = Accesses x ⊎ ByRegister x

-- a branch or jump
abbrev pub Branches : Instruction → Type 0
Branches x = Not (flow_of x ≡ Onward)

-- a branch that leaves a link
abbrev pub LinkingBranch : Instruction → Type 0
LinkingBranch x = ((class_of x.kind).link ≡ true) × (flow_of x ≡ Relative)

-- ---- guards

-- word i is ANDI R,S,m for some S
abbrev pub Masks : List ℕ → ℕ → ℕ → ℕ → Type 0
Masks img i r m = (x : Instruction) × (Stands img i x × ((x.kind ≡ K.Immediate Andi) × ((x.rt ≡ r) × (x.value ≡ m))))

-- word i is OR R,R,base
abbrev pub Merges : List ℕ → ℕ → ℕ → ℕ → Type 0
Merges img i r base =
    (x : Instruction) × (Stands img i x × ((x.kind ≡ K.Alu Or) × ((x.rd ≡ r) × ((x.rs ≡ r) × (x.rt ≡ base)))))

-- the two words before word i, in its bundle, are ANDI R,S,m and OR R,R,base, and R isn't 0, 26 or 27
abbrev pub Guarded : List ℕ → ℕ → ℕ → ℕ → ℕ → Type 0
Guarded img i r base m =
    (2 ≤ i % 4)
    × ((Masks img (i - 2) r m × Merges img (i - 1) r base) × (Not (r ≡ 0) × (Not (r ≡ 26) × Not (r ≡ 27))))

-- m and the signed offset z are multiples of the width w, z isn't negative, and m + z + w is at most the data size
abbrev pub FitsData : ℕ → ℕ → ℤ → ℕ → Type 0
FitsData size m z w = (o : ℕ) × ((z ≡ pos o) × ((m % w ≡ 0) × ((o % w ≡ 0) × (m + o + w ≤ size))))

-- m is a multiple of 16 and at most code size - 16
abbrev pub FitsCode : ℕ → ℕ → Type 0
FitsCode size m = (m % 16 ≡ 0) × (m + 16 ≤ size)

-- ---- targets

-- P of the direct target of instruction x at word i, counted from the slot or in its region, where it has one
abbrev pub AtTarget : Layout → ℕ → Instruction → (ℕ → Type 0) → Type 0
AtTarget l i x P =
    ((flow_of x ≡ Relative) → P (relative_of (l.code_base + 4 * i) x.value))
    × ((flow_of x ≡ Region) → P (region_of (l.code_base + 4 * i) x.value))

-- what stands at word i, if anything, needs no guard
abbrev pub Free : List ℕ → ℕ → Type 0
Free img i = (x : Instruction) → Stands img i x → Not (NeedsGuard x)

-- target t is inside the code, not on the last word, and not on a word that is, or comes just before, an access, JR or JALR
abbrev pub Lands : Layout → List ℕ → ℕ → Type 0
Lands l img t =
    (l.code_base ≤ t)
    × ((t < l.code_base + l.code_size)
    × (Not (t + 4 ≡ l.code_base + l.code_size)
    × (Free img ((t - l.code_base) / 4) × Free img ((t - l.code_base) / 4 + 1))))

-- ---- the rules of words, at word i

abbrev pub Rule8 : List ℕ → ℕ → Type 0
Rule8 img i = (x : Instruction) × Stands img i x

-- no MFC0, MTC0, RFE, or BREAK with code 15
abbrev pub Rule9 : List ℕ → ℕ → Type 0
Rule9 img i =
    (x : Instruction) → Stands img i x
    → Not (x.kind ≡ K.System Mfc0)
    × (Not (x.kind ≡ K.System Mtc0) × (Not (x.kind ≡ K.System Rfe) × ((x.kind ≡ K.System Break) → Not (x.value ≡ 15))))

abbrev pub Rule10 : List ℕ → ℕ → Type 0
Rule10 img i = (x : Instruction) → Stands img i x → Not (register_written x ≡ 26) × Not (register_written x ≡ 27)

abbrev pub Rule11 : List ℕ → ℕ → Type 0
Rule11 img i =
    (x : Instruction) → Stands img i x
    → ((x.kind ≡ K.Branch Jalr) → Not (x.rd ≡ x.rs)) × (LinkingBranch x → Not (x.rs ≡ 31))

-- an access has its guard words, whatever their mask
abbrev pub Rule12 : List ℕ → ℕ → Type 0
Rule12 img i = (x : Instruction) → Stands img i x → Accesses x → (m : ℕ) × Guarded img i x.rs 26 m

-- where it has them, their mask and its offset fit (document 02, Ticket 5)
abbrev pub Rule22 : Layout → List ℕ → ℕ → Type 0
Rule22 l img i =
    (x : Instruction) → Stands img i x → Accesses x
    → (m : ℕ) → Guarded img i x.rs 26 m → FitsData l.data_size m (offset_of x.value) (width_of x)

-- and the mask has no holes: with the width of the access it makes a power of two (document 02, Ticket 7)
abbrev pub Rule25 : List ℕ → ℕ → Type 0
Rule25 img i =
    (x : Instruction) → Stands img i x → Accesses x
    → (m : ℕ) → Guarded img i x.rs 26 m → (e : ℕ) × (m + width_of x ≡ 2 ^ e)

abbrev pub Rule13 : Layout → List ℕ → ℕ → Type 0
Rule13 l img i =
    (x : Instruction) → Stands img i x → ByRegister x
    → (m : ℕ) × (Guarded img i x.rs 27 m × FitsCode l.code_size m)

abbrev pub Rule14 : List ℕ → ℕ → Type 0
Rule14 img i =
    (x y : Instruction) → Stands img i x → Branches x → 0 < i → Stands img (i - 1) y → Not (Branches y)

-- direct target where a branch may lead
abbrev pub Rule15 : Layout → List ℕ → ℕ → Type 0
Rule15 l img i = (x : Instruction) → Stands img i x → AtTarget l i x (Lands l img)

-- J, JAL, JR or JALR
abbrev pub Rule16 : List ℕ → ℕ → Type 0
Rule16 img i = (x : Instruction) × (Stands img i x × ((flow_of x ≡ Region) ⊎ (flow_of x ≡ Register)))

-- ---- the whole

abbrev pub words_in : Layout → ℕ
words_in l = l.code_size / 4

-- a module keeps document 01's rules, of which document 02 parts 12 into 12 and 22, and 25 of document 02
pub record Lawful (l : Layout) (len : ℕ) (img : List ℕ) : Type 0 where
  pub r1 : len ≤ longest
  pub r2 : Power 16 65536 l.code_size
  pub r3 : Power 4 65536 l.data_size
  pub r4 : Placed l.code_base l.code_size len
  pub r5 : Placed l.data_base l.data_size len
  pub r6 : Apart l
  pub r7 : length img ≡ l.code_size
  pub r8 : (i : ℕ) → i < words_in l → Rule8 img i
  pub r9 : (i : ℕ) → i < words_in l → Rule9 img i
  pub r10 : (i : ℕ) → i < words_in l → Rule10 img i
  pub r11 : (i : ℕ) → i < words_in l → Rule11 img i
  pub r12 : (i : ℕ) → i < words_in l → Rule12 img i
  pub r22 : (i : ℕ) → i < words_in l → Rule22 l img i
  pub r25 : (i : ℕ) → i < words_in l → Rule25 img i
  pub r13 : (i : ℕ) → i < words_in l → Rule13 l img i
  pub r14 : (i : ℕ) → i < words_in l → Rule14 img i
  pub r15 : (i : ℕ) → i < words_in l → Rule15 l img i
  pub r16 : Rule16 img (words_in l - 2)
