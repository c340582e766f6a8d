-- The number of each refusal (document 01, Refusal table; document 02, Tickets 2 and 5 to 8), and that of a result, which may be one.
use Rattle.std.specs.Prelude.{ℕ, ◌≡◌, Bool, true, false, Result, Ok, Err}
use Rattle.refusal.specs.declared.Refusal.{Refusal}
use Rattle.refusal.specs.declared.Refusal.TheVariants.{MemoryTooLong, CodeSize, DataSize, CodePlace, DataPlace, Overlap, ImageLength, NoInstruction, Barred, WritesBase, LinkOverBase, DataGuard, CodeGuard, BranchAfterBranch, Target, NoLastJump, State, IllegalField, NotServed, NotForward, LastBundle, DataMask, NoSpace, Record, MaskHole, CodeBytes, Bases}

abbrev pub number_of : Refusal → ℕ
number_of MemoryTooLong = 1
number_of CodeSize = 2
number_of DataSize = 3
number_of CodePlace = 4
number_of DataPlace = 5
number_of Overlap = 6
number_of ImageLength = 7
number_of NoInstruction = 8
number_of Barred = 9
number_of WritesBase = 10
number_of LinkOverBase = 11
number_of DataGuard = 12
number_of CodeGuard = 13
number_of BranchAfterBranch = 14
number_of Target = 15
number_of NoLastJump = 16
number_of State = 17
number_of IllegalField = 18
number_of NotServed = 19
number_of NotForward = 20
number_of LastBundle = 21
number_of DataMask = 22
number_of NoSpace = 23
number_of Record = 24
number_of MaskHole = 25
number_of CodeBytes = 26
number_of Bases = 27

abbrev pub IsNumberOf : Refusal → ℕ → Type 0
IsNumberOf r n = n ≡ number_of r

-- 0 where nothing is refused
abbrev pub refused_number : {A : Type 0} → Result A Refusal → ℕ
refused_number (Ok x) = 0
refused_number (Err r) = number_of r

abbrev pub ended_when : {E : Type 0} → E → Bool → Result Unit E
ended_when e true = Err e
ended_when e false = Ok tt

abbrev pub refused_when : Refusal → Bool → Result Unit Refusal
refused_when r b = ended_when r b
