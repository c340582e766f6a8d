-- What a step touches: the memory access that it completes, with address, width and direction (document 02, Ticket 1).
use Rattle.std.specs.Prelude.{ℕ, ◌≡◌, Option, None, Some}
use Rattle.isa.specs.declared.width.Width.TheVariants.{Byte, Half, Word}
use Rattle.isa.specs.Width.{bytes_in}
use Rattle.effect.specs.declared.effect.Effect.{Effect}
use Rattle.effect.specs.declared.effect.Effect.TheVariants.{Advance, Write, Pair, Jump, Link, LoadByte, LoadHalf, LoadWord, LoadLinked, StoreByte, StoreHalf, StoreWord, StoreLinked, Control, Return}
use Rattle.effect.specs.declared.effect.Touched.{Touched}
use Rattle.effect.specs.declared.effect.Cell.{Cell}
use Rattle.effect.specs.declared.effect.Touched.TheVariants.{Load, Store}

-- an SC that does not store is a plain write
abbrev pub touched_of : Effect → Option Touched
touched_of Advance = None
touched_of (Write r v) = None
touched_of (Pair h l) = None
touched_of (Jump t) = None
touched_of (Link r v t) = None
touched_of (LoadByte r a s) = Some (Load a Byte)
touched_of (LoadHalf r a s) = Some (Load a Half)
touched_of (LoadWord r a) = Some (Load a Word)
touched_of (LoadLinked r a) = Some (Load a Word)
touched_of (StoreByte a v) = Some (Store a Byte)
touched_of (StoreHalf a v) = Some (Store a Half)
touched_of (StoreWord a v) = Some (Store a Word)
touched_of (StoreLinked r a v) = Some (Store a Word)
touched_of (Control r v) = None
touched_of (Return s) = None

abbrev pub cell : ℕ → ℕ → ℕ → Cell
cell a w d = record { address = a; width = w; store = d }

-- the three numbers of each case
abbrev pub cell_of : Option Touched → Cell
cell_of None = cell 0 0 0
cell_of (Some (Load a w)) = cell a (bytes_in w) 0
cell_of (Some (Store a w)) = cell a (bytes_in w) 1

abbrev pub IsCellOf : Option Touched → Cell → Type 0
IsCellOf t c = c ≡ cell_of t

-- the last access of two in turn
abbrev pub last_of : Option Touched → Option Touched → Option Touched
last_of before None = before
last_of before (Some t) = Some t
