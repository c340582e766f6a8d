-- Where the accesses of an accepted module go, by the values that their guards mask (document 02, Ticket 7).
use Rattle.std.specs.Prelude.{ℕ, ◌+◌, ◌*◌, ◌<◌, ◌≡◌, List, pos}
use Rattle.isa.specs.declared.kind.Instruction.{Instruction}
use Rattle.layout.specs.declared.Layout.{Layout}
use Rattle.rules.specs.Offset.{offset_of}
use Rattle.checker.specs.Check.{accepted, check_of}
use Rattle.checker.specs.Lawful.{Stands, Accesses, Guarded, width_of, words_in}
use Rattle.checker.specs.Cells.{cell}
use Rattle.machine.specs.State.{register_of}
use Rattle.machine.specs.Apply.{Machine, span}
use Rattle.machine.specs.Step.{access_at}
use Rattle.machine.specs.Run.{Course, repeat_of}
use Rattle.checker.specs.Refusal.{All}
use Rattle.confinement.specs.Events.{Event}
use Rattle.confinement.specs.Calls.{Lent, Calls}
use Rattle.confinement.specs.Lists.{list_tries}
use Rattle.confinement.specs.Demand.{Start}

-- at the machine that r has reached access x is next, of its width from place and offset in the data on
pub record Reaches (l : Layout) (x : Instruction) (place : ℕ) (r : Course) : Type 0 where
  pub completed : r.number ≡ 0
  pub offset : ℕ
  pub offset_is : offset_of x.value ≡ pos offset
  pub access : access_at r.machine.state r.machine.memory ≡ span (l.data_base + place + offset) (width_of x)

-- where the two words of x's guard come next, ANDI y and the OR, both complete, and x then goes to the place of the value that y masks
abbrev pub Guards : Layout → List ℕ → Machine → Type 0
Guards l img t =
    (i : ℕ) → i + 2 < words_in l → t.state.special.pc ≡ l.code_base + 4 * i → t.state.special.next_pc ≡ l.code_base + 4 * (i + 1)
    → (y x : Instruction) → Stands img i y → Stands img (i + 2) x → Accesses x → (m : ℕ) → Guarded img (i + 2) x.rs 26 m
    → Reaches l x (cell m (width_of x) (register_of t.state.registers y.rs)) (repeat_of 2 t.state t.memory)

-- so it is at every step that is tried of an accepted module, placed and started as in demand 3, in every list of calls and changes by the host
abbrev pub CellsReached : {S : Type 0} → Calls S → Type 0
CellsReached {S} c =
    (l : Layout) (len : ℕ) (img : List ℕ) → check_of l len img ≡ accepted → (w : Lent S) → Start c l len img w → (es : List Event)
    → All (Guards l img) (list_tries c l es w)
