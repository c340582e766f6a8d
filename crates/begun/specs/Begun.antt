-- Lists that the start call begins (document 02, Ticket 8): demand 3 of the request, with no promise of how the module was placed and started.
-- What a host may still change in a list is `change_of` of confinement's Lists.
use Rattle.std.specs.Prelude.{ℕ, ◌≡◌, List, length}
use Rattle.layout.specs.declared.Layout.{Layout}
use Rattle.machine.specs.State.{Bytes}
use Rattle.checker.specs.Check.{accepted, check_of}
use Rattle.straight.specs.Check.{straight_of}
use Rattle.start.specs.Start.{StartAnswer}
use Rattle.confinement.specs.Events.{Event}
use Rattle.confinement.specs.Calls.{Lent, lent, Calls}
use Rattle.confinement.specs.Demand.{Start, Confinement, Alike, Same}
use Rattle.termination.specs.Ends.{Ends}

-- the start call of one level: of a layout, an image, a state and a memory
abbrev pub StartCall : Type 0 → Type 0
StartCall S = Layout → List ℕ → S → List ℕ → StartAnswer S

module _ {S : Type 0} (c : Calls S) (start : StartCall S) where
  -- what it leaves: the state that it hands back, and the memory, which it only reads
  abbrev pub left_by : Layout → List ℕ → Lent S → Lent S
  left_by l img w = lent (start l img w.state w.memory).state w.memory

  -- it answers 0; and what the types of the code say
  pub record Begins (l : Layout) (img : List ℕ) (w : Lent S) : Type 0 where
    pub done : (start l img w.state w.memory).verdict.number ≡ 0
    pub sized : c.Sized w.state
    pub bytes : Bytes w.memory

  -- demand 3 of every list that is begun so: it is confined, and every other that is begun alike gets the same
  abbrev pub BegunSecured : Type 0
  BegunSecured =
      (l : Layout) (img : List ℕ) (w : Lent S) → Begins l img w → (es : List Event)
      → Confinement c l es (left_by l img w)
      × ((v : Lent S) → Begins l img v → length v.memory ≡ length w.memory → Alike l (left_by l img v) (left_by l img w)
      → Same c l es (left_by l img v) (left_by l img w))

  -- after an answer 0 the state is demand 3's start
  abbrev pub BegunStarts : Type 0
  BegunStarts =
      (l : Layout) (img : List ℕ) (w : Lent S) → Begins l img w
      → (check_of l (length w.memory) img ≡ accepted) × Start c l (length w.memory) img (left_by l img w)

  -- and the call refuses no such start, and changes nothing in it
  abbrev pub StartsGivenBack : Type 0
  StartsGivenBack =
      (l : Layout) (len : ℕ) (img : List ℕ) → check_of l len img ≡ accepted → (w : Lent S) → Start c l len img w
      → start l img w.state w.memory ≡ record { verdict = accepted; state = w.state }

  -- and a module that the straight-through profile accepts is known to finish (document 02, Ticket 2)
  abbrev pub BegunEnds : Type 0
  BegunEnds =
      (l : Layout) (img : List ℕ) (w : Lent S) → Begins l img w → straight_of l (length w.memory) img ≡ accepted
      → Ends c l (left_by l img w)
