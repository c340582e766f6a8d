-- An effect carried out on state and memory, and the bytes that it stores.
use Rattle.std.specs.Prelude.{ℕ, ◌+◌, ◌≤◌, ◌<◌, List, Option, None, Some, ◌⊎◌}
use Rattle.isa.specs.Width.{bytes_in}
use Rattle.class.specs.declared.Transfer.{Transfer}
use Rattle.class.specs.declared.Transfer.TheVariants as T
use Rattle.effect.specs.declared.effect.Effect.{Effect}
use Rattle.effect.specs.declared.effect.Touched.{Touched}
use Rattle.effect.specs.declared.effect.Touched.TheVariants.{Load, Store}
use Rattle.parts.specs.Parts.{Parts}
use Rattle.apply.specs.Apply.{applied_of}
use Rattle.machine.specs.declared.state.State.{State}
use Rattle.machine.specs.State.{special_of, join_of}

-- a state with the memory beside it
pub record Machine : Type 0 where
  pub state : State
  pub memory : List ℕ

abbrev pub joined : Parts → Machine
joined p = record { state = join_of p.registers p.special; memory = p.memory }

abbrev pub apply_of : Effect → State → List ℕ → Machine
apply_of e s m = joined (applied_of e s.registers (special_of s) m)

-- bytes of memory: the address of the first, and their number
pub record Span : Type 0 where
  pub at : ℕ
  pub width : ℕ

abbrev pub span : ℕ → ℕ → Span
span a w = record { at = a; width = w }

-- what an access touches at an address
abbrev pub directed : Option Transfer → ℕ → Option Touched
directed None a = None
directed (Some (T.Load w)) a = Some (Load a w)
directed (Some (T.Store w)) a = Some (Store a w)

-- the bytes that an access touches
abbrev pub span_of : Option Touched → Span
span_of None = span 0 0
span_of (Some (Load a w)) = span a (bytes_in w)
span_of (Some (Store a w)) = span a (bytes_in w)

-- those that it stores
abbrev pub stored_in : Option Touched → Span
stored_in None = span 0 0
stored_in (Some (Load a w)) = span 0 0
stored_in (Some (Store a w)) = span a (bytes_in w)

-- byte i is none of them
abbrev pub Outside : ℕ → Span → Type 0
Outside i x = (i < x.at) ⊎ (x.at + x.width ≤ i)
