-- The events of a list: calls, and changes by the host (document 01, Machine, from "Demand 3 is one claim about a whole list").
use Rattle.std.specs.Prelude.{ℕ, ◌+◌, ◌^◌, Bool, ◌&&◌, ◌||◌, List, leb, ltb}
use Rattle.layout.specs.declared.Layout.{Layout}

-- a new value for one of the things that a host may change: register r, HI, LO, or the byte at address a
pub data Write : Type 0 where
  Register : ℕ → ℕ → Write
  Hi : ℕ → Write
  Lo : ℕ → Write
  Byte : ℕ → ℕ → Write

-- a run of any budget; a change of any number of things at once
pub data Event : Type 0 where
  Step : Event
  Run : ℕ → Event
  Resume : Event
  Change : List Write → Event

-- address a lies in the data area
unfoldable pub is_data : Layout → ℕ → Bool
is_data l a = leb l.data_base a && ltb a (l.data_base + l.data_size)

-- the registers that a host may change: 1 to 25 and 28 to 31
unfoldable pub is_other : ℕ → Bool
is_other r = leb 1 r && leb r 25 || leb 28 r && leb r 31

-- a host may write so: to one of these things, any value of its width
unfoldable pub may_write : Layout → Write → Bool
may_write l (Register r v) = is_other r && ltb v (2 ^ 32)
may_write l (Hi v) = ltb v (2 ^ 32)
may_write l (Lo v) = ltb v (2 ^ 32)
may_write l (Byte a v) = is_data l a && ltb v (2 ^ 8)
