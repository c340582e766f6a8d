-- A list of events from a state and memory: what each event answers and leaves, and the steps that are tried (document 01, Machine).
use Rattle.std.specs.Prelude.{ℕ, zero, suc, Bool, true, false, cond, ◌&&◌, List, [], ◌∷◌, ◌++◌, eqb, leb, length, set}
use Rattle.layout.specs.declared.Layout.{Layout}
use Rattle.machine.specs.declared.state.State.{State}
use Rattle.machine.specs.Apply.{Machine}
use Rattle.machine.specs.Step.{step_of}
use Rattle.confinement.specs.Events.{Write, Register, Hi, Lo, Byte, Event, Step, Run, Resume, Change, may_write}
use Rattle.confinement.specs.Calls.{Lent, lent, Changed, Reply, Calls}

-- ---- changes by the host

-- the numbers of exits, which are above those of refusals
unfoldable pub is_exit : ℕ → Bool
is_exit k = leb 40 k

abbrev pub may_all : Layout → List Write → Bool
may_all l [] = true
may_all l (x ∷ xs) = may_write l x && may_all l xs

-- a byte written goes to memory, every other thing is in the state
abbrev pub put_byte : Write → List ℕ → List ℕ
put_byte (Register r v) m = m
put_byte (Hi v) m = m
put_byte (Lo v) m = m
put_byte (Byte a v) m = set m a v

module _ {S : Type 0} (c : Calls S) (l : Layout) where
  abbrev pub put_all : List Write → Lent S → Lent S
  put_all [] w = w
  put_all (x ∷ xs) w = put_all xs (lent (c.put x w.state) (put_byte x w.memory))

  -- a change stands where a host may make it and the step of the state reached ends in an exit, whether or not a call has reported it
  unfoldable pub stands : List Write → Lent S → Bool
  stands xs w = is_exit (step_of (c.view w.state) w.memory).number && may_all l xs

  -- one that does not stand changes nothing
  abbrev pub change_of : List Write → Lent S → Reply S
  change_of xs w =
      cond (stands xs w)
      (record { answer = Changed true; left = put_all xs w })
      (record { answer = Changed false; left = w })

  -- ---- events in order

  -- an event, given the state and memory that the one before it left
  abbrev pub event_of : Event → Lent S → Reply S
  event_of Step w = c.step w.state w.memory
  event_of (Run n) w = c.run n w.state w.memory
  event_of Resume w = c.resume w.state w.memory
  event_of (Change xs) w = change_of xs w

  -- what every event of a list answers and leaves; an exit and a refusal leave both as they were, and the list goes on
  abbrev pub list_of : List Event → Lent S → List (Reply S)
  list_of [] w = []
  list_of (e ∷ es) w = event_of e w ∷ list_of es (event_of e w).left

-- ---- the steps that are tried

abbrev pub at : State → List ℕ → Machine
at s m = record { state = s; memory = m }

-- each step of a run, with the exiting one
abbrev pub run_tries : ℕ → State → List ℕ → List Machine
run_tries zero s m = []
run_tries (suc n) s m =
    at s m
    ∷ cond (eqb (step_of s m).number 0) (run_tries n (step_of s m).machine.state (step_of s m).machine.memory) []

module _ {S : Type 0} (c : Calls S) (l : Layout) where
  -- none where the call is refused by 1 or 17
  abbrev pub unless : Lent S → List Machine → List Machine
  unless w ts = cond (eqb (c.refusal w.state (length w.memory)) 0) ts []

  -- those of step calls, of runs, and the one that a resume looks at
  abbrev pub tries : Event → Lent S → List Machine
  tries Step w = unless w (at (c.view w.state) w.memory ∷ [])
  tries (Run n) w = unless w (run_tries n (c.view w.state) w.memory)
  tries Resume w = unless w (at (c.view w.state) w.memory ∷ [])
  tries (Change xs) w = []

  -- all of a list, in order
  abbrev pub list_tries : List Event → Lent S → List Machine
  list_tries [] w = []
  list_tries (e ∷ es) w = tries e w ++ list_tries es (event_of c l e w).left
