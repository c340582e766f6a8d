-- Demand 3 of the request, whole: `Demand3`, at the end, is the statement; proofs/Whole proves it for both levels of calls.
use Rattle.std.specs.Prelude.{ℕ, ◌+◌, ◌≤◌, ◌≡◌, true, false, ◌⊎◌, List, map, length, get_or, take, drop}
use Rattle.effect.specs.declared.effect.Cell.{Cell}
use Rattle.layout.specs.declared.Layout.{Layout}
use Rattle.checker.specs.Check.{accepted, check_of, code_of}
use Rattle.rules.specs.Not.{Not}
use Rattle.checker.specs.Refusal.{All}
use Rattle.effect.specs.declared.exit.Exit.TheVariants as E
use Rattle.effect.specs.Exit.{number_of}
use Rattle.system.specs.System.{is_user}
use Rattle.machine.specs.State.{register_of, Bytes}
use Rattle.machine.specs.Apply.{Machine, Span, span}
use Rattle.machine.specs.Step.{access_at, step_of}
use Rattle.confinement.specs.Events.{Event, is_data}
use Rattle.confinement.specs.Calls.{Lent, Answer, Stepped, Ran, Resumed, Changed, Reply, Calls}
use Rattle.confinement.specs.Lists.{list_of, list_tries}

-- the bytes x lie in the area of `size` bytes at `base`
abbrev pub Within : ℕ → ℕ → Span → Type 0
Within base size x = (base ≤ x.at) × (x.at + x.width ≤ base + size)

-- an access is none, or lies in the data area, its whole width
abbrev pub InData : Layout → Span → Type 0
InData l x = (x.width ≡ 0) ⊎ Within l.data_base l.data_size x

-- the exits that demand 3 allows: 40, 46, 47 and 48
abbrev pub Allowed : ℕ → Type 0
Allowed k =
    (k ≡ number_of E.IntegerOverflow)
    ⊎ ((k ≡ number_of E.SystemCall) ⊎ ((k ≡ number_of E.Breakpoint) ⊎ (k ≡ number_of E.Trap)))

-- ---- the start: a module's image placed unchanged in its code area, in user mode at its first word; all else is arbitrary
pub record Start {S : Type 0} (c : Calls S) (l : Layout) (len : ℕ) (img : List ℕ) (w : Lent S) : Type 0 where
  pub placed : code_of l w.memory ≡ img
  pub length_told : length w.memory ≡ len
  pub not_17 : Not (c.refusal w.state len ≡ 17)
  pub first_word : (c.view w.state).special.pc ≡ l.code_base
  pub then_next : (c.view w.state).special.next_pc ≡ l.code_base + 4
  pub user_mode : is_user (c.view w.state).special.status ≡ true
  pub register_0 : register_of (c.view w.state).registers 0 ≡ 0
  pub register_26 : register_of (c.view w.state).registers 26 ≡ l.data_base
  pub register_27 : register_of (c.view w.state).registers 27 ≡ l.code_base
  -- what the types of the code say
  pub sized : c.Sized w.state
  pub bytes : Bytes w.memory

-- ---- confinement

-- a step tried fetches from the code, accesses the data area alone (an SC counts also where it does not store), and exits, if it does, as allowed
pub record Confined (l : Layout) (t : Machine) : Type 0 where
  pub fetch : Within l.code_base l.code_size (span t.state.special.pc 4)
  pub access : InData l (access_at t.state t.memory)
  pub exit : ((step_of t.state t.memory).number ≡ 0) ⊎ Allowed (step_of t.state t.memory).number

-- memory m, which was m₀ at the start
pub record Untouched (l : Layout) (m₀ m : List ℕ) : Type 0 where
  pub same_length : length m ≡ length m₀
  pub same_bytes : (a : ℕ) → is_data l a ≡ false → get_or m a 0 ≡ get_or m₀ a 0

-- a call is done, ends in an allowed exit, or is a resume that 19 refuses; no other refusal is met
abbrev pub Expected : Answer → Type 0
Expected (Stepped k t) = (k ≡ 0) ⊎ Allowed k
Expected (Ran k n t) = (k ≡ 0) ⊎ Allowed k
Expected (Resumed k) = (k ≡ 0) ⊎ (k ≡ 19)
Expected (Changed t) = Unit {0}

-- the access that an answer carries (document 02, Ticket 1)
abbrev pub CellInData : Layout → Cell → Type 0
CellInData l t = InData l (span t.address t.width)

abbrev pub TouchedInData : Layout → Answer → Type 0
TouchedInData l (Stepped k t) = CellInData l t
TouchedInData l (Ran k n t) = CellInData l t
TouchedInData l (Resumed k) = Unit {0}
TouchedInData l (Changed t) = Unit {0}

pub record Confinement {S : Type 0} (c : Calls S) (l : Layout) (es : List Event) (w : Lent S) : Type 0 where
  pub steps : All (Confined l) (list_tries c l es w)
  pub memories : All (λ r. Untouched l w.memory r.left.memory) (list_of c l es w)
  pub answers : All (λ r. Expected r.answer) (list_of c l es w)
  pub touched : All (λ r. TouchedInData l r.answer) (list_of c l es w)

-- ---- non-interference

abbrev pub data_of : Layout → List ℕ → List ℕ
data_of l m = take l.data_size (drop l.data_base m)

-- two starts of one layout, memory length and image, with equal states and data bytes: alike in all but memory outside code and data
pub record Alike {S : Type 0} (l : Layout) (v w : Lent S) : Type 0 where
  pub same_state : v.state ≡ w.state
  pub same_data : data_of l v.memory ≡ data_of l w.memory

-- what is compared after every event
pub record Seen (S : Type 0) : Type 0 where
  pub answer : Answer
  pub state : S
  pub data_bytes : List ℕ

abbrev pub seen : {S : Type 0} → Layout → Reply S → Seen S
seen l r = record { answer = r.answer; state = r.left.state; data_bytes = data_of l r.left.memory }

abbrev pub Same : {S : Type 0} → Calls S → Layout → List Event → Lent S → Lent S → Type 0
Same c l es v w = map (seen l) (list_of c l es v) ≡ map (seen l) (list_of c l es w)

-- ---- the statement

-- for every list: confinement, and the same for every start alike
abbrev pub Secured : {S : Type 0} → Calls S → Layout → ℕ → List ℕ → Lent S → Type 0
Secured {S} c l len img w =
    (es : List Event)
    → Confinement c l es w
    × ((v : Lent S) → Start c l len img v → Alike l v w → Same c l es v w)

-- for every module that the checker accepts and every start
abbrev pub Demand3 : {S : Type 0} → Calls S → Type 0
Demand3 {S} c =
    (l : Layout) (len : ℕ) (img : List ℕ) → check_of l len img ≡ accepted
    → (w : Lent S) → Start c l len img w → Secured c l len img w
