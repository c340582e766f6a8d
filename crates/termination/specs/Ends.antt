-- A straight-through module is known to finish (document 02, Ticket 2): `StraightEnds` and `StraightDemand3`, at the end, are the statements;
-- proofs/Whole proves them for both levels of calls.
use Rattle.std.specs.Prelude.{ℕ, ◌+◌, ◌-◌, ◌≤◌, ◌<◌, ◌≡◌, Bool, cond, ◌⊎◌, List, [], ◌∷◌, ◌++◌, map, eqb, ltb, replicate}
use Rattle.layout.specs.declared.Layout.{Layout}
use Rattle.checker.specs.Check.{accepted}
use Rattle.checker.specs.Lawful.{words_in}
use Rattle.straight.specs.Check.{straight_of}
use Rattle.confinement.specs.Events.{Event, Step, Run, Resume, Change}
use Rattle.confinement.specs.Calls.{Lent, Answer, Stepped, Ran, Resumed, Changed, Reply, Calls}
use Rattle.confinement.specs.Lists.{list_of}
use Rattle.confinement.specs.Demand.{Allowed, Start, Secured}

-- what the events of a list answer
abbrev pub answers_of : {S : Type 0} → Calls S → Layout → List Event → Lent S → List Answer
answers_of c l es w = map (λ r. r.answer) (list_of c l es w)

-- P of one of a list
abbrev pub Some : {A : Type 0} → (A → Type 0) → List A → Type 0
Some P [] = ⊥
Some P (x ∷ xs) = P x ⊎ Some P xs

-- P of the last of a list
abbrev pub Last : {A : Type 0} → (A → Type 0) → List A → Type 0
Last P [] = ⊥
Last P (x ∷ []) = P x
Last P (x ∷ y ∷ ys) = Last P (y ∷ ys)

-- a step or run that ends in one of 40, 46, 47 and 48
abbrev pub Exits : Answer → Type 0
Exits (Stepped k t) = Allowed k
Exits (Ran k n t) = Allowed k
Exits (Resumed k) = ⊥
Exits (Changed b) = ⊥

-- a run that completes at most n steps
abbrev pub AtMost : ℕ → Answer → Type 0
AtMost n (Stepped k t) = ⊥
AtMost n (Ran k steps t) = steps ≤ n
AtMost n (Resumed k) = ⊥
AtMost n (Changed b) = ⊥

-- the steps that a call completes
abbrev pub steps_of : Answer → ℕ
steps_of (Stepped k t) = cond (eqb k 0) 1 0
steps_of (Ran k n t) = n
steps_of (Resumed k) = 0
steps_of (Changed b) = 0

-- PC is past the last bundle's start: the module was resumed there, after the exit of that bundle
abbrev pub is_past : Layout → ℕ → Bool
is_past l pc = ltb (l.code_base + l.code_size) (pc + 16)

-- the steps that the calls of a list complete until then, through all other exits, resumes and changes by the host
abbrev pub steps_until : {S : Type 0} → Calls S → Layout → List (Reply S) → ℕ
steps_until c l [] = 0
steps_until c l (r ∷ rs) = steps_of r.answer + cond (is_past l (c.view r.left.state).special.pc) 0 (steps_until c l rs)

-- the steps that the events of a list ask for, up to its first resume
abbrev pub asked : List Event → ℕ
asked [] = 0
asked (Step ∷ es) = 1 + asked es
asked (Run n ∷ es) = n + asked es
asked (Resume ∷ es) = 0
asked (Change xs ∷ es) = asked es

-- four fewer than the module has words
abbrev pub bound : Layout → ℕ
bound l = words_in l - 4

-- the module finishes, which is to reach an exit
pub record Ends {S : Type 0} (c : Calls S) (l : Layout) (w : Lent S) : Type 0 where
  -- a run of any budget completes at most that many steps, and ends in an exit where its budget is larger than that
  pub run_total : (b : ℕ) → AtMost (bound l) (c.run b w.state w.memory).answer
  pub run_exits : (b : ℕ) → bound l < b → Exits (c.run b w.state w.memory).answer
  -- among one step call more than that, one ends in an exit
  pub step_exits : Some Exits (answers_of c l (replicate (words_in l - 3) Step) w)
  -- and in every list whose calls ask for more steps, one does
  pub list_exits : (es : List Event) → bound l < asked es → Some Exits (answers_of c l es w)
  -- the calls of every list complete at most that many until the module is resumed in its last bundle
  pub list_total : (es : List Event) → steps_until c l (list_of c l es w) ≤ bound l
  -- after every list, so that it finishes once more however often it is resumed, a run of as many steps as it has words ends in an exit
  pub later_exits : (es : List Event) (b : ℕ) → words_in l ≤ b → Last Exits (answers_of c l (es ++ (Run b ∷ [])) w)

-- for every module that the profile accepts, placed and started as in demand 3
abbrev pub StraightEnds : {S : Type 0} → Calls S → Type 0
StraightEnds {S} c =
    (l : Layout) (len : ℕ) (img : List ℕ) → straight_of l len img ≡ accepted → (w : Lent S) → Start c l len img w → Ends c l w

-- and demand 3 holds of every such module
abbrev pub StraightDemand3 : {S : Type 0} → Calls S → Type 0
StraightDemand3 {S} c =
    (l : Layout) (len : ℕ) (img : List ℕ) → straight_of l len img ≡ accepted
    → (w : Lent S) → Start c l len img w → Secured c l len img w
