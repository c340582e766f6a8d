-- Lists of calls: what they leave of a record, and which areas they have given. The claims about all of them are `out_held`, `held_apart`, `never_overlap`
-- and `stays_out` of proofs/Lists, and `areas_taken` of proofs/Placed.
use Rattle.std.specs.Prelude.{ℕ, ◌≡◌, ◌⊎◌, List, [], ◌∷◌, replicate}
use Rattle.allocator.specs.Record.{Area, size_of, record_length}
use Rattle.allocator.specs.Calls.{Allocates, Releases}

-- a call and its answer: an area of n bytes is asked for, and the number is m and the base b; one of n bytes at base b is handed back, and the number is m
pub data Call : Type 0 where
  Allocate : (n m b : ℕ) → Call
  Release : (b n m : ℕ) → Call

-- calls, each with the record that the one before it left, refused ones included, lead from record r to record s
pub data Leads : List Call → List ℕ → List ℕ → Type 0 where
  done : (r : List ℕ) → Leads [] r r
  allocate : (n m b : ℕ) (cs : List Call) (r s t : List ℕ) → Allocates r n m b s → Leads cs s t → Leads (Allocate n m b ∷ cs) r t
  release : (b n m : ℕ) (cs : List Call) (r s t : List ℕ) → Releases r b n m s → Leads cs s t → Leads (Release b n m ∷ cs) r t

-- a is the area of n bytes at base b, and the call that was about it is done, not refused
abbrev pub IsOf : Area → ℕ → ℕ → ℕ → Type 0
IsOf a b n m = (m ≡ 0) × ((b ≡ a.base) × (n ≡ size_of a))

-- no call takes area a back
abbrev pub Stays : Area → List Call → Type 0
Stays a [] = Unit
Stays a (Allocate n m b ∷ cs) = Stays a cs
Stays a (Release b n m ∷ cs) = ¬ (IsOf a b n m) × Stays a cs

-- a call gave area a, and none after it took it back
abbrev pub Held : Area → List Call → Type 0
Held a [] = ⊥
Held a (Allocate n m b ∷ cs) = (IsOf a b n m × Stays a cs) ⊎ Held a cs
Held a (Release b n m ∷ cs) = Held a cs

-- the record of which nothing is out
abbrev pub empty : List ℕ
empty = replicate record_length 0
