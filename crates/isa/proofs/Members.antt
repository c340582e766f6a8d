-- Numbers told apart from those of a match, and tested up to a bound.
use mathlib.Core.Path.{◌≡◌, subst}
use mathlib.Core.Bool.{Bool, true, false, not, ◌&&◌, ◌||◌}
use mathlib.Core.List.{List, [], ◌∷◌}
use Prim.Native.Nat.{ℕ, zero, suc, ◌+◌, ◌<◌, ◌≤◌}
use native.Mathlib.Omega.{arith}
use native.Mathlib.Decide.{dec_lt}
use lib.Dec.{T}
use Rattle.isa.proofs.Codes.{both}

-- what a match knows in its last arm: the numbers of the others, from the last to the first
abbrev pub Avoids : ℕ → List ℕ → Type 0
Avoids x [] = Unit
Avoids x (n ∷ l) = Avoids x l × (x ≡ n → ⊥)

-- what the first of two implies
pub split_or : (a b : Bool) → T (not a || b) → T a → T b
split_or true b t s = t
split_or false b t s = absurd s

-- a test of all numbers below n
abbrev pub up_to : ℕ → (ℕ → Bool) → Bool
up_to zero t = true
up_to (suc n) t = t n && up_to n t

pub below : (n : ℕ) (t : ℕ → Bool) → T (up_to n t) → (i : ℕ) → i < n → T (t i)
below zero t h i p = absurd (omega arith)
below (suc n) t h i p =
    let b = both (t n) (up_to n t) h in
    elim (dec_lt i n) [ yes q ↦ below n t b.1 i q | no q ↦ (let e : n ≡ i = omega arith in subst (λ (k : ℕ). T (t k)) e b.0) ]

-- the m numbers from s on, the highest first: what a match with an arm for each knows in its last arm
abbrev pub falling : ℕ → ℕ → List ℕ
falling s zero = []
falling s (suc m) = (s + m) ∷ falling s m

pub apart : (s m x : ℕ) → Avoids x (falling s m) → s ≤ x → x < s + m → ⊥
apart s zero x a h g = absurd (omega arith)
apart s (suc m) x a h g = elim (dec_lt x (s + m)) [ yes q ↦ apart s m x a.0 h q | no q ↦ a.1 (omega arith) ]
