-- What the parts of the code answer: the k of a size, and one pass over a record, for areas of 2^k bytes. No promise of the calls (specs/Calls) rests
-- on this; `seen_next`, `unsound_next` and `seen_all` of proofs/Seen tie the two together.
use Rattle.std.specs.Prelude.{ℕ, ◌+◌, ◌-◌, ◌%◌, ◌^◌, ◌≤◌, ◌<◌, ◌≡◌, ◌⊎◌, cond, not, ◌||◌, eqb, ltb, List, Option, Some, None, Result, Ok, Err}
use Rattle.refusal.specs.declared.Refusal.{Refusal}
use Rattle.refusal.specs.Refusal.{number_of}
use Rattle.allocator.specs.declared.pass.Pass.{Pass}
use Rattle.allocator.specs.Record.{Area, area, size_of, end_of, Apart, IsExponent, IsSize, Size, Out, Sound, Free, Lowest, memory_size}

-- the k of a size, or the refusal of what is none
abbrev pub Exponent : ℕ → Result ℕ Refusal → Type 0
Exponent n (Ok k) = IsSize k n
Exponent n (Err e) = (number_of e ≡ 2) × ¬ (Size n)

-- the least multiple of n from x on
abbrev pub rounded : ℕ → ℕ → ℕ
rounded n x = x + n - 1 - (x + n - 1) % n

-- an area of 2^j bytes at `at` is seen next; none where it breaks the rules of size or base, or overlaps one before it
unfoldable pub taken : ℕ → Pass → ℕ → ℕ → Option Pass
taken n p at j =
    cond (ltb j 4 || ltb 16 j || not (eqb (at % 2 ^ j) 0) || ltb at p.end) None
    (Some (record { end = at + 2 ^ j; base = cond (ltb at (p.base + n)) (rounded n (at + 2 ^ j)) p.base }))

-- of the areas out that begin before address x
abbrev pub Before : List ℕ → ℕ → Area → Type 0
Before r x a = Out r a × (a.base < x)

-- all that begin before address x keep the rules, p.end is where the last of them ends, and p.base the lowest base at which an area of 2^k bytes overlaps
-- none of them
pub record Seen (r : List ℕ) (k x : ℕ) (p : Pass) : Type 0 where
  pub sizes : (a : Area) → Before r x a → IsExponent a.k
  pub bases : (a : Area) → Before r x a → a.base % size_of a ≡ 0
  pub apart : (a b : Area) → Before r x a → Before r x b → a.base < b.base → Apart a b
  pub ends : (a : Area) → Before r x a → end_of a ≤ p.end
  pub attained : (p.end ≡ 0) ⊎ ((a : Area) × (Before r x a × (end_of a ≡ p.end)))
  pub multiple : p.base % 2 ^ k ≡ 0
  pub free : (a : Area) → Before r x a → Apart (area p.base k) a
  pub lower : (b : ℕ) → b % 2 ^ k ≡ 0 → b < p.base → (a : Area) × (Before r x a × ¬ (Apart (area b k) a))
  pub end_most : p.end ≤ memory_size
  pub base_most : p.base ≤ memory_size

-- what is known with the next bytes
abbrev pub Known : List ℕ → ℕ → ℕ → Option Pass → Type 0
Known r k x None = ¬ (Sound r)
Known r k x (Some p) = Seen r k x p

-- what the whole pass says of a record: that it is not sound, or the lowest base that is free, if that area is inside
abbrev pub Passed : List ℕ → ℕ → Option Pass → Type 0
Passed r k None = ¬ (Sound r)
Passed r k (Some p) =
    Sound r × ((end_of (area p.base k) ≤ memory_size → Lowest r (area p.base k)) × (memory_size < end_of (area p.base k) → (b : ℕ) → ¬ (Free r (area b k))))
