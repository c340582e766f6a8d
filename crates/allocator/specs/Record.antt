-- The keeper's record (document 02, Ticket 6; "keeper" and "area out" are its words): what it shows out, when it is sound, and what is free.
use Rattle.std.specs.Prelude.{ℕ, ◌+◌, ◌/◌, ◌%◌, ◌^◌, ◌≤◌, ◌<◌, ◌≡◌, ◌⊎◌, List, length, slice_index}

-- the memory that the keeper has, and its record's bytes, one for each 16 of the memory
abbrev pub memory_size : ℕ
memory_size = 1048576

abbrev pub record_length : ℕ
record_length = 65536

-- ---- areas

-- an area: its base, and the k of its size 2^k
pub record Area : Type 0 where
  pub base : ℕ
  pub k : ℕ

abbrev pub area : ℕ → ℕ → Area
area b k = record { base = b; k = k }

abbrev pub size_of : Area → ℕ
size_of a = 2 ^ a.k

-- the first address past it
abbrev pub end_of : Area → ℕ
end_of a = a.base + size_of a

-- one area ends before the other starts
abbrev pub Apart : Area → Area → Type 0
Apart a b = (end_of a ≤ b.base) ⊎ (end_of b ≤ a.base)

-- 2^k is a size that an area can have, 16 to 65,536
abbrev pub IsExponent : ℕ → Type 0
IsExponent k = (4 ≤ k) × (k ≤ 16)

-- n is the size of the areas with this k
abbrev pub IsSize : ℕ → ℕ → Type 0
IsSize k n = IsExponent k × (n ≡ 2 ^ k)

abbrev pub Size : ℕ → Type 0
Size n = (k : ℕ) × IsSize k n

-- ---- what a record shows

-- area a is out: its base is one of those that the record has a byte for, and that byte is its k, and no 0
abbrev pub Out : List ℕ → Area → Type 0
Out r a = (a.base % 16 ≡ 0) × ((a.base / 16 < length r) × ((slice_index r (a.base / 16) ≡ a.k) × (0 < a.k)))

-- one byte for each 16, and the areas out keep the rules of sizes and bases, lie inside the memory, and do not overlap
pub record Sound (r : List ℕ) : Type 0 where
  pub length_is : length r ≡ record_length
  pub sizes : (a : Area) → Out r a → IsExponent a.k
  pub bases : (a : Area) → Out r a → a.base % size_of a ≡ 0
  pub inside : (a : Area) → Out r a → end_of a ≤ memory_size
  pub apart : (a b : Area) → Out r a → Out r b → ¬ (a ≡ b) → Apart a b

-- ---- what is free

-- there is room for area a: its base is a multiple of its size, it lies inside the memory, and overlaps no area out
pub record Free (r : List ℕ) (a : Area) : Type 0 where
  pub multiple : a.base % size_of a ≡ 0
  pub inside : end_of a ≤ memory_size
  pub apart : (b : Area) → Out r b → Apart a b

-- there is room for a, and for no area of its size at a lower base
abbrev pub Lowest : List ℕ → Area → Type 0
Lowest r a = Free r a × ((b : ℕ) → Free r (area b a.k) → a.base ≤ b)
