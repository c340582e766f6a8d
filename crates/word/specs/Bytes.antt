-- Numbers in memory, little-endian (document 01, Machine), for every width in bytes.
use Rattle.std.specs.Prelude.{ℕ, zero, suc, ◌+◌, ◌*◌, ◌/◌, ◌%◌, ◌^◌, List, [], ◌∷◌, slice_index, slice_set}

-- the number in the n bytes from a on; its lowest byte comes first
abbrev pub load_of : ℕ → List ℕ → ℕ → ℕ
load_of zero m a = 0
load_of (suc n) m a = slice_index m a + 256 * load_of n m (a + 1)

-- the memory with the low n bytes of v from a on
abbrev pub store_of : ℕ → List ℕ → ℕ → ℕ → List ℕ
store_of zero m a v = m
store_of (suc n) m a v = store_of n (slice_set m a (v % 256)) (a + 1) (v / 256)

-- the n words from a on
unfoldable pub words_at : ℕ → List ℕ → ℕ → List ℕ
words_at zero m a = []
words_at (suc n) m a = load_of 4 m a ∷ words_at n m (a + 4)

-- the longest memory, 16,777,216 bytes; a longer one is refusal 1
abbrev pub longest : ℕ
longest = 2 ^ 24
