-- What the keeper's two calls answer and leave (document 02, Ticket 6). A number that is no size gives 2 before anything else; 24 is tried before 23.
-- A refused call leaves the record as it was. A call has no choice: `allocates_one` and `releases_one` of proofs/Told.
use Rattle.std.specs.Prelude.{ℕ, ◌/◌, List, Result, Ok, Err, slice_set}
use Rattle.refusal.specs.declared.Refusal.{Refusal}
use Rattle.allocator.specs.Record.{area, IsSize, Size, Out, Sound, Free, Lowest}

-- in the place of a base where none is given: 0xFFFFFFFF
abbrev pub no_base : ℕ
no_base = 4294967295

-- the base that is answered
abbrev pub base_of : Result ℕ Refusal → ℕ
base_of (Ok b) = b
base_of (Err e) = no_base

-- with record r an area of n bytes is asked for: the number and the base that are answered, and the record that is left
pub data Allocates (r : List ℕ) (n : ℕ) : ℕ → ℕ → List ℕ → Type 0 where
  no_size : ¬ (Size n) → Allocates r n 2 no_base r
  unsound : Size n → ¬ (Sound r) → Allocates r n 24 no_base r
  no_space : (k : ℕ) → IsSize k n → Sound r → ((b : ℕ) → ¬ (Free r (area b k))) → Allocates r n 23 no_base r
  given : (k b : ℕ) → IsSize k n → Sound r → Lowest r (area b k) → Allocates r n 0 b (slice_set r (b / 16) k)

-- with record r an area of n bytes at base b is handed back: the number that is answered, and the record that is left
pub data Releases (r : List ℕ) (b n : ℕ) : ℕ → List ℕ → Type 0 where
  no_size : ¬ (Size n) → Releases r b n 2 r
  unsound : Size n → ¬ (Sound r) → Releases r b n 24 r
  not_out : (k : ℕ) → IsSize k n → Sound r → ¬ (Out r (area b k)) → Releases r b n 24 r
  released : (k : ℕ) → IsSize k n → Sound r → Out r (area b k) → Releases r b n 0 (slice_set r (b / 16) 0)
