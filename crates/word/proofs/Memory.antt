-- Laws of numbers in memory, over the width.
use Rattle.std.proofs.Common.{◌≡◌, ℕ, zero, suc, ◌+◌, ◌-◌, ◌*◌, ◌/◌, ◌%◌, ◌^◌, ◌<◌, ◌≤◌, List, [], ◌∷◌, ◌++◌, length, get_or, set, take, drop, refl, ◌∙◌, pow-suc, arith, length-set, get_or-set_other, get_or-set_same, shr-shr}
use Rattle.std.specs.Int.{w32, to_le_bytes, from_le_bytes}
use Rattle.std.proofs.lemmas.List.{append_assoc, drop_more, drop-set-lt, take_more_set, take-append-drop}
use Rattle.word.specs.Bytes.{load_of, store_of}

pub store_length : (n : ℕ) (m : List ℕ) (a v : ℕ) → length (store_of n m a v) ≡ length m
store_length zero m a v = refl
store_length (suc n) m a v = store_length n (set m a (v % 256)) (a + 1) (v / 256) ∙ length-set m a (v % 256)

-- a store leaves every byte below its first one
pub store_below : (n : ℕ) (m : List ℕ) (a v i : ℕ) → i < a → get_or (store_of n m a v) i 0 ≡ get_or m i 0
store_below zero m a v i h = refl
store_below (suc n) m a v i h =
    store_below n (set m a (v % 256)) (a + 1) (v / 256) i (omega arith) ∙ get_or-set_other m a i (v % 256) 0 (λ e. omega arith)

-- and every byte past its last one
pub store_above : (n : ℕ) (m : List ℕ) (a v i : ℕ) → a + n ≤ i → get_or (store_of n m a v) i 0 ≡ get_or m i 0
store_above zero m a v i h = refl
store_above (suc n) m a v i h =
    store_above n (set m a (v % 256)) (a + 1) (v / 256) i (omega arith) ∙ get_or-set_other m a i (v % 256) 0 (λ e. omega arith)

quotient_lt : (v p : ℕ) → v < p * 256 → v / 256 < p
quotient_lt v p h = omega arith

-- what was stored is loaded again
pub load_store : (n : ℕ) (m : List ℕ) (a v : ℕ) → a + n ≤ length m → v < 256 ^ n → load_of n (store_of n m a v) a ≡ v
load_store zero m a v h l = omega arith
load_store (suc n) m a v h l =
    let byte : List ℕ = set m a (v % 256) in
    let first : get_or (store_of n byte (a + 1) (v / 256)) a 0 ≡ v % 256 =
    store_below n byte (a + 1) (v / 256) a (omega arith) ∙ get_or-set_same m a (v % 256) 0 (omega arith) in
    let later : load_of n (store_of n byte (a + 1) (v / 256)) (a + 1) ≡ v / 256 =
    load_store n byte (a + 1) (v / 256) (simp length-set (omega arith)) (quotient_lt v (256 ^ n) (omega (arith, pow-suc 256 n))) in
    rw (first, later) (omega arith)

-- a load looks at its own bytes alone
pub load_same : (n : ℕ) (m₁ m₂ : List ℕ) (a : ℕ) → ((i : ℕ) → a ≤ i → i < a + n → get_or m₁ i 0 ≡ get_or m₂ i 0) → load_of n m₁ a ≡ load_of n m₂ a
load_same zero m₁ m₂ a h = refl
load_same (suc n) m₁ m₂ a h =
    rw (h a (omega arith) (omega arith), load_same n m₁ m₂ (a + 1) (λ i l u. h i (omega arith) (omega arith)))

-- ---- bytes stay bytes

pub load_lt : (n : ℕ) (m : List ℕ) (a : ℕ) → ((i : ℕ) → get_or m i 0 < 2 ^ 8) → load_of n m a < 256 ^ n
load_lt zero m a b = omega arith
load_lt (suc n) m a b =
    let rest : load_of n m (a + 1) < 256 ^ n = load_lt n m (a + 1) b in
    let first : get_or m a 0 < 2 ^ 8 = b a in
    rw (pow-suc 256 n) (omega arith)

-- what holds of every element and of the new one holds after it is set
pub set_every : (P : ℕ → Type 0) (l : List ℕ) (a v : ℕ) → P v → ((i : ℕ) → P (get_or l i 0)) → (i : ℕ) → P (get_or (set l a v) i 0)
set_every P [] a v h b i = b i
set_every P (x ∷ xs) zero v h b zero = h
set_every P (x ∷ xs) zero v h b (suc i) = b (suc i)
set_every P (x ∷ xs) (suc a) v h b zero = b zero
set_every P (x ∷ xs) (suc a) v h b (suc i) = set_every P xs a v h (λ j. b (suc j)) i

pub store_bytes : (n : ℕ) (m : List ℕ) (a v : ℕ) → ((i : ℕ) → get_or m i 0 < 2 ^ 8) → (i : ℕ) → get_or (store_of n m a v) i 0 < 2 ^ 8
store_bytes zero m a v b i = b i
store_bytes (suc n) m a v b i =
    store_bytes n (set m a (v % 256)) (a + 1) (v / 256) (set_every (λ x. x < 2 ^ 8) m a (v % 256) (omega arith) b) i

-- ---- as the library has the bytes of a word

-- the low n bytes of v
abbrev bytes_of : ℕ → ℕ → List ℕ
bytes_of zero v = []
bytes_of (suc n) v = v % 256 ∷ bytes_of n (v / 256)

bytes_taken : (n v : ℕ) → n ≤ 4 → take n (to_le_bytes w32 v) ≡ bytes_of n v
bytes_taken zero v h = refl
bytes_taken (suc zero) v h = refl
bytes_taken (suc (suc zero)) v h = refl
bytes_taken (suc (suc (suc zero))) v h = rw (shr-shr v 8 8)
bytes_taken (suc (suc (suc (suc zero)))) v h = rw (shr-shr v 8 8, shr-shr v 16 8)
bytes_taken (suc (suc (suc (suc (suc n))))) v h = absurd (omega arith)

store_written : (n : ℕ) (m : List ℕ) (a v : ℕ) → a + n ≤ length m → take a m ++ (bytes_of n v ++ drop n (drop a m)) ≡ store_of n m a v
store_written zero m a v h = take-append-drop a m
store_written (suc n) m a v h =
    let l : a < length m = omega arith in
    let rest : take (a + 1) (set m a (v % 256)) ++ (bytes_of n (v / 256) ++ drop n (drop (a + 1) (set m a (v % 256)))) ≡ store_of (suc n) m a v =
    store_written n (set m a (v % 256)) (a + 1) (v / 256) (simp length-set (omega arith)) in
    let same : take a m ++ (v % 256 ∷ []) ++ (bytes_of n (v / 256) ++ drop n (drop (a + 1) m)) ≡ store_of (suc n) m a v =
    rw (take_more_set m a (v % 256) l, drop-set-lt (a + 1) m a (v % 256) (omega arith)) at rest in
    rw (drop_more m a 0 l) (rw append_assoc at same)

pub store_copied : (n : ℕ) (m : List ℕ) (a v : ℕ) → a + n ≤ length m → n ≤ 4 → take a m ++ (take n (to_le_bytes w32 v) ++ drop n (drop a m)) ≡ store_of n m a v
store_copied n m a v h k = rw (bytes_taken n v k) (store_written n m a v h)

-- the n bytes from a on
abbrev bytes_at : ℕ → List ℕ → ℕ → List ℕ
bytes_at zero m a = []
bytes_at (suc n) m a = get_or m a 0 ∷ bytes_at n m (a + 1)

part_is : (n : ℕ) (m : List ℕ) (a : ℕ) → a + n ≤ length m → take n (drop a m) ≡ bytes_at n m a
part_is zero m a h = refl
part_is (suc n) m a h = rw (drop_more m a 0 (omega arith), part_is n m (a + 1) (omega arith))

widened : (n : ℕ) (m : List ℕ) (a : ℕ) → n ≤ 4 → from_le_bytes w32 (bytes_at n m a ++ drop n (0 ∷ 0 ∷ 0 ∷ 0 ∷ [])) ≡ load_of n m a
widened zero m a h = refl
widened (suc zero) m a h = omega arith
widened (suc (suc zero)) m a h = omega arith
widened (suc (suc (suc zero))) m a h = omega arith
widened (suc (suc (suc (suc zero)))) m a h = omega arith
widened (suc (suc (suc (suc (suc n))))) m a h = absurd (omega arith)

-- n bytes, and zeros for what a word has more
pub load_copied : (n : ℕ) (m : List ℕ) (a : ℕ) → a + n ≤ length m → n ≤ 4 → from_le_bytes w32 (take (a + n - a) (drop a m) ++ drop n (0 ∷ 0 ∷ 0 ∷ 0 ∷ [])) ≡ load_of n m a
load_copied n m a h k = let e : a + n - a ≡ n = omega arith in rw (e, part_is n m a h) (widened n m a k)
