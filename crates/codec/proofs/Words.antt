-- Laws of words in bytes. Those of one number hold for every width.
use Prim.Native.Nat.{ℕ, zero, suc, ◌+◌, ◌*◌, ◌/◌, ◌%◌, ◌^◌, ◌≤◌, ◌<◌}
use mathlib.Core.Path.{◌≡◌, refl, sym, ap, ◌∙◌}
use mathlib.Core.List.{List, [], ◌∷◌, ◌++◌, append_assoc, append-nil}
use native.Mathlib.Nat.{add-zero, pow-suc}
use native.Mathlib.Numerals.{add-one}
use native.Mathlib.Omega.{arith}
use lib.ListN.{length, get_or, set, take, drop, length-append, length-set, drop_of_length-le}
use lib.Seq.{take_all, take-suc, take-suc-set, drop-cons, get_or-append-add}
use Rattle.word.specs.Bytes.{load_of, store_of, words_at}
use Rattle.word.proofs.Memory.{store_length, load_lt}
use Rattle.codec.specs.Bytes.{little_of, flat_of, word_at}
use Rattle.codec.specs.Stores.{stores_of}

-- what holds of every element of two lists holds of every one of both together
pub append_every : (P : ℕ → Type 0) (l t : List ℕ) → ((i : ℕ) → P (get_or l i 0)) → ((i : ℕ) → P (get_or t i 0)) → (i : ℕ) → P (get_or (l ++ t) i 0)
append_every P [] t g h i = h i
append_every P (x ∷ xs) t g h zero = g zero
append_every P (x ∷ xs) t g h (suc i) = append_every P xs t (λ j. g (suc j)) h i

-- ---- one number

little_length : (n v : ℕ) → length (little_of n v) ≡ n
unfolding little_of
little_length zero v = refl
little_length (suc n) v = ap suc (little_length n (v / 256))

little_bytes : (n v i : ℕ) → get_or (little_of n v) i 0 < 2 ^ 8
unfolding little_of
little_bytes zero v i = omega arith
little_bytes (suc n) v zero = omega arith
little_bytes (suc n) v (suc i) = little_bytes n (v / 256) i

load_append : (n : ℕ) (p q : List ℕ) (a : ℕ) → load_of n (p ++ q) (length p + a) ≡ load_of n q a
load_append zero p q a = refl
load_append (suc n) p q a =
    let e : length p + a + 1 ≡ length p + (a + 1) = omega arith in
    rw (get_or-append-add p q a 0, e, load_append n p q (a + 1))

-- a number's bytes give it back
load_little : (n v : ℕ) (q : List ℕ) → v < 256 ^ n → load_of n (little_of n v ++ q) 0 ≡ v
unfolding little_of
load_little zero v q h = omega arith
load_little (suc n) v q h =
    let l : v / 256 < 256 ^ n = omega (arith, pow-suc 256 n) in
    rw (load_append n (v % 256 ∷ []) (little_of n (v / 256) ++ q) 0, load_little n (v / 256) q l) (omega arith)

-- bytes give the bytes of their number back
little_load : (n : ℕ) (b : List ℕ) (a : ℕ) → a + n ≤ length b → ((i : ℕ) → get_or b i 0 < 2 ^ 8) → take a b ++ little_of n (load_of n b a) ≡ take (a + n) b
unfolding little_of
little_load zero b a h g = rw add-zero (append-nil (take a b))
little_load (suc n) b a h g =
    let r : ℕ = load_of n b (a + 1) in
    let x : get_or b a 0 < 2 ^ 8 = g a in
    let low : (get_or b a 0 + 256 * r) % 256 ≡ get_or b a 0 = omega arith in
    let high : (get_or b a 0 + 256 * r) / 256 ≡ r = omega arith in
    let e : a + suc n ≡ a + 1 + n = omega arith in
    let s : take a b ++ (get_or b a 0 ∷ []) ≡ take (a + 1) b = rw (add-one, take-suc b a 0 (omega arith)) in
    rw (low, high, e, ← little_load n b (a + 1) (omega arith) g, ← s) (sym (append_assoc (take a b) (get_or b a 0 ∷ []) (little_of n r)))

-- a store puts a number's bytes after those below it
take_stored : (n : ℕ) (b : List ℕ) (a v : ℕ) → a + n ≤ length b → take (a + n) (store_of n b a v) ≡ take a b ++ little_of n v
unfolding little_of
take_stored zero b a v h = rw add-zero (sym (append-nil (take a b)))
take_stored (suc n) b a v h =
    let e : a + suc n ≡ a + 1 + n = omega arith in
    let s : take (a + 1) (set b a (v % 256)) ≡ take a b ++ (v % 256 ∷ []) = rw (add-one, take-suc-set b a (v % 256) (omega arith)) in
    rw (e, take_stored n (set b a (v % 256)) (a + 1) (v / 256) (simp length-set (omega arith)), s) (append_assoc (take a b) (v % 256 ∷ []) (little_of n (v / 256)))

-- ---- words

flat_append : (v w : List ℕ) → flat_of (v ++ w) ≡ flat_of v ++ flat_of w
unfolding flat_of
flat_append [] w = refl
flat_append (x ∷ v) w = rw (flat_append v w) (sym (append_assoc (little_of 4 x) (flat_of v) (flat_of w)))

pub flat_length : (ws : List ℕ) → length (flat_of ws) ≡ 4 * length ws
unfolding flat_of
flat_length [] = refl
flat_length (w ∷ ws) = rw (length-append (little_of 4 w) (flat_of ws), little_length 4 w, flat_length ws) (omega arith)

pub flat_bytes : (ws : List ℕ) (i : ℕ) → get_or (flat_of ws) i 0 < 2 ^ 8
unfolding flat_of
flat_bytes [] i = omega arith
flat_bytes (w ∷ ws) i = append_every (λ x. x < 2 ^ 8) (little_of 4 w) (flat_of ws) (little_bytes 4 w) (flat_bytes ws) i

-- each word stands at its place
pub word_flat : (ws : List ℕ) (k : ℕ) → get_or ws k 0 < 2 ^ 32 → word_at (flat_of ws) k ≡ get_or ws k 0
unfolding flat_of word_at
word_flat [] k h = refl
word_flat (w ∷ ws) zero h = load_little 4 w (flat_of ws) h
word_flat (w ∷ ws) (suc k) h =
    let e : 4 * suc k ≡ length (little_of 4 w) + 4 * k = omega (arith, little_length 4 w) in
    rw (e, load_append 4 (little_of 4 w) (flat_of ws) (4 * k)) (word_flat ws k h)

-- the words from place j on, where each is known
pub words_same : (n : ℕ) (b ws : List ℕ) (j : ℕ) → n ≤ length ws → ((k : ℕ) → k < n → word_at b (j + k) ≡ get_or ws k 0) → words_at n b (4 * j) ≡ take n ws
unfolding words_at word_at
words_same zero b ws j h e = refl
words_same (suc n) b [] j h e = absurd (omega (arith, h))
words_same (suc n) b (w ∷ ws) j h e =
    let z : j + 0 ≡ j = omega arith in
    let s : 4 * j + 4 ≡ 4 * (j + 1) = omega arith in
    let more : (k : ℕ) → k < n → word_at b (j + 1 + k) ≡ get_or ws k 0 = λ k l. (let p : j + 1 + k ≡ j + suc k = omega arith in rw p (e (suc k) (omega arith))) in
    let first : load_of 4 b (4 * j) ≡ w = rw z at (e 0 (omega arith)) in
    rw (first, s, words_same n b ws (j + 1) (omega (arith, h)) more)

module _ (b : List ℕ) (g : (i : ℕ) → get_or b i 0 < 2 ^ 8) where
  pub word_below : (k : ℕ) → word_at b k < 2 ^ 32
  unfolding word_at
  word_below k = load_lt 4 b (4 * k) g

  pub words_below : (n a i : ℕ) → get_or (words_at n b a) i 0 < 2 ^ 32
  unfolding words_at
  words_below zero a i = omega arith
  words_below (suc n) a zero = load_lt 4 b a g
  words_below (suc n) a (suc i) = words_below n (a + 4) i

  -- the words of bytes give the bytes back
  pub flat_words : (n a : ℕ) → a + 4 * n ≤ length b → take a b ++ flat_of (words_at n b a) ≡ take (a + 4 * n) b
  unfolding words_at flat_of
  flat_words zero a h = rw add-zero (append-nil (take a b))
  flat_words (suc n) a h =
      let e : a + 4 * suc n ≡ a + 4 + 4 * n = omega arith in
      let w : ℕ = load_of 4 b a in
      rw (← append_assoc (take a b) (little_of 4 w) (flat_of (words_at n b (a + 4))), little_load 4 b a (omega arith) g, e) (flat_words n (a + 4) (omega arith))

-- ---- words stored

stores_length : (ws b : List ℕ) (a : ℕ) → length (stores_of b a ws) ≡ length b
unfolding stores_of
stores_length [] b a = refl
stores_length (w ∷ ws) b a = stores_length ws (store_of 4 b a w) (a + 4) ∙ store_length 4 b a w

pub stores_append : (v w b : List ℕ) (a : ℕ) → stores_of b a (v ++ w) ≡ stores_of (stores_of b a v) (a + 4 * length v) w
unfolding stores_of
stores_append [] w b a = rw add-zero
stores_append (x ∷ v) w b a =
    let e : a + 4 * length (x ∷ v) ≡ a + 4 + 4 * length v = omega arith in
    rw e (stores_append v w (store_of 4 b a x) (a + 4))

take_stores : (ws b : List ℕ) (a : ℕ) → a + 4 * length ws ≤ length b → take (a + 4 * length ws) (stores_of b a ws) ≡ take a b ++ flat_of ws
unfolding stores_of flat_of
take_stores [] b a h = rw add-zero (sym (append-nil (take a b)))
take_stores (w ∷ ws) b a h =
    let e : a + 4 * length (w ∷ ws) ≡ a + 4 + 4 * length ws = omega arith in
    rw (e, take_stores ws (store_of 4 b a w) (a + 4) (rw (store_length 4 b a w) (omega arith)), take_stored 4 b a w (omega arith)) (append_assoc (take a b) (little_of 4 w) (flat_of ws))

-- words that fill the bytes leave nothing of what was there
pub stores_whole : (ws b : List ℕ) → 4 * length ws ≡ length b → stores_of b 0 ws ≡ flat_of ws
stores_whole ws b e =
    sym (take_all (0 + 4 * length ws) (stores_of b 0 ws) (omega (arith, stores_length ws b 0))) ∙ take_stores ws b 0 (omega arith)

-- ---- one turn of the loop

pub stores_more : (b ws t : List ℕ) (k a : ℕ) → k < length ws → stores_of b (a + 4 * k) (drop k ws) ≡ t → stores_of (store_of 4 b (a + 4 * k) (get_or ws k 0)) (a + 4 * (k + 1)) (drop (k + 1) ws) ≡ t
unfolding stores_of
stores_more b ws t k a h e =
    let n : a + 4 * (k + 1) ≡ a + 4 * k + 4 = omega arith in
    rw (n, add-one k) (rw (drop-cons ws k 0 h) at e)

pub stores_end : (b ws : List ℕ) (a k : ℕ) → length ws ≤ k → b ≡ stores_of b a (drop k ws)
unfolding stores_of
stores_end b ws a k h = rw (drop_of_length-le ws h)
