-- The theorems about a state as bytes: each of the two gives the other back, and what is made of either is in range.
use Prim.Native.Nat.{ℕ, ◌+◌, ◌^◌, ◌<◌, ◌≤◌}
use mathlib.Core.Path.{◌≡◌, refl, sym, ap, ◌∙◌}
use mathlib.Core.Bool.{Bool, true, false}
use mathlib.Core.List.{List, ◌++◌}
use native.Mathlib.Omega.{arith}
use lib.Dec.{eqb, ltb}
use lib.ListN.{length, get_or, take, length-append, get_or-append}
use lib.Seq.{take_all, take_at, get_or-append-add}
use borrow.Author.Tests.{eqb-true, eqb-false, ne_eqb, ltb-true, lt-ltb, le-ltb}
use Rattle.std.specs.Prelude.{Ok, Err}
use Rattle.word.specs.Bytes.{load_of, words_at}
use Rattle.word.proofs.Words.{words_length, words_append}
use Rattle.word.proofs.Choice.{both}
use Rattle.refusal.specs.declared.Refusal.TheVariants as R
use Rattle.machine.specs.declared.state.State.{State}
use Rattle.machine.specs.State.{Typed, Bytes}
use Rattle.codec.specs.Bytes.{flat_of, bit_of, others_of, words_of, bytes_of, word_at, state_of, is_state, decoded_of, encoded, encoded_of}
use Rattle.codec.specs.Stores.{stores_of}
use Rattle.codec.proofs.Words.{flat_length, flat_bytes, flat_words, word_flat, word_below, words_same, words_below, stores_append, stores_whole}

-- ---- a state, to bytes and back

module _ (s : State) (n : length s.registers ≡ 32) where
  words_count : length (words_of s) ≡ 41
  unfolding words_of
  words_count = rw (length-append s.registers (others_of s.special), n)

  pub bytes_length : length (bytes_of s) ≡ 164
  unfolding bytes_of
  bytes_length = rw (flat_length (words_of s), words_count)

  -- each word of the bytes: past the registers, and of them
  other_at : (j : ℕ) → get_or (others_of s.special) j 0 < 2 ^ 32 → word_at (bytes_of s) (32 + j) ≡ get_or (others_of s.special) j 0
  unfolding bytes_of words_of
  other_at j h =
      let e : get_or (s.registers ++ others_of s.special) (32 + j) 0 ≡ get_or (others_of s.special) j 0 = rw (← n) (get_or-append-add s.registers (others_of s.special) j 0) in
      word_flat (s.registers ++ others_of s.special) (32 + j) (rw e h) ∙ e

  register_at : (k : ℕ) → k < 32 → get_or s.registers k 0 < 2 ^ 32 → word_at (bytes_of s) k ≡ get_or (words_of s) k 0
  unfolding bytes_of words_of
  register_at k l h =
      let e : get_or (s.registers ++ others_of s.special) k 0 ≡ get_or s.registers k 0 = get_or-append s.registers (others_of s.special) 0 k (omega arith) in
      word_flat (s.registers ++ others_of s.special) k (rw e h)

bit_below : (t : Bool) → bit_of t < 2
bit_below true = omega arith
bit_below false = omega arith

bit_back : (t : Bool) → eqb (bit_of t) 1 ≡ t
bit_back true = refl
bit_back false = refl

-- refusal 17 takes the bytes of every state
pub bytes_lawful : (s : State) → length s.registers ≡ 32 → is_state (bytes_of s) ≡ true
unfolding is_state
bytes_lawful s n =
    let h : bit_of s.special.ll < 2 = bit_below s.special.ll in
    rw (bytes_length s n, other_at s n 4 (omega arith), lt-ltb (bit_of s.special.ll) 2 h)

pub state_bytes : (s : State) → Typed s → state_of (bytes_of s) ≡ s
unfolding state_of words_of
state_bytes s t =
    let at = other_at s t.count in
    let w = t.special in
    let h : bit_of s.special.ll < 2 = bit_below s.special.ll in
    let r : words_at 32 (bytes_of s) 0 ≡ s.registers =
    words_same 32 (bytes_of s) (words_of s) 0 (omega (arith, words_count s t.count)) (λ k l. (let z : 0 + k ≡ k = omega arith in rw z (register_at s t.count k l (t.registers k))))
    ∙ take_at s.registers (others_of s.special) 32 t.count in
    rw (r, at 0 w.hi, at 1 w.lo, at 2 w.pc, at 3 w.next_pc, at 4 (omega arith), bit_back s.special.ll, at 5 w.bad, at 6 w.status, at 7 w.cause, at 8 w.epc)

pub bytes_bytes : (s : State) → Bytes (bytes_of s)
unfolding bytes_of
bytes_bytes s = flat_bytes (words_of s)

-- the bytes that encode leaves, by what its two parts store
pub encode_done : (s : State) (b v w : List ℕ) → length s.registers ≡ 32 → length b ≡ 164 → v ≡ stores_of b 0 s.registers → w ≡ stores_of v 128 (others_of s.special) → encoded 0 w ≡ encoded_of s b
unfolding encoded_of bytes_of words_of
encode_done s b v w n h p q =
    let l : length (words_of s) ≡ 41 = words_count s n in
    let e : w ≡ stores_of b 0 (words_of s) = rw (q, p, stores_append s.registers (others_of s.special) b 0, n) in
    rw (h, e, stores_whole (words_of s) b (omega arith))

-- ---- bytes, to a state and back

pub state_typed : (b : List ℕ) → Bytes b → Typed (state_of b)
unfolding state_of
state_typed b g =
    record {
      count = words_length 32 b 0;
      registers = words_below b g 32 0;
      special =
          record {
            hi = word_below b g 32;
            lo = word_below b g 33;
            pc = word_below b g 34;
            next_pc = word_below b g 35;
            bad = word_below b g 37;
            status = word_below b g 38;
            cause = word_below b g 39;
            epc = word_below b g 40;
          };
    }

bit_same : (n : ℕ) (t : Bool) → eqb n 1 ≡ t → n < 2 → bit_of t ≡ n
bit_same n true e h = sym (eqb-true n 1 e)
bit_same n false e h = omega (arith, eqb-false n 1 e)

pub state_length : (b : List ℕ) → is_state b ≡ true → length b ≡ 164
unfolding is_state
state_length b e = eqb-true (length b) 164 (both (eqb (length b) 164) (ltb (word_at b 36) 2) e).0

-- what decode answers, by what the code finds
module _ (b : List ℕ) where
  pub decode_done : length b ≡ 164 → load_of 4 b 144 < 2 → Ok (state_of b) ≡ decoded_of b
  unfolding decoded_of is_state word_at
  decode_done n h = rw (n, lt-ltb (load_of 4 b 144) 2 h)

  pub decode_refused : length b ≡ 164 → 2 ≤ load_of 4 b 144 → Err R.State ≡ decoded_of b
  unfolding decoded_of is_state word_at
  decode_refused n h = rw (n, le-ltb (load_of 4 b 144) 2 h)

  pub decode_length : (length b ≡ 164 → ⊥) → Err R.State ≡ decoded_of b
  unfolding decoded_of is_state
  decode_length n = rw (ne_eqb (length b) 164 n)

pub bytes_state : (b : List ℕ) → Bytes b → is_state b ≡ true → bytes_of (state_of b) ≡ b
unfolding is_state bytes_of words_of state_of words_at word_at
bytes_state b g e =
    let n : length b ≡ 164 = state_length b e in
    let l : word_at b 36 < 2 = ltb-true _ _ (both (eqb (length b) 164) (ltb (word_at b 36) 2) e).1 in
    let w : flat_of (words_at 41 b 0) ≡ take 164 b = flat_words b g 41 0 (omega arith) in
    let k : bit_of (eqb (word_at b 36) 1) ≡ word_at b 36 = bit_same (word_at b 36) _ refl l in
    ap flat_of (rw k (sym (words_append 32 9 b 0))) ∙ w ∙ take_all 164 b (omega arith)
