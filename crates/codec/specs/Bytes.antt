-- A state as 164 bytes, 41 little-endian words, and what of bytes refusal 17 refuses (document 01, Machine and Refusal table).
use Rattle.std.specs.Prelude.{ℕ, zero, suc, ◌*◌, ◌/◌, ◌%◌, Bool, cond, ◌&&◌, List, [], ◌∷◌, ◌++◌, eqb, ltb, length, Result, Ok, Err}
use Rattle.word.specs.Bytes.{load_of, words_at}
use Rattle.refusal.specs.declared.Refusal.{Refusal}
use Rattle.refusal.specs.declared.Refusal.TheVariants as R
use Rattle.effect.specs.declared.effect.Special.{Special}
use Rattle.machine.specs.declared.state.State.{State}

-- ---- a state to bytes

-- the n bytes of v, the lowest first
unfoldable pub little_of : ℕ → ℕ → List ℕ
little_of zero v = []
little_of (suc n) v = v % 256 ∷ little_of n (v / 256)

-- words as bytes
unfoldable pub flat_of : List ℕ → List ℕ
flat_of [] = []
flat_of (w ∷ ws) = little_of 4 w ++ flat_of ws

-- the LL bit as 0 or 1
abbrev pub bit_of : Bool → ℕ
bit_of t = cond t 1 0

-- HI, LO, PC, next PC, the LL bit, control registers 8, 12, 13 and 14
abbrev pub others_of : Special → List ℕ
others_of c =
    c.hi ∷ c.lo ∷ c.pc ∷ c.next_pc ∷ bit_of c.ll ∷ c.bad ∷ c.status ∷ c.cause ∷ c.epc ∷ []

-- registers 0 to 31, then the others
unfoldable pub words_of : State → List ℕ
words_of s = s.registers ++ others_of s.special

unfoldable pub bytes_of : State → List ℕ
bytes_of s = flat_of (words_of s)

-- ---- bytes to a state

-- the word at place k of bytes
unfoldable pub word_at : List ℕ → ℕ → ℕ
word_at b k = load_of 4 b (4 * k)

unfoldable pub state_of : List ℕ → State
state_of b =
    record {
      registers = words_at 32 b 0;
      special =
          record {
            hi = word_at b 32;
            lo = word_at b 33;
            pc = word_at b 34;
            next_pc = word_at b 35;
            ll = eqb (word_at b 36) 1;
            bad = word_at b 37;
            status = word_at b 38;
            cause = word_at b 39;
            epc = word_at b 40;
          };
    }

-- 17's rules of bytes: they are 164, and the LL word is at most 1
unfoldable pub is_state : List ℕ → Bool
is_state b = eqb (length b) 164 && ltb (word_at b 36) 2

-- ---- what the two functions answer

unfoldable pub decoded_of : List ℕ → Result State Refusal
decoded_of b = cond (is_state b) (Ok (state_of b)) (Err R.State)

-- a number, and the bytes that are left
pub record Encoded : Type 0 where
  pub number : ℕ
  pub bytes : List ℕ

abbrev pub encoded : ℕ → List ℕ → Encoded
encoded n b = record { number = n; bytes = b }

-- bytes of another length stay as they are
unfoldable pub encoded_of : State → List ℕ → Encoded
encoded_of s b = cond (eqb (length b) 164) (encoded 0 (bytes_of s)) (encoded 17 b)
