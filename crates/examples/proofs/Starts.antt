-- A start from facts that compute, and bytes of memory from its parts.
use Prim.Native.Nat.{ℕ, zero, suc, ◌+◌, ◌^◌, ◌<◌}
use mathlib.Core.Path.{◌≡◌, refl, sym, ap, ◌∙◌}
use mathlib.Core.Bool.{Bool, true, ◌&&◌}
use mathlib.Core.List.{List, [], ◌∷◌, ◌++◌}
use native.Mathlib.Omega.{arith}
use lib.Dec.{ltb}
use lib.ListN.{length, get_or, take, drop, replicate, length-append, length-replicate}
use lib.Seq.{take_at, drop_at}
use borrow.Author.Tests.{ltb-true}
use Rattle.word.proofs.Choice.{both}
use Rattle.layout.specs.declared.Layout.{Layout}
use Rattle.checker.specs.Check.{code_of}
use Rattle.system.specs.System.{is_user}
use Rattle.machine.specs.declared.state.State.{State}
use Rattle.machine.specs.State.{register_of, refusal_of, Typed, Bytes}
use Rattle.codec.specs.Bytes.{others_of}
use Rattle.codec.proofs.Words.{append_every}
use Rattle.confinement.specs.Calls.{Lent, methods}
use Rattle.confinement.specs.Demand.{Start}

-- ---- numbers below a bound

abbrev pub all_below : ℕ → List ℕ → Bool
all_below n [] = true
all_below n (x ∷ xs) = ltb x n && all_below n xs

pub all_below_law : (n : ℕ) → 0 < n → (l : List ℕ) → all_below n l ≡ true → (i : ℕ) → get_or l i 0 < n
all_below_law n z [] e i = z
all_below_law n z (x ∷ xs) e zero = ltb-true x n (both (ltb x n) _ e).0
all_below_law n z (x ∷ xs) e (suc i) = all_below_law n z xs (both (ltb x n) _ e).1 i

bytes_zeros : (n : ℕ) → Bytes (replicate n 0)
bytes_zeros zero i = omega arith
bytes_zeros (suc n) zero = omega arith
bytes_zeros (suc n) (suc i) = bytes_zeros n i

bytes_append : (k m : List ℕ) → Bytes k → Bytes m → Bytes (k ++ m)
bytes_append = append_every (λ x. x < 2 ^ 8)

-- ---- an image between zeros

module _ (a : ℕ) (img : List ℕ) (b : ℕ) where
  abbrev pub between : List ℕ
  between = replicate a 0 ++ (img ++ replicate b 0)

  pub between_image : take (length img) (drop a between) ≡ img
  between_image =
      ap (take (length img)) (drop_at (replicate a 0) (img ++ replicate b 0) a (length-replicate {A = ℕ} a 0))
      ∙ take_at img (replicate b 0) (length img) refl

  pub between_length : length between ≡ a + (length img + b)
  between_length = simp (length-append, length-replicate)

  pub between_bytes : Bytes img → Bytes between
  between_bytes c =
      bytes_append (replicate a 0) (img ++ replicate b 0) (bytes_zeros a) (bytes_append img (replicate b 0) c (bytes_zeros b))

-- ---- words of 32 bits

pub typed : (s : State) → length s.registers ≡ 32 → all_below (2 ^ 32) s.registers ≡ true → all_below (2 ^ 32) (others_of s.special) ≡ true
    → Typed s
typed s n e f =
    let other = all_below_law (2 ^ 32) (omega arith) (others_of s.special) f in
    record {
      count = n;
      registers = all_below_law (2 ^ 32) (omega arith) s.registers e;
      special = record {
        hi = other 0;
        lo = other 1;
        pc = other 2;
        next_pc = other 3;
        bad = other 5;
        status = other 6;
        cause = other 7;
        epc = other 8;
      };
    }

-- ---- the start

pub record Facts : Type 0 where
  pub code : List ℕ
  pub told : ℕ
  pub refusal : ℕ
  pub pc : ℕ
  pub next_pc : ℕ
  pub user : Bool
  pub register_0 : ℕ
  pub register_26 : ℕ
  pub register_27 : ℕ
  pub count : ℕ
  pub words : Bool
  pub others : Bool
  pub bytes : Bool

abbrev pub facts_of : Layout → ℕ → Lent State → Facts
facts_of l len w =
    record {
      code = code_of l w.memory;
      told = length w.memory;
      refusal = refusal_of w.state len;
      pc = w.state.special.pc;
      next_pc = w.state.special.next_pc;
      user = is_user w.state.special.status;
      register_0 = register_of w.state.registers 0;
      register_26 = register_of w.state.registers 26;
      register_27 = register_of w.state.registers 27;
      count = length w.state.registers;
      words = all_below (2 ^ 32) w.state.registers;
      others = all_below (2 ^ 32) (others_of w.state.special);
      bytes = all_below (2 ^ 8) w.memory;
    }

-- those of a start
abbrev pub facts_due : Layout → ℕ → List ℕ → Facts
facts_due l len img =
    record {
      code = img;
      told = len;
      refusal = 0;
      pc = l.code_base;
      next_pc = l.code_base + 4;
      user = true;
      register_0 = 0;
      register_26 = l.data_base;
      register_27 = l.code_base;
      count = 32;
      words = true;
      others = true;
      bytes = true;
    }

pub starts : (l : Layout) (len : ℕ) (img : List ℕ) (w : Lent State) → facts_of l len w ≡ facts_due l len img → Start methods l len img w
starts l len img w e =
    record {
      placed = ap (λ (f : Facts). f.code) e;
      length_told = ap (λ (f : Facts). f.told) e;
      not_17 = λ r. let z : ◌≡◌ {A = ℕ} 0 17 = sym (ap (λ (f : Facts). f.refusal) e) ∙ r in omega arith;
      first_word = ap (λ (f : Facts). f.pc) e;
      then_next = ap (λ (f : Facts). f.next_pc) e;
      user_mode = ap (λ (f : Facts). f.user) e;
      register_0 = ap (λ (f : Facts). f.register_0) e;
      register_26 = ap (λ (f : Facts). f.register_26) e;
      register_27 = ap (λ (f : Facts). f.register_27) e;
      sized = typed
          w.state
          (ap (λ (f : Facts). f.count) e)
          (ap (λ (f : Facts). f.words) e)
          (ap (λ (f : Facts). f.others) e);
      bytes = all_below_law (2 ^ 8) (omega arith) w.memory (ap (λ (f : Facts). f.bytes) e);
    }
