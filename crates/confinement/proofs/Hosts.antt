-- A host's writes: what they keep of a state and of memory.
use Prim.Native.Nat.{ℕ, ◌^◌, ◌<◌}
use mathlib.Core.Path.{◌≡◌, refl, sym, ap, ◌∙◌}
use mathlib.Core.Bool.{Bool, true, false, ◌&&◌, true≢false}
use mathlib.Core.List.{List}
use native.Mathlib.Omega.{arith}
use lib.Dec.{leb, ltb}
use lib.ListN.{length-set}
use lib.Seq.{get_or-set_other}
use borrow.Author.Tests.{leb-true, ltb-true}
use Rattle.word.proofs.Choice.{both}
use Rattle.word.proofs.Memory.{set_every}
use Rattle.layout.specs.declared.Layout.{Layout}
use Rattle.rules.specs.Not.{Not}
use Rattle.effect.specs.Sound.{Word}
use Rattle.machine.specs.declared.state.State.{State}
use Rattle.machine.specs.State.{register_of, special_of, join_of, is_lawful, Typed, Bytes}
use Rattle.parts.specs.Parts.{pair_of}
use Rattle.machine.proofs.Valid.{Valid, valid, valid_lawful, typed}
use Rattle.confinement.specs.Events.{Write, Register, Hi, Lo, Byte, is_data, is_other, may_write}
use Rattle.confinement.specs.Calls.{put_state}
use Rattle.confinement.specs.Lists.{put_byte}
use Rattle.confinement.specs.Demand.{Untouched}

-- ---- the registers

-- a register that a host may change is one of the 32
other_by : (r : ℕ) (t : Bool) → leb 1 r && leb r 25 ≡ t → is_other r ≡ true → r < 32
unfolding is_other
other_by r true e h = omega (arith, leb-true r 25 (both (leb 1 r) (leb r 25) e).1)
other_by r false e h = omega (arith, leb-true r 31 (both (leb 28 r) (leb r 31) (rw e at h)).1)

pub other_below : (r : ℕ) → is_other r ≡ true → r < 32
other_below r h = other_by r (leb 1 r && leb r 25) refl h

-- registers 0, 26 and 27 are none of them
pub other_not : (r q : ℕ) → is_other r ≡ true → is_other q ≡ false → Not (q ≡ r)
other_not r q h n e = true≢false (sym h ∙ ap is_other (sym e) ∙ n)

-- HI and LO may be any words
pair_typed : (s : State) → Typed s → (h o : ℕ) → Word h → Word o → Typed (join_of s.registers (pair_of (special_of s) h o))
pair_typed s t h o p q =
    let w = t.special in
    record {
      count = t.count;
      registers = t.registers;
      special = record {
        hi = p;
        lo = q;
        pc = w.pc;
        next_pc = w.next_pc;
        bad = w.bad;
        status = w.status;
        cause = w.cause;
        epc = w.epc;
      };
    }

-- ---- each write

module _ (l : Layout) where
  pub put_typed : (x : Write) (s : State) → may_write l x ≡ true → Typed s → Typed (put_state x s)
  unfolding may_write
  put_typed (Register r v) s e t =
      let h : Word v = ltb-true v (2 ^ 32) (both (is_other r) (ltb v (2 ^ 32)) e).1 in
      record {
        count = length-set s.registers r v ∙ t.count;
        registers = set_every Word s.registers r v h t.registers;
        special = t.special;
      }
  put_typed (Hi v) s e t = pair_typed s t v s.special.lo (ltb-true v (2 ^ 32) e) t.special.lo
  put_typed (Lo v) s e t = pair_typed s t s.special.hi v t.special.hi (ltb-true v (2 ^ 32) e)
  put_typed (Byte a v) s e t = t

  pub put_memory : (x : Write) (m : List ℕ) → may_write l x ≡ true → Bytes m → Bytes (put_byte x m)
  unfolding may_write
  put_memory (Register r v) m e b = b
  put_memory (Hi v) m e b = b
  put_memory (Lo v) m e b = b
  put_memory (Byte a v) m e b =
      set_every (λ x. x < 2 ^ 8) m a v (ltb-true v (2 ^ 8) (both (is_data l a) (ltb v (2 ^ 8)) e).1) b

  -- registers 0, 26 and 27 stay
  pub put_spares : (x : Write) (s : State) → may_write l x ≡ true → (q : ℕ) → is_other q ≡ false → register_of (put_state x s).registers q ≡ register_of s.registers q
  unfolding may_write
  put_spares (Register r v) s e q n =
      get_or-set_other s.registers r q v 0 (other_not r q (both (is_other r) (ltb v (2 ^ 32)) e).0 n)
  put_spares (Hi v) s e q n = refl
  put_spares (Lo v) s e q n = refl
  put_spares (Byte a v) s e q n = refl

  put_lawful : (x : Write) (s : State) → may_write l x ≡ true → is_lawful (put_state x s) ≡ is_lawful s
  unfolding is_lawful is_other
  put_lawful (Register r v) s e = rw (put_spares (Register r v) s e 0 refl)
  put_lawful (Hi v) s e = refl
  put_lawful (Lo v) s e = refl
  put_lawful (Byte a v) s e = refl

  pub put_valid : (x : Write) (s : State) → may_write l x ≡ true → Valid s → Valid (put_state x s)
  put_valid x s e v = valid (put_state x s) (put_typed x s e (typed s v)) (put_lawful x s e ∙ valid_lawful s v)

  pub put_untouched : (x : Write) (m : List ℕ) → may_write l x ≡ true → Untouched l m (put_byte x m)
  unfolding may_write
  put_untouched (Register r v) m e = record { same_length = refl; same_bytes = λ a n. refl }
  put_untouched (Hi v) m e = record { same_length = refl; same_bytes = λ a n. refl }
  put_untouched (Lo v) m e = record { same_length = refl; same_bytes = λ a n. refl }
  put_untouched (Byte b v) m e =
      let h : is_data l b ≡ true = (both (is_data l b) (ltb v (2 ^ 8)) e).0 in
      record {
        same_length = length-set m b v;
        same_bytes = λ a n. get_or-set_other m b a v 0 (λ z. true≢false (sym h ∙ ap (is_data l) (sym z) ∙ n));
      }

-- the program counters and the status are none of a host's
pub put_counters : (x : Write) (s : State) → ((put_state x s).special.pc ≡ s.special.pc) × (((put_state x s).special.next_pc ≡ s.special.next_pc) × ((put_state x s).special.status ≡ s.special.status))
put_counters (Register r v) s = (refl, (refl, refl))
put_counters (Hi v) s = (refl, (refl, refl))
put_counters (Lo v) s = (refl, (refl, refl))
put_counters (Byte a v) s = (refl, (refl, refl))
