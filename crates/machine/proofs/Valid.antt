-- The states that refusal 17 lets pass, and that a sound effect leads from one to another.
use Prim.Native.Nat.{ℕ, ◌%◌, ◌^◌, ◌<◌}
use mathlib.Core.Path.{◌≡◌, refl, sym, ◌∙◌}
use mathlib.Core.Bool.{Bool, true, false, cond}
use mathlib.Core.List.{List}
use native.Mathlib.Omega.{arith}
use lib.Dec.{eqb}
use lib.ListN.{length, set, length-set}
use lib.Seq.{get_or-set_other}
use borrow.Author.Tests.{eqb-true, eqb-false, ltb-true, lt-ltb}
use Rattle.std.specs.Prelude.{Result, Ok, Err}
use Rattle.std.specs.Result.{IfOk}
use Rattle.word.specs.Number.{signed_of, extend_of}
use Rattle.word.specs.Bytes.{load_of}
use Rattle.word.proofs.Choice.{both}
use Rattle.word.proofs.Numbers.{wrap_below}
use Rattle.word.proofs.Memory.{load_lt, set_every}
use Rattle.isa.specs.declared.control.Control as C
use Rattle.isa.specs.declared.control.Control.TheVariants.{BadAddress, Status, Cause, ReturnAddress}
use Rattle.effect.specs.declared.effect.Special.{Special}
use Rattle.effect.specs.declared.effect.Extension.{Extension}
use Rattle.effect.specs.declared.effect.Extension.TheVariants.{Zero, Sign}
use Rattle.effect.specs.declared.effect.Effect.{Effect}
use Rattle.effect.specs.declared.effect.Effect.TheVariants.{Advance, Write, Pair, Jump, Link, LoadByte, LoadHalf, LoadWord, LoadLinked, StoreByte, StoreHalf, StoreWord, StoreLinked, Control, Return}
use Rattle.effect.specs.declared.exit.Exit.{Exit}
use Rattle.effect.specs.Sound.{Sound, Performable, Word, Aligned, Regular}
use Rattle.branch.proofs.Targets.{slot_aligned}
use Rattle.machine.specs.declared.state.State.{State}
use Rattle.machine.specs.State.{register_of, special_of, join_of, is_lawful, Words, Typed, Bytes}
use Rattle.parts.specs.Parts.{special, put_of, jump_of, advance_of, pair_of, linked_of, status_of, controlled_of, loaded_of}
use Rattle.apply.specs.Apply.{applied_of}
use Rattle.machine.specs.Apply.{apply_of}

-- ---- the 32 registers

pub record Registers (l : List ℕ) : Type 0 where
  pub count : length l ≡ 32
  pub words : (r : ℕ) → Word (register_of l r)
  pub zero_register : register_of l 0 ≡ 0

pub record Valid (s : State) : Type 0 where
  pub registers : Registers s.registers
  pub special : Regular (special_of s)

pub regular : (l : List ℕ) (c : Special) → Words c → is_lawful (join_of l c) ≡ true → Regular c
unfolding is_lawful
regular l c w e =
    let (_, e₁) = both (eqb (register_of l 0) 0) _ e in
    let (p, e₂) = both (eqb (c.pc % 4) 0) _ e₁ in
    let (q, s) = both (eqb (c.next_pc % 4) 0) _ e₂ in
    record {
      hi = w.hi;
      lo = w.lo;
      pc = (w.pc, eqb-true _ _ p);
      next_pc = (w.next_pc, eqb-true _ _ q);
      bad = w.bad;
      status = ltb-true _ _ s;
      cause = w.cause;
      epc = w.epc;
    }

first : (s : State) → is_lawful s ≡ true → register_of s.registers 0 ≡ 0
unfolding is_lawful
first s e = eqb-true _ _ (both (eqb (register_of s.registers 0) 0) _ e).0

pub valid : (s : State) → Typed s → is_lawful s ≡ true → Valid s
valid s t e =
    record {
      registers = record { count = t.count; words = t.registers; zero_register = first s e };
      special = regular s.registers (special_of s) t.special e;
    }

lawful : (s : State) → register_of s.registers 0 ≡ 0 → Regular (special_of s) → is_lawful s ≡ true
unfolding is_lawful
lawful s z r = rw (z, r.pc.1, r.next_pc.1, lt-ltb s.special.status (2 ^ 13) r.status)

pub valid_lawful : (s : State) → Valid s → is_lawful s ≡ true
valid_lawful s v = lawful s v.registers.zero_register v.special

words : (c : Special) → Regular c → Words c
words c r =
    record {
      hi = r.hi;
      lo = r.lo;
      pc = r.pc.0;
      next_pc = r.next_pc.0;
      bad = r.bad;
      status = omega (arith, r.status);
      cause = r.cause;
      epc = r.epc;
    }

pub typed : (s : State) → Valid s → Typed s
typed s v =
    record { count = v.registers.count; registers = v.registers.words; special = words (special_of s) v.special }

module _ (l : List ℕ) (r v : ℕ) where
  zero_of : (t : Bool) → eqb r 0 ≡ t → register_of (cond t l (set l r v)) 0 ≡ register_of l 0
  zero_of true e = refl
  zero_of false e = get_or-set_other l r 0 v 0 (λ q. eqb-false r 0 e (sym q))

  pub put_zero : register_of (put_of l r v) 0 ≡ register_of l 0
  unfolding put_of
  put_zero = zero_of (eqb r 0) refl

  put_of_law : (t : Bool) → eqb r 0 ≡ t → Registers l → Word v → Registers (cond t l (set l r v))
  put_of_law true e g k = g
  put_of_law false e g k =
      record {
        count = length-set l r v ∙ g.count;
        words = set_every Word l r v k g.words;
        zero_register = zero_of false e ∙ g.zero_register;
      }

  -- also where r is 0, since writes to it vanish
  pub put_registers : Registers l → Word v → Registers (put_of l r v)
  unfolding put_of
  put_registers g k = put_of_law (eqb r 0) refl g k

-- ---- the other registers

module _ {c : Special} (g : Regular c) where
  jump_regular : {t : ℕ} → Aligned t → Regular (jump_of c t)
  jump_regular h =
      record {
        hi = g.hi;
        lo = g.lo;
        pc = g.next_pc;
        next_pc = h;
        bad = g.bad;
        status = g.status;
        cause = g.cause;
        epc = g.epc;
      }

  pub advance_regular : Regular (advance_of c)
  advance_regular = jump_regular (slot_aligned g.next_pc)

  -- all but the program counters may be others
  others_regular : {h l b s u e : ℕ} {k : Bool} → Word h → Word l → Word b → s < 2 ^ 13 → Word u → Word e → Regular (special h l c.pc c.next_pc k b s u e)
  others_regular h l b s u e = record { hi = h; lo = l; pc = g.pc; next_pc = g.next_pc; bad = b; status = s; cause = u; epc = e }

  pair_regular : {h l : ℕ} → Word h → Word l → Regular (pair_of c h l)
  pair_regular h l = others_regular h l g.bad g.status g.cause g.epc

  pub linked_regular : {k : Bool} → Regular (linked_of c k)
  linked_regular = others_regular g.hi g.lo g.bad g.status g.cause g.epc

  return_regular : {s : ℕ} → s < 2 ^ 13 → Regular (linked_of (status_of c s) false)
  return_regular h = others_regular g.hi g.lo g.bad h g.cause g.epc

  control_regular : (r : C.Control) {v : ℕ} → Word v → Regular (controlled_of c r v)
  control_regular BadAddress h = others_regular g.hi g.lo h g.status g.cause g.epc
  control_regular Status h = others_regular g.hi g.lo g.bad (omega arith) g.cause g.epc
  control_regular Cause h = others_regular g.hi g.lo g.bad g.status h g.epc
  control_regular ReturnAddress h = others_regular g.hi g.lo g.bad g.status g.cause h

-- ---- an effect carried out

loaded_below : (k x : ℕ) (e : Extension) → Word x → Word (loaded_of k e x)
unfolding extend_of
loaded_below k x Zero h = h
loaded_below k x Sign h = wrap_below 32 (signed_of k (x % 2 ^ k))

-- the other registers need nothing of the 32 and of memory
module _ (l : List ℕ) {c : Special} (m : List ℕ) (q : Regular c) where
  applied_regular : {n at w : ℕ} (e : Effect) → Sound (Ok e) n at w → Regular (applied_of e l c m).special
  applied_regular Advance k = advance_regular q
  applied_regular (Write r v) k = advance_regular q
  applied_regular (Pair h o) k = pair_regular (advance_regular q) k.keeps.0 k.keeps.1
  applied_regular (Jump t) k = jump_regular q k.keeps
  applied_regular (Link r v t) k = jump_regular q k.keeps.1.1
  applied_regular (LoadByte r a s) k = advance_regular q
  applied_regular (LoadHalf r a s) k = advance_regular q
  applied_regular (LoadWord r a) k = advance_regular q
  applied_regular (LoadLinked r a) k = linked_regular (advance_regular q)
  applied_regular (StoreByte a v) k = advance_regular q
  applied_regular (StoreHalf a v) k = advance_regular q
  applied_regular (StoreWord a v) k = advance_regular q
  applied_regular (StoreLinked r a v) k = linked_regular (advance_regular q)
  applied_regular (Control r v) k = control_regular (advance_regular q) r k.keeps
  applied_regular (Return s) k = return_regular (advance_regular q) k.keeps

module _ {l : List ℕ} (c : Special) (m : List ℕ) (g : Registers l) (b : Bytes m) where
  byte_below : (a : ℕ) → Word (load_of 1 m a)
  byte_below a = omega (arith, load_lt 1 m a b)

  half_below : (a : ℕ) → Word (load_of 2 m a)
  half_below a = omega (arith, load_lt 2 m a b)

  word_below : (a : ℕ) → Word (load_of 4 m a)
  word_below a = omega (arith, load_lt 4 m a b)

  written : (r : ℕ) {v : ℕ} → Word v → Registers (put_of l r v)
  written r {v} h = put_registers l r v g h

  applied_registers : {n at w : ℕ} (e : Effect) → Sound (Ok e) n at w → Registers (applied_of e l c m).registers
  applied_registers Advance k = g
  applied_registers (Write r v) k = written r k.keeps.1
  applied_registers (Pair h o) k = g
  applied_registers (Jump t) k = g
  applied_registers (Link r v t) k = written r k.keeps.1.0
  applied_registers (LoadByte r a s) k = written r (loaded_below 8 (load_of 1 m a) s (byte_below a))
  applied_registers (LoadHalf r a s) k = written r (loaded_below 16 (load_of 2 m a) s (half_below a))
  applied_registers (LoadWord r a) k = written r (word_below a)
  applied_registers (LoadLinked r a) k = written r (word_below a)
  applied_registers (StoreByte a v) k = g
  applied_registers (StoreHalf a v) k = g
  applied_registers (StoreWord a v) k = g
  applied_registers (StoreLinked r a v) k = written r (omega arith)
  applied_registers (Control r v) k = g
  applied_registers (Return s) k = g

pub apply_valid : {n at w : ℕ} (e : Effect) (s : State) (m : List ℕ) → Sound (Ok e) n at w → Valid s → Bytes m → Valid (apply_of e s m).state
apply_valid e s m k v b =
    record {
      registers = applied_registers (special_of s) m v.registers b e k;
      special = applied_regular s.registers m v.special e k;
    }

-- register 0 stays what it was
pub apply_zero : (e : Effect) (s : State) (m : List ℕ) → register_of (apply_of e s m).state.registers 0 ≡ register_of s.registers 0
apply_zero Advance s m = refl
apply_zero (Write r v) s m = put_zero s.registers r v
apply_zero (Pair h l) s m = refl
apply_zero (Jump t) s m = refl
apply_zero (Link r v t) s m = put_zero s.registers r v
apply_zero (LoadByte r a x) s m = put_zero s.registers r _
apply_zero (LoadHalf r a x) s m = put_zero s.registers r _
apply_zero (LoadWord r a) s m = put_zero s.registers r _
apply_zero (LoadLinked r a) s m = put_zero s.registers r _
apply_zero (StoreByte a v) s m = refl
apply_zero (StoreHalf a v) s m = refl
apply_zero (StoreWord a v) s m = refl
apply_zero (StoreLinked r a v) s m = put_zero s.registers r 1
apply_zero (Control r v) s m = refl
apply_zero (Return x) s m = refl

-- a sound effect leads from a lawful state to a lawful one, whatever the 32 registers and memory hold
pub apply_lawful : (e : Effect) (s : State) (m : List ℕ) → Performable e (length m) → Words (special_of s) → is_lawful s ≡ true → is_lawful (apply_of e s m).state ≡ true
apply_lawful e s m p w h =
    lawful (apply_of e s m).state
    (apply_zero e s m ∙ first s h)
    (applied_regular s.registers m (regular s.registers (special_of s) w h) e (record { keeps = p.keeps }))

-- and so does what is decided, where that is an effect
pub performs : {at w : ℕ} {c : Result Effect Exit} (s : State) (m : List ℕ) (d : Result Effect Exit) → d ≡ c → Sound c (length m) at w → Words (special_of s) → is_lawful s ≡ true → IfOk d (λ e. Performable e (length m) × (is_lawful (apply_of e s m).state ≡ true))
performs {at} {w} s m (Ok e) q k t h =
    let j : Sound (Ok e) (length m) at w = rw q k in
    let p : Performable e (length m) = record { at = at; width = w; keeps = j.keeps } in
    (p, apply_lawful e s m p t h)
performs s m (Err x) q k t h = tt
