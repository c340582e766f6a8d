-- What a completed step changes: the program counters as its flow says, and of the registers the one that it names.
use Prim.Native.Nat.{ℕ, ◌<◌}
use mathlib.Core.Path.{◌≡◌, refl, sym, ◌∙◌}
use mathlib.Core.Bool.{Bool, true, false, cond, true≢false}
use mathlib.Core.List.{List}
use native.Mathlib.Omega.{arith}
use lib.Dec.{eqb}
use lib.ListN.{length, set}
use lib.Seq.{get_or-set_same, get_or-set_other}
use borrow.Author.Tests.{ne_eqb}
use Rattle.std.specs.Prelude.{Result, Ok, Err}
use Rattle.isa.specs.declared.kind.Kind.{Kind}
use Rattle.isa.specs.declared.kind.Instruction.{Instruction}
use Rattle.class.specs.Class.{class_of, named}
use Rattle.effect.specs.declared.effect.Effect.{Effect}
use Rattle.effect.specs.declared.effect.Effect.TheVariants.{Advance, Write, Pair, Jump, Link, LoadByte, LoadHalf, LoadWord, LoadLinked, StoreByte, StoreHalf, StoreWord, StoreLinked, Control, Return}
use Rattle.effect.specs.declared.exit.Exit.{Exit}
use Rattle.effect.proofs.Exits.{number_range}
use Rattle.system.specs.System.{is_user}
use Rattle.machine.specs.declared.state.State.{State}
use Rattle.machine.specs.State.{register_of, special_of}
use Rattle.parts.specs.Parts.{put_of}
use Rattle.machine.specs.Apply.{apply_of}
use Rattle.machine.specs.Step.{tried_of}
use Rattle.rules.specs.Not.{Not}
use Rattle.confinement.proofs.ByKind.{Goes, Follows, Obeys}

-- ---- a register written

module _ (l : List ℕ) (r v : ℕ) where
  pub put_here : Not (r ≡ 0) → r < length l → register_of (put_of l r v) r ≡ v
  unfolding put_of
  put_here n h = rw (ne_eqb r 0 n) (get_or-set_same l r v 0 h)

  pub put_elsewhere : (q : ℕ) → Not (q ≡ r) → register_of (put_of l r v) q ≡ register_of l q
  unfolding put_of
  put_elsewhere q n = by (eqb r 0)
    where
      by : (t : Bool) → register_of (cond t l (set l r v)) q ≡ register_of l q
      by true = refl
      by false = get_or-set_other l r q v 0 n

-- ---- a step

pub record Moved (k : Kind) (i : Instruction) (a : ℕ) (s t : State) : Type 0 where
  pub counter : t.special.pc ≡ s.special.next_pc
  pub goes : Goes k i a (special_of s) 0 t.special.next_pc
  pub mode : t.special.status ≡ s.special.status
  pub others : (r : ℕ) → Not (r ≡ named (class_of k).destination i) → register_of t.registers r ≡ register_of s.registers r

module _ (k : Kind) (i : Instruction) (a : ℕ) (s : State) (m : List ℕ) (u : is_user s.special.status ≡ true) where
  abbrev Others : List ℕ → Type 0
  Others l = (q : ℕ) → Not (q ≡ named (class_of k).destination i) → register_of l q ≡ register_of s.registers q

  written : (r v : ℕ) → r ≡ named (class_of k).destination i → Others (put_of s.registers r v)
  written r v p q h = put_elsewhere s.registers r v q (λ e. h (e ∙ p))

  stays : Others s.registers
  stays q h = refl

  in_kernel : {P : Type 0} → is_user s.special.status ≡ false → P
  in_kernel e = absurd (true≢false (sym u ∙ e))

  carries : (n : ℕ) (e : Effect) → Follows k i a (special_of s) n e → Moved k i a s (apply_of e s m).state
  carries n Advance f = record { counter = refl; goes = f; mode = refl; others = stays }
  carries n (Write r v) f = record { counter = refl; goes = f.1; mode = refl; others = written r v f.0 }
  carries n (Pair h l) f = record { counter = refl; goes = f; mode = refl; others = stays }
  carries n (Jump t) f = record { counter = refl; goes = f; mode = refl; others = stays }
  carries n (Link r v t) f = record { counter = refl; goes = f.1; mode = refl; others = written r v f.0 }
  carries n (LoadByte r b t) f = record { counter = refl; goes = f.1; mode = refl; others = written r _ f.0 }
  carries n (LoadHalf r b t) f = record { counter = refl; goes = f.1; mode = refl; others = written r _ f.0 }
  carries n (LoadWord r b) f = record { counter = refl; goes = f.1; mode = refl; others = written r _ f.0 }
  carries n (LoadLinked r b) f = record { counter = refl; goes = f.1; mode = refl; others = written r _ f.0 }
  carries n (StoreByte b v) f = record { counter = refl; goes = f; mode = refl; others = stays }
  carries n (StoreHalf b v) f = record { counter = refl; goes = f; mode = refl; others = stays }
  carries n (StoreWord b v) f = record { counter = refl; goes = f; mode = refl; others = stays }
  carries n (StoreLinked r b v) f = record { counter = refl; goes = f.1; mode = refl; others = written r 1 f.0 }
  carries n (Control r v) f = in_kernel f
  carries n (Return t) f = in_kernel f

  pub moves : {n : ℕ} (d : Result Effect Exit) → Obeys k i a (special_of s) n d → (tried_of d s m).number ≡ 0 → Moved k i a s (tried_of d s m).machine.state
  moves {n} (Ok e) o z = carries n e o.follows
  moves (Err x) o z = let y : ⊥ = omega (arith, (number_range x).0, z) in absurd y
