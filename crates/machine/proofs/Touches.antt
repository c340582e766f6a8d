-- What a step touches, beside its instruction's access (document 02, Ticket 1): the whole of it where the step completes, and nothing where there is
-- none, where an SC does not store, and where the step exits or is refused.
use Prim.Native.Nat.{ℕ, ◌+◌, ◌≤◌}
use mathlib.Core.Path.{◌≡◌, refl, ap, ◌∙◌}
use mathlib.Core.Bool.{Bool, true, false}
use mathlib.Core.List.{List}
use mathlib.Core.Logic.{⊎_elim}
use native.Mathlib.Omega.{arith}
use lib.ListN.{length}
use borrow.Author.Tests.{le-leb}
use Rattle.std.specs.Prelude.{Option, None, Some, Result, Ok, Err}
use Rattle.word.specs.Bytes.{load_of}
use Rattle.isa.specs.declared.kind.Access.{Access}
use Rattle.isa.specs.declared.kind.Access.TheVariants.{Lb, Lbu, Sb, Lh, Lhu, Sh, Lw, Sw, Ll, Sc}
use Rattle.isa.specs.declared.kind.Kind.TheVariants as K
use Rattle.isa.specs.declared.kind.Instruction.{Instruction}
use Rattle.isa.specs.Reading.{read_of}
use Rattle.isa.specs.declared.width.Width.TheVariants.{Word}
use Rattle.isa.specs.Width.{bytes_of}
use Rattle.class.specs.Class.{access_class, class_of, width_in}
use Rattle.effect.specs.declared.effect.Effect.{Effect}
use Rattle.effect.specs.declared.exit.Exit.{Exit}
use Rattle.effect.specs.declared.effect.Touched.{Touched}
use Rattle.effect.specs.declared.effect.Touched.TheVariants.{Load, Store}
use Rattle.effect.specs.Touched.{touched_of}
use Rattle.effect.proofs.Touched.{width_some}
use Rattle.access.specs.Access.{address_of, load_if, store_if, conditional, access_of}
use Rattle.decision.specs.Decision.{decision_of}
use Rattle.machine.specs.declared.state.State.{State}
use Rattle.machine.specs.State.{register_of, Bytes}
use Rattle.machine.specs.Apply.{span, span_of, directed}
use Rattle.machine.specs.Step.{effect_of, effect_at, instruction_access, access_at, tried_of, try_of, step_of}
use Rattle.machine.proofs.Valid.{Valid}
use Rattle.machine.proofs.Steps.{by_refusal, step_touches}

-- ---- the effect of an access

module _ (s : State) (m : List ℕ) where
  load_touches : (t : Bool) (e : Effect) → (tried_of (load_if t e) s m).number ≡ 0 → (tried_of (load_if t e) s m).touched ≡ touched_of e
  unfolding load_if
  load_touches true e z = refl
  load_touches false e z = let c : ⊥ = omega (arith, z) in absurd c

  store_touches : (t : Bool) (e : Effect) → (tried_of (store_if t e) s m).number ≡ 0 → (tried_of (store_if t e) s m).touched ≡ touched_of e
  unfolding store_if
  store_touches true e z = refl
  store_touches false e z = let c : ⊥ = omega (arith, z) in absurd c

  linked_touches : (ll : Bool) (rt a b : ℕ) → ll ≡ true → touched_of (conditional ll rt a b) ≡ Some (Store a Word)
  unfolding conditional
  linked_touches ll rt a b h = rw h

  access_touches : (k : Access) (rt a b v : ℕ) (ll : Bool) (n : ℕ) → (k ≡ Sc → ll ≡ true) → (tried_of (access_of k rt a b v ll n) s m).number ≡ 0 → (tried_of (access_of k rt a b v ll n) s m).touched ≡ directed (access_class k).access (address_of a v)
  access_touches Lb rt a b v ll n h z = load_touches _ _ z
  access_touches Lbu rt a b v ll n h z = load_touches _ _ z
  access_touches Sb rt a b v ll n h z = store_touches _ _ z
  access_touches Lh rt a b v ll n h z = load_touches _ _ z
  access_touches Lhu rt a b v ll n h z = load_touches _ _ z
  access_touches Sh rt a b v ll n h z = store_touches _ _ z
  access_touches Lw rt a b v ll n h z = load_touches _ _ z
  access_touches Sw rt a b v ll n h z = store_touches _ _ z
  access_touches Ll rt a b v ll n h z = load_touches _ _ z
  access_touches Sc rt a b v ll n h z = store_touches _ _ z ∙ linked_touches ll rt (address_of a v) b (h refl)

  unstored : (t ll : Bool) (rt a b : ℕ) → ll ≡ false → (tried_of (store_if t (conditional ll rt a b)) s m).touched ≡ None
  unfolding store_if conditional
  unstored true ll rt a b h = rw h
  unstored false ll rt a b h = refl

  exit_untouched : (d : Result Effect Exit) → ((tried_of d s m).number ≡ 0 → ⊥) → (tried_of d s m).touched ≡ None
  exit_untouched (Ok e) n = absurd (n refl)
  exit_untouched (Err x) n = refl

directed_whole : (k : Access) (a : ℕ) → span_of (directed (access_class k).access a) ≡ span a (bytes_of (width_in (access_class k).access))
directed_whole Lb a = refl
directed_whole Lbu a = refl
directed_whole Sb a = refl
directed_whole Lh a = refl
directed_whole Lhu a = refl
directed_whole Sh a = refl
directed_whole Lw a = refl
directed_whole Sw a = refl
directed_whole Ll a = refl
directed_whole Sc a = refl

-- ---- the step

module _ (s : State) (m : List ℕ) (i : Instruction) (fetched : s.special.pc + 4 ≤ length m) (reads : read_of (load_of 4 m s.special.pc) ≡ Some i) where
  pub effect_is : effect_at s m ≡ effect_of i s (length m)
  unfolding effect_at
  effect_is = rw (le-leb (s.special.pc + 4) (length m) fetched, reads)

  access_is : access_at s m ≡ instruction_access i s
  unfolding access_at
  access_is = rw (le-leb (s.special.pc + 4) (length m) fetched, reads)

  module _ (k : Access) (isAccess : i.kind ≡ K.Access k) where
    accessed : effect_of i s (length m) ≡ access_of k i.rt (register_of s.registers i.rs) (register_of s.registers i.rt) i.value s.special.ll (length m)
    unfolding effect_of decision_of
    accessed = rw isAccess

    -- a step that completes touches the access of the instruction's class; but an SC needs the LL bit
    touched_class : (k ≡ Sc → s.special.ll ≡ true) → (step_of s m).number ≡ 0 → (step_of s m).touched ≡ directed (class_of i.kind).access (access_at s m).at
    unfolding try_of
    touched_class h =
        by_refusal (λ o. o.number ≡ 0 → o.touched ≡ directed (class_of i.kind).access (access_at s m).at) s m
        (λ _. rw (access_is, isAccess, effect_is, accessed) (access_touches s m k i.rt _ _ i.value s.special.ll (length m) h))
        (λ k n z. absurd (n z))

    access_whole : span_of (directed (class_of i.kind).access (access_at s m).at) ≡ access_at s m
    access_whole = rw (access_is, isAccess) (directed_whole k _)

    -- and the whole of it
    pub touched_access : (k ≡ Sc → s.special.ll ≡ true) → (step_of s m).number ≡ 0 → ((step_of s m).touched ≡ directed (class_of i.kind).access (access_at s m).at) × (span_of (step_of s m).touched ≡ access_at s m)
    touched_access h z = (touched_class h z, ap span_of (touched_class h z) ∙ access_whole)

    -- an SC without the LL bit touches nothing
    pub touched_unstored : k ≡ Sc → s.special.ll ≡ false → (step_of s m).touched ≡ None
    unfolding try_of
    touched_unstored e h =
        by_refusal (λ o. o.touched ≡ None) s m
        (λ _. rw (effect_is, accessed, e) (unstored s m _ s.special.ll _ _ _ h))
        (λ k n. refl)

-- an exit and a refusal touch nothing
pub touched_exits : (s : State) (m : List ℕ) → ((step_of s m).number ≡ 0 → ⊥) → (step_of s m).touched ≡ None
unfolding try_of
touched_exits s m =
    by_refusal (λ o. (o.number ≡ 0 → ⊥) → o.touched ≡ None) s m
    (λ _. exit_untouched s m (effect_at s m))
    (λ k n _. refl)

narrow : (t : Option Touched) → (span_of t).width ≡ 0 → t ≡ None
narrow None z = refl
narrow (Some (Load a w)) z = absurd (width_some w z)
narrow (Some (Store a w)) z = absurd (width_some w z)

-- and neither does a step without an access
pub touched_nothing : (s : State) (m : List ℕ) → Valid s → Bytes m → (access_at s m).width ≡ 0 → (step_of s m).touched ≡ None
touched_nothing s m v b z =
    ⊎_elim (λ e. e) (λ e. narrow (step_of s m).touched (ap (λ x. x.width) e ∙ z)) (step_touches s m v b)
