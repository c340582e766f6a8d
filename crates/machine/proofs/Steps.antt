-- The theorems about a step: what it leaves where it exits or is refused, and what it keeps.
use Prim.Native.Nat.{ℕ, ◌+◌, ◌≤◌, ◌<◌}
use mathlib.Core.Path.{◌≡◌, refl, sym, ap, ◌∙◌}
use mathlib.Core.Bool.{Bool, true, false, cond, true≢false}
use mathlib.Core.List.{List}
use mathlib.Core.Logic.{⊎_elim, ◌⊎◌, inl, inr}
use native.Mathlib.Omega.{arith}
use lib.Dec.{leb, ltb}
use lib.ListN.{length, get_or}
use borrow.Author.Tests.{ne_eqb, ltb-true, ltb-false, lt-ltb, le-ltb, le-leb, lt-leb}
use Rattle.std.specs.Prelude.{Option, Some, None, Result, Ok, Err}
use Rattle.std.specs.Option.{ok_or}
use Rattle.word.specs.Bytes.{load_of, store_of, longest}
use Rattle.word.proofs.Choice.{by_zero}
use Rattle.word.proofs.Memory.{store_length, store_below, store_above, store_bytes, load_lt}
use Rattle.isa.specs.declared.kind.Instruction.{Instruction}
use Rattle.isa.specs.Reading.{read_of}
use Rattle.isa.proofs.RoundTrip.{Operands, read_operands}
use Rattle.effect.specs.declared.effect.Special.{Special}
use Rattle.effect.specs.declared.effect.Effect.{Effect}
use Rattle.effect.specs.declared.effect.Effect.TheVariants.{Advance, Write, Pair, Jump, Link, LoadByte, LoadHalf, LoadWord, LoadLinked, StoreByte, StoreHalf, StoreWord, StoreLinked, Control, Return}
use Rattle.effect.specs.declared.effect.Touched.{Touched}
use Rattle.effect.specs.declared.effect.Touched.TheVariants.{Load, Store}
use Rattle.effect.specs.Touched.{touched_of}
use Rattle.effect.proofs.Touched.{Wide, wide}
use Rattle.effect.specs.declared.exit.Exit.{Exit}
use Rattle.effect.specs.declared.exit.Exit.TheVariants as E
use Rattle.effect.specs.Exit as X
use Rattle.effect.proofs.Exits.{number_range}
use Rattle.decision.specs.Decision.{decision_of}
use Rattle.effect.specs.Sound.{Sound}
use Rattle.decision.proofs.Sound.{exits, decision_sound}
use Rattle.refusal.specs.declared.Refusal.{Refusal}
use Rattle.refusal.specs.declared.Refusal.TheVariants as R
use Rattle.refusal.specs.Refusal.{number_of, refused_number, refused_when, ended_when}
use Rattle.refusal.proofs.Numbers.{number_some}
use Rattle.machine.specs.declared.state.State.{State}
use Rattle.machine.specs.State.{register_of, special_of, join_of, is_lawful, refusal_of, Typed, Bytes}
use Rattle.parts.specs.Parts.{parts}
use Rattle.apply.specs.Apply.{applied_of}
use Rattle.machine.specs.Apply.{Span, span, joined, apply_of, span_of, stored_in, Outside}
use Rattle.machine.specs.Step.{effect_of, read_effect, effect_at, read_access, access_at, Outcome, stepped, outcome, tried_of, try_of, step_of}
use Rattle.machine.proofs.Valid.{Valid, valid, valid_lawful, typed, apply_valid, apply_zero}

-- ---- the effect of a step is sound

pub read_sound : (s : State) → Valid s → (n : ℕ) (r : Option Instruction) → ((i : Instruction) → r ≡ Some i → Operands i) → Sound (read_effect r s n) n (read_access r s).at (read_access r s).width
unfolding effect_of
read_sound s v n None o = exits _
read_sound s v n (Some i) o =
    decision_sound i (o i refl) (v.registers.words i.rs) (v.registers.words i.rt) v.special n

module _ (s : State) (m : List ℕ) (v : Valid s) (b : Bytes m) where
  fetched : (t : Bool) (r : Option Instruction) → ((i : Instruction) → r ≡ Some i → Operands i) → Sound (cond t (read_effect r s (length m)) (Err E.Fetch)) (length m) (cond t (read_access r s) (span 0 0)).at (cond t (read_access r s) (span 0 0)).width
  fetched true r o = read_sound s v (length m) r o
  fetched false r o = exits _

  pub effect_sound : Sound (effect_at s m) (length m) (access_at s m).at (access_at s m).width
  unfolding effect_at access_at
  effect_sound =
      fetched (leb (s.special.pc + 4) (length m)) (read_of (load_of 4 m s.special.pc)) (read_operands (load_of 4 m s.special.pc) (load_lt 4 m s.special.pc b))

-- ---- the effect, by what the code finds at each turn

module _ (s : State) (m : List ℕ) where
  fetch_outside_law : length m < s.special.pc + 4 → Err E.Fetch ≡ effect_at s m
  unfolding effect_at
  fetch_outside_law h = rw (lt-leb (s.special.pc + 4) (length m) h)

  abbrev past : Bool
  past = ltb (length m) (s.special.pc + 4)

  outside_by : (t : Bool) → past ≡ t → (x : Exit) → Err x ≡ ended_when E.Fetch t → Err x ≡ effect_at s m
  outside_by true e x h =
      let k : ◌≡◌ {A = Result Unit Exit} (Err x) (Err E.Fetch) = h in
      let q : x ≡ E.Fetch = cc in
      rw q (fetch_outside_law (ltb-true _ _ e))
  outside_by false e x h = let k : ◌≡◌ {A = Result Unit Exit} (Err x) (Ok tt) = h in absurd (cc)

  pub fetch_outside : (x : Exit) → Err x ≡ ended_when E.Fetch past → Err x ≡ effect_at s m
  fetch_outside = outside_by past refl

  inside_by : (t : Bool) → past ≡ t → Ok tt ≡ ended_when E.Fetch t → s.special.pc + 4 ≤ length m
  inside_by true e h = let k : ◌≡◌ {A = Result Unit Exit} (Ok tt) (Err E.Fetch) = h in absurd (cc)
  inside_by false e h = ltb-false _ _ e

  pub fetch_inside : Ok tt ≡ ended_when E.Fetch past → s.special.pc + 4 ≤ length m
  fetch_inside = inside_by past refl

  module _ (h : s.special.pc + 4 ≤ length m) (w : ℕ) (r : Option Instruction) (loaded : w ≡ load_of 4 m s.special.pc) (given : r ≡ read_of w) where
    fetch_read : read_effect r s (length m) ≡ effect_at s m
    unfolding effect_at
    fetch_read = rw (le-leb (s.special.pc + 4) (length m) h, given, loaded)

    abbrev decided : Result Instruction Exit → Result Effect Exit
    decided (Ok i) = effect_of i s (length m)
    decided (Err x) = Err x

    decided_read : (o : Option Instruction) → decided (ok_or o E.NoInstruction) ≡ read_effect o s (length m)
    decided_read None = refl
    decided_read (Some i) = refl

    pub fetch_nothing : (x : Exit) → Err x ≡ ok_or r E.NoInstruction → Err x ≡ effect_at s m
    fetch_nothing x e = ap decided e ∙ decided_read r ∙ fetch_read

    pub fetch_decided : (i : Instruction) → r ≡ Some i → decision_of i (register_of s.registers i.rs) (register_of s.registers i.rt) (special_of s) (length m) ≡ effect_at s m
    unfolding effect_of
    fetch_decided i e = rw (← fetch_read, e)

pub fetch_operands : (m : List ℕ) (a w : ℕ) (r : Option Instruction) (i : Instruction) → Bytes m → w ≡ load_of 4 m a → r ≡ read_of w → r ≡ Some i → Operands i
fetch_operands m a w r i b l g e = read_operands w (rw l (load_lt 4 m a b)) i (sym g ∙ e)

-- ---- an exit and a refusal leave everything

-- what holds of the step tried and of the answer unchanged holds of the step
module _ (P : Outcome → Type 0) (s : State) (m : List ℕ) where
  pub by_refusal : (refusal_of s (length m) ≡ 0 → P (try_of s m)) → ((k : ℕ) → (k ≡ 0 → ⊥) → P (outcome k s m)) → P (step_of s m)
  unfolding step_of
  by_refusal p q = by_zero P (refusal_of s (length m)) p (q (refusal_of s (length m)))

-- the step, by what the code finds
module _ (s : State) (m : List ℕ) where
  pub step_refused : (k : ℕ) → k ≡ refusal_of s (length m) → (k ≡ 0 → ⊥) → outcome k s m ≡ step_of s m
  unfolding step_of
  step_refused k e n = rw (← e, ne_eqb k 0 n)

  pub refused_as : (e : Refusal) → number_of e ≡ refusal_of s (length m) → outcome (number_of e) s m ≡ step_of s m
  refused_as e h = step_refused (number_of e) h (number_some e)

  module _ (z : refusal_of s (length m) ≡ 0) where
    step_tries : tried_of (effect_at s m) s m ≡ step_of s m
    unfolding step_of try_of
    step_tries = rw z

    pub step_exits : (x : Exit) → Err x ≡ effect_at s m → outcome (X.number_of x) s m ≡ step_of s m
    step_exits x q = ap (λ d. tried_of d s m) q ∙ step_tries

    pub step_completes : (e : Effect) → Ok e ≡ effect_at s m → (l : List ℕ) (d : Special) (x : List ℕ) → parts l d x ≡ applied_of e s.registers (special_of s) m → stepped 0 (touched_of e) (join_of l d) x ≡ step_of s m
    step_completes e q l d x a =
        ap (λ p. record { number = 0; touched = touched_of e; machine = joined p }) a ∙ ap (λ d. tried_of d s m) q ∙ step_tries

-- an exit and a refusal change no state and no memory
tried_leaves : (d : Result Effect Exit) (s : State) (m : List ℕ) → ((tried_of d s m).number ≡ 0 → ⊥) → (tried_of d s m).machine ≡ record { state = s; memory = m }
tried_leaves (Ok e) s m n = absurd (n refl)
tried_leaves (Err x) s m n = refl

pub exit_leaves : (s : State) (m : List ℕ) → ((step_of s m).number ≡ 0 → ⊥) → (step_of s m).machine ≡ record { state = s; memory = m }
unfolding try_of
exit_leaves s m =
    by_refusal (λ o. (o.number ≡ 0 → ⊥) → o.machine ≡ record { state = s; memory = m }) s m
    (λ _. tried_leaves (effect_at s m) s m)
    (λ k n _. refl)

-- the numbers of a step that is not refused: done, or an exit of document 01's list
numbered : (d : Result Effect Exit) (s : State) (m : List ℕ) → ((tried_of d s m).number ≡ 0) ⊎ ((40 ≤ (tried_of d s m).number) × ((tried_of d s m).number ≤ 52))
numbered (Ok e) s m = inl refl
numbered (Err x) s m = inr (number_range x)

pub try_number : (s : State) (m : List ℕ) → Valid s → Bytes m → ((try_of s m).number ≡ 0) ⊎ ((40 ≤ (try_of s m).number) × ((try_of s m).number ≤ 52))
unfolding try_of
try_number s m v b = numbered (effect_at s m) s m

-- ---- a valid state leads to a valid state

-- a rule that refuses is broken, and the refusal is its own
pub when_broken : (r e : Refusal) (t : Bool) → Err e ≡ refused_when r t → (number_of e ≡ number_of r) × (t ≡ true)
when_broken r e true h = (ap refused_number h, refl)
when_broken r e false h = absurd (number_some e (ap refused_number h))

-- the refusals, by what the code finds
module _ (s : State) (n : ℕ) where
  pub too_long : longest < n → 1 ≡ refusal_of s n
  unfolding refusal_of
  too_long h = rw (lt-ltb longest n h)

  pub too_long_when : (e : Refusal) → Err e ≡ refused_when R.MemoryTooLong (ltb longest n) → number_of e ≡ refusal_of s n
  too_long_when e h = let b = when_broken R.MemoryTooLong e (ltb longest n) h in b.0 ∙ too_long (ltb-true _ _ b.1)

  module _ (h : n ≤ longest) where
    pub no_refusal : is_lawful s ≡ true → 0 ≡ refusal_of s n
    unfolding refusal_of
    no_refusal e = rw (le-ltb longest n h, e)

    pub not_lawful : is_lawful s ≡ false → 17 ≡ refusal_of s n
    unfolding refusal_of
    not_lawful e = rw (le-ltb longest n h, e)

-- a state that is not refused by 17
lawful_of : (t u : Bool) → ◌≡◌ {A = ℕ} (cond t 1 (cond u 0 17)) 0 → u ≡ true
lawful_of true u e = let z : ⊥ = omega (arith, e) in absurd z
lawful_of false true e = refl
lawful_of false false e = let z : ⊥ = omega (arith, e) in absurd z

pub not_refused : (s : State) (n : ℕ) → refusal_of s n ≡ 0 → is_lawful s ≡ true
unfolding refusal_of
not_refused s n e = lawful_of (ltb longest n) (is_lawful s) e

-- and the other way round
pub refused_alike : (s t : State) (n : ℕ) → refusal_of s n ≡ 0 → is_lawful t ≡ true → refusal_of t n ≡ 0
unfolding refusal_of
refused_alike s t n e l = let f = rw (not_refused s n e) at e in rw l f

-- a step that is not refused answers 0 or an exit
pub step_number : (s : State) (m : List ℕ) → Typed s → Bytes m → refusal_of s (length m) ≡ 0 → ((step_of s m).number ≡ 0) ⊎ ((40 ≤ (step_of s m).number) × ((step_of s m).number ≤ 52))
unfolding step_of
step_number s m t b z = rw z (try_number s m (valid s t (not_refused s (length m) z)) b)

tried_valid : {n at w : ℕ} (d : Result Effect Exit) (s : State) (m : List ℕ) → Sound d n at w → Valid s → Bytes m → Valid (tried_of d s m).machine.state
tried_valid (Ok e) s m k v b = apply_valid e s m k v b
tried_valid (Err x) s m k v b = v

pub step_valid : (s : State) (m : List ℕ) → Valid s → Bytes m → Valid (step_of s m).machine.state
unfolding try_of
step_valid s m v b =
    by_refusal (λ o. Valid o.machine.state) s m
    (λ _. tried_valid (effect_at s m) s m (effect_sound s m v b) v b)
    (λ k n. v)

-- a state that 17 does not refuse leads to one that it does not refuse
pub step_lawful : (s : State) (m : List ℕ) → Typed s → Bytes m → is_lawful s ≡ true → is_lawful (step_of s m).machine.state ≡ true
step_lawful s m t b e = valid_lawful (step_of s m).machine.state (step_valid s m (valid s t e) b)

-- registers stay below 2^32; a state that 17 refuses is left as it is
typed_by : (s : State) (m : List ℕ) → Typed s → Bytes m → (u : Bool) → is_lawful s ≡ u → Typed (step_of s m).machine.state
typed_by s m t b true e = typed (step_of s m).machine.state (step_valid s m (valid s t e) b)
typed_by s m t b false e =
    by_refusal (λ o. Typed o.machine.state) s m
    (λ z. absurd (true≢false (sym (not_refused s (length m) z) ∙ e)))
    (λ k n. t)

pub step_typed : (s : State) (m : List ℕ) → Typed s → Bytes m → Typed (step_of s m).machine.state
step_typed s m t b = typed_by s m t b (is_lawful s) refl

-- register 0 stays zero
tried_zero : (d : Result Effect Exit) (s : State) (m : List ℕ) → register_of (tried_of d s m).machine.state.registers 0 ≡ register_of s.registers 0
tried_zero (Ok e) s m = apply_zero e s m
tried_zero (Err x) s m = refl

pub step_zero : (s : State) (m : List ℕ) → register_of (step_of s m).machine.state.registers 0 ≡ register_of s.registers 0
unfolding try_of
step_zero s m =
    by_refusal (λ o. register_of o.machine.state.registers 0 ≡ register_of s.registers 0) s m
    (λ _. tried_zero (effect_at s m) s m)
    (λ k n. refl)

-- ---- memory

-- what holds of the memory, and of it after each store of the effect's bytes, holds after the effect
module _ (P : Span → List ℕ → Type 0) (s : State) (m : List ℕ) (stay : P (span 0 0) m) (store : (w a v : ℕ) → P (span a w) (store_of w m a v)) where
  apply_memory : (e : Effect) → P (stored_in (touched_of e)) (apply_of e s m).memory
  apply_memory Advance = stay
  apply_memory (Write r v) = stay
  apply_memory (Pair h l) = stay
  apply_memory (Jump t) = stay
  apply_memory (Link r v t) = stay
  apply_memory (LoadByte r a x) = stay
  apply_memory (LoadHalf r a x) = stay
  apply_memory (LoadWord r a) = stay
  apply_memory (LoadLinked r a) = stay
  apply_memory (StoreByte a v) = store 1 a v
  apply_memory (StoreHalf a v) = store 2 a v
  apply_memory (StoreWord a v) = store 4 a v
  apply_memory (StoreLinked r a v) = store 4 a v
  apply_memory (Control r v) = stay
  apply_memory (Return x) = stay

  tried_memory : (d : Result Effect Exit) → P (stored_in (tried_of d s m).touched) (tried_of d s m).machine.memory
  tried_memory (Ok e) = apply_memory e
  tried_memory (Err x) = stay

-- memory keeps its length
pub step_length : (s : State) (m : List ℕ) → length (step_of s m).machine.memory ≡ length m
unfolding try_of
step_length s m =
    by_refusal (λ o. length o.machine.memory ≡ length m) s m
    (λ _. tried_memory (λ _ x. length x ≡ length m) s m refl (λ w a v. store_length w m a v) (effect_at s m))
    (λ k n. refl)

-- bytes stay below 256
pub step_bytes : (s : State) (m : List ℕ) → Bytes m → Bytes (step_of s m).machine.memory
unfolding try_of
step_bytes s m b =
    by_refusal (λ o. Bytes o.machine.memory) s m
    (λ _. tried_memory (λ _ x. Bytes x) s m b (λ w a v. store_bytes w m a v b) (effect_at s m))
    (λ k n. b)

-- a step leaves all bytes but those that it stores
pub step_keeps : (s : State) (m : List ℕ) (i : ℕ) → Outside i (stored_in (step_of s m).touched) → get_or (step_of s m).machine.memory i 0 ≡ get_or m i 0
unfolding try_of
step_keeps s m i =
    by_refusal (λ o. Outside i (stored_in o.touched) → get_or o.machine.memory i 0 ≡ get_or m i 0) s m
    (λ _. tried_memory (λ x y. Outside i x → get_or y i 0 ≡ get_or m i 0) s m (λ _. refl) (λ w a v. ⊎_elim (store_below w m a v i) (store_above w m a v i)) (effect_at s m))
    (λ k n _. refl)

-- what a sound effect touches is its instruction's access
touched_of_law : {n at w : ℕ} (e : Effect) → Sound (Ok e) n at w → (touched_of e ≡ None) ⊎ (span_of (touched_of e) ≡ span at w)
touched_of_law Advance k = inl refl
touched_of_law (Write r v) k = inl refl
touched_of_law (Pair h l) k = inl refl
touched_of_law (Jump t) k = inl refl
touched_of_law (Link r v t) k = inl refl
touched_of_law (LoadByte r a x) k = inr (rw (k.keeps.1.same_address, k.keeps.1.same_width))
touched_of_law (LoadHalf r a x) k = inr (rw (k.keeps.1.same_address, k.keeps.1.same_width))
touched_of_law (LoadWord r a) k = inr (rw (k.keeps.1.same_address, k.keeps.1.same_width))
touched_of_law (LoadLinked r a) k = inr (rw (k.keeps.1.same_address, k.keeps.1.same_width))
touched_of_law (StoreByte a v) k = inr (rw (k.keeps.same_address, k.keeps.same_width))
touched_of_law (StoreHalf a v) k = inr (rw (k.keeps.same_address, k.keeps.same_width))
touched_of_law (StoreWord a v) k = inr (rw (k.keeps.same_address, k.keeps.same_width))
touched_of_law (StoreLinked r a v) k = inr (rw (k.keeps.1.same_address, k.keeps.1.same_width))
touched_of_law (Control r v) k = inl refl
touched_of_law (Return x) k = inl refl

tried_touches : {n at w : ℕ} (d : Result Effect Exit) (s : State) (m : List ℕ) → Sound d n at w → ((tried_of d s m).touched ≡ None) ⊎ (span_of (tried_of d s m).touched ≡ span at w)
tried_touches (Ok e) s m k = touched_of_law e k
tried_touches (Err x) s m k = inl refl

-- and so is what it stores
stored_in_law : (t : Option Touched) (x : Span) → (t ≡ None) ⊎ (span_of t ≡ x) → ((stored_in t).width ≡ 0) ⊎ (stored_in t ≡ x)
stored_in_law None x h = inl refl
stored_in_law (Some (Load a w)) x h = inl refl
stored_in_law (Some (Store a w)) x (inl e) = inl (ap (λ t. (stored_in t).width) e)
stored_in_law (Some (Store a w)) x (inr e) = inr e

-- a step that does not store leaves memory
pub step_leaves : (s : State) (m : List ℕ) → (stored_in (step_of s m).touched).width ≡ 0 → (step_of s m).machine.memory ≡ m
unfolding try_of
step_leaves s m =
    by_refusal (λ o. (stored_in o.touched).width ≡ 0 → o.machine.memory ≡ m) s m
    (λ _. tried_memory (λ x y. x.width ≡ 0 → y ≡ m) s m (λ _. refl) (λ w a v e. rw e) (effect_at s m))
    (λ k n _. refl)

-- what a step touched is its access, where it touched anything
pub step_touches : (s : State) (m : List ℕ) → Valid s → Bytes m → ((step_of s m).touched ≡ None) ⊎ (span_of (step_of s m).touched ≡ access_at s m)
unfolding try_of
step_touches s m v b =
    by_refusal (λ o. (o.touched ≡ None) ⊎ (span_of o.touched ≡ access_at s m)) s m
    (λ _. tried_touches (effect_at s m) s m (effect_sound s m v b))
    (λ k n. inl refl)

-- and that has a byte or more
pub step_wide : (s : State) (m : List ℕ) → Wide (step_of s m).touched
step_wide s m = wide (step_of s m).touched

-- a step leaves all bytes but its access's
pub step_outside : (s : State) (m : List ℕ) → Valid s → Bytes m → (i : ℕ) → Outside i (access_at s m) → get_or (step_of s m).machine.memory i 0 ≡ get_or m i 0
step_outside s m v b i h =
    ⊎_elim
    (λ z. rw (step_leaves s m z))
    (λ e. step_keeps s m i (rw e h))
    (stored_in_law (step_of s m).touched (access_at s m) (step_touches s m v b))
