-- What the code's steps answer, one after the other: the checker, the state that is given, and what is asked of it.
use Prim.Native.Nat.{ℕ, ◌+◌, ◌-◌, ◌%◌, ◌^◌, ◌≤◌, ◌<◌}
use mathlib.Core.Path.{◌≡◌, refl, sym, ap, ap₂, ◌∙◌}
use mathlib.Core.List.{List}
use native.Mathlib.Omega.{arith}
use lib.Dec.{eqb}
use lib.ListN.{length, take, drop}
use borrow.Author.Tests.{ne_eqb, ltb-true}
use Rattle.word.proofs.Choice.{both}
use Rattle.std.specs.Str.{bytes_eq}
use Rattle.machine.specs.State.{register_of, is_lawful, refusal_of}
use Rattle.machine.proofs.Steps.{not_refused}
use Rattle.std.specs.Prelude.{Result, Ok, Err, IfOk}
use Rattle.refusal.specs.declared.Refusal.{Refusal}
use Rattle.refusal.specs.Refusal.{number_of}
use Rattle.refusal.proofs.Numbers.{number_some}
use Rattle.layout.specs.declared.Layout.{Layout}
use Rattle.machine.specs.declared.state.State.{State}
use Rattle.checker.specs.declared.verdict.Refused.{Refused}
use Rattle.checker.specs.Check.{verdict, no_place, accepted, check_of, code_of}
use Rattle.checker.specs.Said.{IsPlaceless, place_of, verdict_of}
use Rattle.checker.proofs.Whole.{accepted_lawful}
use Rattle.start.specs.Start.{placing_refusal, later_refusal, given_refusal, verdict_by, StartedFrom, says, start_of}

module _ (l : Layout) (img m : List ℕ) (given : Result State Refusal) where
  -- the checker's refusal is the answer
  pub check_refused : (r : Refused) → verdict (number_of r.rule) (place_of r.place) ≡ check_of l (length m) img → verdict (number_of r.rule) (place_of r.place) ≡ verdict_by l img given m
  unfolding verdict_by
  check_refused r e = rw (← e, ne_eqb (number_of r.rule) 0 (number_some r.rule)) refl

  module _ (a : accepted ≡ check_of l (length m) img) where
    -- after it the number of what is given decides
    decided : verdict (given_refusal l img given m) no_place ≡ verdict_by l img given m
    unfolding verdict_by
    decided = rw (← a) refl

    pub given_refused : (e : Refusal) (r : Refused) → IsPlaceless e r → number_of e ≡ given_refusal l img given m → verdict (number_of r.rule) (place_of r.place) ≡ verdict_by l img given m
    given_refused e r p q =
        ap₂ verdict (ap number_of p.0 ∙ q) (ap place_of p.1) ∙ decided

    pub given_done : 0 ≡ given_refusal l img given m → accepted ≡ verdict_by l img given m
    given_done q = ap (λ k. verdict k no_place) q ∙ decided

    pub code_inside : (l.code_base + l.code_size ≤ length m) × (l.code_base + 4 < 2 ^ 32)
    code_inside =
        let ok = accepted_lawful l (length m) img (sym a) in
        (ok.r4.1, omega (arith, ok.r1, ok.r4.1, ok.r2.1.0))

-- ---- the state and where it is to run

-- the part of the memory that the code compares
pub code_is : (l : Layout) (m img : List ℕ) → bytes_eq (take (l.code_base + l.code_size - l.code_base) (drop l.code_base m)) img ≡ bytes_eq (code_of l m) img
unfolding code_of
code_is l m img =
    let z : l.code_base + l.code_size - l.code_base ≡ l.code_size = omega arith in
    ap (λ (k : ℕ). bytes_eq (take k (drop l.code_base m)) img) z

module _ (l : Layout) (img : List ℕ) (s : State) (m : List ℕ) where
  pub own_refused : (e : Refusal) (own : ℕ) → number_of e ≡ own → number_of e ≡ later_refusal own l img s m
  unfolding later_refusal
  own_refused e own q = rw (← q, ne_eqb (number_of e) 0 (number_some e)) refl

  pub placing_next : (own k : ℕ) → 0 ≡ own → k ≡ placing_refusal l img s m → k ≡ later_refusal own l img s m
  unfolding later_refusal
  placing_next own k q h = rw (← q) h

pub status_fits : (s : State) (n : ℕ) → 0 ≡ refusal_of s n → s.special.status < 2 ^ 13
unfolding is_lawful
status_fits s n q =
    let (_, e₁) = both (eqb (register_of s.registers 0) 0) _ (not_refused s n (sym q)) in
    let (_, e₂) = both (eqb (s.special.pc % 4) 0) _ e₁ in
    let (_, e₃) = both (eqb (s.special.next_pc % 4) 0) _ e₂ in
    ltb-true _ _ e₃

-- what is handed back of a state by value
pub start_says : (l : Layout) (img : List ℕ) (s : State) (m : List ℕ) (r : Result State Refused)
    → verdict_of r ≡ verdict_by l img (Ok s) m → IfOk r (StartedFrom l (Ok s)) → says s r ≡ start_of l img s m
unfolding verdict_by start_of
start_says l img s m (Ok t) e h = rw (h, ← e) refl
start_says l img s m (Err r) e h = rw (← e, ne_eqb (number_of r.rule) 0 (number_some r.rule)) refl
