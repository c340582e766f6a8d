-- Tests and what they say, a law for each connective.
use Prim.Native.Nat.{ℕ, ◌≤◌, ◌<◌}
use mathlib.Core.Path.{◌≡◌, refl, subst}
use mathlib.Core.Bool.{Bool, true, false, not, cond, ◌&&◌, ◌||◌, false≢true}
use mathlib.Core.Logic.{◌⊎◌, inl, inr, ⊎_elim}
use native.Mathlib.Omega.{arith}
use lib.Dec.{eqb, leb, ltb}
use borrow.Author.Tests.{ltb-true, ltb-false, leb-true, leb-false, eqb-true, eqb-false}
use Rattle.std.specs.Prelude.{Option, Some, None}
use Rattle.isa.specs.declared.kind.Instruction.{Instruction}
use Rattle.rules.specs.Not.{Not}
use Rattle.checker.specs.Refusal.{pick}

-- b is the test of P
pub data Says (P : Type 0) : Bool → Type 0 where
  holds : P → Says P true
  fails : Not P → Says P false

-- b is the test that P is broken
pub data Denies (P : Type 0) : Bool → Type 0 where
  breaks : Not P → Denies P true
  keeps : P → Denies P false

-- ---- numbers

pub eqs : (m n : ℕ) → Says (m ≡ n) (eqb m n)
eqs m n = go (eqb m n) refl
  where
    go : (b : Bool) → eqb m n ≡ b → Says (m ≡ n) b
    go true e = holds (eqb-true m n e)
    go false e = fails (eqb-false m n e)

pub les : (m n : ℕ) → Says (m ≤ n) (leb m n)
les m n = go (leb m n) refl
  where
    go : (b : Bool) → leb m n ≡ b → Says (m ≤ n) b
    go true e = holds (leb-true m n e)
    go false e = fails (λ h. omega (arith, leb-false m n e))

pub lts : (m n : ℕ) → Says (m < n) (ltb m n)
lts m n = go (ltb m n) refl
  where
    go : (b : Bool) → ltb m n ≡ b → Says (m < n) b
    go true e = holds (ltb-true m n e)
    go false e = fails (λ h. omega (arith, ltb-false m n e))

-- ---- connectives

pub ands : {P Q : Type 0} {a b : Bool} → Says P a → Says Q b → Says (P × Q) (a && b)
ands (holds p) (holds q) = holds (p, q)
ands (holds p) (fails q) = fails (λ h. q h.1)
ands (fails p) q = fails (λ h. p h.0)

pub ors : {P Q : Type 0} {a b : Bool} → Says P a → Says Q b → Says (P ⊎ Q) (a || b)
ors (holds p) q = holds (inl p)
ors (fails p) (holds q) = holds (inr q)
ors (fails p) (fails q) = fails (λ h. ⊎_elim p q h)

pub nots : {P : Type 0} {a : Bool} → Says P a → Says (Not P) (not a)
nots (holds p) = fails (λ h. h p)
nots (fails p) = holds p

-- broken where P holds and Q is broken
pub imps : {P Q : Type 0} {a b : Bool} → Says P a → Denies Q b → Denies (P → Q) (a && b)
imps (holds p) (breaks q) = breaks (λ h. q (h p))
imps (holds p) (keeps q) = keeps (λ h. q)
imps (fails p) q = keeps (λ h. absurd (p h))

pub both : {P Q : Type 0} {a b : Bool} → Denies P a → Denies Q b → Denies (P × Q) (a || b)
both (breaks p) q = breaks (λ h. p h.0)
both (keeps p) (breaks q) = breaks (λ h. q h.1)
both (keeps p) (keeps q) = keeps (p, q)

-- P is broken where its test fails
pub lacks : {P : Type 0} {a : Bool} → Says P a → Denies P (not a)
lacks (holds p) = keeps p
lacks (fails p) = breaks p

-- Not P is broken where the test of P holds
pub bars : {P : Type 0} {a : Bool} → Says P a → Denies (Not P) a
bars (holds p) = breaks (λ h. h p)
bars (fails p) = keeps p

-- P holds where it is not broken
pub spares : {P : Type 0} {a : Bool} → Denies P a → Says P (not a)
spares (breaks p) = fails p
spares (keeps p) = holds p

pub picks : {P Q : Type 0} {a b : Bool} (c : Bool) → Denies P a → Denies Q b → Denies (pick c P Q) (cond c a b)
picks true p q = p
picks false p q = q

-- ---- the same said otherwise

pub saying : {P Q : Type 0} {a : Bool} → (P → Q) → (Q → P) → Says P a → Says Q a
saying f g (holds p) = holds (f p)
saying f g (fails p) = fails (λ q. p (g q))

pub denying : {P Q : Type 0} {a : Bool} → (P → Q) → (Q → P) → Denies P a → Denies Q a
denying f g (breaks p) = breaks (λ q. p (g q))
denying f g (keeps p) = keeps (f p)

-- ---- the test's value

pub passes : {P : Type 0} {a : Bool} → Denies P a → P → a ≡ false
passes (breaks p) h = absurd (p h)
passes (keeps p) h = refl

pub stops : {P : Type 0} {a : Bool} → Denies P a → Not P → a ≡ true
stops (breaks p) h = refl
stops (keeps p) h = absurd (h p)

pub held : {P : Type 0} {a : Bool} → Says P a → a ≡ true → P
held (holds p) e = p
held (fails p) e = absurd (false≢true e)

-- ---- tests on what a word reads as

module _ (P : Instruction → Type 0) (t : Option Instruction → Bool) where
  -- broken by the instruction that is read; kept where there is none
  pub every_reading : t None ≡ false → ((x : Instruction) → Denies (P x) (t (Some x))) → (r : Option Instruction)
      → Denies ((x : Instruction) → r ≡ Some x → P x) (t r)
  every_reading z f (Some x) = denying (λ p y e. subst P (cc) p) (λ h. h x refl) (f x)
  every_reading z f None = rw z (keeps (λ x e. absurd (let y : ◌≡◌ {A = ℕ} 0 1 = cc in omega arith)))

  -- said of the instruction that is read; false where there is none
  pub some_reading : t None ≡ false → (r : Option Instruction) → ((x : Instruction) → r ≡ Some x → Says (P x) (t (Some x)))
      → Says ((x : Instruction) × ((r ≡ Some x) × P x)) (t r)
  some_reading z (Some x) f = saying (λ p. (x, (refl, p))) (λ h. subst P (let e = h.1.0 in cc) h.1.1) (f x refl)
  some_reading z None f = rw z (fails (λ h. let e = h.1.0 in let y : ◌≡◌ {A = ℕ} 0 1 = cc in omega arith))
