-- Laws of the definitions of lists: that none of them says less than document 01.
use Prim.Native.Nat.{ℕ, zero, suc, ◌+◌, ◌^◌, ◌≤◌, ◌<◌}
use mathlib.Core.Path.{◌≡◌, refl, sym, ap, ◌∙◌}
use mathlib.Core.Bool.{Bool, true, false, cond, true≢false}
use mathlib.Core.Logic.{◌⊎◌, ⊎_elim}
use mathlib.Core.List.{List, [], ◌∷◌, ◌++◌, append_assoc}
use native.Mathlib.Omega.{arith}
use lib.Dec.{eqb}
use lib.ListN.{length, get_or}
use lib.Seq.{get_or-set_same, get_or-set_other}
use Rattle.word.proofs.Choice.{both}
use Rattle.layout.specs.declared.Layout.{Layout}
use Rattle.machine.specs.declared.state.State.{State}
use Rattle.machine.specs.State.{register_of, special_of}
use Rattle.machine.specs.Apply.{Machine}
use Rattle.machine.specs.Step.{access_at, step_of}
use Rattle.machine.specs.Run.{repeat_of}
use Rattle.machine.specs.Resume.{is_served}
use Rattle.rules.specs.Not.{Not}
use Rattle.checker.proofs.Says.{Says, holds, fails, eqs, les, lts, ands, ors}
use Rattle.confinement.specs.Events.{Write, Register, Hi, Lo, Byte, Event, Step, Run, Resume, Change, is_data, is_other, may_write}
use Rattle.confinement.specs.Calls.{Lent, Calls, put_state}
use Rattle.confinement.specs.Demand.{Allowed, Confined}
use Rattle.confinement.specs.Lists.{is_exit, may_all, put_byte, put_all, stands, event_of, list_of, at, run_tries, tries, list_tries}

pub says_true : {P : Type 0} {b : Bool} → Says P b → P → b ≡ true
says_true (holds p) q = refl
says_true (fails n) q = absurd (n q)

itself : (b : Bool) → Says (b ≡ true) b
itself true = holds refl
itself false = fails (λ e. true≢false (sym e))

-- ---- what a host may change

-- registers 1 to 25 and 28 to 31
pub other_registers : (r : ℕ) → Says (((1 ≤ r) × (r ≤ 25)) ⊎ ((28 ≤ r) × (r ≤ 31))) (is_other r)
unfolding is_other
other_registers r = ors (ands (les 1 r) (les r 25)) (ands (les 28 r) (les r 31))

module _ (l : Layout) where
  -- these to any word
  pub may_register : (r v : ℕ) → Says ((is_other r ≡ true) × (v < 2 ^ 32)) (may_write l (Register r v))
  unfolding may_write
  may_register r v = ands (itself (is_other r)) (lts v (2 ^ 32))

  pub may_hi : (v : ℕ) → Says (v < 2 ^ 32) (may_write l (Hi v))
  unfolding may_write
  may_hi v = lts v (2 ^ 32)

  pub may_lo : (v : ℕ) → Says (v < 2 ^ 32) (may_write l (Lo v))
  unfolding may_write
  may_lo v = lts v (2 ^ 32)

  -- of memory, data bytes alone, to any byte
  pub may_byte : (a v : ℕ) → Says ((is_data l a ≡ true) × (v < 2 ^ 8)) (may_write l (Byte a v))
  unfolding may_write
  may_byte a v = ands (itself (is_data l a)) (lts v (2 ^ 8))

  pub data_bytes : (a : ℕ) → Says ((l.data_base ≤ a) × (a < l.data_base + l.data_size)) (is_data l a)
  unfolding is_data
  data_bytes a = ands (les l.data_base a) (lts a (l.data_base + l.data_size))

-- the numbers that end a step, of which a step has 40 to 52
pub exit_numbers : (k : ℕ) → Says (40 ≤ k) (is_exit k)
unfolding is_exit
exit_numbers k = les 40 k

-- ---- what a change gives

module _ (s : State) where
  pub register_put : (r v : ℕ) → r < length s.registers → register_of (put_state (Register r v) s).registers r ≡ v
  register_put r v h = get_or-set_same s.registers r v 0 h

  -- to that register alone
  pub registers_kept : (r v q : ℕ) → Not (q ≡ r) → register_of (put_state (Register r v) s).registers q ≡ register_of s.registers q
  registers_kept r v q n = get_or-set_other s.registers r q v 0 n

  pub special_kept : (r v : ℕ) → special_of (put_state (Register r v) s) ≡ special_of s
  special_kept r v = refl

  pub hi_put : (v : ℕ) → ((put_state (Hi v) s).special.hi ≡ v) × (((put_state (Hi v) s).special.lo ≡ s.special.lo) × ((put_state (Hi v) s).registers ≡ s.registers))
  hi_put v = (refl, (refl, refl))

  pub lo_put : (v : ℕ) → ((put_state (Lo v) s).special.lo ≡ v) × (((put_state (Lo v) s).special.hi ≡ s.special.hi) × ((put_state (Lo v) s).registers ≡ s.registers))
  lo_put v = (refl, (refl, refl))

-- a byte goes to memory and leaves the state
pub byte_put : (m : List ℕ) (a v : ℕ) → a < length m → get_or (put_byte (Byte a v) m) a 0 ≡ v
byte_put m a v h = get_or-set_same m a v 0 h

pub bytes_kept : (m : List ℕ) (a v b : ℕ) → Not (b ≡ a) → get_or (put_byte (Byte a v) m) b 0 ≡ get_or m b 0
bytes_kept m a v b n = get_or-set_other m a b v 0 n

pub state_kept : (a v : ℕ) (s : State) → put_state (Byte a v) s ≡ s
state_kept a v s = refl

-- ---- a step that is confined

-- the exits that demand 3 allows are those that a resume serves
pub allowed_says : (k : ℕ) → Says (Allowed k) (is_served k)
unfolding is_served
allowed_says k = ors (eqs k 40) (ors (eqs k 46) (ors (eqs k 47) (eqs k 48)))

module _ (l : Layout) (t : Machine) (c : Confined l t) where
  -- each of the four bytes that it fetches is code
  pub confined_fetch : (k : ℕ) → k < 4 → (l.code_base ≤ t.state.special.pc + k) × (t.state.special.pc + k < l.code_base + l.code_size)
  confined_fetch k h = (omega (arith, c.fetch.0), omega (arith, h, c.fetch.1))

  -- each byte that it loads or stores is data
  pub confined_access : (k : ℕ) → k < (access_at t.state t.memory).width → is_data l ((access_at t.state t.memory).at + k) ≡ true
  unfolding is_data
  confined_access k h =
      let x = access_at t.state t.memory in
      let within : (l.data_base ≤ x.at + k) × (x.at + k < l.data_base + l.data_size) = ⊎_elim (λ z. absurd (omega (arith, h, z))) (λ p. (omega (arith, p.0), omega (arith, h, p.1))) c.access in
      says_true (data_bytes l (x.at + k)) within

-- ---- runs

-- the exiting step is tried and not counted
abbrev tried : ℕ → ℕ → ℕ
tried number steps = cond (eqb number 0) steps (suc steps)

tried_later : (number steps : ℕ) → suc (tried number steps) ≡ tried number (1 + steps)
tried_later number steps = by (eqb number 0)
  where
    by : (t : Bool) → suc (cond t steps (suc steps)) ≡ cond t (1 + steps) (suc (1 + steps))
    by true = omega arith
    by false = omega arith

-- a run tries as many steps as it completes, and the exiting one
pub run_tries_law : (n : ℕ) (s : State) (m : List ℕ) → length (run_tries n s m) ≡ tried (repeat_of n s m).number (repeat_of n s m).steps
unfolding repeat_of
run_tries_law zero s m = refl
run_tries_law (suc n) s m =
    let t = (step_of s m).machine in
    let r = repeat_of n t.state t.memory in
    by (eqb (step_of s m).number 0) refl (ap suc (run_tries_law n t.state t.memory) ∙ tried_later r.number r.steps)
  where
    by : (u : Bool) → eqb (step_of s m).number 0 ≡ u
        → suc (length (run_tries n (step_of s m).machine.state (step_of s m).machine.memory)) ≡ tried (repeat_of n (step_of s m).machine.state (step_of s m).machine.memory).number (1 + (repeat_of n (step_of s m).machine.state (step_of s m).machine.memory).steps)
        → length (run_tries (suc n) s m) ≡ tried (repeat_of (suc n) s m).number (repeat_of (suc n) s m).steps
    by true e h = rw e h
    by false e h = rw (e, e)

-- and the step tried after k others is that of the state that k steps lead to
pub run_tried : (n k : ℕ) (s : State) (m : List ℕ) (d : Machine) → k < length (run_tries n s m) → get_or (run_tries n s m) k d ≡ (repeat_of k s m).machine
unfolding repeat_of
run_tried zero k s m d h = absurd (omega (arith, h))
run_tried (suc n) zero s m d h = refl
run_tried (suc n) (suc k) s m d h =
    let t = (step_of s m).machine in
    by (eqb (step_of s m).number 0) refl (run_tried n k t.state t.memory d) h
  where
    by : (u : Bool) → eqb (step_of s m).number 0 ≡ u
        → (k < length (run_tries n (step_of s m).machine.state (step_of s m).machine.memory) → get_or (run_tries n (step_of s m).machine.state (step_of s m).machine.memory) k d ≡ (repeat_of k (step_of s m).machine.state (step_of s m).machine.memory).machine)
        → suc k < length (run_tries (suc n) s m) → get_or (run_tries (suc n) s m) (suc k) d ≡ (repeat_of (suc k) s m).machine
    by true e f q = rw e (f (omega (arith, (rw e at q))))
    by false e f q = absurd (omega (arith, (rw e at q)))

-- ---- lists

module _ {S : Type 0} (c : Calls S) (l : Layout) where
  -- what a list leaves
  abbrev pub left_by : List Event → Lent S → Lent S
  left_by [] w = w
  left_by (e ∷ es) w = left_by es (event_of c l e w).left

  -- each list is given what the one before it left
  pub list_append : (es fs : List Event) (w : Lent S) → list_of c l (es ++ fs) w ≡ list_of c l es w ++ list_of c l fs (left_by es w)
  list_append [] fs w = refl
  list_append (e ∷ es) fs w = ap (λ rs. event_of c l e w ∷ rs) (list_append es fs (event_of c l e w).left)

  pub tries_append : (es fs : List Event) (w : Lent S) → list_tries c l (es ++ fs) w ≡ list_tries c l es w ++ list_tries c l fs (left_by es w)
  tries_append [] fs w = refl
  tries_append (e ∷ es) fs w =
      ap (λ ts. tries c l e w ++ ts) (tries_append es fs (event_of c l e w).left)
      ∙ sym (append_assoc (tries c l e w) (list_tries c l es (event_of c l e w).left) (list_tries c l fs (left_by es (event_of c l e w).left)))

  -- every event has its reply
  pub list_length : (es : List Event) (w : Lent S) → length (list_of c l es w) ≡ length es
  list_length [] w = refl
  list_length (e ∷ es) w = ap suc (list_length es (event_of c l e w).left)

  -- a call that is not refused by 1 or 17 tries its steps
  module _ (w : Lent S) (z : c.refusal w.state (length w.memory) ≡ 0) where
    pub step_tries : tries c l Step w ≡ at (c.view w.state) w.memory ∷ []
    step_tries = rw z

    pub call_tries : (n : ℕ) → tries c l (Run n) w ≡ run_tries n (c.view w.state) w.memory
    call_tries n = rw z

  -- a resume looks at the step that a step call would take
  pub resume_tries : (w : Lent S) → tries c l Resume w ≡ tries c l Step w
  resume_tries w = refl

  -- ---- changes

  module _ (xs : List Write) (w : Lent S) where
    pub stands_exit : stands c l xs w ≡ true → is_exit (step_of (c.view w.state) w.memory).number ≡ true
    unfolding stands
    stands_exit e = (both (is_exit (step_of (c.view w.state) w.memory).number) _ e).0

    pub stands_may : stands c l xs w ≡ true → may_all l xs ≡ true
    unfolding stands
    stands_may e = (both (is_exit (step_of (c.view w.state) w.memory).number) (may_all l xs) e).1

    -- and there it does
    pub stands_there : is_exit (step_of (c.view w.state) w.memory).number ≡ true → may_all l xs ≡ true → stands c l xs w ≡ true
    unfolding stands
    stands_there e m = rw (e, m)

    -- one that stands gives its values, in their order
    pub stood : stands c l xs w ≡ true → (event_of c l (Change xs) w).left ≡ put_all c l xs w
    stood e = rw e

    -- one that does not stand changes nothing
    pub falls : stands c l xs w ≡ false → (event_of c l (Change xs) w).left ≡ w
    falls e = rw e
