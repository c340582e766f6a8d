-- Non-interference: on two memories alike on code and data, every event answers and leaves the same, and leaves them alike.
use Prim.Native.Nat.{ℕ, zero, suc, ◌+◌, ◌-◌, ◌/◌, ◌%◌, ◌≤◌, ◌<◌}
use mathlib.Core.Path.{◌≡◌, refl, sym, ap, ap₂, ◌∙◌, subst}
use mathlib.Core.Bool.{Bool, true, false, cond, ◌&&◌}
use mathlib.Core.Logic.{◌⊎◌, ⊎_elim}
use mathlib.Core.List.{List, [], ◌∷◌, map}
use native.Mathlib.Omega.{arith}
use native.Mathlib.Decide.{dec_lt, ℕ_discrete}
use lib.Dec.{eqb}
use lib.ListN.{length, get_or, set, length-set}
use lib.Seq.{get_or-set_same, get_or-set_other, set_out}
use Rattle.std.specs.Prelude.{Result, Ok, Err}
use Rattle.word.specs.Bytes.{load_of, store_of}
use Rattle.word.proofs.Memory.{load_same, store_length}
use Rattle.effect.specs.declared.effect.Effect.{Effect}
use Rattle.effect.specs.declared.exit.Exit.{Exit}
use Rattle.effect.specs.declared.effect.Effect.TheVariants.{Advance, Write, Pair, Jump, Link, LoadByte, LoadHalf, LoadWord, LoadLinked, StoreByte, StoreHalf, StoreWord, StoreLinked, Control, Return}
use Rattle.effect.specs.Sound.{Reach, Sound}
use Rattle.layout.specs.declared.Layout.{Layout}
use Rattle.machine.specs.declared.state.State.{State}
use Rattle.machine.specs.State.{refusal_of}
use Rattle.machine.specs.Apply.{apply_of}
use Rattle.machine.specs.Step.{effect_at, access_at, Outcome, tried_of, try_of, step_of}
use Rattle.machine.specs.Run.{Course, repeat_of, run_of}
use Rattle.machine.specs.Resume.{is_served, resume_of}
use Rattle.machine.proofs.Steps.{effect_sound}
use Rattle.checker.specs.Lawful.{Lawful}
use Rattle.confinement.specs.Events as E
use Rattle.effect.specs.Touched.{last_of, cell_of}
use Rattle.confinement.specs.Calls.{lent, Stepped, Ran, Resumed, Reply, put_state, methods}
use Rattle.confinement.specs.Lists.{is_exit, may_all, put_byte, put_all, stands, event_of, list_of, at}
use Rattle.confinement.specs.Demand.{Within, Confined, data_of, Seen, seen}
use Rattle.confinement.proofs.Parts.{part_same}
use Rattle.confinement.proofs.Invariant.{Inside}
use Rattle.confinement.proofs.Steps.{confined}
use Rattle.confinement.proofs.Keeps.{step_inside}
use Rattle.confinement.proofs.Lists.{event_left}

-- two memories that may differ outside code and data alone
pub record Twin (l : Layout) (m n : List ℕ) : Type 0 where
  pub same_length : length m ≡ length n
  pub same_code : (a : ℕ) → a < l.code_size → get_or m (l.code_base + a) 0 ≡ get_or n (l.code_base + a) 0
  pub same_data : (a : ℕ) → a < l.data_size → get_or m (l.data_base + a) 0 ≡ get_or n (l.data_base + a) 0

-- two choices by equal tests
both_ways : {A : Type 0} (R : A → A → Type 0) {a b c d : A} (t u : Bool) → t ≡ u → R a b → R c d → R (cond t a c) (cond u b d)
both_ways R {a} {b} {c} {d} t u e p q = subst (λ (x : Bool). R (cond x a c) (cond u b d)) (sym e) (by u)
  where
    by : (x : Bool) → R (cond x a c) (cond x b d)
    by true = p
    by false = q

-- ---- a byte after a store, from the byte before it

set_same : (m n : List ℕ) (a v k : ℕ) → length m ≡ length n → get_or m k 0 ≡ get_or n k 0 → get_or (set m a v) k 0 ≡ get_or (set n a v) k 0
set_same m n a v k h e = elim (ℕ_discrete k a) [
  | yes p ↦ elim (dec_lt a (length m)) [
    | yes q ↦
        subst (λ (x : ℕ). get_or (set m a v) x 0 ≡ get_or (set n a v) x 0) (sym p)
        (get_or-set_same m a v 0 q ∙ sym (get_or-set_same n a v 0 (omega arith)))
    | no q ↦ rw (set_out m a v (omega arith), set_out n a v (omega arith)) e
  ]
  | no p ↦ get_or-set_other m a k v 0 p ∙ e ∙ sym (get_or-set_other n a k v 0 p)
]

store_same : (w : ℕ) (m n : List ℕ) (a v k : ℕ) → length m ≡ length n → get_or m k 0 ≡ get_or n k 0 → get_or (store_of w m a v) k 0 ≡ get_or (store_of w n a v) k 0
store_same zero m n a v k h e = e
store_same (suc w) m n a v k h e =
    store_same w (set m a (v % 256)) (set n a (v % 256)) (a + 1) (v / 256) k
    (length-set m a (v % 256) ∙ h ∙ sym (length-set n a (v % 256)))
    (set_same m n a (v % 256) k h e)

module _ (l : Layout) where
  set_twin : (m n : List ℕ) (a v : ℕ) → Twin l m n → Twin l (set m a v) (set n a v)
  set_twin m n a v t =
      record {
        same_length = length-set m a v ∙ t.same_length ∙ sym (length-set n a v);
        same_code = λ k h. set_same m n a v _ t.same_length (t.same_code k h);
        same_data = λ k h. set_same m n a v _ t.same_length (t.same_data k h);
      }

  store_twin : (w : ℕ) (m n : List ℕ) (a v : ℕ) → Twin l m n → Twin l (store_of w m a v) (store_of w n a v)
  store_twin w m n a v t =
      record {
        same_length = store_length w m a v ∙ t.same_length ∙ sym (store_length w n a v);
        same_code = λ k h. store_same w m n a v _ t.same_length (t.same_code k h);
        same_data = λ k h. store_same w m n a v _ t.same_length (t.same_data k h);
      }

  pub twin_data : {m n : List ℕ} → Twin l m n → data_of l m ≡ data_of l n
  twin_data {m} {n} t = part_same m n l.data_base l.data_size t.same_length t.same_data

  -- ---- an effect on both

  module _ (s : State) (m n : List ℕ) (t : Twin l m n) where
    applied_twin : (e : Effect) → Twin l (apply_of e s m).memory (apply_of e s n).memory
    applied_twin Advance = t
    applied_twin (Write r v) = t
    applied_twin (Pair h o) = t
    applied_twin (Jump a) = t
    applied_twin (Link r v a) = t
    applied_twin (LoadByte r a x) = t
    applied_twin (LoadHalf r a x) = t
    applied_twin (LoadWord r a) = t
    applied_twin (LoadLinked r a) = t
    applied_twin (StoreByte a v) = store_twin 1 m n a v t
    applied_twin (StoreHalf a v) = store_twin 2 m n a v t
    applied_twin (StoreWord a v) = store_twin 4 m n a v t
    applied_twin (StoreLinked r a v) = store_twin 4 m n a v t
    applied_twin (Control r v) = t
    applied_twin (Return x) = t

    -- a load from the data area brings the same
    module _ {len b w : ℕ} (inside : (w ≡ 0) ⊎ Within l.data_base l.data_size (record { at = b; width = w })) where
      data_load : (k a : ℕ) → 0 < k → Reach a k len b w → load_of k m a ≡ load_of k n a
      data_load k a p r =
          ⊎_elim
          (λ z. absurd (omega (arith, p, z, r.same_width)))
          (λ h. load_same k m n a (λ i g f. from i (omega (arith, g, h.0, r.same_address)) (omega (arith, f, h.1, r.same_address, r.same_width))))
          inside
        where
          from : (i : ℕ) → l.data_base ≤ i → i < l.data_base + l.data_size → get_or m i 0 ≡ get_or n i 0
          from i g f =
              let e : l.data_base + (i - l.data_base) ≡ i = omega arith in
              subst (λ (x : ℕ). get_or m x 0 ≡ get_or n x 0) e (t.same_data (i - l.data_base) (omega arith))

      applied_state : (e : Effect) → Sound (Ok e) len b w → (apply_of e s m).state ≡ (apply_of e s n).state
      applied_state Advance k = refl
      applied_state (Write r v) k = refl
      applied_state (Pair h o) k = refl
      applied_state (Jump a) k = refl
      applied_state (Link r v a) k = refl
      applied_state (LoadByte r a x) k = rw (data_load 1 a (omega arith) k.keeps.1)
      applied_state (LoadHalf r a x) k = rw (data_load 2 a (omega arith) k.keeps.1)
      applied_state (LoadWord r a) k = rw (data_load 4 a (omega arith) k.keeps.1)
      applied_state (LoadLinked r a) k = rw (data_load 4 a (omega arith) k.keeps.1)
      applied_state (StoreByte a v) k = refl
      applied_state (StoreHalf a v) k = refl
      applied_state (StoreWord a v) k = refl
      applied_state (StoreLinked r a v) k = refl
      applied_state (Control r v) k = refl
      applied_state (Return x) k = refl

module _ (l : Layout) (len : ℕ) (img : List ℕ) (ok : Lawful l len img) where
  -- ---- a step

  -- the same answer and state, and memories alike
  pub record Agree (o p : Outcome) : Type 0 where
    pub numbers : o.number ≡ p.number
    pub touches : o.touched ≡ p.touched
    pub states : o.machine.state ≡ p.machine.state
    pub twins : Twin l o.machine.memory p.machine.memory

  module _ (s : State) (m n : List ℕ) (v : Inside l len img s n) (t : Twin l m n) where
    abbrev there : Confined l (at s n)
    there = confined l len img ok s n v

    same_fetch : load_of 4 m s.special.pc ≡ load_of 4 n s.special.pc
    same_fetch =
        load_same 4 m n s.special.pc
        (λ i g f. (let e : l.code_base + (i - l.code_base) ≡ i = omega (arith, g, there.fetch.0) in
        subst (λ (x : ℕ). get_or m x 0 ≡ get_or n x 0) e (t.same_code (i - l.code_base) (omega (arith, f, g, there.fetch.0, there.fetch.1)))))

    same_effect : effect_at s m ≡ effect_at s n
    unfolding effect_at
    same_effect = rw (t.same_length, same_fetch)

    tried_agrees : (d : Result Effect Exit) → Sound d (length n) (access_at s n).at (access_at s n).width → Agree (tried_of d s m) (tried_of d s n)
    tried_agrees (Ok e) k =
        record {
          numbers = refl;
          touches = refl;
          states = applied_state l s m n t there.access e k;
          twins = applied_twin l s m n t e;
        }
    tried_agrees (Err x) k = record { numbers = refl; touches = refl; states = refl; twins = t }

    try_agrees : Agree (try_of s m) (try_of s n)
    unfolding try_of
    try_agrees = rw same_effect (tried_agrees (effect_at s n) (effect_sound s n v.valid v.bytes))

    same_refusal : refusal_of s (length m) ≡ refusal_of s (length n)
    same_refusal = ap (refusal_of s) t.same_length

    pub step_agrees : Agree (step_of s m) (step_of s n)
    unfolding step_of
    step_agrees =
        both_ways Agree _ _ (ap (λ k. eqb k 0) same_refusal) try_agrees
        (record { numbers = same_refusal; touches = refl; states = refl; twins = t })

    resume_agrees : Agree (resume_of s m) (resume_of s n)
    unfolding resume_of
    resume_agrees =
        both_ways Agree _ _ (ap (λ k. eqb k 0) same_refusal)
        (both_ways Agree _ _ (ap is_served step_agrees.numbers)
        (record { numbers = refl; touches = refl; states = refl; twins = t })
        (record { numbers = refl; touches = refl; states = refl; twins = t }))
        (record { numbers = same_refusal; touches = refl; states = refl; twins = t })

  -- ---- a run, from any state that the invariant allows

  pub record Alongside (r q : Course) : Type 0 where
    pub numbers : r.number ≡ q.number
    pub totals : r.steps ≡ q.steps
    pub touches : r.touched ≡ q.touched
    pub states : r.machine.state ≡ q.machine.state
    pub twins : Twin l r.machine.memory q.machine.memory

  repeat_agrees : (k : ℕ) (s u : State) (m n : List ℕ) → s ≡ u → Inside l len img u n → Twin l m n → Alongside (repeat_of k s m) (repeat_of k u n)
  unfolding repeat_of
  repeat_agrees zero s u m n e v t = record { numbers = refl; totals = refl; touches = refl; states = e; twins = t }
  repeat_agrees (suc k) s u m n e v t =
      let a = step_agrees u m n v t in
      let r = repeat_agrees k _ _ _ _ a.states (step_inside l len img ok u n v) a.twins in
      subst (λ (x : State). Alongside (repeat_of (suc k) x m) (repeat_of (suc k) u n)) (sym e)
      (both_ways Alongside _ _ (ap (λ x. eqb x 0) a.numbers)
      (record { numbers = r.numbers; totals = ap (λ x. 1 + x) r.totals; touches = ap₂ last_of a.touches r.touches; states = r.states; twins = r.twins })
      (record { numbers = a.numbers; totals = refl; touches = refl; states = a.states; twins = a.twins }))

  pub run_agrees : (k : ℕ) (s : State) (m n : List ℕ) → Inside l len img s n → Twin l m n → Alongside (run_of s m k) (run_of s n k)
  unfolding run_of
  run_agrees k s m n v t =
      both_ways Alongside _ _ (ap (λ x. eqb x 0) (same_refusal s m n v t))
      (repeat_agrees k s s m n refl v t)
      (record { numbers = same_refusal s m n v t; totals = refl; touches = refl; states = refl; twins = t })

  -- ---- an event

  record Replies (r q : Reply State) : Type 0 where
    answers : r.answer ≡ q.answer
    states : r.left.state ≡ q.left.state
    twins : Twin l r.left.memory q.left.memory

  put_twin : (x : E.Write) (m n : List ℕ) → Twin l m n → Twin l (put_byte x m) (put_byte x n)
  put_twin (E.Register r v) m n t = t
  put_twin (E.Hi v) m n t = t
  put_twin (E.Lo v) m n t = t
  put_twin (E.Byte a v) m n t = set_twin l m n a v t

  put_agrees : (xs : List E.Write) (s : State) (m n : List ℕ) → Twin l m n → ((put_all methods l xs (lent s m)).state ≡ (put_all methods l xs (lent s n)).state) × Twin l (put_all methods l xs (lent s m)).memory (put_all methods l xs (lent s n)).memory
  put_agrees [] s m n t = (refl, t)
  put_agrees (x ∷ xs) s m n t = put_agrees xs (put_state x s) (put_byte x m) (put_byte x n) (put_twin x m n t)

  module _ (s : State) (m n : List ℕ) (v : Inside l len img s n) (t : Twin l m n) where
    -- the same changes stand
    same_stands : (xs : List E.Write) → stands methods l xs (lent s m) ≡ stands methods l xs (lent s n)
    unfolding stands
    same_stands xs = ap (λ k. is_exit k && may_all l xs) (step_agrees s m n v t).numbers

    event_agrees : (e : E.Event) → Replies (event_of methods l e (lent s m)) (event_of methods l e (lent s n))
    event_agrees E.Step =
        let a = step_agrees s m n v t in record { answers = ap₂ (λ k x. Stepped k (cell_of x)) a.numbers a.touches; states = a.states; twins = a.twins }
    event_agrees (E.Run k) =
        let a = run_agrees k s m n v t in
        record { answers = (λ i. Ran (a.numbers i) (a.totals i) (cell_of (a.touches i))); states = a.states; twins = a.twins }
    event_agrees E.Resume =
        let a = resume_agrees s m n v t in
        record { answers = ap Resumed a.numbers; states = a.states; twins = a.twins }
    event_agrees (E.Change xs) =
        let a = put_agrees xs s m n t in
        both_ways Replies _ _ (same_stands xs)
        (record { answers = refl; states = a.0; twins = a.1 })
        (record { answers = refl; states = refl; twins = t })

  -- ---- a list

  same_seen : (r q : Reply State) → Replies r q → seen l r ≡ seen l q
  same_seen r q a = λ i. record { answer = a.answers i; state = a.states i; data_bytes = twin_data l a.twins i }

  pub list_agrees : (es : List E.Event) (s u : State) (m n : List ℕ) → s ≡ u → Inside l len img u n → Twin l m n → map (seen l) (list_of methods l es (lent s m)) ≡ map (seen l) (list_of methods l es (lent u n))
  list_agrees [] s u m n e v t = refl
  list_agrees (x ∷ es) s u m n e v t =
      let a = event_agrees u m n v t x in
      let rest = list_agrees es _ _ _ _ a.states (event_left l len img ok (lent u n) v x).inside a.twins in
      subst (λ (y : State). map (seen l) (list_of methods l (x ∷ es) (lent y m)) ≡ map (seen l) (list_of methods l (x ∷ es) (lent u n))) (sym e)
      (ap₂ (λ (y : Seen State) (ys : List (Seen State)). y ∷ ys) (same_seen _ _ a) rest)
