-- Demand 3 passes from the methods of State to the exported calls: on the bytes of a state, a list does what it does on the state.
use Prim.Native.Nat.{ℕ, ◌+◌, ◌*◌, ◌^◌, ◌≤◌, ◌<◌}
use mathlib.Core.Path.{◌≡◌, refl, sym, ap, ap₂, ◌∙◌}
use mathlib.Core.Bool.{Bool, true, false, cond, ◌&&◌}
use mathlib.Core.List.{List, [], ◌∷◌, ◌++◌, map, map-map}
use native.Mathlib.Omega.{arith}
use lib.Dec.{eqb, ltb}
use lib.ListN.{length, set}
use lib.Seq.{set-append_left}
use borrow.Author.Tests.{le-ltb}
use Rattle.word.specs.Bytes.{longest, store_of}
use Rattle.word.proofs.Choice.{both}
use Rattle.layout.specs.declared.Layout.{Layout}
use Rattle.rules.specs.Not.{Not}
use Rattle.checker.specs.Refusal.{All}
use Rattle.checker.proofs.Whole.{accepted_lawful}
use Rattle.machine.specs.declared.state.State.{State}
use Rattle.machine.specs.State.{refusal_of, Typed, Bytes}
use Rattle.machine.specs.Step.{step_of}
use Rattle.machine.specs.Run.{run_of}
use Rattle.machine.specs.Resume.{resume_of}
use Rattle.machine.proofs.Steps.{step_typed, step_bytes}
use Rattle.machine.proofs.Runs.{run_typed, run_bytes}
use Rattle.machine.proofs.Resumes.{resume_typed, resume_memory}
use Rattle.codec.specs.Bytes.{flat_of, others_of, words_of, bytes_of, state_of, is_state}
use Rattle.codec.proofs.RoundTrip.{bytes_lawful, state_bytes, bytes_bytes, state_typed, bytes_state}
use Rattle.cc100.specs.Calls.{call_refusal}
use Rattle.cc100.proofs.Calls.{step_call_law, run_call_law, resume_call_law}
use Rattle.confinement.specs.Events.{Write, Register, Hi, Lo, Byte, Event, Step, Run, Resume, Change, is_other, may_write}
use Rattle.confinement.specs.Calls.{Lent, lent, Stepped, Resumed, Reply, replied, ran_to, answered, ran_bytes, put_state, put_bytes, methods, exported}
use Rattle.confinement.specs.Lists.{is_exit, may_all, put_byte, put_all, stands, change_of, event_of, list_of, at, run_tries, tries, list_tries}
use Rattle.confinement.specs.Demand.{Start, Confinement, Alike, Seen, seen, Demand3}
use Rattle.confinement.proofs.Definitions.{stands_may}
use Rattle.confinement.proofs.Words.{set_append, store_flat}
use Rattle.confinement.proofs.Hosts.{other_below, put_typed, put_memory}

-- ---- a host's write, on the bytes of a state

module _ (s : State) (n : length s.registers ≡ 32) where
  put_register : (r v : ℕ) → r < 32 → store_of 4 (bytes_of s) (4 * r) v ≡ flat_of (set s.registers r v ++ others_of s.special)
  unfolding bytes_of words_of
  put_register r v h =
      store_flat (s.registers ++ others_of s.special) r v
      ∙ ap flat_of (set-append_left s.registers (others_of s.special) r v (omega arith))

  -- past the registers
  put_other : (j v : ℕ) → store_of 4 (bytes_of s) (4 * (32 + j)) v ≡ flat_of (s.registers ++ set (others_of s.special) j v)
  unfolding bytes_of words_of
  put_other j v =
      store_flat (s.registers ++ others_of s.special) (32 + j) v
      ∙ ap flat_of (rw (← n) (set_append s.registers (others_of s.special) j v))

module _ (l : Layout) where
  -- a word stored in the bytes is the word written in the state
  put_bytes_law : (x : Write) (s : State) → may_write l x ≡ true → Typed s → put_bytes x (bytes_of s) ≡ bytes_of (put_state x s)
  unfolding may_write bytes_of words_of
  put_bytes_law (Register r v) s e t =
      put_register s t.count r v (other_below r (both (is_other r) (ltb v (2 ^ 32)) e).0)
  put_bytes_law (Hi v) s e t = put_other s t.count 0 v
  put_bytes_law (Lo v) s e t = put_other s t.count 1 v
  put_bytes_law (Byte a v) s e t = refl

-- ---- an event

abbrev pub in_bytes : Lent State → Lent (List ℕ)
in_bytes w = lent (bytes_of w.state) w.memory

abbrev pub to_bytes : Reply State → Reply (List ℕ)
to_bytes r = record { answer = r.answer; left = in_bytes r.left }

-- what every event keeps
pub record Ranged (w : Lent State) : Type 0 where
  pub typed : Typed w.state
  pub bytes : Bytes w.memory

module _ (l : Layout) where
  put_all_ranged : (xs : List Write) (w : Lent State) → may_all l xs ≡ true → Ranged w → Ranged (put_all methods l xs w)
  put_all_ranged [] w e g = g
  put_all_ranged (x ∷ xs) w e g =
      let h = both (may_write l x) (may_all l xs) e in
      put_all_ranged xs (lent (put_state x w.state) (put_byte x w.memory)) h.1
      (record { typed = put_typed l x w.state h.0 g.typed; bytes = put_memory l x w.memory h.0 g.bytes })

  put_all_bytes : (xs : List Write) (w : Lent State) → may_all l xs ≡ true → Typed w.state → put_all exported l xs (in_bytes w) ≡ in_bytes (put_all methods l xs w)
  put_all_bytes [] w e t = refl
  put_all_bytes (x ∷ xs) w e t =
      let h = both (may_write l x) (may_all l xs) e in
      ap (λ b. put_all exported l xs (lent b (put_byte x w.memory))) (put_bytes_law l x w.state h.0 t)
      ∙ put_all_bytes xs (lent (put_state x w.state) (put_byte x w.memory)) h.1 (put_typed l x w.state h.0 t)

  module _ (w : Lent State) (g : Ranged w) where
    abbrev s : State
    s = w.state

    abbrev m : List ℕ
    m = w.memory

    -- the exported calls take the bytes of a state, and read the state back from them
    pub same : state_of (bytes_of s) ≡ s
    same = state_bytes s g.typed

    whole : is_state (bytes_of s) ≡ true
    whole = bytes_lawful s g.typed.count

    same_refusal : (n : ℕ) → call_refusal (bytes_of s) n ≡ refusal_of s n
    unfolding call_refusal
    same_refusal n = rw (whole, same)

    -- a change: both levels try the step of one state
    module _ (xs : List Write) where
      same_stands : stands exported l xs (in_bytes w) ≡ stands methods l xs w
      unfolding stands
      same_stands = ap (λ x. is_exit (step_of x m).number && may_all l xs) same

      may : stands methods l xs w ≡ true → may_all l xs ≡ true
      may = stands_may methods l xs w

      change_bytes : (t : Bool) → stands methods l xs w ≡ t → change_of exported l xs (in_bytes w) ≡ to_bytes (change_of methods l xs w)
      change_bytes true e = rw (same_stands, e, put_all_bytes xs w (may e) g.typed)
      change_bytes false e = rw (same_stands, e)

      change_ranged : (t : Bool) → stands methods l xs w ≡ t → Ranged (change_of methods l xs w).left
      change_ranged true e = rw e (put_all_ranged xs w (may e) g)
      change_ranged false e = rw e g

    pub event_bytes : (e : Event) → event_of exported l e (in_bytes w) ≡ to_bytes (event_of methods l e w)
    event_bytes Step =
        ap (answered Stepped) (step_call_law (bytes_of s) m (bytes_bytes s) whole)
        ∙ ap (λ x. to_bytes (replied Stepped (step_of x m))) same
    event_bytes (Run n) =
        ap ran_bytes (run_call_law (bytes_of s) m (bytes_bytes s) whole n) ∙ ap (λ x. to_bytes (ran_to (run_of x m n))) same
    event_bytes Resume =
        ap (answered (λ k _. Resumed k)) (resume_call_law (bytes_of s) m (bytes_bytes s) whole)
        ∙ ap (λ x. to_bytes (replied (λ k _. Resumed k) (resume_of x m))) same
    event_bytes (Change xs) = change_bytes xs (stands methods l xs w) refl

    pub event_ranged : (e : Event) → Ranged (event_of methods l e w).left
    event_ranged Step = record { typed = step_typed s m g.typed g.bytes; bytes = step_bytes s m g.bytes }
    event_ranged (Run n) = record { typed = run_typed n s m g.bytes g.typed; bytes = run_bytes n s m g.bytes }
    event_ranged Resume = record { typed = resume_typed s m g.typed; bytes = rw (resume_memory s m) g.bytes }
    event_ranged (Change xs) = change_ranged xs (stands methods l xs w) refl

    tries_bytes : (e : Event) → tries exported l e (in_bytes w) ≡ tries methods l e w
    tries_bytes Step = ap₂ (λ k x. cond (eqb k 0) (at x m ∷ []) []) (same_refusal (length m)) same
    tries_bytes (Run n) = ap₂ (λ k x. cond (eqb k 0) (run_tries n x m) []) (same_refusal (length m)) same
    tries_bytes Resume = ap₂ (λ k x. cond (eqb k 0) (at x m ∷ []) []) (same_refusal (length m)) same
    tries_bytes (Change xs) = refl

  -- ---- a list: each event leaves the bytes of the state that it leaves

  pub list_bytes : (es : List Event) (w : Lent State) → Ranged w → list_of exported l es (in_bytes w) ≡ map to_bytes (list_of methods l es w)
  list_bytes [] w g = refl
  list_bytes (e ∷ es) w g =
      ap (λ r. r ∷ list_of exported l es r.left) (event_bytes w g e)
      ∙ ap (λ rs. to_bytes (event_of methods l e w) ∷ rs) (list_bytes es (event_of methods l e w).left (event_ranged w g e))

  pub list_tries_law : (es : List Event) (w : Lent State) → Ranged w → list_tries exported l es (in_bytes w) ≡ list_tries methods l es w
  list_tries_law [] w g = refl
  list_tries_law (e ∷ es) w g =
      ap₂ (λ ts us. ts ++ us) (tries_bytes w g e)
      (ap (λ r. list_tries exported l es r.left) (event_bytes w g e) ∙ list_tries_law es (event_of methods l e w).left (event_ranged w g e))

-- ---- the two claims

all_map : {A B : Type 0} (P : B → Type 0) (f : A → B) (xs : List A) → All (λ x. P (f x)) xs → All P (map f xs)
all_map P f [] h = h
all_map P f (x ∷ xs) h = (h.0, all_map P f xs h.1)

abbrev seen_bytes : Seen State → Seen (List ℕ)
seen_bytes x = record { answer = x.answer; state = bytes_of x.state; data_bytes = x.data_bytes }

module _ (l : Layout) (es : List Event) (w : Lent State) (g : Ranged w) where
  confinement_bytes : Confinement methods l es w → Confinement exported l es (in_bytes w)
  confinement_bytes c =
      record {
        steps = rw (list_tries_law l es w g) c.steps;
        memories = rw (list_bytes l es w g) (all_map _ to_bytes (list_of methods l es w) c.memories);
        answers = rw (list_bytes l es w g) (all_map _ to_bytes (list_of methods l es w) c.answers);
        touched = rw (list_bytes l es w g) (all_map _ to_bytes (list_of methods l es w) c.touched);
      }

  seen_bytes_law : map (seen l) (list_of exported l es (in_bytes w)) ≡ map seen_bytes (map (seen l) (list_of methods l es w))
  seen_bytes_law =
      rw (list_bytes l es w g, map-map (seen l) to_bytes (list_of methods l es w), map-map seen_bytes (seen l) (list_of methods l es w))

-- ---- a start on bytes is a start on the state that they stand for

abbrev pub viewed : Lent (List ℕ) → Lent State
viewed w = lent (state_of w.state) w.memory

alike_viewed : (l : Layout) (v w : Lent (List ℕ)) → Alike l v w → Alike l (viewed v) (viewed w)
alike_viewed l v w k = record { same_state = ap state_of k.same_state; same_data = k.same_data }

module _ (b : List ℕ) (n : ℕ) (h : n ≤ longest) (q : Not (call_refusal b n ≡ 17)) where
  -- with a memory that 1 does not refuse, 17 refuses all that is no state
  start_by : (t : Bool) → is_state b ≡ t → is_state b ≡ true
  unfolding call_refusal
  start_by true e = e
  start_by false e = absurd (q (rw (e, le-ltb longest n h)))

  start_state : is_state b ≡ true
  start_state = start_by (is_state b) refl

  start_refusal : Not (refusal_of (state_of b) n ≡ 17)
  unfolding call_refusal
  start_refusal e = q (rw start_state e)

module _ (l : Layout) (len : ℕ) (img : List ℕ) (h : len ≤ longest) (w : Lent (List ℕ)) (p : Start exported l len img w) where
  pub start_ranged : Ranged (viewed w)
  start_ranged = record { typed = state_typed w.state p.sized; bytes = p.bytes }

  pub start_viewed : Start methods l len img (viewed w)
  start_viewed =
      record {
        placed = p.placed;
        length_told = p.length_told;
        not_17 = start_refusal w.state len h p.not_17;
        first_word = p.first_word;
        then_next = p.then_next;
        user_mode = p.user_mode;
        register_0 = p.register_0;
        register_26 = p.register_26;
        register_27 = p.register_27;
        sized = start_ranged.typed;
        bytes = p.bytes;
      }

  pub start_bytes : in_bytes (viewed w) ≡ w
  start_bytes = rw (bytes_state w.state p.sized (start_state w.state len h p.not_17))

  start_confined : (es : List Event) → Confinement methods l es (viewed w) → Confinement exported l es w
  start_confined es c = rw (← start_bytes) (confinement_bytes l es (viewed w) start_ranged c)

  start_seen : (es : List Event) → map (seen l) (list_of exported l es w) ≡ map seen_bytes (map (seen l) (list_of methods l es (viewed w)))
  start_seen es = ap (λ x. map (seen l) (list_of exported l es x)) (sym start_bytes) ∙ seen_bytes_law l es (viewed w) start_ranged

  -- the calls answer what the methods answer
  pub start_answers : (es : List Event) → map (λ r. r.answer) (list_of exported l es w) ≡ map (λ r. r.answer) (list_of methods l es (viewed w))
  start_answers es =
      ap (λ x. map (λ r. r.answer) (list_of exported l es x)) (sym start_bytes)
      ∙ rw (list_bytes l es (viewed w) start_ranged, map-map (λ (r : Reply (List ℕ)). r.answer) to_bytes (list_of methods l es (viewed w)))

-- and the bytes of a start are a start
pub start_encoded : (l : Layout) (len : ℕ) (img : List ℕ) (w : Lent State) → Start methods l len img w → Start exported l len img (in_bytes w)
start_encoded l len img w p =
    let g : Ranged w = record { typed = p.sized; bytes = p.bytes } in
    let e = same l w g in
    record {
      placed = p.placed;
      length_told = p.length_told;
      not_17 = λ q. p.not_17 (sym (same_refusal l w g len) ∙ q);
      first_word = rw e p.first_word;
      then_next = rw e p.then_next;
      user_mode = rw e p.user_mode;
      register_0 = rw e p.register_0;
      register_26 = rw e p.register_26;
      register_27 = rw e p.register_27;
      sized = bytes_bytes w.state;
      bytes = p.bytes;
    }

-- ---- the whole

pub exported_from : Demand3 methods → Demand3 exported
exported_from d l len img a w p es =
    let h : len ≤ longest = (accepted_lawful l len img a).r1 in
    let r = d l len img a (viewed w) (start_viewed l len img h w p) es in (
      start_confined l len img h w p es r.0,
      λ v q k.
          start_seen l len img h v q es
          ∙ ap (map seen_bytes) (r.1 (viewed v) (start_viewed l len img h v q) (alike_viewed l v w k))
          ∙ sym (start_seen l len img h w p es),
    )
