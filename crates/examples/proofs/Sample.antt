-- The lists of specs/Sample. That of M is proved for every memory that holds M, since lists of 196,608 bytes are slow to compute with.
use Prim.Native.Nat.{ℕ, zero, suc, ◌+◌, ◌-◌, ◌^◌, ◌≤◌, ◌<◌}
use mathlib.Core.Path.{◌≡◌, refl, sym, ap, ◌∙◌}
use mathlib.Core.Bool.{true, false, cond}
use mathlib.Core.List.{List, [], ◌∷◌, ◌++◌, map}
use native.Mathlib.Omega.{arith}
use lib.Dec.{eqb, leb}
use lib.ListN.{length, take, drop, set, length-set}
use lib.Seq.{get_or-set_other, set-set}
use lib.Count.{ones}
use Rattle.word.specs.Number.{signed_of, extend_of}
use Rattle.word.specs.Bytes.{load_of, store_of}
use Rattle.word.proofs.Memory.{load_store, set_every}
use Rattle.class.specs.Class.{register_written}
use Rattle.isa.specs.Reading.{fits, decode_of, read_fields, read_of}
use Rattle.effect.specs.declared.effect.Effect.{Effect}
use Rattle.effect.specs.declared.exit.Exit.{Exit}
use Rattle.std.specs.Prelude.{Option, None, Some, Result, Err}
use Rattle.isa.specs.declared.width.Width.TheVariants.{Word}
use Rattle.effect.specs.declared.effect.Touched.{Touched}
use Rattle.effect.specs.declared.effect.Touched.TheVariants.{Store}
use Rattle.effect.specs.Touched.{cell, cell_of}
use Rattle.effect.specs.declared.exit.Exit.TheVariants as E
use Rattle.access.specs.Access.{address_of, reaches, store_if}
use Rattle.arithmetic.specs.Arithmetic.{checked}
use Rattle.branch.specs.Branch.{slot_of, region_of}
use Rattle.system.specs.System.{is_user, system_call_of}
use Rattle.decision.specs.Decision.{decision_of}
use Rattle.machine.specs.declared.state.State.{State}
use Rattle.machine.specs.State.{is_lawful, refusal_of}
use Rattle.parts.specs.Parts.{put_of}
use Rattle.machine.specs.Apply.{Machine}
use Rattle.machine.specs.Step.{effect_of, effect_at, read_effect, Outcome, stepped, outcome, tried_of, try_of, step_of}
use Rattle.machine.specs.Run.{Course, course, later, repeat_of, run_of}
use Rattle.machine.specs.Resume.{is_served, resumed_of, resume_of}
use Rattle.layout.specs.Layout.{is_code_size, is_data_size, is_placed, is_apart}
use Rattle.view.specs.View.{seen, word_view}
use Rattle.view.specs.Guard.{is_mask_of, mask_in, is_merge_of}
use Rattle.rules.specs.Offset.{offset_of}
use Rattle.rules.specs.Rules.{view_at, view_before, broken10, broken11, is_guarded, fits_data, fits_code, is_contiguous, broken12, broken22, broken25, broken13, broken14, target_of, is_entry, lands, broken15}
use Rattle.checker.specs.Check.{is_word_broken, is_file_broken, accepted, check_of, code_of}
use Rattle.checker.specs.Examples.{length_m, layout_m, module_m}
use Rattle.checker.proofs.Examples.{m_accepted}
use Rattle.confinement.specs.Events.{Register, Byte, Event, Step, Run, Resume, Change, is_data, is_other, may_write}
use Rattle.confinement.specs.Calls.{Lent, lent, Stepped, Ran, Resumed, Changed, Reply, reply, ran_to, methods, exported}
use Rattle.confinement.specs.Lists.{is_exit, stands, event_of, list_of, at, run_tries, tries, list_tries}
use Rattle.confinement.specs.Demand.{Start, Confinement, Alike, Same}
use Rattle.examples.specs.Escapes.{image_of, memory_length, lent_of, usual}
use Rattle.examples.specs.Sample.{sample_at, sample_state, sample_memory, sample_lent, sample_other, sample_events, shown_of, sample_replies, sample_tried, overflow, overflow_events, overflow_replies}
use Rattle.confinement.proofs.Parts.{load_part, part_same}
use Rattle.confinement.proofs.Exported.{in_bytes, to_bytes, list_bytes, start_encoded}
use Rattle.confinement.proofs.Whole.{demand_3_methods}
use Rattle.examples.proofs.Starts.{all_below_law, between_image, between_length, between_bytes, typed, starts}

-- ---- memory with M in the code area

record Holds (m : List ℕ) : Type 0 where
  long : length m ≡ length_m
  placed : code_of layout_m m ≡ module_m

-- a byte set outside a part leaves it
set_outside : (m : List ℕ) (a v base size : ℕ) → ((i : ℕ) → i < size → base + i ≡ a → ⊥) → take size (drop base (set m a v)) ≡ take size (drop base m)
set_outside m a v base size h =
    part_same (set m a v) m base size (length-set m a v) (λ i l. get_or-set_other m a (base + i) v 0 (h i l))

-- a byte set above the code
holds_set : (m : List ℕ) (a v : ℕ) → 0x10020 ≤ a → Holds m → Holds (set m a v)
unfolding code_of
holds_set m a v h c =
    record {
      long = length-set m a v ∙ c.long;
      placed = set_outside m a v 0x10000 32 (λ i l e. omega arith) ∙ c.placed;
    }

holds_store : (n : ℕ) (m : List ℕ) (a v : ℕ) → 0x10020 ≤ a → Holds m → Holds (store_of n m a v)
holds_store zero m a v h c = c
holds_store (suc n) m a v h c = holds_store n _ (a + 1) _ (omega arith) (holds_set m a _ h c)

load_code : (m : List ℕ) → Holds m → (n i : ℕ) → i + n ≤ 32 → load_of n m (0x10000 + i) ≡ load_of n module_m i
unfolding code_of
load_code m c n i h =
    sym (load_part m 0x10000 32 n i h) ∙ ap (λ (x : List ℕ). load_of n x i) c.placed

-- ---- one step

abbrev effect_for : State → ℕ → ℕ → Result Effect Exit
effect_for s n w = cond (leb (s.special.pc + 4) n) (read_effect (read_of w) s n) (Err E.Fetch)

-- the step of word w, with n bytes of memory
abbrev step_for : State → List ℕ → ℕ → ℕ → Outcome
step_for s m n w =
    cond (eqb (refusal_of s n) 0)
    (tried_of (effect_for s n w) s m)
    (outcome (refusal_of s n) s m)

step_for_law : (s : State) (m : List ℕ) (n w : ℕ) → length m ≡ n → load_of 4 m s.special.pc ≡ w → step_of s m ≡ step_for s m n w
unfolding effect_at try_of step_of
step_for_law s m n w e f = rw (e, f)

-- the first word of data is v
abbrev storing : List ℕ → ℕ → List ℕ
storing m v = store_of 4 m 0x20000 v

-- the steps of the sample
record Steps (m : List ℕ) : Type 0 where
  andi : step_of (sample_at 0x10000 0x10004 0xFFFFFFC0) m ≡ outcome 0 (sample_at 0x10004 0x10008 0) m
  or : step_of (sample_at 0x10004 0x10008 0) m ≡ outcome 0 (sample_at 0x10008 0x1000C 0x20000) m
  sw : step_of (sample_at 0x10008 0x1000C 0x20000) m ≡ stepped 0 (Some (Store 0x20000 Word)) (sample_at 0x1000C 0x10010 0x20000) (storing m 0x04030201)
  syscall : (x : ℕ) → step_of (sample_at 0x1000C 0x10010 x) m ≡ outcome 46 (sample_at 0x1000C 0x10010 x) m
  nop_4 : step_of (sample_at 0x10010 0x10014 5) m ≡ outcome 0 (sample_at 0x10014 0x10018 5) m
  nop_5 : step_of (sample_at 0x10014 0x10018 5) m ≡ outcome 0 (sample_at 0x10018 0x1001C 5) m
  jump : step_of (sample_at 0x10018 0x1001C 5) m ≡ outcome 0 (sample_at 0x1001C 0x10000 5) m

steps : (m : List ℕ) → Holds m → Steps m
unfolding signed_of extend_of fits decode_of read_fields read_of address_of reaches store_if slot_of region_of system_call_of decision_of is_lawful refusal_of put_of effect_of
steps m c =
    record {
      andi = step_for_law _ m length_m 0x3108003C c.long (load_code m c 4 0 (omega arith));
      or = step_for_law _ m length_m 0x011A4025 c.long (load_code m c 4 4 (omega arith));
      sw = step_for_law _ m length_m 0xAD090000 c.long (load_code m c 4 8 (omega arith));
      syscall = λ x. step_for_law (sample_at 0x1000C 0x10010 x) m length_m 0x0000000C c.long (load_code m c 4 12 (omega arith));
      nop_4 = step_for_law _ m length_m 0 c.long (load_code m c 4 16 (omega arith));
      nop_5 = step_for_law _ m length_m 0 c.long (load_code m c 4 20 (omega arith));
      jump = step_for_law _ m length_m 0x08004000 c.long (load_code m c 4 24 (omega arith));
    }

-- ---- runs

-- a run of n steps at most leads to a course and tries steps
data Trace : ℕ → State → List ℕ → Course → List Machine → Type 0 where
  spent : {s : State} {m : List ℕ} → Trace 0 s m (course 0 0 None s m) []
  exits : {n k : ℕ} {s : State} {m : List ℕ} → step_of s m ≡ outcome k s m → eqb k 0 ≡ false
      → Trace (suc n) s m (course k 0 None s m) (at s m ∷ [])
  goes : {n : ℕ} {y : Option Touched} {s t : State} {m x : List ℕ} {c : Course} {ts : List Machine} → step_of s m ≡ stepped 0 y t x → Trace n t x c ts
      → Trace (suc n) s m (later 1 y c) (at s m ∷ ts)

trace_repeat : {n : ℕ} {s : State} {m : List ℕ} {c : Course} {ts : List Machine} → Trace n s m c ts → repeat_of n s m ≡ c
unfolding repeat_of
trace_repeat spent = refl
trace_repeat (exits e z) = rw (e, z)
trace_repeat (goes {y} e r) = rw e (ap (later 1 y) (trace_repeat r))

trace_tries : {n : ℕ} {s : State} {m : List ℕ} {c : Course} {ts : List Machine} → Trace n s m c ts → run_tries n s m ≡ ts
trace_tries spent = refl
trace_tries (exits e z) = rw (e, z)
trace_tries (goes {s} {m} e r) = rw e (ap (λ us. at s m ∷ us) (trace_tries r))

-- ---- events

-- an event leads to a reply and tries steps
record Does (e : Event) (w : Lent State) (r : Reply State) (ts : List Machine) : Type 0 where
  replies : event_of methods layout_m e w ≡ r
  trying : tries methods layout_m e w ≡ ts

data DoesAll : List Event → Lent State → List (Reply State) → List Machine → Type 0 where
  end : {w : Lent State} → DoesAll [] w [] []
  then : {e : Event} {es : List Event} {w : Lent State} {r : Reply State} {rs : List (Reply State)} {ts us : List Machine}
      → Does e w r ts → DoesAll es r.left rs us → DoesAll (e ∷ es) w (r ∷ rs) (ts ++ us)

all_reply : {es : List Event} {w : Lent State} {rs : List (Reply State)} {ts : List Machine} → DoesAll es w rs ts
    → list_of methods layout_m es w ≡ rs
all_reply end = refl
all_reply (then {r} d ds) = rw d.replies (ap (λ rs. r ∷ rs) (all_reply ds))

all_try : {es : List Event} {w : Lent State} {rs : List (Reply State)} {ts : List Machine} → DoesAll es w rs ts
    → list_tries methods layout_m es w ≡ ts
all_try end = refl
all_try (then {ts} d ds) = rw (d.replies, d.trying) (ap (λ us. ts ++ us) (all_try ds))

module _ (s : State) (m : List ℕ) (z : refusal_of s (length m) ≡ 0) where
  does_run : {n : ℕ} {c : Course} {ts : List Machine} → Trace n s m c ts → Does (Run n) (lent s m) (ran_to c) ts
  unfolding run_of
  does_run t = record { replies = rw z (ap ran_to (trace_repeat t)); trying = rw z (trace_tries t) }

  module _ {k : ℕ} (e : step_of s m ≡ outcome k s m) where
    does_step : Does Step (lent s m) (reply (Stepped k (cell_of None)) s m) (at s m ∷ [])
    does_step = record { replies = rw e; trying = rw z }

    resumes : is_served k ≡ true → Does Resume (lent s m) (reply (Resumed 0) (resumed_of s) m) (at s m ∷ [])
    unfolding resume_of
    resumes i = record { replies = rw (z, e, i); trying = rw z }

  refused_19 : {t : State} → step_of s m ≡ outcome 0 t m → Does Resume (lent s m) (reply (Resumed 19) s m) (at s m ∷ [])
  unfolding resume_of is_served
  refused_19 e = record { replies = rw (z, e); trying = rw z }

-- ---- the sample

-- what the six events leave, and the steps tried
module _ (m : List ℕ) where
  abbrev stored : List ℕ
  stored = storing m 0x04030201

  abbrev changed : List ℕ
  changed = storing m 0x09030201

  abbrev replies_of : List (Reply State)
  replies_of =
      reply (Ran 46 3 (cell 0x20000 4 1)) (sample_at 0x1000C 0x10010 0x20000) stored
      ∷ reply (Changed true) (sample_at 0x1000C 0x10010 5) changed
      ∷ reply (Stepped 46 (cell 0 0 0)) (sample_at 0x1000C 0x10010 5) changed
      ∷ reply (Resumed 0) (sample_at 0x10010 0x10014 5) changed
      ∷ reply (Resumed 19) (sample_at 0x10010 0x10014 5) changed
      ∷ reply (Ran 0 3 (cell 0 0 0)) (sample_at 0x1001C 0x10000 5) changed
      ∷ []

  abbrev tries_of : List Machine
  tries_of =
      at (sample_at 0x10000 0x10004 0xFFFFFFC0) m
      ∷ at (sample_at 0x10004 0x10008 0) m
      ∷ at (sample_at 0x10008 0x1000C 0x20000) m
      ∷ at (sample_at 0x1000C 0x10010 0x20000) stored
      ∷ at (sample_at 0x1000C 0x10010 5) changed
      ∷ at (sample_at 0x1000C 0x10010 5) changed
      ∷ at (sample_at 0x10010 0x10014 5) changed
      ∷ at (sample_at 0x10010 0x10014 5) changed
      ∷ at (sample_at 0x10014 0x10018 5) changed
      ∷ at (sample_at 0x10018 0x1001C 5) changed
      ∷ []

changes : (m : List ℕ) → Holds (stored m)
    → Does
    (Change (Register 8 5 ∷ Byte 0x20003 9 ∷ []))
    (lent (sample_at 0x1000C 0x10010 0x20000) (stored m))
    (reply (Changed true) (sample_at 0x1000C 0x10010 5) (changed m))
    []
unfolding stands is_exit is_data is_other may_write
changes m c = record { replies = rw ((steps (stored m) c).syscall 0x20000, set-set); trying = refl }

does_all : (m : List ℕ) → Holds m → DoesAll sample_events (lent sample_state m) (replies_of m) (tries_of m)
unfolding is_lawful refusal_of is_served slot_of
does_all m c =
    let c₁ : Holds (stored m) = holds_store 4 m 0x20000 0x04030201 (omega arith) c in
    let c₂ : Holds (changed m) = holds_store 4 m 0x20000 0x09030201 (omega arith) c in
    let at-start = steps m c in
    let at_exit = steps (stored m) c₁ in
    let after = steps (changed m) c₂ in
    then
    (does_run _ m (rw c.long) (goes at-start.andi (goes at-start.or (goes at-start.sw (exits (at_exit.syscall 0x20000) refl)))))
    (then
    (changes m c₁)
    (then
    (does_step _ (changed m) (rw c₂.long) (after.syscall 5))
    (then
    (resumes _ (changed m) (rw c₂.long) (after.syscall 5) refl)
    (then
    (refused_19 _ (changed m) (rw c₂.long) after.nop_4)
    (then (does_run _ (changed m) (rw c₂.long) (goes after.nop_4 (goes after.nop_5 (goes after.jump spent)))) end)))))

first_word_is : (m : List ℕ) → Holds m → (v : ℕ) → v < 2 ^ 32 → load_of 4 (storing m v) 0x20000 ≡ v
first_word_is m c v h = load_store 4 m 0x20000 v (omega arith) h

shown_all : (m : List ℕ) → Holds m → map (shown_of layout_m) (replies_of m) ≡ sample_replies
shown_all m c = rw (first_word_is m c 0x04030201 (omega arith), first_word_is m c 0x09030201 (omega arith))

-- ---- the statements

pub sample_starts : Start methods layout_m length_m module_m sample_lent
unfolding code_of is_lawful refusal_of is_user
sample_starts =
    record {
      placed = between_image 0x10000 module_m (length_m - 0x10020);
      length_told = between_length 0x10000 module_m (length_m - 0x10020);
      not_17 = λ r. omega arith;
      first_word = refl;
      then_next = refl;
      user_mode = refl;
      register_0 = refl;
      register_26 = refl;
      register_27 = refl;
      sized = typed sample_state refl refl refl;
      bytes = between_bytes 0x10000 module_m (length_m - 0x10020) (all_below_law (2 ^ 8) (omega arith) module_m refl);
    }

holds_sample : Holds sample_memory
holds_sample = record { long = sample_starts.length_told; placed = sample_starts.placed }

pub sample_list : map (shown_of layout_m) (list_of methods layout_m sample_events sample_lent) ≡ sample_replies
sample_list = ap (map (shown_of layout_m)) (all_reply (does_all sample_memory holds_sample)) ∙ shown_all sample_memory holds_sample

pub sample_tried_law : map (λ (t : Machine). t.state.special.pc) (list_tries methods layout_m sample_events sample_lent) ≡ sample_tried
sample_tried_law = ap (map (λ (t : Machine). t.state.special.pc)) (all_try (does_all sample_memory holds_sample))

-- ---- what demand 3 says of it

pub sample_confined : Confinement methods layout_m sample_events sample_lent
sample_confined = (demand_3_methods layout_m length_m module_m m_accepted sample_lent sample_starts sample_events).0

pub other_starts : Start methods layout_m length_m module_m sample_other
unfolding code_of
other_starts =
    record {
      placed = set_outside sample_memory 0x1FFFF 255 0x10000 32 (λ i l e. omega arith) ∙ sample_starts.placed;
      length_told = length-set sample_memory 0x1FFFF 255 ∙ sample_starts.length_told;
      not_17 = sample_starts.not_17;
      first_word = refl;
      then_next = refl;
      user_mode = sample_starts.user_mode;
      register_0 = refl;
      register_26 = refl;
      register_27 = refl;
      sized = sample_starts.sized;
      bytes = set_every (λ x. x < 2 ^ 8) sample_memory 0x1FFFF 255 (omega arith) sample_starts.bytes;
    }

other_alike : Alike layout_m sample_other sample_lent
other_alike =
    record {
      same_state = refl;
      same_data = set_outside sample_memory 0x1FFFF 255 0x20000 64 (λ i l e. omega arith);
    }

pub sample_same : Same methods layout_m sample_events sample_other sample_lent
sample_same =
    (demand_3_methods layout_m length_m module_m m_accepted sample_lent sample_starts sample_events).1 sample_other other_starts other_alike

-- the same start and list for the exported calls
pub sample_exported_starts : Start exported layout_m length_m module_m (in_bytes sample_lent)
sample_exported_starts = start_encoded layout_m length_m module_m sample_lent sample_starts

pub sample_exported_list : list_of exported layout_m sample_events (in_bytes sample_lent) ≡ map to_bytes (list_of methods layout_m sample_events sample_lent)
sample_exported_list =
    list_bytes layout_m sample_events sample_lent (record { typed = sample_starts.sized; bytes = sample_starts.bytes })

-- ---- the module that overflows

pub overflow_accepted : check_of usual memory_length (image_of overflow) ≡ accepted
unfolding ones signed_of register_written fits decode_of read_fields read_of slot_of region_of is_code_size is_data_size is_placed is_apart seen word_view is_mask_of mask_in is_merge_of offset_of view_at view_before broken10 broken11 is_guarded fits_data fits_code is_contiguous broken12 broken22 broken25 broken13 broken14 target_of is_entry lands broken15 is_word_broken is_file_broken check_of
overflow_accepted = refl

pub overflow_starts : Start methods usual memory_length (image_of overflow) (lent_of overflow)
unfolding code_of is_lawful refusal_of is_user
overflow_starts = starts usual memory_length (image_of overflow) (lent_of overflow) refl

pub overflow_list : map (shown_of usual) (list_of methods usual overflow_events (lent_of overflow)) ≡ overflow_replies
unfolding is_data is_other may_write is_exit stands signed_of extend_of fits decode_of read_fields read_of address_of reaches store_if checked slot_of region_of decision_of is_lawful refusal_of put_of effect_of effect_at try_of step_of repeat_of run_of is_served resume_of
overflow_list = refl
