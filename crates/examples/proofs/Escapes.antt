-- What the tables of specs/Escapes say, computed; and no row keeps the confinement of Demand.
use Prim.Native.Nat.{ℕ}
use mathlib.Core.Path.{◌≡◌, refl, sym, ap, ◌∙◌}
use mathlib.Core.Bool.{Bool, true, false, true≢false}
use mathlib.Core.List.{List, [], ◌∷◌, map}
use lib.ListN.{get_or, drop}
use lib.Count.{ones}
use Rattle.word.specs.Number.{signed_of, extend_of}
use Rattle.word.proofs.Choice.{by_test}
use Rattle.class.specs.Class.{register_written}
use Rattle.isa.specs.Reading.{fits, decode_of, read_fields, read_of}
use Rattle.access.specs.Access.{address_of, reaches, store_if}
use Rattle.branch.specs.Branch.{slot_of, region_of, jump_if}
use Rattle.system.specs.System.{is_user, system_call_of, breakpoint_of, privileged}
use Rattle.decision.specs.Decision.{decision_of}
use Rattle.machine.specs.State.{is_lawful, refusal_of}
use Rattle.parts.specs.Parts.{put_of}
use Rattle.machine.specs.Apply.{Machine, Span}
use Rattle.machine.specs.Step.{effect_of, effect_at, access_at, try_of, step_of}
use Rattle.machine.specs.Run.{repeat_of, run_of}
use Rattle.machine.specs.Resume.{is_served, resume_of}
use Rattle.layout.specs.declared.Layout.{Layout}
use Rattle.layout.specs.Layout.{is_code_size, is_data_size, is_placed, is_apart}
use Rattle.view.specs.View.{seen, word_view}
use Rattle.view.specs.Guard.{is_mask_of, mask_in, is_merge_of}
use Rattle.rules.specs.Offset.{offset_of}
use Rattle.rules.specs.Rules.{view_at, view_before, broken10, broken11, is_guarded, fits_data, fits_code, is_contiguous, broken12, broken22, broken25, broken13, broken14, target_of, is_entry, lands, broken15}
use Rattle.checker.specs.Check.{is_word_broken, is_file_broken, accepted, check_of, code_of}
use Rattle.rules.specs.Not.{Not}
use Rattle.checker.specs.Refusal.{All}
use Rattle.checker.proofs.Says.{Says, holds, fails, eqs, les, ands, ors, saying}
use Rattle.confinement.specs.Calls.{methods}
use Rattle.confinement.specs.Demand.{Within, Start, Confined, Confinement}
use Rattle.examples.specs.Escapes.{is_within, is_confined, Escape, FetchesAt, AccessesAt, Exits, Nothing, first_escape, Row, image_of, memory_length, lent_of, events, tried_in, Finding, found, wanted, escapes, hosts}
use Rattle.confinement.proofs.Definitions.{allowed_says}
use Rattle.examples.proofs.Starts.{facts_of, facts_due, starts}

-- ---- the tables

pub escapes_found : map found escapes ≡ map wanted escapes
unfolding ones signed_of extend_of register_written fits decode_of read_fields read_of address_of reaches store_if slot_of region_of jump_if is_user breakpoint_of privileged decision_of is_lawful refusal_of put_of effect_of effect_at access_at try_of step_of is_served is_code_size is_data_size is_placed is_apart seen word_view is_mask_of mask_in is_merge_of offset_of view_at view_before broken10 broken11 is_guarded fits_data fits_code is_contiguous broken12 broken22 broken25 broken13 broken14 target_of is_entry lands broken15 is_word_broken is_file_broken check_of is_confined
escapes_found = refl

pub hosts_found : map found hosts ≡ map wanted hosts
unfolding ones signed_of extend_of register_written fits decode_of read_fields read_of address_of slot_of region_of jump_if is_user system_call_of decision_of is_lawful refusal_of put_of effect_of effect_at access_at try_of step_of repeat_of run_of is_served resume_of is_code_size is_data_size is_placed is_apart seen word_view is_mask_of mask_in is_merge_of offset_of view_at view_before broken10 broken11 is_guarded fits_data fits_code is_contiguous broken12 broken22 broken25 broken13 broken14 target_of is_entry lands broken15 is_word_broken is_file_broken check_of is_confined
hosts_found = refl

-- ---- the test of confinement

withins : (base size : ℕ) (x : Span) → Says (Within base size x) (is_within base size x)
withins base size x = ands (les _ _) (les _ _)

pub confined_says : (l : Layout) (t : Machine) → Says (Confined l t) (is_confined l t)
unfolding is_confined
confined_says l t =
    saying
    (λ h. record { fetch = h.0; access = h.1.0; exit = h.1.1 })
    (λ c. (c.fetch, (c.access, c.exit)))
    (ands (withins _ _ _) (ands (ors (eqs _ _) (withins _ _ _)) (ors (eqs _ _) (allowed_says _))))

refutes : {P : Type 0} {b : Bool} → Says P b → b ≡ false → Not P
refutes (holds p) e q = true≢false e
refutes (fails p) e q = p q

pub not_confined : (l : Layout) (t : Machine) → is_confined l t ≡ false → Not (Confined l t)
not_confined l t e = refutes (confined_says l t) e

-- a list with an escape isn't confined
pub escape_denies : (l : Layout) (ts : List Machine) → Not (first_escape l ts ≡ Nothing) → Not (All (Confined l) ts)
escape_denies l [] h a = h refl
escape_denies l (t ∷ ts) h a =
    by_test
    (λ x. Not (x ≡ Nothing) → ⊥)
    (is_confined l t)
    (λ e n. escape_denies l ts n a.1)
    (λ e n. not_confined l t e a.0)
    h

-- ---- what every row of a table has

-- from two columns of the table that are equal
module _ {R A : Type 0} (f g : R → A) where
  top : (r : R) (rs : List R) → map f (r ∷ rs) ≡ map g (r ∷ rs) → f r ≡ g r
  top r rs e = ap (λ xs. get_or xs 0 (f r)) e

  below : (r : R) (rs : List R) → map f (r ∷ rs) ≡ map g (r ∷ rs) → map f rs ≡ map g rs
  below r rs e = ap (drop 1) e

  pub each : (P : R → Type 0) → ((r : R) → f r ≡ g r → P r) → (rs : List R) → map f rs ≡ map g rs → All P rs
  each P h [] e = tt
  each P h (r ∷ rs) e = (h r (top r rs e), each P h rs (below r rs e))

abbrev is_escape : Escape → Bool
is_escape (FetchesAt a) = true
is_escape (AccessesAt a w) = true
is_escape (Exits k) = true
is_escape Nothing = false

abbrev pub Denied : Row → Type 0
Denied r = Not (Confinement methods r.layout events (lent_of r))

denied : (r : Row) → found r ≡ wanted r → is_escape r.escape ≡ true → Denied r
denied r e t c =
    escape_denies
    r.layout
    (tried_in r)
    (λ n. true≢false (sym t ∙ ap is_escape (sym (ap (λ (x : Finding). x.escape) e) ∙ n)))
    c.steps

all_denied : (rs : List Row) → map found rs ≡ map wanted rs → map (λ r. is_escape r.escape) rs ≡ map (λ r. true) rs → All Denied rs
all_denied [] e t = tt
all_denied (r ∷ rs) e t = (
  denied r (top found wanted r rs e) (top (λ r. is_escape r.escape) (λ r. true) r rs t),
  all_denied rs (below found wanted r rs e) (below (λ r. is_escape r.escape) (λ r. true) r rs t),
)

-- ---- each module of `escapes` is placed in a start of demand 3, each of `hosts` is accepted, and none is confined

pub escapes_start : All (λ r. Start methods r.layout memory_length (image_of r) (lent_of r)) escapes
unfolding code_of is_lawful refusal_of is_user
escapes_start =
    each
    (λ r. facts_of r.layout memory_length (lent_of r))
    (λ r. facts_due r.layout memory_length (image_of r))
    (λ r. Start methods r.layout memory_length (image_of r) (lent_of r))
    (λ r e. starts r.layout memory_length (image_of r) (lent_of r) e)
    escapes
    refl

pub escapes_deny : All Denied escapes
escapes_deny = all_denied escapes escapes_found refl

pub hosts_accepted : All (λ r. check_of r.layout memory_length (image_of r) ≡ accepted) hosts
hosts_accepted =
    each
    found
    wanted
    (λ r. check_of r.layout memory_length (image_of r) ≡ (wanted r).says)
    (λ r e. ap (λ (x : Finding). x.says) e)
    hosts
    hosts_found

pub hosts_deny : All Denied hosts
hosts_deny = all_denied hosts hosts_found refl
