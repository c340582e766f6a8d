-- The start call on bytes answers and leaves what its definition says: by what the code finds.
use Prim.Native.Nat.{ℕ}
use mathlib.Core.Path.{◌≡◌, refl, sym, ap, ◌∙◌}
use mathlib.Core.Bool.{true}
use mathlib.Core.List.{List}
use lib.ListN.{length}
use borrow.Author.Tests.{ne_eqb}
use Rattle.std.specs.Prelude.{Result, Ok, Err}
use Rattle.refusal.specs.declared.Refusal.{Refusal}
use Rattle.refusal.specs.Refusal.{number_of}
use Rattle.refusal.proofs.Numbers.{number_some}
use Rattle.layout.specs.declared.Layout.{Layout}
use Rattle.machine.specs.declared.state.State.{State}
use Rattle.codec.specs.Bytes.{is_state, state_of, encoded, encoded_of}
use Rattle.cc100.specs.Calls.{call_refusal, Decodes}
use Rattle.cc100.proofs.Calls.{encode_bytes}
use Rattle.checker.specs.declared.verdict.Refused.{Refused}
use Rattle.checker.specs.Check.{verdict, accepted}
use Rattle.checker.specs.Said.{place_of}
use Rattle.start.specs.Start.{started_of, later_refusal, after_check, verdict_by, StartedFrom, start_call}
use Rattle.start.proofs.Order.{own_refused}
use Rattle.cc100_start.specs.Call.{says}

module _ (l : Layout) (img b m : List ℕ) (given : Result State Refusal) (d : Decodes b (length m) given) where
  -- of a state that bytes stand for, or of their refusal
  decoded : (r : Result State Refusal) → Decodes b (length m) r → verdict_by l img r m ≡ after_check l img m (later_refusal (call_refusal b (length m)) l img (state_of b) m)
  unfolding verdict_by call_refusal
  decoded (Ok s) (h, (e, q)) = rw (e, q) refl
  decoded (Err e) q = ap (after_check l img m) (own_refused l img (state_of b) m e (call_refusal b (length m)) (sym q.0))

  pub refused : (r : Refused) → verdict (number_of r.rule) (place_of r.place) ≡ verdict_by l img given m → says (Err r) b ≡ start_call l img b m
  unfolding start_call
  refused r e = rw (← decoded given d, ← e, ne_eqb (number_of r.rule) 0 (number_some r.rule)) refl

  module _ (t : State) (s : StartedFrom l given t) where
    found : (r : Result State Refusal) → Decodes b (length m) r → StartedFrom l r t → (is_state b ≡ true) × (t ≡ started_of l (state_of b))
    found (Ok u) (h, (e, q)) p = (e, p ∙ ap (started_of l) q)
    found (Err e) q p = absurd p

    -- its bytes are always long enough
    pub encodes : {P : Type 0} (e : Refusal) (x : List ℕ) → encoded (number_of e) x ≡ encoded_of t b → P
    encodes e x h = absurd (number_some e (encode_bytes t b x (number_of e) (found given d s).0 h).0)

    pub done : (k : ℕ) (x : List ℕ) → encoded k x ≡ encoded_of t b → accepted ≡ verdict_by l img given m → says (Ok (tt {0})) x ≡ start_call l img b m
    unfolding start_call
    done k x h e =
        let f = found given d s in
        rw (← decoded given d, ← e, (encode_bytes t b x k f.0 h).1, f.1) refl
