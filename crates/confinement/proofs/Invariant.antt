-- The invariant: what holds of the state and memory of an accepted module between any two steps.
use Prim.Native.Nat.{ℕ, ◌+◌, ◌-◌, ◌*◌, ◌%◌, ◌≤◌, ◌<◌}
use mathlib.Core.Path.{◌≡◌, sym, ap, ◌∙◌}
use mathlib.Core.Bool.{true, true≢false, false≢true}
use mathlib.Core.Logic.{⊎_elim, inl, inr}
use mathlib.Core.List.{List}
use native.Mathlib.Omega.{arith}
use lib.ListN.{length}
use Rattle.std.specs.Prelude.{Some}
use Rattle.isa.specs.declared.kind.Instruction.{Instruction}
use Rattle.layout.specs.declared.Layout.{Layout}
use Rattle.view.specs.View.{is_register}
use Rattle.view.specs.Guard.{is_mask, is_merge}
use Rattle.system.specs.System.{is_user}
use Rattle.machine.specs.declared.state.State.{State}
use Rattle.machine.specs.State.{register_of, Bytes}
use Rattle.machine.proofs.Valid.{Valid}
use Rattle.checker.specs.Check.{code_of}
use Rattle.checker.specs.Lawful.{Stands, NeedsGuard, Free, words_in, Lawful}
use Rattle.confinement.proofs.ByKind.{Idle}
use Rattle.confinement.proofs.Areas.{Area, Data, Code, base_of, Uses, Fits, guard_of}

-- ---- where a module stands

-- the base register of x holds b and a displacement that its guard allows
abbrev pub Aims : Layout → Area → Instruction → List ℕ → ℕ → Type 0
Aims l a x regs b = (d : ℕ) × ((register_of regs x.rs ≡ b + d) × Fits l a x d)

-- what a guard has made of a register so far, with word i next: the whole of it where word i needs one, its mask alone where the word after does
pub record Ready (l : Layout) (img : List ℕ) (i : ℕ) (regs : List ℕ) : Type 0 where
  pub now : (a : Area) (x : Instruction) → Stands img i x → Uses a x → Aims l a x regs (base_of l a)
  pub soon : (a : Area) (x : Instruction) → i + 1 < words_in l → Stands img (i + 1) x → Uses a x → Aims l a x regs 0

-- a branch may lead to word j: it is not the last one, and neither it nor the next needs a guard
pub record Entry (l : Layout) (img : List ℕ) (j : ℕ) : Type 0 where
  pub room : j + 1 < words_in l
  pub here : Free img j
  pub next : Free img (j + 1)

-- word i is executed next, then word j: the one after it, or where a branch leads
pub data Way (l : Layout) (img : List ℕ) (i j : ℕ) : Type 0 where
  onward : j ≡ i + 1 → i + 1 < words_in l → Way l img i j
  branched : i < words_in l → Entry l img j → Way l img i j

pub record At (l : Layout) (img : List ℕ) (s : State) : Type 0 where
  pub word : ℕ
  pub following : ℕ
  pub counter : s.special.pc ≡ l.code_base + 4 * word
  pub next_counter : s.special.next_pc ≡ l.code_base + 4 * following
  pub way : Way l img word following
  pub ready : Ready l img word s.registers

-- the invariant
pub record Inside (l : Layout) (len : ℕ) (img : List ℕ) (s : State) (m : List ℕ) : Type 0 where
  pub valid : Valid s
  pub bytes : Bytes m
  pub mode : is_user s.special.status ≡ true
  pub data_register : register_of s.registers 26 ≡ l.data_base
  pub code_register : register_of s.registers 27 ≡ l.code_base
  pub long : length m ≡ len
  pub placed : code_of l m ≡ img
  pub position : At l img s

pub way_in : (l : Layout) (img : List ℕ) (i j : ℕ) → Way l img i j → i < words_in l
way_in l img i j (onward e h) = omega arith
way_in l img i j (branched h t) = h

-- ---- words of the image

legal_same : (x y : Instruction) → Some x ≡ Some y → x ≡ y
legal_same x y e = cc

pub stands_once : (img : List ℕ) (i : ℕ) (x y : Instruction) → Stands img i x → Stands img i y → x ≡ y
stands_once img i x y s t = legal_same x y (sym s ∙ t)

pub uses_needs : (a : Area) (x : Instruction) → Uses a x → NeedsGuard x
uses_needs Data x u = inl u
uses_needs Code x u = inr u

needs_uses : (x : Instruction) → NeedsGuard x → (a : Area) × Uses a x
needs_uses x = ⊎_elim (λ u. (Data, u)) (λ u. (Code, u))

-- an instruction that is neither access nor branch needs no guard
idle_free : (a : Area) (x : Instruction) → Idle x.kind → Uses a x → ⊥
idle_free Data x h u = u h.no_access
idle_free Code x h u = false≢true (sym (ap is_register h.onward) ∙ ap is_register u)

-- nothing is asked of the registers where a branch leads
pub entry_ready : (l : Layout) (img : List ℕ) (j : ℕ) (regs : List ℕ) → Entry l img j → Ready l img j regs
entry_ready l img j regs e =
    record {
      now = λ a x s u. absurd (e.here x s (uses_needs a x u));
      soon = λ a x h s u. absurd (e.next x s (uses_needs a x u));
    }

module _ (l : Layout) (len : ℕ) (img : List ℕ) (ok : Lawful l len img) where
  -- the words of the guard of word j
  pub merge_before : (a : Area) (j : ℕ) (x y : Instruction) → j < words_in l → Stands img j y → Uses a y → Stands img (j - 1) x → is_merge x.kind ≡ true
  merge_before a j x y h s u t =
      let (m, (g, _)) = guard_of l len img ok a j y h s u in
      let (z, (p, (q, _))) = g.1.0.1 in
      ap (λ (v : Instruction). is_merge v.kind) (stands_once img (j - 1) x z t p) ∙ ap is_merge q

  pub mask_before : (a : Area) (j : ℕ) (x y : Instruction) → j < words_in l → Stands img j y → Uses a y → Stands img (j - 2) x → is_mask x.kind ≡ true
  mask_before a j x y h s u t =
      let (m, (g, _)) = guard_of l len img ok a j y h s u in
      let (z, (p, (q, _))) = g.1.0.0 in
      ap (λ (v : Instruction). is_mask v.kind) (stands_once img (j - 2) x z t p) ∙ ap is_mask q

  -- it stands in the second half of its bundle
  pub guard_deep : (a : Area) (j : ℕ) (y : Instruction) → j < words_in l → Stands img j y → Uses a y → 2 ≤ j % 4
  guard_deep a j y h s u = (guard_of l len img ok a j y h s u).1.0.0

  -- a bundle's first word lets a branch in
  pub bundle_entry : (j : ℕ) → j % 4 ≡ 0 → j + 3 < words_in l → Entry l img j
  bundle_entry j z h =
      record {
        room = omega arith;
        here = λ x s n. (let (a, u) = needs_uses x n in let d : 2 ≤ j % 4 = guard_deep a j x (omega arith) s u in omega arith);
        next = λ x s n. (let (a, u) = needs_uses x n in let d : 2 ≤ (j + 1) % 4 = guard_deep a (j + 1) x (omega arith) s u in omega arith);
      }

  -- ---- after a word that may exit no guard is under way

  module _ (i : ℕ) (x : Instruction) (st : Stands img i x) (h : Idle x.kind) (regs : List ℕ) where
    not_merged : (a : Area) (y : Instruction) → i + 1 < words_in l → Stands img (i + 1) y → Uses a y → ⊥
    not_merged a y g s u =
        let e : i + 1 - 1 ≡ i = omega arith in
        true≢false (sym (merge_before a (i + 1) x y g s u (rw e st)) ∙ h.no_merge)

    not_masked : (a : Area) (y : Instruction) → i + 1 + 1 < words_in l → Stands img (i + 1 + 1) y → Uses a y → ⊥
    not_masked a y g s u =
        let e : i + 1 + 1 - 2 ≡ i = omega arith in
        true≢false (sym (mask_before a (i + 1 + 1) x y g s u (rw e st)) ∙ h.no_mask)

    -- with that word next
    pub idle_ready : Ready l img i regs
    idle_ready =
        record {
          now = λ a y s u. absurd (idle_free a x h (rw (stands_once img i x y st s) u));
          soon = λ a y g s u. absurd (not_merged a y g s u);
        }

    -- with the one after it next
    pub idle_next : i + 1 < words_in l → Ready l img (i + 1) regs
    idle_next g =
        record {
          now = λ a y s u. absurd (not_merged a y g s u);
          soon = λ a y k s u. absurd (not_masked a y k s u);
        }
