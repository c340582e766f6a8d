-- Every guarded access of an accepted module goes to the place of the value that was masked, in every list of calls.
use Prim.Native.Nat.{ℕ, ◌≤◌}
use mathlib.Core.Path.{◌≡◌, sym, ap, subst, ◌∙◌}
use mathlib.Core.List.{List}
use native.Mathlib.Omega.{arith}
use Rattle.word.specs.Bytes.{longest}
use Rattle.isa.specs.declared.kind.Instruction.{Instruction}
use Rattle.layout.specs.declared.Layout.{Layout}
use Rattle.machine.specs.State.{register_of}
use Rattle.machine.specs.Apply.{Machine}
use Rattle.machine.specs.Run.{repeat_of}
use Rattle.checker.specs.Lawful.{width_of, Lawful}
use Rattle.checker.specs.Refusal.{All}
use Rattle.checker.proofs.Trials.{implied}
use Rattle.checker.proofs.Whole.{accepted_lawful}
use Rattle.confinement.specs.Calls.{methods, exported}
use Rattle.confinement.specs.Lists.{list_tries}
use Rattle.confinement.proofs.Invariant.{Inside}
use Rattle.confinement.proofs.Lists.{list_tried}
use Rattle.confinement.proofs.Exported.{viewed, list_tries_law, start_ranged, start_viewed, start_bytes}
use Rattle.confinement.proofs.Whole.{start_inside}
use Rattle.checker.specs.Cells.{cell}
use Rattle.rows.specs.Rows.{Reaches, Guards, CellsReached}
use Rattle.rows.proofs.Guards.{Standing, is_word, guarded}

guards : (l : Layout) (len : ℕ) (img : List ℕ) (ok : Lawful l len img) (t : Machine) → Inside l len img t.state t.memory → Guards l img t
guards l len img ok t v i h p q y x sy sx u m g =
    let e : v.position.word ≡ i = omega (arith, v.position.counter, p) in
    let at : Standing l len img ok i t.state t.memory = record { inside = v; word = e; following = omega (arith, v.position.next_counter, q) } in
    subst (λ (z : Instruction). Reaches l x (cell m (width_of x) (register_of t.state.registers z.rs)) (repeat_of 2 t.state t.memory))
    (is_word l len img ok t.state t.memory v i e y sy)
    (guarded l len img ok x u m i h sx g t.state t.memory at)

pub cells_reached_methods : CellsReached methods
cells_reached_methods l len img e w s es =
    let ok = accepted_lawful l len img e in
    implied (λ (t : Machine). Inside l len img t.state t.memory) (Guards l img) (guards l len img ok) (list_tries methods l es w)
    (list_tried l len img ok es w (start_inside l len img ok w s))

pub cells_reached_exported : CellsReached exported
cells_reached_exported l len img e w s es =
    let h : len ≤ longest = (accepted_lawful l len img e).r1 in
    let v = start_viewed l len img h w s in
    subst (All (Guards l img))
    (sym (list_tries_law l es (viewed w) (start_ranged l len img h w s)) ∙ ap (list_tries exported l es) (start_bytes l len img h w s))
    (cells_reached_methods l len img e (viewed w) v es)
