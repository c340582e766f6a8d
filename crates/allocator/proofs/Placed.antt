-- Areas out are a layout that the checker takes: none of its rules 1 to 6 is broken, in a memory that holds what the keeper has and that rule 1 allows.
use Prim.Native.Nat.{ℕ, ◌^◌, ◌≤◌}
use mathlib.Core.Path.{◌≡◌, refl}
use mathlib.Core.Bool.{Bool, true, false, ◌||◌}
use mathlib.Core.Logic.{⊎_elim, ◌↔◌}
use mathlib.Core.List.{List}
use native.Mathlib.Omega.{arith}
use lib.Dec.{leb}
use borrow.Author.Tests.{le-leb, le-ltb}
use Rattle.word.specs.Bytes.{longest}
use Rattle.layout.specs.declared.Layout.{Layout}
use Rattle.layout.specs.Layout.{layout_of, layout_refusal, is_code_size, is_data_size, is_placed, is_apart}
use Rattle.layout.proofs.Sizes.{power_holds, exponent_of}
use Rattle.allocator.specs.Record.{Area, size_of, end_of, Apart, IsExponent, Size, Out, Sound, memory_size}
use Rattle.allocator.specs.Lists.{Call, Leads, Held, empty}
use Rattle.allocator.proofs.Lists.{empty_sound, leads_sound, out_held, held_apart}

-- the keeper's sizes are those of code, by the checker's test
pub same_sizes : (n : ℕ) → ((is_code_size n ≡ true) ↔ Size n)
unfolding is_code_size
same_sizes n = (
  λ h. (let x = exponent_of 4 13 n h in (x.exponent, ((x.least, omega (arith, x.most)), x.power))),
  λ s. power_holds n 4 13 (record { exponent = s.0; least = s.1.0.0; most = omega (arith, s.1.0.1); power = s.1.1 }),
)

module _ (k : ℕ) (w : IsExponent k) where
  code_sized : is_code_size (2 ^ k) ≡ true
  code_sized = (same_sizes (2 ^ k)).1 (k, (w, refl))

  data_sized : is_data_size (2 ^ k) ≡ true
  unfolding is_data_size
  data_sized = power_holds (2 ^ k) 2 15 (record { exponent = k; least = omega (arith, w.0); most = omega (arith, w.1); power = refl })

module _ (r : List ℕ) (len : ℕ) (z : Sound r) (h : memory_size ≤ len) where
  pub out_placed : (a : Area) → Out r a → is_placed a.base (size_of a) len ≡ true
  unfolding is_placed
  out_placed a o = rw (z.bases a o, le-leb (end_of a) len (omega (arith, z.inside a o, h))) refl

  module _ (a c : Area) (o : Out r a) (p : Out r c) (t : Apart a c) where
    abbrev both : Layout
    both = layout_of a.base (size_of a) c.base (size_of c)

    apart_told : is_apart both ≡ true
    unfolding is_apart
    apart_told =
        ⊎_elim (λ e. rw (le-leb (end_of a) c.base e) refl)
        (λ e. go (leb (end_of a) c.base) (le-leb (end_of c) a.base e)) t
      where
        go : (b : Bool) {d : Bool} → d ≡ true → (b || d) ≡ true
        go true e = refl
        go false e = e

    -- the one for code and the other for data
    pub taken : len ≤ longest → layout_refusal both len ≡ 0
    unfolding layout_refusal
    taken m =
        rw (le-ltb longest len m, code_sized a.k (z.sizes a o), data_sized c.k (z.sizes c p), out_placed a o, out_placed c p, apart_told) refl

-- after every list of calls from the empty record, two areas that calls gave and none took back are a layout that is not refused
pub areas_taken : {cs : List Call} {s : List ℕ} → Leads cs empty s → (a c : Area) → Held a cs → Held c cs → ¬ (a ≡ c)
    → (len : ℕ) → memory_size ≤ len → len ≤ longest → layout_refusal (layout_of a.base (size_of a) c.base (size_of c)) len ≡ 0
areas_taken {s = s} l a c h g n len x y =
    taken s len (leads_sound l empty_sound) x a c ((out_held l a).1 h) ((out_held l c).1 g) (held_apart l a c h g n) y
