-- What is longer than the longest module is no code size, so that the checker refuses it by 2.
use Prim.Native.Nat.{ℕ, ◌≤◌}
use mathlib.Core.Path.{◌≡◌, refl, sym}
use mathlib.Core.Bool.{Bool, true, false, cond}
use mathlib.Core.List.{List}
use native.Mathlib.Omega.{arith}
use lib.Dec.{leb}
use lib.ListN.{length}
use lib.Pow.{pow_mono}
use borrow.Author.Tests.{leb-false}
use Rattle.refusal.specs.declared.Refusal.TheVariants.{CodeSize}
use Rattle.layout.specs.Layout.{is_power, is_code_size, layout_refusal}
use Rattle.layout.proofs.Sizes.{exponent_of}
use Rattle.checker.specs.Check.{verdict, no_place, check_of}
use Rattle.checker.proofs.Scan.{layout_refused}
use Rattle.verdict.specs.Program.{layout_for, verdict_of}

no_code_size : (n : ℕ) → leb n 65536 ≡ false → is_code_size n ≡ false
unfolding is_code_size
no_code_size n h = go (is_power 4 13 n) refl
  where
    go : (b : Bool) → is_power 4 13 n ≡ b → b ≡ false
    go true e =
        let x = exponent_of 4 13 n e in
        let most : x.exponent ≤ 16 = omega (arith, x.most) in
        absurd (omega (arith, leb-false n 65536 h, x.power, pow_mono {j = 16} most))
    go false e = refl

refused_2 : (n : ℕ) → leb n 65536 ≡ false → 2 ≡ layout_refusal (layout_for n) 196608
unfolding layout_refusal
refused_2 n h = rw (no_code_size n h) refl

pub judged : (img : List ℕ) → check_of (layout_for (length img)) 196608 img ≡ verdict_of img
unfolding verdict_of
judged img = go (leb (length img) 65536) refl
  where
    go : (b : Bool) → leb (length img) 65536 ≡ b → check_of (layout_for (length img)) 196608 img ≡ cond b (check_of (layout_for (length img)) 196608 img) (verdict 2 no_place)
    go true e = refl
    go false e = sym (layout_refused (layout_for (length img)) 196608 img CodeSize (refused_2 (length img) e))
