-- A word cut into its fields and put together again.
use Rattle.std.proofs.Common.{◌≡◌, ℕ, ◌+◌, ◌*◌, ◌/◌, ◌%◌, ◌^◌, ◌<◌, sym, ap, ◌∙◌, arith}
use lib.Bits.{bit_or}
use lib.Pow.{mod-pow-add, split}
use Rattle.word.specs.Field.{cut_of, join_of, Fit}
use Rattle.word.specs.declared.field.Fields.{Fields}
use Rattle.word.proofs.Bits.{below, shifted_below}

pub join_or : (f : Fields ℕ) → Fit f
    → bit_or (bit_or (bit_or (bit_or (bit_or (f.op * 2 ^ 26 % 2 ^ 32) (f.rs * 2 ^ 21 % 2 ^ 32)) (f.rt * 2 ^ 16 % 2 ^ 32)) (f.rd * 2 ^ 11 % 2 ^ 32)) (f.shift * 2 ^ 6 % 2 ^ 32)) f.funct ≡ join_of f
join_or f h =
    let op : f.op * 2 ^ 26 % 2 ^ 32 ≡ f.op * 2 ^ 26 = omega (arith, h.op) in
    let rs = shifted_below 5 21 op (omega arith) h.rs (omega arith) in
    let rt = shifted_below 5 16 rs (omega arith) h.rt (omega arith) in
    let rd = shifted_below 5 11 rt (omega arith) h.rd (omega arith) in
    let shift = shifted_below 5 6 rd (omega arith) h.shift (omega arith) in
    below 6 shift (omega arith) h.funct ∙ omega arith

pub cut_fit : (w : ℕ) → w < 2 ^ 32 → Fit (cut_of w)
cut_fit w h = omega arith

pub join_cut : (w : ℕ) → join_of (cut_of w) ≡ w
join_cut w =
    ap (λ (x : ℕ). w / 2 ^ 26 * 2 ^ 26 + x)
    (sym (mod-pow-add w 5 21 ∙ ap (λ (x : ℕ). w / 2 ^ 21 % 2 ^ 5 * 2 ^ 21 + x)
    (mod-pow-add w 5 16 ∙ ap (λ (x : ℕ). w / 2 ^ 16 % 2 ^ 5 * 2 ^ 16 + x)
    (mod-pow-add w 5 11 ∙ ap (λ (x : ℕ). w / 2 ^ 11 % 2 ^ 5 * 2 ^ 11 + x) (mod-pow-add w 5 6)))))
    ∙ split w 26

pub cut_join : (f : Fields ℕ) → Fit f → cut_of (join_of f) ≡ f
cut_join f h = λ i. record { op = at_op i; rs = at_rs i; rt = at_rt i; rd = at_rd i; shift = at_shift i; funct = at_funct i }
  where
    at_op : join_of f / 2 ^ 26 ≡ f.op
    at_op = omega arith

    at_rs : join_of f / 2 ^ 21 % 2 ^ 5 ≡ f.rs
    at_rs = omega arith

    at_rt : join_of f / 2 ^ 16 % 2 ^ 5 ≡ f.rt
    at_rt = omega arith

    at_rd : join_of f / 2 ^ 11 % 2 ^ 5 ≡ f.rd
    at_rd = omega arith

    at_shift : join_of f / 2 ^ 6 % 2 ^ 5 ≡ f.shift
    at_shift = omega arith

    at_funct : join_of f % 2 ^ 6 ≡ f.funct
    at_funct = omega arith
