-- The sandbox layout and its rules, 1 to 6 (document 01, Module and its guards; Refusal table).
use Rattle.std.specs.Prelude.{ℕ, zero, suc, ◌+◌, ◌%◌, ◌^◌, Bool, false, cond, not, ◌&&◌, ◌||◌, eqb, leb, ltb}
use Rattle.word.specs.Bytes.{longest}
use Rattle.layout.specs.declared.Layout.{Layout}

abbrev pub layout_of : ℕ → ℕ → ℕ → ℕ → Layout
layout_of cb cs db ds = record { code_base = cb; code_size = cs; data_base = db; data_size = ds }

-- n is one of the k powers of two from 2 ^ e on
abbrev pub is_power : ℕ → ℕ → ℕ → Bool
is_power e zero n = false
is_power e (suc k) n = eqb n (2 ^ e) || is_power (suc e) k n

-- 16 to 65,536
unfoldable pub is_code_size : ℕ → Bool
is_code_size n = is_power 4 13 n

-- 4 to 65,536
unfoldable pub is_data_size : ℕ → Bool
is_data_size n = is_power 2 15 n

-- the area starts at a multiple of its own size, and lies inside memory
unfoldable pub is_placed : ℕ → ℕ → ℕ → Bool
is_placed base size length = eqb (base % size) 0 && leb (base + size) length

-- one area ends before the other starts
unfoldable pub is_apart : Layout → Bool
is_apart l = leb (l.code_base + l.code_size) l.data_base || leb (l.data_base + l.data_size) l.code_base

-- ---- the rules, by number; length is the memory's

abbrev pub broken1 : ℕ → Bool
broken1 length = ltb longest length

abbrev pub broken2 : Layout → Bool
broken2 l = not (is_code_size l.code_size)

abbrev pub broken3 : Layout → Bool
broken3 l = not (is_data_size l.data_size)

abbrev pub broken4 : Layout → ℕ → Bool
broken4 l length = not (is_placed l.code_base l.code_size length)

abbrev pub broken5 : Layout → ℕ → Bool
broken5 l length = not (is_placed l.data_base l.data_size length)

abbrev pub broken6 : Layout → Bool
broken6 l = not (is_apart l)

-- the first that is broken; 0 where none is
unfoldable pub layout_refusal : Layout → ℕ → ℕ
layout_refusal l length =
    cond (broken1 length) 1
    (cond (broken2 l) 2
    (cond (broken3 l) 3
    (cond (broken4 l length) 4
    (cond (broken5 l length) 5
    (cond (broken6 l) 6 0)))))
