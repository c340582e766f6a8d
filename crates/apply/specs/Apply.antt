-- An effect carried out on the 32 registers, the other registers and memory: one clause for each effect.
use Rattle.std.specs.Prelude.{ℕ, true, false, List}
use Rattle.word.specs.Bytes.{load_of, store_of}
use Rattle.effect.specs.declared.effect.Special.{Special}
use Rattle.effect.specs.declared.effect.Effect.{Effect}
use Rattle.effect.specs.declared.effect.Effect.TheVariants.{Advance, Write, Pair, Jump, Link, LoadByte, LoadHalf, LoadWord, LoadLinked, StoreByte, StoreHalf, StoreWord, StoreLinked, Control, Return}
use Rattle.parts.specs.Parts.{Parts, parts, put_of, jump_of, advance_of, pair_of, linked_of, status_of, controlled_of, loaded_of}

-- LL sets the LL bit wherever it loads, as all memory counts as cacheable data (document 01, Machine)
abbrev pub applied_of : Effect → List ℕ → Special → List ℕ → Parts
applied_of Advance l c m = parts l (advance_of c) m
applied_of (Write r v) l c m = parts (put_of l r v) (advance_of c) m
applied_of (Pair h o) l c m = parts l (pair_of (advance_of c) h o) m
applied_of (Jump t) l c m = parts l (jump_of c t) m
applied_of (Link r v t) l c m = parts (put_of l r v) (jump_of c t) m
applied_of (LoadByte r a s) l c m = parts (put_of l r (loaded_of 8 s (load_of 1 m a))) (advance_of c) m
applied_of (LoadHalf r a s) l c m = parts (put_of l r (loaded_of 16 s (load_of 2 m a))) (advance_of c) m
applied_of (LoadWord r a) l c m = parts (put_of l r (load_of 4 m a)) (advance_of c) m
applied_of (LoadLinked r a) l c m = parts (put_of l r (load_of 4 m a)) (linked_of (advance_of c) true) m
applied_of (StoreByte a v) l c m = parts l (advance_of c) (store_of 1 m a v)
applied_of (StoreHalf a v) l c m = parts l (advance_of c) (store_of 2 m a v)
applied_of (StoreWord a v) l c m = parts l (advance_of c) (store_of 4 m a v)
applied_of (StoreLinked r a v) l c m = parts (put_of l r 1) (linked_of (advance_of c) false) (store_of 4 m a v)
applied_of (Control r v) l c m = parts l (controlled_of (advance_of c) r v) m
applied_of (Return s) l c m = parts l (linked_of (status_of (advance_of c) s) false) m
