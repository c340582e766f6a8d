-- A word whose view is plain.
use Rattle.std.specs.Prelude.{ℕ, ◌≡◌, true}
use Rattle.word.specs.declared.field.Fields.{Fields}
use Rattle.isa.specs.Reading.{read_fields}
use Rattle.view.specs.View.{passes, is_plain, view_of, word_view}

-- by its fields
abbrev pub Plain : Fields ℕ → Type 0
Plain f = passes is_plain (view_of (read_fields f)) ≡ true

abbrev pub PlainWord : ℕ → Type 0
PlainWord w = passes is_plain (word_view w) ≡ true
