-- What cc100_read and cc100_write answer: the numbers that stand for each case of a reading and of a writing.
use Rattle.std.specs.Prelude.{ℕ, Option, Some, None, Result, Ok, Err}
use Rattle.refusal.specs.declared.Refusal.{Refusal}
use Rattle.refusal.specs.Refusal as R
use Rattle.isa.specs.declared.kind.Instruction.{Instruction}
use Rattle.isa.specs.declared.kind.Kind.{Kind}
use Rattle.isa.specs.Number.{number_of}
use Rattle.isa.specs.Reading.{made}
use Rattle.isa.specs.Writing.{write_of, written_number, written_word}
use Rattle.cc100_instruction.specs.declared.ReadAnswer.{ReadAnswer}
use Rattle.cc100_instruction.specs.declared.WriteAnswer.{WriteAnswer}

abbrev pub read_numbers : ℕ → ℕ → ℕ → ℕ → ℕ → ℕ → ReadAnswer
read_numbers k s t d h v = record { kind = k; rs = s; rt = t; rd = d; shift = h; value = v }

-- the instruction's number and fields, or all 0 where the word is no instruction
abbrev pub read_answer : Option Instruction → ReadAnswer
read_answer (Some i) = read_numbers (number_of i.kind) i.rs i.rt i.rd i.shift i.value
read_answer None = read_numbers 0 0 0 0 0 0

abbrev pub write_numbers : ℕ → ℕ → WriteAnswer
write_numbers n w = record { number = n; word = w }

-- 0 with the word, or 18 with 0
abbrev pub write_answer : Option ℕ → WriteAnswer
write_answer w = write_numbers (written_number w) (written_word w)

-- the same of a writing or of what it is refused by
abbrev pub result_answer : Result ℕ Refusal → WriteAnswer
result_answer (Ok w) = write_numbers 0 w
result_answer (Err r) = write_numbers (R.number_of r) 0

-- a number that is no instruction's is refused like a field that is not legal
abbrev pub write_numbered : Option Kind → ℕ → ℕ → ℕ → ℕ → ℕ → WriteAnswer
write_numbered (Some k) s t d h v = write_answer (write_of (made k s t d h v))
write_numbered None s t d h v = write_numbers 18 0
