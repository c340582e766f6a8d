use Rattle.std.proofs.Common.{◌≡◌, ◌+◌, ◌*◌, drop}
use Rattle.codec.specs.Stores.{stores_of}
use Rattle.codec.proofs.encode.put.Given as goal

-- what is left to store, stored, gives the whole answer
abbrev pub invariant-loop-k : goal.invariant-loop-k
invariant-loop-k g l = stores_of l.bytes (l.at + 4 * l.k) (drop l.k l.word-items) ≡ stores_of l.initial.bytes l.at l.word-items
