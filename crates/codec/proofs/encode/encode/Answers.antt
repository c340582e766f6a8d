use mathlib.Core.Path.{◌≡◌, refl, ◌∙◌}
use mathlib.Core.Bool.{Bool, true, false}
use lib.ListN.{length}
use mir.Val.{bool_byte}
use borrow.Author.Rules.{rules}
use Rattle.codec.specs.Bytes.{bit_of}
use Rattle.codec.proofs.RoundTrip.{encode_done}
use Rattle.codec.proofs.encode.encode.Goals as goal

bit_is : (t : Bool) → bool_byte t ≡ bit_of t
bit_is true = refl
bit_is false = refl

pub returns : goal.returns
returns c =
    let whole = c.in-Some.ensures.cases in
    let n : length c.args.s.registers ≡ 32 = search rules in
    let bit : c.from-ll.result ≡ bit_of c.args.s.special.ll = c.from-ll.ensures ∙ bit_is c.args.s.special.ll in
    encode_done c.args.s c.args.bytes.now c.put.new.bytes c.put-2.new.bytes n whole.long (rw whole.same at c.put.ensures) (rw bit at c.put-2.ensures)
