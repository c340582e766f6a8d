use Rattle.std.proofs.Common.{rules, arith, ◌≡◌, length, slice_index_or}
use Rattle.word.specs.Bytes.{load_of, words_at}
use Rattle.codec.specs.Bytes.{state_of, word_at}
use Rattle.codec.proofs.RoundTrip.{decode_done, decode_refused, decode_length}
use Rattle.codec.proofs.decode.decode.Goals as goal

pub returns-in_default : goal.returns-in_default
returns-in_default c = decode_length c.args.bytes.now (search rules)

pub returns-then-ll-gt1 : goal.returns-then-ll-gt1
unfolding words_at
returns-then-ll-gt1 c =
    let b = c.args.bytes.now in
    let long : length b ≡ 164 = search rules in
    let same : c.in-Ok.bytes.now ≡ b = search rules in
    let words : c.words.result ≡ words_at 9 b 128 = rw (← same) c.words.ensures in
    let ll : slice_index_or c.words.result 4 0 ≡ load_of 4 b 144 = rw words in
    decode_refused b long (omega (arith, ll, c.if-ll-gt1.true))

pub returns : goal.returns
unfolding words_at state_of word_at
returns c =
    let b = c.args.bytes.now in
    let long : length b ≡ 164 = search rules in
    let same : c.in-Ok.bytes.now ≡ b = search rules in
    let words : c.words.result ≡ words_at 9 b 128 = rw (← same) c.words.ensures in
    let registers : c.words-registers.result ≡ words_at 32 b 0 = rw (← same) c.words-registers.ensures in
    let ll : slice_index_or c.words.result 4 0 ≡ load_of 4 b 144 = rw words in
    rw (registers, words) (decode_done b long (omega (arith, ll, c.if-ll-gt1.false)))
