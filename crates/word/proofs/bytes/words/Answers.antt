use Rattle.std.proofs.Common.{rules}
use Rattle.word.proofs.Words.{words_made}
use Rattle.word.proofs.bytes.words.Goals as goal

pub returns : goal.returns
returns g c = words_made _ _ c.args.bytes.now c.args.at (λ i y q k. search rules) _ _ c.from_fn.ensures.items
