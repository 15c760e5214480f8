-- A number after one space is a word and its number.
use Rattle.text.specs.Decimal.{ascii}
use Rattle.text.proofs.Rows.{spaced-one}
use Rattle.text.proofs.Writer.spaced.Goals as goal

pub word-requires : goal.word-requires
unfolding ascii
word-requires c = rw (spaced-one c.args.x) at c.requires

pub returns : goal.returns
unfolding ascii
returns c = rw (spaced-one c.args.x) c.word.ensures
