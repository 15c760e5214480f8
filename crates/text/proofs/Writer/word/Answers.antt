-- The word, then the number: two texts one after the other.
use Rattle.text.proofs.Writings.{room-then, writes_append}
use Rattle.text.proofs.Writer.word.Goals as goal

pub decimal-requires : goal.decimal-requires
decimal-requires c = room-then _ c.requires c.text.ensures

pub returns : goal.returns
returns c = writes_append c.requires c.text.ensures c.decimal.ensures
