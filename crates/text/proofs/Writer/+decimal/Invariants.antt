-- The call of itself is for x / 10, which is smaller. The measure is x.
use Rattle.text.proofs.Writer.+decimal.Given as goal

abbrev pub decreases-decimal : goal.decreases-decimal
decreases-decimal l = l.x
