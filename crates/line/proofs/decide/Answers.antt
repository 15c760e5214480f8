-- What is read off the line is what the definitions of the line read off it.
use Rattle.std.proofs.Common.{ap}
use Rattle.line.specs.Line.{parsed_order, parsed_variables, line_order, line_variables, line_check}
use Rattle.line.proofs.decide.Goals as goal

pub returns-clause-check_value : goal.returns-clause-check_value
unfolding line_check line_order line_variables
returns-clause-check_value c = rw (← c.parse-numbers.ensures) c.sizes_of-sizes.ensures.check_value

pub returns-clause-n_value : goal.returns-clause-n_value
unfolding line_order line_variables
returns-clause-n_value c = (ap parsed_order c.parse-numbers.ensures, ap parsed_variables c.parse-numbers.ensures)

pub returns-clause-sizes_value : goal.returns-clause-sizes_value
unfolding line_order line_variables
returns-clause-sizes_value c = rw (← c.parse-numbers.ensures) c.sizes_of-sizes.ensures.n_value
