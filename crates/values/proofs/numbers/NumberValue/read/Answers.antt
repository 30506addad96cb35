use Rattle.values.specs.Widths.{part-le}
use Rattle.values.proofs.numbers.NumberValue.read.Goals as goal

pub number_of-value-requires : goal.number_of-value-requires
number_of-value-requires c = part-le _ _ _ c.if-code-gt-LARGEST_CODE.false c.width_of-width.ensures
