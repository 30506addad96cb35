use Rattle.values.specs.Widths.{shifted-out}
use Rattle.values.proofs.numbers.holds_in.Goals as goal

pub returns : goal.returns
returns c = shifted-out c.args.width c.args.n
