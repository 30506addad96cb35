use Rattle.rules.proofs.theorems.cases_hold.Goals as goal
use Rattle.rules.proofs.Worked.{cases}

pub returns : goal.returns
returns c = cases
