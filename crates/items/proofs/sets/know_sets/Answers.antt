use Rattle.items.proofs.Found.{set-meaning}
use Rattle.items.proofs.Orders.{item-total}
use Rattle.items.proofs.sets.know_sets.Goals as goal

pub returns : goal.returns
returns g c = set-meaning (item-total g.met.V.Value.total)
