use Rattle.std.proofs.Common.{rules}
use Rattle.rules.specs.Kinds.{values_by}
use Rattle.step.proofs.SetSizes.{held-left}
use Rattle.step.proofs.sizes.is_left.Goals as goal

pub returns-then-holds : goal.returns-then-holds
returns-then-holds g c = let e = held-left (values_by g.V.Ord.cmp g.V.Value.blank g.V.Value.reads) g.met.V.Value.total c.args.moves.now (g.S.Shelf.items c.args.shelf.now) c.args.item.now in search rules

pub returns-else-holds : goal.returns-else-holds
returns-else-holds g c = let e = held-left (values_by g.V.Ord.cmp g.V.Value.blank g.V.Value.reads) g.met.V.Value.total c.args.moves.now (g.S.Shelf.items c.args.shelf.now) c.args.item.now in search rules
