use Rattle.std.proofs.Common.{rules}
use Rattle.rules.specs.Kinds.{values_by}
use Rattle.step.proofs.SetSizes.{held-there}
use Rattle.step.proofs.sizes.is_there.Goals as goal

pub returns-then-is_moved : goal.returns-then-is_moved
returns-then-is_moved g c = let e = held-there (values_by g.V.Ord.cmp g.V.Value.blank g.V.Value.reads) g.met.V.Value.total c.args.moves.now c.args.front.now (g.S.Shelf.items c.args.shelf.now) c.args.item.now in search rules

pub returns-else-is_moved : goal.returns-else-is_moved
returns-else-is_moved g c = let e = held-there (values_by g.V.Ord.cmp g.V.Value.blank g.V.Value.reads) g.met.V.Value.total c.args.moves.now c.args.front.now (g.S.Shelf.items c.args.shelf.now) c.args.item.now in search rules
