use Rattle.std.proofs.Common.{rules}
use Rattle.rules.specs.Kinds.{values_by}
use Rattle.firing.specs.At.{event_in, sheet_in}
use Rattle.firing.proofs.Firings.{fires-by}
use Rattle.firing.proofs.at.SheetEvent.row_fires.Goals as goal

pub returns-then-cells_hold : goal.returns-then-cells_hold
returns-then-cells_hold g c = fires-by (values_by g.V.Ord.cmp g.V.Value.blank g.V.Value.reads) (sheet_in c.args.self.now) (event_in c.args.self.now) c.args.item.now c.args.row.now (g.S.Shelf.items c.args.shelf.now) _ (search rules)

pub returns-else-cells_hold : goal.returns-else-cells_hold
returns-else-cells_hold g c = fires-by (values_by g.V.Ord.cmp g.V.Value.blank g.V.Value.reads) (sheet_in c.args.self.now) (event_in c.args.self.now) c.args.item.now c.args.row.now (g.S.Shelf.items c.args.shelf.now) _ (search rules)
