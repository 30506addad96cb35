use Rattle.std.proofs.Common.{◌∙◌}
use Rattle.items.proofs.Ascending.{first-same}
use Rattle.sorted.proofs.Places.{meets-wanted}
use Rattle.sorted.proofs.shelf.calls.SortedShelfShelf.next.Goals as goal

pub returns : goal.returns
returns g c =
    c.find.ensures
    ∙ first-same _ _ c.args.self.now.cells.items (meets-wanted g.met.V.Value.total c.args.name c.args.first c.args.above)
