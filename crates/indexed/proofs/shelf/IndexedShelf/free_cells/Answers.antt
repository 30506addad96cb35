use Rattle.std.proofs.Common.{◌∙◌}
use Rattle.indexed.proofs.Edits.{counted}
use Rattle.indexed.proofs.shelf.IndexedShelf.free_cells.Goals as goal

pub returns : goal.returns
returns g c = counted g.met.V.Value.total g.met.V.Bucketed.below c.args.self.now.sound c.len.result (c.len.ensures ∙ c.args.self.now.free.ok.0)
