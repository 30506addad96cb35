use Rattle.std.proofs.Common.{ap, sym, ◌∙◌}
use Rattle.std.specs.List.{slice_get}
use Rattle.items.specs.Ascending.{met}
use Rattle.items.proofs.Ascending.{first-at}
use Rattle.items.proofs.Orders.{item-total}
use Rattle.sorted.specs.Place.{place_of}
use Rattle.sorted.proofs.Places.{steady}
use Rattle.sorted.proofs.shelf.SortedShelf.find.Goals as goal

pub returns : goal.returns
returns g c =
    let t = g.met.V.Value.total in
    let xs = c.args.self.now.cells.items in
    c.met.ensures
    ∙ ap (met (place_of g.V.Ord.cmp c.args.mark.now)) (c.item_at.ensures ∙ ap (slice_get xs) c.requires.place)
    ∙ sym (first-at (item-total t) (steady t c.args.mark.now) xs c.args.self.now.ascending)
