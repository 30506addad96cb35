use Rattle.std.proofs.Common.{refl, arith, rules}
use Rattle.items.proofs.Orders.{item-total}
use Rattle.items.proofs.Ascending.{leading-held}
use Rattle.sorted.proofs.Steps.{taken_out}
use Rattle.sorted.proofs.shelf.SortedShelf.take_out.Goals as goal

pub remove-requires : goal.remove-requires
remove-requires g c =
    let l = leading-held (item-total g.met.V.Value.total) c.args.item.now c.args.self.now.cells.items c.requires.there c.args.self.now.ascending in
    omega (arith, c.args.self.now.cells.ok.0, c.requires.place)

pub invariant_of-self : goal.invariant_of-self
invariant_of-self g c =
    let p = taken_out g.met.V.Value.total c.args.self.now.cells.items c.args.self.now.ascending c.args.item.now c.args.place c.requires.place
    c.remove.new.self.items c.args.self.now.names c.requires.there c.remove.ensures.items in
    record { within = search rules; room = search rules; bounded = c.args.self.now.bounded; ascending = p.0; names = p.1 }

pub returns : goal.returns
returns g c =
    let p = taken_out g.met.V.Value.total c.args.self.now.cells.items c.args.self.now.ascending c.args.item.now c.args.place c.requires.place
    c.remove.new.self.items c.args.self.now.names c.requires.there c.remove.ensures.items in
    record { items = p.2; limit = refl }
