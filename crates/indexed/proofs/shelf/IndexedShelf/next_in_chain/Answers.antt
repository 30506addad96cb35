use Rattle.std.proofs.Common.{◌+◌, Some}
use Rattle.items.specs.Items.{wanted}
use Rattle.indexed.proofs.Finds.{walk_same, chain-walk, first_found, chain-begins}
use Rattle.indexed.proofs.shelf.IndexedShelf.next_in_chain.Goals as goal

pub first_wanted-requires : goal.first_wanted-requires
first_wanted-requires g c =
    walk_same g.met.V.Value.total g.met.V.Bucketed.below c.args.self.now.sound c.deref.ensures.value c.deref-2.ensures.value
    (chain-walk g.met.V.Value.total g.met.V.Bucketed.below c.args.self.now.sound c.chain_of.result c.chain_of.ensures.small)

pub returns : goal.returns
returns g c =
    first_found g.met.V.Value.total g.met.V.Bucketed.below c.args.self.now.sound c.deref.result.now c.deref-2.result.now c.args.self.now.chains.items (c.args.self.now.limit + c.chain_of.result)
    (wanted g.V.Ord.cmp c.args.name (Some c.args.value) c.args.above) c.first_wanted.result _
    c.deref.ensures.value c.deref-2.ensures.value c.first_wanted.ensures
    (chain-begins g.met.V.Value.total g.met.V.Bucketed.below c.args.self.now.sound c.args.name c.args.value c.args.above c.chain_of.ensures.name c.chain_of.result c.chain_of.ensures.value)
