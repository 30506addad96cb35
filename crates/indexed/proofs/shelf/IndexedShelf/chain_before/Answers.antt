use Rattle.indexed.proofs.Finds.{walk_same, chain-walk, chain-found}
use Rattle.indexed.proofs.shelf.IndexedShelf.chain_before.Goals as goal

pub last_before-requires : goal.last_before-requires
last_before-requires g c =
    walk_same g.met.V.Value.total g.met.V.Bucketed.below c.args.self.now.sound c.deref.ensures.value c.deref-2.ensures.value
    (chain-walk g.met.V.Value.total g.met.V.Bucketed.below c.args.self.now.sound c.chain_of.result c.chain_of.ensures.small)

pub returns : goal.returns
returns g c =
    record {
      value =
          chain-found g.met.V.Value.total g.met.V.Bucketed.below c.args.self.now.sound c.args.item.now c.chain_of.ensures.name
          c.deref.result.now c.deref-2.result.now c.chain_of.result c.last_before.result
          c.deref.ensures.value c.deref-2.ensures.value c.chain_of.ensures.value c.last_before.ensures;
      name = c.chain_of.ensures.name;
    }
