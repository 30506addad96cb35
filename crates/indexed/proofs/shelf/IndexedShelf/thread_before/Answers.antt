use Rattle.indexed.proofs.Finds.{walk_same, name-walk, name-found, entry-walk, entry_found}
use Rattle.indexed.proofs.shelf.IndexedShelf.thread_before.Goals as goal

pub last_before-requires : goal.last_before-requires
last_before-requires g c =
    walk_same g.met.V.Value.total g.met.V.Bucketed.below c.args.self.now.sound c.deref.ensures.value c.deref-then-before-self.ensures.value
    (entry-walk g.met.V.Value.total g.met.V.Bucketed.below c.args.self.now.sound c.args.item.now c.requires.name c.args.before c.requires.before c.if-before-self.true)

pub last_before-requires-else-before-self : goal.last_before-requires-else-before-self
last_before-requires-else-before-self g c =
    walk_same g.met.V.Value.total g.met.V.Bucketed.below c.args.self.now.sound c.deref-else-before-self.ensures.value c.deref-else-before-self-2.ensures.value
    (name-walk g.met.V.Value.total g.met.V.Bucketed.below c.args.self.now.sound c.args.item.now.name c.requires.name)

pub returns-then-before-self : goal.returns-then-before-self
returns-then-before-self g c =
    entry_found g.met.V.Value.total g.met.V.Bucketed.below c.args.self.now.sound c.args.item.now c.requires.name c.args.before c.requires.before c.if-before-self.true
    c.deref.result.now c.deref-then-before-self.result.now c.last_before.result c.deref.ensures.value c.deref-then-before-self.ensures.value c.last_before.ensures

pub returns-else-before-self : goal.returns-else-before-self
returns-else-before-self g c =
    name-found g.met.V.Value.total g.met.V.Bucketed.below c.args.self.now.sound c.args.item.now c.requires.name
    c.deref-else-before-self.result.now c.deref-else-before-self-2.result.now c.last_before-else-before-self.result
    c.deref-else-before-self.ensures.value c.deref-else-before-self-2.ensures.value c.last_before-else-before-self.ensures
