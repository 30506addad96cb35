use Rattle.std.proofs.Common.{None}
use Rattle.items.specs.Items.{wanted}
use Rattle.indexed.proofs.Finds.{walk_same, first_found}
use Rattle.indexed.proofs.shelf.IndexedShelf.next_in_thread.Goals as goal

pub first_wanted-requires : goal.first_wanted-requires
first_wanted-requires g c =
    walk_same g.met.V.Value.total g.met.V.Bucketed.below c.args.self.now.sound c.deref.ensures.value c.deref-2.ensures.value c.thread_start-start.ensures.walk

pub returns : goal.returns
returns g c =
    first_found g.met.V.Value.total g.met.V.Bucketed.below c.args.self.now.sound c.deref.result.now c.deref-2.result.now c.args.self.now.threads.items c.thread_start-start.result
    (wanted g.V.Ord.cmp c.args.name None c.args.above) c.first_wanted.result _
    c.deref.ensures.value c.deref-2.ensures.value c.first_wanted.ensures c.thread_start-start.ensures.first
