use Rattle.std.proofs.Common.{◌<◌}
use Rattle.indexed.proofs.Finds.{name-walk, name-first, entry-walk, entry-begins, held-walk, held-begins}
use Rattle.indexed.proofs.shelf.IndexedShelf.thread_start.Goals as goal

pub returns-then-before-self : goal.returns-then-before-self
returns-then-before-self g c =
    let x = c.in-Some.x in
    let b = c.chain_before-before in
    record {
      walk = entry-walk g.met.V.Value.total g.met.V.Bucketed.below c.args.self.now.sound x b.ensures.name b.result b.ensures.value c.if-before-self.true;
      first = entry-begins g.met.V.Value.total g.met.V.Bucketed.below c.args.self.now.sound x b.ensures.name b.result b.ensures.value c.if-before-self.true
          c.args.name c.args.above c.if-x-name.true c.in-Some.is;
    }

pub returns : goal.returns
returns g c =
    let h : c.args.name < 256 = c.ranges.name.fits in
    record {
      walk = name-walk g.met.V.Value.total g.met.V.Bucketed.below c.args.self.now.sound c.args.name h;
      first = name-first g.met.V.Value.total g.met.V.Bucketed.below c.args.self.now.sound c.args.name c.args.above h;
    }

pub returns-in-Some-locate : goal.returns-in-Some-locate
returns-in-Some-locate g c =
    let x = c.in-Some.x in
    let b = c.chain_before-before in
    let w = c.in-Some-locate.ensures in
    record {
      walk = held-walk g.met.V.Value.total g.met.V.Bucketed.below c.args.self.now.sound x b.ensures.name c.in-Some-locate.cell w.is _ w.there;
      first = held-begins g.met.V.Value.total g.met.V.Bucketed.below c.args.self.now.sound x b.ensures.name c.in-Some-locate.cell w.is _ w.there
          c.args.name c.args.above c.if-x-name.true c.in-Some.is;
    }
