use Rattle.std.proofs.Common.{◌<◌, length, refl, arith, rules}
use Rattle.items.proofs.Rules.{put-since}
use Rattle.indexed.specs.Index.{chain_of, name_of}
use Rattle.indexed.specs.Meaning.{indexed_items}
use Rattle.indexed.proofs.Finds.{last-small, chain-small}
use Rattle.indexed.proofs.Sound.{i-small}
use Rattle.indexed.proofs.Edits.{counted, put}
use Rattle.indexed.proofs.shelf.IndexedShelf.put_in.Goals as goal

pub unreachable-requires : goal.unreachable-requires
unreachable-requires g c =
    let h : length (indexed_items c.args.self.now) < c.args.self.now.limit = (put-since _ _ _ c.requires.answer).1 in
    let e = counted g.met.V.Value.total g.met.V.Bucketed.below c.args.self.now.sound (length c.args.self.now.free.items) refl in
    omega (arith, c.in-None.ensures.cases.0, c.args.self.now.free.ok.0)

pub index_mut-requires : goal.index_mut-requires
index_mut-requires g c =
    let h = i-small g.met.V.Value.total g.V.Bucketed.bucket_of g.V.Value.blank c.args.self.now.sound c.args.item c.in-Some.cell c.pop.new.self.items c.in-Some.ensures.items in
    omega (arith, c.args.self.now.sound.long, c.args.self.now.cells.ok.0)

pub link-requires : goal.link-requires
link-requires g c =
    let h = i-small g.met.V.Value.total g.V.Bucketed.bucket_of g.V.Value.blank c.args.self.now.sound c.args.item c.in-Some.cell c.pop.new.self.items c.in-Some.ensures.items in
    let l = last-small g.met.V.Value.total g.met.V.Bucketed.below c.args.self.now.sound name_of c.args.item c.thread_before-thread_before.result c.thread_before-thread_before.ensures in
    (omega (arith, c.args.self.now.sound.threads_long, c.args.self.now.threads.ok.0, c.requires.name), omega (arith, c.args.self.now.sound.threads_long, c.args.self.now.threads.ok.0))

pub link-requires-in-Some : goal.link-requires-in-Some
link-requires-in-Some g c =
    let h = i-small g.met.V.Value.total g.V.Bucketed.bucket_of g.V.Value.blank c.args.self.now.sound c.args.item c.in-Some.cell c.pop.new.self.items c.in-Some.ensures.items in
    let l = last-small g.met.V.Value.total g.met.V.Bucketed.below c.args.self.now.sound (chain_of g.V.Bucketed.bucket_of) c.args.item c.args.before c.requires.before in
    let k = chain-small g.met.V.Value.total g.met.V.Bucketed.below c.args.self.now.sound c.args.item c.requires.name in
    (omega (arith, c.args.self.now.sound.chains_long, c.args.self.now.chains.ok.0), omega (arith, c.args.self.now.sound.chains_long, c.args.self.now.chains.ok.0))

pub invariant_of-self : goal.invariant_of-self
invariant_of-self g c =
    let r = put g.met.V.Value.total g.met.V.Bucketed.below c.args.self.now.sound c.args.item c.requires.name (put-since _ _ _ c.requires.answer).0
    c.in-Some.cell c.pop.new.self.items c.in-Some.ensures.items
    c.thread_before-thread_before.result c.args.before c.thread_before-thread_before.ensures c.requires.before
    c.link.new.links.items c.link-in-Some.new.links.items c.link.ensures c.link-in-Some.ensures in
    record { room = search rules; sound = r.0 }

pub returns : goal.returns
returns g c =
    let r = put g.met.V.Value.total g.met.V.Bucketed.below c.args.self.now.sound c.args.item c.requires.name (put-since _ _ _ c.requires.answer).0
    c.in-Some.cell c.pop.new.self.items c.in-Some.ensures.items
    c.thread_before-thread_before.result c.args.before c.thread_before-thread_before.ensures c.requires.before
    c.link.new.links.items c.link-in-Some.new.links.items c.link.ensures c.link-in-Some.ensures in
    record { items = r.1; limit = refl }
