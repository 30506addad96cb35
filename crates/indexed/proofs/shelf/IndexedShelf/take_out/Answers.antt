use Rattle.std.proofs.Common.{◌≡◌, [], ◌∷◌, ◌++◌, is_ok, refl, ◌∙◌, arith}
use Rattle.std.proofs.lemmas.Bool.{cond-true}
use Rattle.indexed.specs.Index.{chain_of, name_of}
use Rattle.indexed.proofs.Finds.{last-small, chain-small}
use Rattle.indexed.proofs.Edits.{out, one_out}
use Rattle.indexed.proofs.shelf.IndexedShelf.take_out.Goals as goal

pub unlink-requires : goal.unlink-requires
unlink-requires g c =
    let h = one_out g.met.V.Value.total g.met.V.Bucketed.below c.args.self.now.sound _ _ _ c.requires.there.there in
    let l = last-small g.met.V.Value.total g.met.V.Bucketed.below c.args.self.now.sound name_of c.args.item.now c.thread_before-thread_before.result c.thread_before-thread_before.ensures in
    (omega (arith, c.args.self.now.sound.threads_long, c.args.self.now.threads.ok.0, c.requires.name), omega (arith, c.args.self.now.sound.threads_long, c.args.self.now.threads.ok.0))

pub unlink-requires-2 : goal.unlink-requires-2
unlink-requires-2 g c =
    let h = one_out g.met.V.Value.total g.met.V.Bucketed.below c.args.self.now.sound _ _ _ c.requires.there.there in
    let l = last-small g.met.V.Value.total g.met.V.Bucketed.below c.args.self.now.sound (chain_of g.V.Bucketed.bucket_of) c.args.item.now c.args.before c.requires.before in
    let k = chain-small g.met.V.Value.total g.met.V.Bucketed.below c.args.self.now.sound c.args.item.now c.requires.name in
    (omega (arith, c.args.self.now.sound.chains_long, c.args.self.now.chains.ok.0), omega (arith, c.args.self.now.sound.chains_long, c.args.self.now.chains.ok.0))

pub unreachable-requires : goal.unreachable-requires
unreachable-requires g c =
    let h = one_out g.met.V.Value.total g.met.V.Bucketed.below c.args.self.now.sound _ _ _ c.requires.there.there in
    omega (arith, c.args.self.now.free.ok.0, c.args.self.now.room, c.in-Err.ensures.full)

pub invariant_of-self : goal.invariant_of-self
invariant_of-self g c =
    let w = c.requires.there in
    let free = c.args.self.now.free in
    let h = one_out g.met.V.Value.total g.met.V.Bucketed.below c.args.self.now.sound _ _ _ w.there in
    let ok = c.push.ensures.succeeds (omega (arith, free.ok.0, c.args.self.now.room)) in
    let more : c.push.new.self.items ≡ free.items ++ (c.args.cell ∷ []) = c.push.ensures.items ∙ cond-true (is_ok c.push.result) (free.items ++ (c.args.cell ∷ [])) free.items ok in
    let r = out g.met.V.Value.total g.met.V.Bucketed.below c.args.self.now.sound c.args.cell c.push.new.self.items more
    c.thread_before-thread_before.result c.args.before c.unlink.new.links.items c.unlink-2.new.links.items c.unlink.ensures c.unlink-2.ensures
    c.args.item.now w.is w.found _ w.there c.thread_before-thread_before.ensures c.requires.before in
    record { room = omega (arith, c.args.self.now.room, c.push.ensures.capacity); sound = r.0 }

pub returns : goal.returns
returns g c =
    let w = c.requires.there in
    let r = out g.met.V.Value.total g.met.V.Bucketed.below c.args.self.now.sound c.args.cell c.push.new.self.items c.in-Ok.ensures.items
    c.thread_before-thread_before.result c.args.before c.unlink.new.links.items c.unlink-2.new.links.items c.unlink.ensures c.unlink-2.ensures
    c.args.item.now w.is w.found _ w.there c.thread_before-thread_before.ensures c.requires.before in
    record { items = r.1; limit = refl }
