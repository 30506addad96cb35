use Rattle.std.proofs.Common.{◌≡◌, ◌+◌, ◌<◌, length, vec_len, is_ok, refl, ◌∙◌, arith}
use Rattle.std.proofs.lemmas.Bool.{cond-true}
use Rattle.std.specs.List.{insert}
use Rattle.items.proofs.Ascending.{leading-within}
use Rattle.items.specs.Ascending.{held}
use Rattle.items.specs.Items.{item_order}
use Rattle.items.proofs.Rules.{put-since}
use Rattle.sorted.specs.Place.{place_of}
use Rattle.sorted.specs.declared.mark.Mark.TheVariants.{At}
use Rattle.sorted.proofs.Steps.{put_in}
use Rattle.sorted.proofs.shelf.SortedShelf.put_in.Goals as goal

pub insert-requires : goal.insert-requires
insert-requires g c =
    let l = leading-within (place_of g.V.Ord.cmp (At c.args.item)) c.args.self.now.cells.items in
    omega (arith, c.args.self.now.cells.ok.0, c.requires.place)

pub unreachable-requires : goal.unreachable-requires
unreachable-requires g c =
    let h : length c.args.self.now.cells.items < c.args.self.now.limit = (put-since (held (item_order g.V.Ord.cmp) c.args.item c.args.self.now.cells.items) (length c.args.self.now.cells.items) c.args.self.now.limit c.requires.answer).1 in
    omega (arith, c.args.self.now.cells.ok.0, c.args.self.now.room, c.in-Err.ensures.full)

pub invariant_of-self : goal.invariant_of-self
invariant_of-self g c =
    let w : c.args.item.name < 256 = omega (arith, c.well_formed) in
    let h : length c.args.self.now.cells.items < c.args.self.now.limit = (put-since (held (item_order g.V.Ord.cmp) c.args.item c.args.self.now.cells.items) (length c.args.self.now.cells.items) c.args.self.now.limit c.requires.answer).1 in
    let ok = c.insert.ensures.succeeds (omega (arith, c.args.self.now.cells.ok.0, c.args.self.now.room)) in
    let new : c.insert.new.self.items ≡ insert c.args.self.now.cells.items c.args.place c.args.item = c.insert.ensures.items ∙ cond-true (is_ok c.insert.result) _ _ ok in
    let more : vec_len c.insert.new.self ≡ vec_len c.args.self.now.cells + 1 = c.insert.ensures.len ∙ cond-true (is_ok c.insert.result) _ _ ok in
    let p = put_in g.met.V.Value.total c.args.self.now.cells.items c.args.self.now.ascending c.args.item c.args.place c.requires.place
    c.insert.new.self.items w c.args.self.now.names (put-since (held (item_order g.V.Ord.cmp) c.args.item c.args.self.now.cells.items) (length c.args.self.now.cells.items) c.args.self.now.limit c.requires.answer).0 new in
    record { within = omega (arith, h, more, c.args.self.now.cells.ok.0); room = omega (arith, c.args.self.now.room, c.insert.ensures.capacity); bounded = c.args.self.now.bounded; ascending = p.0; names = p.1 }

pub returns : goal.returns
returns g c =
    let w : c.args.item.name < 256 = omega (arith, c.well_formed) in
    let p = put_in g.met.V.Value.total c.args.self.now.cells.items c.args.self.now.ascending c.args.item c.args.place c.requires.place
    c.insert.new.self.items w c.args.self.now.names (put-since (held (item_order g.V.Ord.cmp) c.args.item c.args.self.now.cells.items) (length c.args.self.now.cells.items) c.args.self.now.limit c.requires.answer).0 c.in-Ok.ensures.items in
    record { items = p.2; limit = refl }
