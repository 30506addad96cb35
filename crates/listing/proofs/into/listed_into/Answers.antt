use Rattle.std.proofs.Common.{◌+◌, ◌∙◌, arith}
use Rattle.buffers.proofs.Fillings.{filling-start, filling-more, filled-all, counted-all, counted}
use Rattle.listing.specs.Listed.{listed_of}
use Rattle.listing.proofs.Lists.{listed_start, listed_more, listed-end}
use Rattle.listing.proofs.into.listed_into.Goals as goal

pub loop-name-init : goal.loop-name-init
loop-name-init g c = filling-start _ _ _ _ (listed_start (g.L.Listing.takes c.args.listing.now) (g.L.Listing.shows c.args.listing.now) (g.S.Shelf.items c.args.shelf.now))

pub loop-name-preserved : goal.loop-name-preserved
loop-name-preserved g c =
    let s = c.args.shelf.now in
    filling-more _ _ _ _ c.loop-name.invariant
    (listed_more (g.L.Listing.takes c.args.listing.now) (g.L.Listing.shows c.args.listing.now) g.V.Ord.cmp c.loop-name.name (g.S.Shelf.items s) (g.met.S.Shelf.ascending s))
    c.taken_into-after.ensures.out c.taken_into-after.ensures.place

pub returns : goal.returns
returns g c =
    let s = c.args.shelf.now in
    let takes = g.L.Listing.takes c.args.listing.now in
    let shows = g.L.Listing.shows c.args.listing.now in
    let e = listed-end takes shows c.loop-name.name (g.S.Shelf.items s) (omega (arith, c.loop-name-test.false)) (g.met.S.Shelf.bytes s) in
    record { out = filled-all c.loop-name.invariant e; count = counted-all c.loop-name.invariant e ∙ counted (listed_of takes shows (g.S.Shelf.items s)) }

-- after the last name
pub returns-2 : goal.returns-2
returns-2 g c =
    let s = c.args.shelf.now in
    let takes = g.L.Listing.takes c.args.listing.now in
    let shows = g.L.Listing.shows c.args.listing.now in
    let last = c.if-name-lt255 in
    let more = filling-more _ _ _ _ c.loop-name.invariant (listed_more takes shows g.V.Ord.cmp c.loop-name.name (g.S.Shelf.items s) (g.met.S.Shelf.ascending s)) c.taken_into-after.ensures.out c.taken_into-after.ensures.place in
    let e = listed-end takes shows (c.loop-name.name + 1) (g.S.Shelf.items s) (omega (arith, last.false)) (g.met.S.Shelf.bytes s) in
    record { out = filled-all more e; count = counted-all more e ∙ counted (listed_of takes shows (g.S.Shelf.items s)) }
