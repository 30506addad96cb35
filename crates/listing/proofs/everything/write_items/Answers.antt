use Rattle.std.proofs.Common.{ap, ◌∙◌, arith}
use Rattle.buffers.specs.Places.{fill}
use Rattle.buffers.proofs.Fillings.{fill-front}
use Rattle.listing.proofs.Lists.{filled-reach, listed-all}
use Rattle.listing.proofs.everything.write_items.Goals as goal

pub returns : goal.returns
returns g c =
    let xs = g.S.Shelf.items c.args.shelf.now in
    let room = c.args.room.now in
    c.listed_into.ensures.out ∙ ap (fill room 0) (listed-all xs) ∙ fill-front room xs (omega (arith, c.well_formed)) ∙ filled-reach xs room
