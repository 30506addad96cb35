use Rattle.std.proofs.Common.{length, ap, ◌∙◌}
use Rattle.firing.specs.At.{event_in, sheet_in}
use Rattle.buffers.specs.Places.{capped, fill, places_after}
use Rattle.buffers.proofs.Fillings.{counted}
use Rattle.rules.specs.Kinds.{values_by}
use Rattle.rules.specs.Step.{moves_at}
use Rattle.step.proofs.Whole.{unwatched-moves, watched-moves}
use Rattle.step.proofs.events.event_moves.Goals as goal

pub returns-then-is_watched : goal.returns-then-is_watched
returns-then-is_watched g c =
    let e = watched-moves (values_by g.V.Ord.cmp g.V.Value.blank g.V.Value.reads) c.args.at.now (g.S.Shelf.items c.args.shelf.now) c.if-is_watched.ensures in
    record { out = c.all_into.ensures.out ∙ ap (fill c.args.out.now 0) e; count = c.all_into.ensures.place ∙ ap (places_after 0) e ∙ counted (moves_at (values_by g.V.Ord.cmp g.V.Value.blank g.V.Value.reads) (sheet_in c.args.at.now) (g.S.Shelf.items c.args.shelf.now) (event_in c.args.at.now)) }

pub returns-else-is_watched : goal.returns-else-is_watched
returns-else-is_watched g c =
    let e = unwatched-moves (values_by g.V.Ord.cmp g.V.Value.blank g.V.Value.reads) c.args.at.now (g.S.Shelf.items c.args.shelf.now) c.if-is_watched.ensures in
    record { out = ap (fill c.args.out.now 0) e; count = ap (λ l. capped (length l)) e }
