use Rattle.std.proofs.Common.{length, None}
use Rattle.std.specs.List.{flat_map}
use Rattle.firing.specs.Effects.{item_gives}
use Rattle.buffers.proofs.Fillings.{Filling}
use Rattle.items.specs.Ascending.{kept}
use Rattle.items.specs.Items.{wanted}
use Rattle.rules.specs.Kinds.{values_by}
use Rattle.step.proofs.walk.listed_into.Given as goal

abbrev pub invariant-loop-item : goal.invariant-loop-item
invariant-loop-item g l =
    let F = g.S.Shelf.items l.shelf in
    let f = item_gives (g.E.Effect.of_entry l.effect l.at) (values_by g.V.Ord.cmp g.V.Value.blank g.V.Value.reads) l.at F (g.E.Effect.of_item l.effect l.at) in
    Filling l.initial.out l.place (flat_map f (kept (wanted g.V.Ord.cmp l.name l.first None) F)) l.out l.after (flat_map f (kept (wanted g.V.Ord.cmp l.name l.first l.above) F))

abbrev pub decreases-loop-item : goal.decreases-loop-item
decreases-loop-item g l = length (kept (wanted g.V.Ord.cmp l.name l.first l.above) (g.S.Shelf.items l.shelf))
