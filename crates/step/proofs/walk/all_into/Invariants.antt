use Rattle.std.specs.List.{flat_map}
use Rattle.firing.specs.Effects.{item_gives}
use Rattle.buffers.proofs.Fillings.{Filling}
use Rattle.items.specs.Ascending.{kept}
use Rattle.rules.specs.Kinds.{values_by}
use Rattle.items.specs.Items.{from_name}
use Rattle.step.proofs.walk.all_into.Given as goal

abbrev pub invariant-loop-name : goal.invariant-loop-name
invariant-loop-name g l =
    let F = g.S.Shelf.items l.shelf in
    let f = item_gives (g.E.Effect.of_entry l.effect l.at) (values_by g.V.Ord.cmp g.V.Value.blank g.V.Value.reads) l.at F (g.E.Effect.of_item l.effect l.at) in
    Filling l.initial.out 0 (flat_map f F) l.out l.after (flat_map f (kept (from_name l.name) F))
