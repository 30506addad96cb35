use Rattle.rules.specs.Kinds.{values_by}
use Rattle.rules.specs.Step.{fired_rows}
use Rattle.std.specs.List.{flat_map}
use Rattle.firing.specs.At.{event_in, sheet_in}
use Rattle.firing.specs.Effects.{row_gives}
use Rattle.buffers.proofs.Fillings.{Filling}
use Rattle.firing.proofs.FiredRows.{fired_from}
use Rattle.firing.proofs.collect.rows_into.Given as goal

abbrev pub invariant-loop-i : goal.invariant-loop-i
invariant-loop-i g l =
    let K = values_by g.V.Ord.cmp g.V.Value.blank g.V.Value.reads in
    let F = g.S.Shelf.items l.shelf in
    let f = row_gives (g.E.Effect.of_entry l.effect l.at) l.item in
    Filling l.initial.out l.place (flat_map f (fired_rows K (sheet_in l.at) F (event_in l.at) l.item)) l.out l.after (flat_map f (fired_from K (sheet_in l.at) (event_in l.at) l.item F l.i))
