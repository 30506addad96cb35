use Rattle.std.proofs.Common.{drop}
use Rattle.sheets.specs.Words.{present}
use Rattle.std.specs.List.{flat_map}
use Rattle.firing.specs.Effects.{if_there}
use Rattle.buffers.proofs.Fillings.{Filling}
use Rattle.firing.proofs.collect.entries_into.Given as goal

abbrev pub invariant-loop-entry : goal.invariant-loop-entry
invariant-loop-entry g l =
    let f = g.E.Effect.of_entry l.effect l.at l.item l.row l.number in
    Filling l.initial.out l.place (flat_map f (present l.entries)) l.out l.after (flat_map (if_there f) (drop l.entry-index l.entries))
