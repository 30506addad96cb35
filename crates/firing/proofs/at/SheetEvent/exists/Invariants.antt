use Rattle.std.proofs.Common.{◌≡◌, length}
use Rattle.items.specs.Ascending.{kept}
use Rattle.items.specs.Items.{wanted}
use Rattle.rules.specs.Kinds.{values_by}
use Rattle.rules.specs.Step.{is_of}
use Rattle.sheets.specs.Words.{some}
use Rattle.firing.specs.At.{event_in, sheet_in}
use Rattle.firing.proofs.at.SheetEvent.exists.Given as goal

-- an item of the pattern is among those to come, if there is one
abbrev pub invariant-loop-other : goal.invariant-loop-other
invariant-loop-other g l =
    let p = is_of (values_by g.V.Ord.cmp g.V.Value.blank g.V.Value.reads) (sheet_in l.self) (event_in l.self) l.item l.row l.pattern in
    let xs = g.S.Shelf.items l.shelf in
    some p (kept (wanted g.V.Ord.cmp l.pattern.state l.first l.above) xs) ≡ some p xs

abbrev pub decreases-loop-other : goal.decreases-loop-other
decreases-loop-other g l = length (kept (wanted g.V.Ord.cmp l.pattern.state l.first l.above) (g.S.Shelf.items l.shelf))
