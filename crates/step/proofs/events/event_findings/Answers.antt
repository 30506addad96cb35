use Rattle.std.proofs.Common.{map, length, ap, ◌∙◌}
use Rattle.firing.specs.At.{event_in, sheet_in}
use Rattle.buffers.specs.Places.{capped, fill, places_after}
use Rattle.buffers.proofs.Fillings.{counted}
use Rattle.rules.specs.Kinds.{values_by}
use Rattle.std.proofs.lemmas.List.{length-map}
use Rattle.rules.specs.Step.{faults_at, numbered_as}
use Rattle.step.proofs.Whole.{unwatched-findings, watched-findings}
use Rattle.step.proofs.events.event_findings.Goals as goal

pub returns-then-is_watched : goal.returns-then-is_watched
returns-then-is_watched g c =
    let e = watched-findings (values_by g.V.Ord.cmp g.V.Value.blank g.V.Value.reads) c.args.at.now (g.S.Shelf.items c.args.shelf.now) c.args.number c.if-is_watched.ensures in
    let n = map (numbered_as c.args.number) (faults_at (values_by g.V.Ord.cmp g.V.Value.blank g.V.Value.reads) (sheet_in c.args.at.now) (g.S.Shelf.items c.args.shelf.now) (event_in c.args.at.now)) in
    record { out = c.all_into.ensures.out ∙ ap (fill c.args.out.now 0) e; count = c.all_into.ensures.place ∙ ap (places_after 0) e ∙ counted n ∙ ap capped (length-map (faults_at (values_by g.V.Ord.cmp g.V.Value.blank g.V.Value.reads) (sheet_in c.args.at.now) (g.S.Shelf.items c.args.shelf.now) (event_in c.args.at.now)) (numbered_as c.args.number)) }

pub returns-else-is_watched : goal.returns-else-is_watched
returns-else-is_watched g c =
    let e = unwatched-findings (values_by g.V.Ord.cmp g.V.Value.blank g.V.Value.reads) c.args.at.now (g.S.Shelf.items c.args.shelf.now) c.if-is_watched.ensures in
    record { out = ap (λ l. fill c.args.out.now 0 (map (numbered_as c.args.number) l)) e; count = ap (λ l. capped (length l)) e }
