use Rattle.std.proofs.Common.{◌≡◌, ◌∙◌, rules}
use Rattle.rules.specs.Kinds.{values_by}
use Rattle.step.proofs.Counting.{added-asks, added-fired, added-lapsed, added-repeats, added-starts, added-struck}
use Rattle.step.proofs.counts.count_added.Goals as goal

pub returns : goal.returns
returns g c =
    let K = (values_by g.V.Ord.cmp g.V.Value.blank g.V.Value.reads) in
    let F = g.S.Shelf.items c.args.shelf.now in
    let u = g.met.S.Shelf.ascending c.args.shelf.now in
    let zero : c.default.result.started ≡ 0 = search rules in
    record {
      started = zero ∙ added-starts K g.met.V.Value.total c.args.name c.args.moves.now F u;
      asked = c.count_part-asked.ensures ∙ added-asks K g.met.V.Value.total c.args.name c.args.moves.now F u;
      repeats = c.count_part-repeats.ensures ∙ added-repeats K g.met.V.Value.total c.args.name c.args.moves.now F u;
      fired = c.count_part-fired.ensures ∙ added-fired K g.met.V.Value.total c.args.name c.args.moves.now F u;
      lapsed = c.count_part-lapsed.ensures ∙ added-lapsed K g.met.V.Value.total c.args.name c.args.moves.now F u;
      struck = c.count_part-struck.ensures ∙ added-struck K g.met.V.Value.total c.args.name c.args.moves.now F u;
    }
