use Rattle.std.proofs.Common.{◌∙◌, rules, tests}
use Rattle.std.proofs.lemmas.Iterator.{YieldsList-from_slice}
use Rattle.std.proofs.lemmas.Iterator.Search.{any_from_yields_List}
use Rattle.rules.specs.Kinds.{values_by}
use Rattle.step.specs.Sets.{takes_item}
use Rattle.step.proofs.SetSizes.{taken-some}
use Rattle.step.proofs.causes.is_taken.Goals as goal

pub returns : goal.returns
returns g c =
    any_from_yields_List (takes_item g.V.Ord.cmp c.args.item.now) _ _ _ c.any.ensures.ran (YieldsList-from_slice c.args.moves.now cc) (λ x r q k. search (rules, tests))
    ∙ taken-some (values_by g.V.Ord.cmp g.V.Value.blank g.V.Value.reads) c.args.moves.now c.args.item.now
