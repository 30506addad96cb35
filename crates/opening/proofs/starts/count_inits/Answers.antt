use Rattle.std.proofs.Common.{rules, tests}
use Rattle.std.proofs.lemmas.Iterator.{YieldsList-from_slice}
use Rattle.std.proofs.lemmas.Iterator.Consumers.{YieldsList-from_filter, count_from_yields_List}
use Rattle.opening.specs.Starts.{is_init}
use Rattle.opening.proofs.starts.count_inits.Goals as goal

pub returns : goal.returns
returns c =
    count_from_yields_List c.filter.result _ c.count.ensures.ran
    (YieldsList-from_filter _ is_init (YieldsList-from_slice c.args.states.now cc) cc c.filter.ensures.closure (λ x r q k. search (rules, tests)))
