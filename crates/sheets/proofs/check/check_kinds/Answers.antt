use Rattle.std.proofs.Common.{not, rules, tests, sym, ap, ◌∙◌}
use Rattle.std.proofs.lemmas.Iterator.{YieldsList-from_slice}
use Rattle.std.proofs.lemmas.Iterator.Search.{position_from_yields_List}
use Rattle.refusals.specs.declared.refusal.Broken.TheVariants as broken
use Rattle.refusals.specs.Telling.{answer_of}
use Rattle.sheets.specs.Loading.{broken_at}
use Rattle.sheets.specs.Sound.{sound_kind}
use Rattle.sheets.proofs.check.check_kinds.Goals as goal

pub returns-in-Some : goal.returns-in-Some
returns-in-Some c =
    let first = position_from_yields_List (λ x. not (sound_kind x)) _ _ c.position.result c.position.ensures.ran (YieldsList-from_slice c.args.kinds.now cc) (λ x b q k. search (rules, tests)) in
    ap (λ o. answer_of (broken_at broken.Kind o)) (sym c.in-Some.is ∙ first)

pub returns-in-None : goal.returns-in-None
returns-in-None c =
    let first = position_from_yields_List (λ x. not (sound_kind x)) _ _ c.position.result c.position.ensures.ran (YieldsList-from_slice c.args.kinds.now cc) (λ x b q k. search (rules, tests)) in
    ap (λ o. answer_of (broken_at broken.Kind o)) (sym c.in-None.is ∙ first)
