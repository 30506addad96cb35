use Rattle.std.proofs.Common.{unwrap_or, refl, sym, ap, subst, ◌∙◌}
use Rattle.std.specs.List.{AllByRecursion}
use Rattle.rules.specs.Kinds.{values_by}
use Rattle.firing.specs.At.{event_in}
use Rattle.step.specs.Scopes.{Keys}
use Rattle.step.proofs.Skips.{outside, apart, reached}
use Rattle.step.proofs.scopes.scope_of.Goals as goal

pub returns-in-Some : goal.returns-in-Some
returns-in-Some g c F x n s =
    let far = apart g.met.V.Value.total x.first c.in-Some.value s in
    let r = ap (reached g.V.Ord.cmp x) (sym c.in-Some.ensures) ∙ far in
    let keys = subst (λ o. AllByRecursion (Keys c.args.name (event_in c.args.at.now).kind (unwrap_or o 0)) c.args.at.now.rows.now) c.in-Ok-Some.field-0-is c.in-Ok-Some.ensures in
    outside (values_by g.V.Ord.cmp g.V.Value.blank g.V.Value.reads) c.args.at.now F x c.in-Ok-Some.field r c.args.name c.state_of-state.result n keys c.state_of-state.ensures c.if-state.false c.if-state-2.false

pub returns-in-None : goal.returns-in-None
returns-in-None g c F x n s =
    let r = ap (reached g.V.Ord.cmp x) (sym c.in-None.ensures) in
    let keys = subst (λ o. AllByRecursion (Keys c.args.name (event_in c.args.at.now).kind (unwrap_or o 0)) c.args.at.now.rows.now) c.in-Ok-Some.field-0-is c.in-Ok-Some.ensures in
    outside (values_by g.V.Ord.cmp g.V.Value.blank g.V.Value.reads) c.args.at.now F x c.in-Ok-Some.field r c.args.name c.state_of-state.result n keys c.state_of-state.ensures c.if-state.false c.if-state-2.false

pub returns-in-Ok-None : goal.returns-in-Ok-None
returns-in-Ok-None g c F x n s =
    let keys = subst (λ o. AllByRecursion (Keys c.args.name (event_in c.args.at.now).kind (unwrap_or o 0)) c.args.at.now.rows.now) c.in-Ok-None.field-0-is c.in-Ok-None.ensures in
    outside (values_by g.V.Ord.cmp g.V.Value.blank g.V.Value.reads) c.args.at.now F x 0 refl c.args.name c.state_of-state.result n keys c.state_of-state.ensures c.if-state.false c.if-state-2.false
