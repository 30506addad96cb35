use Rattle.std.proofs.Common.{take, unwrap_or}
use Rattle.std.proofs.ByRecursion.{All-more, All-weaker}
use Rattle.step.specs.Scopes.{Keys}
use Rattle.step.proofs.scopes.common_field.Goals as goal

pub loop-row-preserved : goal.loop-row-preserved
loop-row-preserved c =
    let new = c.in_ok-field.ensures in
    let old = Keys c.args.name c.args.kind (unwrap_or c.loop-row.field 0) in
    let agreed = Keys c.args.name c.args.kind (unwrap_or c.in_ok-field.field 0) in
    All-more agreed c.args.rows.now c.loop-row.row-index _ c.loop-row-test.true
    (All-weaker old agreed new.1 (take c.loop-row.row-index c.args.rows.now) c.loop-row.invariant) new.0
