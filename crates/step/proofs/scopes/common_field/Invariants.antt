use Rattle.std.proofs.Common.{take, unwrap_or}
use Rattle.std.specs.List.{AllByRecursion}
use Rattle.step.specs.Scopes.{Keys}
use Rattle.step.proofs.scopes.common_field.Given as goal

abbrev pub invariant-loop-row : goal.invariant-loop-row
invariant-loop-row l = AllByRecursion (Keys l.name l.kind (unwrap_or l.field 0)) (take l.row-index l.rows)
