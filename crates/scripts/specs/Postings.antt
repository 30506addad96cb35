-- The fields of an event, each given once.
use Rattle.std.specs.Prelude.{ℕ, cond, is_some, Ok, Err, Result}
use Rattle.records.specs.declared.event.Event.{Event}
use Rattle.records.specs.Fields.{field_of, has_field}
use Rattle.scripts.specs.declared.misfit.Misfit.{Misfit}
use Rattle.scripts.specs.declared.misfit.Misfit.TheVariants.{FieldGivenTwice, NoSuchField}

-- whether a field may be given: the event has it not yet, and it is one of the eight
abbrev pub settable : {V : Type 0} → Event V → ℕ → Result (Unit {0}) Misfit
settable e n = cond (is_some (field_of e n)) (Err FieldGivenTwice) (cond (has_field n) (Ok tt) (Err NoSuchField))
