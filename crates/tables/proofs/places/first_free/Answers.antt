use Rattle.std.proofs.Common.{length, ap, ◌∙◌}
use Rattle.std.specs.Option.{unwrap_or}
use Rattle.values.proofs.Positions.{first_or_length}
use Rattle.tables.proofs.places.first_free.Goals as goal

pub returns-clause-value : goal.returns-clause-value
returns-clause-value g c =
    let places = c.args.places.now in
    c.unwrap_or.ensures ∙ ap (λ o. unwrap_or o (length places)) c.free_place.ensures.value ∙ first_or_length _ places
