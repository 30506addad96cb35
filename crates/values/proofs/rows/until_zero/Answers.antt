use Rattle.std.proofs.Common.{◌∙◌, ap, sym, length}
use Rattle.std.specs.Option.{unwrap_or}
use Rattle.values.specs.ReferenceRows.{zero_position}
use Rattle.values.proofs.Positions.{first_or_length}
use Rattle.values.proofs.rows.until_zero.Goals as goal

pub returns-clause-value : goal.returns-clause-value
returns-clause-value c =
    let bytes = c.args.bytes.now in
    c.unwrap_or.ensures ∙ ap (λ o. unwrap_or o (length bytes)) c.first_zero.ensures ∙ first_or_length _ bytes ∙ sym (zero_position bytes)
