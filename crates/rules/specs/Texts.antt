-- Moves and findings in words.
use Rattle.std.specs.Prelude.{ℕ, List, ◌++◌, Some, Option, codes}
use Rattle.std.specs.Fmt.{◌++?◌, decimal}
use Rattle.items.specs.Texts.{item_text}
use Rattle.rules.specs.Report.{report_of}
use Rattle.rules.specs.declared.finding.Finding.{Finding}
use Rattle.rules.specs.declared.moves.Cause.{Cause}
use Rattle.rules.specs.declared.moves.Cause.TheVariants.{Fired, Lapsed, Asked, Struck}
use Rattle.rules.specs.declared.moves.Move.{Move}

-- the word of a cause
abbrev pub cause_text : Cause → List ℕ
cause_text Fired = codes "fired"
cause_text Lapsed = codes "lapsed"
cause_text Asked = codes "asked"
cause_text Struck = codes "struck"

module _ {V : Type 0} (text : V → Option (List ℕ)) where
  -- the word of the cause, then the item
  abbrev pub move_text : Move V → Option (List ℕ)
  move_text m = Some (cause_text m.cause ++ codes " ") ++? item_text text m.item

  -- the event's number, the number of the kind and the row, then the item
  abbrev pub finding_text : Finding V → Option (List ℕ)
  finding_text x = Some (decimal x.event ++ codes " " ++ decimal (report_of x.fault).kind ++ codes " " ++ decimal (report_of x.fault).row ++ codes " ") ++? item_text text x.item
