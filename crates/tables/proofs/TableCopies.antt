-- Tables of equal parts are equal.
use Rattle.std.proofs.Common.{◌≡◌, List}
use Rattle.sheets.specs.declared.tables.State.{State}
use Rattle.sheets.specs.declared.tables.Row.{Row}
use Rattle.sheets.specs.declared.tables.EventKind.{EventKind}
use Rattle.sheets.specs.Tables.{sheet_of}

pub same_tables : {V : Type 0} {states states' : List State} {rows rows' : List Row} (kinds : List EventKind) {constants constants' : List V} → states ≡ states' → rows ≡ rows' → constants ≡ constants' → sheet_of states rows kinds constants ≡ sheet_of states' rows' kinds constants'
same_tables kinds s r c = λ i. sheet_of (s i) (r i) kinds (c i)
