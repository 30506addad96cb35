use Rattle.std.proofs.Common.{◌≡◌, replicate, ap}
use Rattle.sheets.specs.Tables.{unwatched}
use Rattle.sheets.proofs.Loads.{empty-keyed, empty-sound}
use Rattle.sheets.proofs.sheet.Sheet.new.Goals as goal

pub table_of-requires : goal.table_of-requires
table_of-requires g c =
    let p = c.new.ensures.items in
    let q = c.new-2.ensures.items in
    let r : replicate 64 c.default.result ≡ replicate 64 unwatched = ap (λ k. replicate 64 k) (λ i. record { watched = c.default.ensures.0 i; key = c.default.ensures.1 i }) in
    record { sound = empty-sound _ _ _ p q r; keyed = empty-keyed _ _ _ p q r }
