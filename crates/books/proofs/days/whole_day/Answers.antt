use Rattle.std.proofs.Common.{[], ◌∷◌}
use Rattle.rules.specs.Book.{Batching, Ending, Opening}
use Rattle.rules.specs.Kinds.{values_by}
use Rattle.rules.specs.Law.{Use, called, made}
use Rattle.rules.proofs.Stands.{law}
use Rattle.sheets.specs.View.{view_of}
use Rattle.books.specs.Days.{point_of}
use Rattle.books.specs.View.{book_view}
use Rattle.books.proofs.days.whole_day.Goals as goal

pub returns : goal.returns
returns g c =
    let K = values_by g.S.Of.Ord.cmp g.S.Of.Value.blank g.S.Of.Value.reads in
    let s = view_of c.args.sheet.now in
    let view = book_view g.S.Shelf.items g.S.Shelf.limit in
    let F = g.S.Shelf.items c.args.shelf in
    let limit = g.S.Shelf.limit c.args.shelf in
    let opening = Opening c.open-opened.result in
    let batching = Batching c.args.bytes.now c.args.moves.now c.batch-batched.new.moves c.args.findings.now c.batch-batched.new.findings c.batch-batched.result in
    let ending = Ending c.args.closing.now c.end-ended.new.findings c.end-ended.result in
    let u0 : Use K s view F limit [] c.new-book.result = made c.new-book.ensures.made in
    let u1 : Use K s view F limit (opening ∷ []) c.open-opened.new.self = called u0 opening c.open-opened.ensures.served in
    let u2 : Use K s view F limit (batching ∷ (opening ∷ [])) c.batch-batched.new.self = called u1 batching c.batch-batched.ensures.served in
    let u3 : Use K s view F limit (ending ∷ (batching ∷ (opening ∷ []))) c.end-ended.new.self = called u2 ending c.end-ended.ensures.served in
    let p = point_of K s view F limit (ending ∷ (batching ∷ (opening ∷ []))) c.end-ended.new.self u3 in
    let l = law K g.met.S.Of.Value.total view view in
    record {
      law = record { used = u3; exact = l.exact s p; accounted = l.accounted s p; balanced = l.balanced s p };
    }
