use Rattle.rules.specs.Kinds.{values_by}
use Rattle.sheets.specs.View.{view_of}
use Rattle.books.specs.View.{book_view}
use Rattle.books.proofs.Batches.{batch-refused, batch-served}
use Rattle.books.proofs.book.Book.batch.Goals as goal

pub returns-in-Ok : goal.returns-in-Ok
returns-in-Ok g c =
    let K = values_by g.S.Of.Ord.cmp g.S.Of.Value.blank g.S.Of.Value.reads in
    let s = view_of c.args.sheet.now in
    let b = book_view g.S.Shelf.items g.S.Shelf.limit c.args.self.now in
    record {
      served = batch-served K s b c.args.bytes.now c.args.moves.now c.args.findings.now c.in-Ok.ensures.answer c.put_all.result c.put_all.new.moves c.put_all.new.findings (book_view g.S.Shelf.items g.S.Shelf.limit c.put_all.new.self) c.put_all.ensures.came;
    }

pub returns-in-Err : goal.returns-in-Err
returns-in-Err g c =
    let K = values_by g.S.Of.Ord.cmp g.S.Of.Value.blank g.S.Of.Value.reads in
    let s = view_of c.args.sheet.now in
    let b = book_view g.S.Shelf.items g.S.Shelf.limit c.args.self.now in
    record { served = batch-refused K s b c.args.bytes.now c.args.moves.now c.args.findings.now c.in-Err.refusal c.in-Err.ensures.answer }
