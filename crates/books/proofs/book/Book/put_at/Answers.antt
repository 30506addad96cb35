use Rattle.std.proofs.lemmas.Result.{err_from_is_err_and}
use Rattle.refusals.proofs.Answered.{answered_no, answered_yes}
use Rattle.rules.specs.Kinds.{values_by}
use Rattle.sheets.specs.View.{view_of}
use Rattle.firing.specs.At.{event_in, sheet_in}
use Rattle.books.specs.View.{book_view}
use Rattle.books.proofs.Takes.{early-more, put-late, put_refused}
use Rattle.books.proofs.book.Book.put_at.Goals as goal

pub take-requires : goal.take-requires
take-requires g c =
    record { more = early-more c.args.place c.args.self.now.phase c.args.event.now.kind c.args.self.now.accepted (answered_yes _ c.in_ok-judge_early.ensures) }

pub returns-in_err-judge_early : goal.returns-in_err-judge_early
returns-in_err-judge_early g c =
    let K = values_by g.S.Of.Ord.cmp g.S.Of.Value.blank g.S.Of.Value.reads in
    let s = view_of c.args.sheet.now in
    let b = book_view g.S.Shelf.items g.S.Shelf.limit c.args.self.now in
    let p = err_from_is_err_and c.from_residual.result c.from_residual.ensures.1 in
    rw (p.1, p.2) (record { came = put_refused K s c.args.place b c.args.event.now c.args.moves.now c.args.findings.now _ (answered_no _ _ c.in_err-judge_early.ensures) })

pub returns : goal.returns
returns g c =
    let K = values_by g.S.Of.Ord.cmp g.S.Of.Value.blank g.S.Of.Value.reads in
    let s = view_of c.args.sheet.now in
    let b = book_view g.S.Shelf.items g.S.Shelf.limit c.args.self.now in
    record {
      came = put-late K s c.args.place b c.args.event.now c.args.moves.now c.args.findings.now (answered_yes _ c.in_ok-judge_early.ensures) (sheet_in c.new.result) c.new.ensures.sheet (event_in c.new.result) c.new.ensures.event c.take.result c.take.new.moves c.take.new.findings (book_view g.S.Shelf.items g.S.Shelf.limit c.take.new.self) c.take.ensures.came;
    }
