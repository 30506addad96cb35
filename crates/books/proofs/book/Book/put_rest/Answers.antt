use Rattle.std.proofs.Common.{◌-◌, length, drop, sym, subst, arith}
use Rattle.std.proofs.lemmas.List.{length-drop, take_rest}
use Rattle.std.proofs.lemmas.Slice.{take-put_mid_below}
use Rattle.rules.specs.Book.{put_at}
use Rattle.rules.specs.Kinds.{values_by}
use Rattle.sheets.specs.View.{view_of}
use Rattle.books.specs.Puts.{Came}
use Rattle.books.specs.View.{book_view}
use Rattle.books.proofs.Batches.{made-fits, written-rest}
use Rattle.books.proofs.book.Book.put_rest.Goals as goal

pub returns : goal.returns
returns g c =
    let K = values_by g.S.Of.Ord.cmp g.S.Of.Value.blank g.S.Of.Value.reads in
    let s = view_of c.args.sheet.now in
    let e = c.args.event.now in
    let pad = c.args.moves.now in
    let b = book_view g.S.Shelf.items g.S.Shelf.limit c.args.self.now in
    let b' = book_view g.S.Shelf.items g.S.Shelf.limit c.put_at.new.self in
    let roll = c.args.findings.now in
    let from = c.args.from in
    let came = subst (λ l. Came (put_at K s c.args.place b e pad l) c.put_at.result c.put_at.new.moves c.put_at.new.findings b') (take_rest roll from) c.put_at.ensures.came in
    record {
      front = take-put_mid_below from (length roll - from) roll c.put_at.new.findings from (omega arith) c.requires.within;
      came = subst (λ l. Came (put_at K s c.args.place b e pad (drop from roll)) c.put_at.result c.put_at.new.moves l b') (sym (written-rest from roll c.put_at.new.findings c.requires.within)) came;
      fits = made-fits K s c.args.place b e pad (drop from roll) from (length roll) (omega (arith, length-drop from roll, c.requires.within)) c.put_at.result came.back;
    }
