use Rattle.std.proofs.Common.{◌≡◌, ◌-◌, length}
use Rattle.rules.specs.Kinds.{values_by}
use Rattle.rules.specs.Records.{records_at}
use Rattle.sheets.specs.View.{view_of}
use Rattle.books.specs.Batches.{BatchRight, SameAs, left_by}
use Rattle.books.specs.View.{book_view}
use Rattle.books.proofs.book.Book.put_records.Given as goal

-- what is left of the batch comes to what the whole comes to
abbrev pub invariant-loop-event : goal.invariant-loop-event
invariant-loop-event g l =
    let K = values_by g.S.Of.Ord.cmp g.S.Of.Value.blank g.S.Of.Value.reads in
    let s = view_of l.sheet in
    let reads = g.S.Of.Value.reads in
    let view = book_view g.S.Shelf.items g.S.Shelf.limit in
    record {
      batch : BatchRight l.self.accepted (length l.findings) l.done;
      bytes : l.reader.bytes ≡ l.initial.reader.bytes;
      here : l.place ≡ l.reader.place;
      came : SameAs (left_by K s (view l.self) l.moves l.findings l.done (records_at reads l.initial.reader.bytes.now l.reader.place))
          (left_by K s (view l.initial.self) l.initial.moves l.initial.findings l.initial.done (records_at reads l.initial.reader.bytes.now l.initial.reader.place));
    }

abbrev pub decreases-loop-event : goal.decreases-loop-event
decreases-loop-event g l = length l.initial.reader.bytes.now - l.reader.place
