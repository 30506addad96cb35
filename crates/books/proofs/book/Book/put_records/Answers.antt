use Rattle.std.proofs.Common.{◌≡◌, ◌+◌, Some, None, Ok, Err, sym, ap, ◌∙◌, subst, arith}
use Rattle.std.proofs.lemmas.Result.{err_from_is_err_and}
use Rattle.records.specs.Reader.{next_at}
use Rattle.rules.specs.Kinds.{values_by}
use Rattle.rules.specs.Records.{one, records_at}
use Rattle.sheets.specs.View.{view_of}
use Rattle.books.specs.Batches.{SameAs, ended_by, left_by}
use Rattle.books.specs.View.{book_view}
use Rattle.books.proofs.Batches.{accepted-one, left-done, left-more, left-refused, left-stopped, read_none, read_one, read-stop, same-on}
use Rattle.books.proofs.book.Book.put_records.Goals as goal

pub returns-in_err-event : goal.returns-in_err-event
returns-in_err-event g c =
    let K = values_by g.S.Of.Ord.cmp g.S.Of.Value.blank g.S.Of.Value.reads in
    let s = view_of c.args.sheet.now in
    let reads = g.S.Of.Value.reads in
    let view = book_view g.S.Shelf.items g.S.Shelf.limit in
    let l = c.loop-event in
    let bytes = c.args.reader.now.bytes.now in
    let all = left_by K s (view c.args.self.now) c.args.moves.now c.args.findings.now c.args.done.now (records_at reads bytes c.args.reader.now.place) in
    let p = err_from_is_err_and c.from_residual.result c.from_residual.ensures.1 in
    let f = c.in_err-event.field-0.0 in
    let r = read-stop reads bytes l.reader.place f (c.in_err-event.ensures.answer ∙ ap (λ bs. (next_at reads bs.now l.reader.place).answer) l.invariant.bytes) in
    let stopped = left-stopped K s (view l.self) l.moves l.findings l.done f r.place r.because in
    rw (p.1, p.2) (same-on _ _ all (subst (λ rs. SameAs (ended_by (Err f) (view l.self) l.moves l.findings l.done) (left_by K s (view l.self) l.moves l.findings l.done rs)) (sym r.rest) stopped) l.invariant.came)

pub returns-in_err-taken : goal.returns-in_err-taken
returns-in_err-taken g c =
    let K = values_by g.S.Of.Ord.cmp g.S.Of.Value.blank g.S.Of.Value.reads in
    let s = view_of c.args.sheet.now in
    let reads = g.S.Of.Value.reads in
    let view = book_view g.S.Shelf.items g.S.Shelf.limit in
    let l = c.loop-event in
    let bytes = c.args.reader.now.bytes.now in
    let b' = view c.put_rest.new.self in
    let all = left_by K s (view c.args.self.now) c.args.moves.now c.args.findings.now c.args.done.now (records_at reads bytes c.args.reader.now.place) in
    let p = err_from_is_err_and c.from_residual-in_err-taken.result c.from_residual-in_err-taken.ensures.1 in
    let f = c.in_err-taken.field-0.0 in
    let r = read_one reads bytes l.reader.place c.in-Some.event c.next.new.self.place
    (ap (λ o. Ok o) (sym c.in-Some.is) ∙ c.in_ok-event.ensures.answer ∙ ap (λ bs. (next_at reads bs.now l.reader.place).answer) l.invariant.bytes)
    (c.in_ok-event.ensures.place ∙ ap (λ bs. (next_at reads bs.now l.reader.place).place) l.invariant.bytes) in
    let here = ap (λ q. one q c.in-Some.event (records_at reads bytes c.next.new.self.place)) l.invariant.here ∙ sym r.rest in
    let refused = left-refused K s (view l.self) l.moves l.findings l.done l.place c.in-Some.event c.put_rest.new.moves c.put_rest.new.findings b' c.in_err-taken.ensures.front f c.in_err-taken.ensures.came (records_at reads bytes c.next.new.self.place) in
    rw (p.1, p.2) (same-on _ _ all (subst (λ rs. SameAs (ended_by (Err f) b' c.put_rest.new.moves c.put_rest.new.findings l.done) (left_by K s (view l.self) l.moves l.findings l.done rs)) here refused) l.invariant.came)

pub loop-event-smaller : goal.loop-event-smaller
loop-event-smaller g c =
    let reads = g.S.Of.Value.reads in
    let l = c.loop-event in
    let r = read_one reads c.args.reader.now.bytes.now l.reader.place c.in-Some.event c.next.new.self.place
    (ap (λ o. Ok o) (sym c.in-Some.is) ∙ c.in_ok-event.ensures.answer ∙ ap (λ bs. (next_at reads bs.now l.reader.place).answer) l.invariant.bytes)
    (c.in_ok-event.ensures.place ∙ ap (λ bs. (next_at reads bs.now l.reader.place).place) l.invariant.bytes) in
    omega (arith, r.before, r.further)

pub loop-event-preserved : goal.loop-event-preserved
loop-event-preserved g c =
    let K = values_by g.S.Of.Ord.cmp g.S.Of.Value.blank g.S.Of.Value.reads in
    let s = view_of c.args.sheet.now in
    let reads = g.S.Of.Value.reads in
    let view = book_view g.S.Shelf.items g.S.Shelf.limit in
    let l = c.loop-event in
    let bytes = c.args.reader.now.bytes.now in
    let b' = view c.put_rest.new.self in
    let all = left_by K s (view c.args.self.now) c.args.moves.now c.args.findings.now c.args.done.now (records_at reads bytes c.args.reader.now.place) in
    let r = read_one reads bytes l.reader.place c.in-Some.event c.next.new.self.place
    (ap (λ o. Ok o) (sym c.in-Some.is) ∙ c.in_ok-event.ensures.answer ∙ ap (λ bs. (next_at reads bs.now l.reader.place).answer) l.invariant.bytes)
    (c.in_ok-event.ensures.place ∙ ap (λ bs. (next_at reads bs.now l.reader.place).place) l.invariant.bytes) in
    let here = ap (λ q. one q c.in-Some.event (records_at reads bytes c.next.new.self.place)) l.invariant.here ∙ sym r.rest in
    let h = c.in_ok-taken.ensures in
    let a = c.in_ok-taken.taken in
    let more = left-more K s (view l.self) l.moves l.findings l.done l.place c.in-Some.event c.put_rest.new.moves c.put_rest.new.findings b' h.front a h.came (records_at reads bytes c.next.new.self.place) in
    record {
      batch = record {
        few = omega (arith, l.invariant.batch.few, accepted-one K s l.place (view l.self) c.in-Some.event l.moves _ a c.put_rest.new.moves _ b' h.came);
        within = omega (arith, h.fits, c.put_rest.auto.findings);
      };
      bytes = c.in_ok-event.ensures.bytes ∙ l.invariant.bytes;
      here = c.record_start-place-in-Some.ensures;
      came = same-on _ _ all (subst (λ rs. SameAs (left_by K s b' c.put_rest.new.moves c.put_rest.new.findings (record { accepted = l.done.accepted + 1; findings = l.done.findings + a.findings; refusal = l.done.refusal }) (records_at reads bytes c.next.new.self.place)) (left_by K s (view l.self) l.moves l.findings l.done rs)) here more) l.invariant.came;
    }

pub returns : goal.returns
returns g c =
    let K = values_by g.S.Of.Ord.cmp g.S.Of.Value.blank g.S.Of.Value.reads in
    let s = view_of c.args.sheet.now in
    let reads = g.S.Of.Value.reads in
    let view = book_view g.S.Shelf.items g.S.Shelf.limit in
    let l = c.loop-event in
    let bytes = c.args.reader.now.bytes.now in
    let all = left_by K s (view c.args.self.now) c.args.moves.now c.args.findings.now c.args.done.now (records_at reads bytes c.args.reader.now.place) in
    let r = read_none reads bytes l.reader.place (ap (λ o. Ok o) (sym c.in_default.is) ∙ c.in_ok-event.ensures.answer ∙ ap (λ bs. (next_at reads bs.now l.reader.place).answer) l.invariant.bytes) in
    same-on _ _ all (subst (λ rs. SameAs (ended_by (Ok tt) (view l.self) l.moves l.findings l.done) (left_by K s (view l.self) l.moves l.findings l.done rs)) (sym r) (left-done K s (view l.self) l.moves l.findings l.done)) l.invariant.came
