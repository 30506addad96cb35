use Rattle.std.proofs.Common.{◌≡◌, ◌<◌, length, None, refl, ap, arith}
use Rattle.std.proofs.lemmas.Bool.{false≢true}
use Rattle.std.proofs.lemmas.Result.{err_from_is_err_and}
use Rattle.refusals.proofs.Answered.{answered_no, answered_yes}
use Rattle.buffers.specs.Places.{last_place}
use Rattle.firing.specs.At.{event_in, sheet_in}
use Rattle.rules.specs.Kinds.{values_by}
use Rattle.rules.specs.Step.{new_set, set_after}
use Rattle.books.specs.View.{book_view}
use Rattle.books.proofs.Takes.{came-taken, came_refused, pad-front}
use Rattle.books.proofs.book.Book.take.Goals as goal

pub returns-in_err-judge_late : goal.returns-in_err-judge_late
returns-in_err-judge_late g c =
    let K = values_by g.S.Of.Ord.cmp g.S.Of.Value.blank g.S.Of.Value.reads in
    let z = c.survey-sizes.result in
    let v = c.survey-sizes.ensures in
    let b = book_view g.S.Shelf.items g.S.Shelf.limit c.args.self.now in
    let short : length c.args.moves.now < last_place = omega (arith, c.well_formed) in
    let small : length c.args.findings.now < last_place = omega (arith, c.well_formed) in
    let p = err_from_is_err_and c.from_residual.result c.from_residual.ensures.1 in
    rw (p.1, p.2) (record { came = came_refused K (sheet_in c.args.at.now) c.args.place b (event_in c.args.at.now) c.args.moves.now c.args.findings.now c.survey-sizes.new.moves z.moves z.findings short small v.out v.moved v.found _ (answered_no _ _ c.in_err-judge_late.ensures.answer) })

pub accept-requires-clause-moves : goal.accept-requires-clause-moves
accept-requires-clause-moves g c =
    let K = values_by g.S.Of.Ord.cmp g.S.Of.Value.blank g.S.Of.Value.reads in
    let z = c.survey-sizes.result in
    let v = c.survey-sizes.ensures in
    let b = book_view g.S.Shelf.items g.S.Shelf.limit c.args.self.now in
    let short : length c.args.moves.now < last_place = omega (arith, c.well_formed) in
    let small : length c.args.findings.now < last_place = omega (arith, c.well_formed) in
    pad-front K (sheet_in c.args.at.now) c.args.place b (event_in c.args.at.now) c.args.moves.now c.args.findings.now c.survey-sizes.new.moves z.moves z.findings short small v.out v.moved v.found c.in_ok-judge_late.ensures.fits.moved

pub accept-requires-clause-room : goal.accept-requires-clause-room
unfolding set_after
accept-requires-clause-room g c =
    let K = values_by g.S.Of.Ord.cmp g.S.Of.Value.blank g.S.Of.Value.reads in
    let z = c.survey-sizes.result in
    let v = c.survey-sizes.ensures in
    let b = book_view g.S.Shelf.items g.S.Shelf.limit c.args.self.now in
    let short : length c.args.moves.now < last_place = omega (arith, c.well_formed) in
    let small : length c.args.findings.now < last_place = omega (arith, c.well_formed) in
    let front = pad-front K (sheet_in c.args.at.now) c.args.place b (event_in c.args.at.now) c.args.moves.now c.args.findings.now c.survey-sizes.new.moves z.moves z.findings short small v.out v.moved v.found c.in_ok-judge_late.ensures.fits.moved in
    omega (arith, c.in_ok-judge_late.ensures.fits.held, ap (λ l. length (new_set K l b.items)) front)

pub returns : goal.returns
returns g c =
    let K = values_by g.S.Of.Ord.cmp g.S.Of.Value.blank g.S.Of.Value.reads in
    let z = c.survey-sizes.result in
    let v = c.survey-sizes.ensures in
    let view = book_view g.S.Shelf.items g.S.Shelf.limit in
    let short : length c.args.moves.now < last_place = omega (arith, c.well_formed) in
    let small : length c.args.findings.now < last_place = omega (arith, c.well_formed) in
    record { came = came-taken K (sheet_in c.args.at.now) c.args.place (view c.args.self.now) (event_in c.args.at.now) c.args.moves.now c.args.findings.now c.survey-sizes.new.moves z.moves z.findings short small v.out v.moved v.found (answered_yes _ c.in_ok-judge_late.ensures.answer) c.in_ok-judge_late.ensures.fits c.accept.new.findings c.accept.ensures.findings (view c.accept.new.self) c.accept.ensures.book }
