use Rattle.std.proofs.Common.{refl, ap, ◌∙◌, subst, arith}
use Rattle.std.proofs.lemmas.Result.{err_from_is_err_and}
use Rattle.refusals.proofs.Answered.{answered_no, answered_yes}
use Rattle.rules.specs.Kinds.{values_by}
use Rattle.rules.specs.Step.{how_many}
use Rattle.sheets.specs.View.{view_of}
use Rattle.opening.specs.Starts.{is_init}
use Rattle.books.specs.Opens.{Opened}
use Rattle.books.specs.View.{book_view}
use Rattle.books.proofs.Openings.{empty-list, open-refused, open-taken}
use Rattle.books.proofs.book.Book.open.Goals as goal

pub start-requires : goal.start-requires
start-requires g c =
    let may = c.in_ok-judge_open.ensures.may in
    record {
      phase = may.blank;
      empty = empty-list _ (omega (arith, may.empty, c.count.ensures));
      few = c.states-states.ensures.few;
      room = omega (arith, may.room, c.limit.ensures, c.count_inits.ensures);
    }

pub returns-in_err-judge_open : goal.returns-in_err-judge_open
returns-in_err-judge_open g c =
    let K = values_by g.S.Of.Ord.cmp g.S.Of.Value.blank g.S.Of.Value.reads in
    let s = view_of c.args.sheet.now in
    let b = book_view g.S.Shelf.items g.S.Shelf.limit c.args.self.now in
    let inits = c.count_inits.ensures ∙ ap (how_many is_init) c.states-states.ensures.value in
    let p = err_from_is_err_and c.from_residual.result c.from_residual.ensures.1 in
    rw (p.1, p.2) (record { served = open-refused K s b c.count.result c.limit.result c.count_inits.result c.count.ensures c.limit.ensures inits _ (answered_no _ _ c.in_err-judge_open.ensures.answer) })

pub returns : goal.returns
returns g c =
    let K = values_by g.S.Of.Ord.cmp g.S.Of.Value.blank g.S.Of.Value.reads in
    let s = view_of c.args.sheet.now in
    let b = book_view g.S.Shelf.items g.S.Shelf.limit c.args.self.now in
    let b' = book_view g.S.Shelf.items g.S.Shelf.limit c.start.new.self in
    let inits = c.count_inits.ensures ∙ ap (how_many is_init) c.states-states.ensures.value in
    record {
      served = open-taken K s b c.count.result c.limit.result c.count_inits.result c.count.ensures c.limit.ensures inits b' (answered_yes _ c.in_ok-judge_open.ensures.answer) (subst (λ ds. Opened K ds b b') c.states-states.ensures.value c.start.ensures.opened);
    }
