use Rattle.std.proofs.Common.{◌<◌, length, sym, refl, ap, ◌∙◌, subst, arith}
use Rattle.std.proofs.lemmas.Result.{err_from_is_err_and}
use Rattle.refusals.proofs.Answered.{answered_no, answered_yes}
use Rattle.rules.specs.Book.{ended_book}
use Rattle.rules.specs.Kinds.{values_by}
use Rattle.rules.specs.Phases.{phase_after}
use Rattle.rules.specs.declared.phase.PhaseCall.TheVariants as call
use Rattle.sheets.specs.View.{view_of}
use Rattle.buffers.specs.Places.{capped, fill, last_place}
use Rattle.books.specs.Ends.{hot_by}
use Rattle.books.specs.View.{book_view}
use Rattle.books.proofs.Endings.{end_refused, end-taken}
use Rattle.books.proofs.Takes.{Most}
use Rattle.books.proofs.book.Book.end.Goals as goal

pub returns-in_err-judge_end : goal.returns-in_err-judge_end
returns-in_err-judge_end g c =
    let K = values_by g.S.Of.Ord.cmp g.S.Of.Value.blank g.S.Of.Value.reads in
    let s = view_of c.args.sheet.now in
    let b = book_view g.S.Shelf.items g.S.Shelf.limit c.args.self.now in
    let small : length c.args.findings.now < last_place = omega (arith, c.well_formed) in
    let counted = c.count_hot-count.ensures ∙ ap (λ ds. capped (length (hot_by ds b.accepted b.items))) c.states.ensures.value in
    let p = err_from_is_err_and c.from_residual.result c.from_residual.ensures.1 in
    rw (p.1, p.2) (record { served = end_refused K s b c.args.findings.now c.count_hot-count.result small counted _ (answered_no _ _ c.in_err-judge_end.ensures.answer) })

pub invariant_of-self : goal.invariant_of-self
invariant_of-self g c =
    let b = c.args.self.now in
    let may = c.in_ok-judge_end.ensures.may in
    let ended = c.advance.ensures.phase ∙ ap (λ p. phase_after p call.End) may.«open» in
    record { few = b.few; counts = subst (λ p. Most p b.accepted b.tallies) (sym ended) (subst (λ p. Most p b.accepted b.tallies) may.«open» b.counts) }

pub returns : goal.returns
unfolding ended_book
returns g c =
    let K = values_by g.S.Of.Ord.cmp g.S.Of.Value.blank g.S.Of.Value.reads in
    let s = view_of c.args.sheet.now in
    let b = book_view g.S.Shelf.items g.S.Shelf.limit c.args.self.now in
    let small : length c.args.findings.now < last_place = omega (arith, c.well_formed) in
    let counted = c.count_hot-count.ensures ∙ ap (λ ds. capped (length (hot_by ds b.accepted b.items))) c.states.ensures.value in
    let may = c.in_ok-judge_end.ensures.may in
    let ended = c.advance.ensures.phase ∙ ap (λ p. phase_after p call.End) may.«open» in
    record {
      served = end-taken K s b c.args.findings.now c.count_hot-count.result small counted (answered_yes _ c.in_ok-judge_end.ensures.answer) may.fits c.listed_into.new.out (c.listed_into.ensures.out ∙ ap (λ ds. fill c.args.findings.now 0 (hot_by ds b.accepted b.items)) c.states.ensures.value) _ (record { phase = ended; accepted = refl; items = refl; limit = refl; counts = λ k n l. refl });
    }
