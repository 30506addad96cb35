use Rattle.std.proofs.Common.{◌≡◌, ◌==◌, length, sym, ap, ◌∙◌, subst, arith, slice_get, IfSome}
use Rattle.std.proofs.lemmas.Bool.Decides.{nat_tests}
use Rattle.std.proofs.lemmas.Grind.{common_steps}
use Rattle.std.proofs.lemmas.List.Sums.{fails_before_first}
use Rattle.std.specs.List.{position_or_len}
use Rattle.std.specs.Option.{unwrap_or}
use Rattle.answers.specs.Shown.{untouched_name}
use Rattle.answers.proofs.Places.{passes_there, place_or_all}
use Rattle.answers.proofs.moves.written.Goals as goal

pub returns-clause-written : goal.returns-clause-written
returns-clause-written g c =
    let ms = c.args.moves.now in
    let e : c.unwrap_or.result ≡ position_or_len (λ m. m.item.name == untouched_name) ms = c.unwrap_or.ensures ∙ ap (λ o. unwrap_or o (length ms)) c.first_untouched.ensures ∙ place_or_all (λ m. m.item.name == untouched_name) ms in
    grind (arith, common_steps, nat_tests, fails_before_first (λ m. m.item.name == untouched_name) ms, e)

pub returns-clause-untouched : goal.returns-clause-untouched
returns-clause-untouched g c =
    let ms = c.args.moves.now in
    let e : c.unwrap_or.result ≡ position_or_len (λ m. m.item.name == untouched_name) ms = c.unwrap_or.ensures ∙ ap (λ o. unwrap_or o (length ms)) c.first_untouched.ensures ∙ place_or_all (λ m. m.item.name == untouched_name) ms in
    subst (λ i. IfSome (slice_get ms i) (λ m. m.item.name ≡ untouched_name)) (sym e) (passes_there (λ m. m.item.name == untouched_name) _ (λ m h. grind (arith, nat_tests, h)) ms)
