use Rattle.std.proofs.Common.{get_or, refl, ap, ◌∙◌, arith}
use Rattle.rules.specs.Book.{count_in}
use Rattle.rules.specs.Tallies.{no_tally}
use Rattle.rules.proofs.Likeness.{made_alike}
use Rattle.books.proofs.book.Book.new.Goals as goal

pub invariant_of-result : goal.invariant_of-result
invariant_of-result g c =
    let a = made_alike 32 (g.S.Shelf.items c.args.shelf) (g.S.Shelf.limit c.args.shelf) in
    record { few = omega arith; counts = λ k n h. omega (arith, ap (λ ts. count_in (get_or ts n no_tally) k) c.no_tallies.ensures ∙ a.counts k n h) }

pub returns : goal.returns
returns g c =
    let F = g.S.Shelf.items c.args.shelf in
    let l = g.S.Shelf.limit c.args.shelf in
    let a = made_alike 32 F l in
    record {
      made = record {
        phase = refl;
        accepted = refl;
        items = refl;
        limit = refl;
        counts = λ k n h. ap (λ ts. count_in (get_or ts n no_tally) k) c.no_tallies.ensures ∙ a.counts k n h;
      };
    }
