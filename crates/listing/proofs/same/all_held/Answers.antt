use Rattle.std.proofs.Common.{◌∙◌, rules, tests}
use Rattle.std.proofs.lemmas.Iterator.Search.{all_from_yields_List}
use Rattle.listing.proofs.AllNames.{held_named, held-names, yields-names}
use Rattle.listing.proofs.same.all_held.Goals as goal

pub returns : goal.returns
returns g c =
    let xs = g.S.Shelf.items c.args.left.now in
    let ys = g.T.Shelf.items c.args.other.now in
    let asc = g.met.S.Shelf.ascending c.args.left.now in
    let bytes = g.met.S.Shelf.bytes c.args.left.now in
    all_from_yields_List (held_named g.V.Ord.cmp xs ys asc bytes) _ _ _ c.all.ensures.ran (yields-names c.new.ensures.start c.new.ensures.end c.new.ensures.exhausted) (λ x b q k. search (rules, tests))
    ∙ held-names g.V.Ord.cmp xs ys asc bytes
