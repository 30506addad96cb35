use Rattle.std.proofs.Common.{◌≡◌, length, sym, ap, ◌∙◌, arith}
use Rattle.std.proofs.lemmas.Bool.{cond-true}
use Rattle.items.specs.Ascending.{placed}
use Rattle.items.specs.Items.{add_answer, after_add, item_order}
use Rattle.rules.specs.Book.{plain_item}
use Rattle.rules.specs.Kinds.{values_by}
use Rattle.rules.proofs.Shelving.{add-places}
use Rattle.opening.specs.Starts.{started_with}
use Rattle.opening.proofs.starts.start_one.Goals as goal

pub returns-then-state : goal.returns-then-state
returns-then-state g c =
    let K = values_by g.S.Of.Ord.cmp g.S.Of.Value.blank g.S.Of.Value.reads in
    let x = plain_item K c.args.name in
    let xs = g.S.Shelf.items c.args.shelf.now in
    let i : started_with K c.args.name c.args.state.now xs ≡ placed (item_order g.S.Of.Ord.cmp) x xs = cond-true _ _ _ c.if-state.true in
    let p = add-places K g.met.S.Of.Value.total (g.S.Shelf.limit c.args.shelf.now) x xs (g.met.S.Shelf.ascending c.args.shelf.now) (omega (arith, ap length i, c.requires.room)) in
    record { limit = c.add.ensures.limit; items = c.add.ensures.items ∙ ap (λ a. after_add g.S.Of.Ord.cmp a c.plain_item.result xs) c.add.ensures.answer ∙ ap (λ y. after_add g.S.Of.Ord.cmp (add_answer g.S.Of.Ord.cmp (g.S.Shelf.limit c.args.shelf.now) y xs) y xs) c.plain_item.ensures ∙ p ∙ sym i }
