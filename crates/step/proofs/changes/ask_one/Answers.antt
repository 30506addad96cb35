use Rattle.std.proofs.Common.{◌≡◌, length, sym, ap, ◌∙◌, arith}
use Rattle.std.proofs.lemmas.Bool.{cond-false}
use Rattle.items.specs.Ascending.{placed}
use Rattle.items.specs.Items.{after_add, item_order}
use Rattle.step.specs.Sets.{in_by}
use Rattle.step.proofs.SetSteps.{added-placed}
use Rattle.step.proofs.changes.ask_one.Goals as goal

pub returns-then-not-takes_out : goal.returns-then-not-takes_out
returns-then-not-takes_out g c =
    let xs = g.S.Shelf.items c.args.shelf.now in
    let i : in_by g.V.Ord.cmp c.args.change.now xs ≡ placed (item_order g.V.Ord.cmp) c.args.change.now.item xs = cond-false _ _ _ (sym c.if-not-takes_out.ensures) in
    let p = added-placed g.met.V.Value.total c.args.change.now.item (g.S.Shelf.limit c.args.shelf.now) xs (g.met.S.Shelf.ascending c.args.shelf.now) (omega (arith, ap length i, c.requires.room)) in
    record { limit = c.add.ensures.limit; items = c.add.ensures.items ∙ ap (λ a. after_add g.V.Ord.cmp a c.args.change.now.item xs) c.add.ensures.answer ∙ p ∙ sym i }
