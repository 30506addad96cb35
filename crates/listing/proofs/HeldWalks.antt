-- Whether one shelf holds each item of another: what the walks keep.
use Rattle.std.proofs.Common.{◌≡◌, ℕ, Bool, true, false, ◌&&◌, List, Some, None, Option, Ordering, sym, ap, ◌∙◌}
use Rattle.values.specs.Order.{TotalOrder}
use Rattle.items.specs.Ascending.{ascends, held, kept}
use Rattle.items.specs.Items.{item_order, named, next_of, wanted}
use Rattle.items.specs.declared.item.Item.{Item}
use Rattle.items.proofs.Next.{kept-none, rest_more}
use Rattle.listing.specs.Listed.{all_held}
use Rattle.listing.proofs.Lists.{wanted-named}

-- over the items of a name, those still to come; the answer for them is that for all
module _ {V : Type 0} {order : V → V → Ordering} (t : TotalOrder order) (n : ℕ) (above : Option (Item V)) (xs ys : List (Item V)) (all : Bool) (so_far : all_held (item_order order) (kept (wanted order n None above) xs) ys ≡ all) where
  module _ (a : ascends (item_order order) xs ≡ true) (y : Item V) (e : Some y ≡ next_of order n None above xs) where
    item-first : (held (item_order order) y ys && all_held (item_order order) (kept (wanted order n None (Some y)) xs) ys) ≡ all
    item-first = ap (λ l. all_held (item_order order) l ys) (sym (rest_more t n None above xs a y (sym e))) ∙ so_far

    pub item-missing : false ≡ held (item_order order) y ys → false ≡ all
    item-missing h = ap (λ b. b && all_held (item_order order) (kept (wanted order n None (Some y)) xs) ys) h ∙ item-first

    pub item-there : true ≡ held (item_order order) y ys → all_held (item_order order) (kept (wanted order n None (Some y)) xs) ys ≡ all
    item-there h = ap (λ b. b && all_held (item_order order) (kept (wanted order n None (Some y)) xs) ys) h ∙ item-first

  pub items-done : None ≡ next_of order n None above xs → true ≡ all
  items-done e = ap (λ l. all_held (item_order order) l ys) (sym (kept-none (wanted order n None above) xs (sym e))) ∙ so_far

module _ {V : Type 0} (order : V → V → Ordering) (xs ys : List (Item V)) where
  pub items-start : (n : ℕ) → all_held (item_order order) (kept (wanted order n None None) xs) ys ≡ all_held (item_order order) (kept (named n) xs) ys
  items-start n = ap (λ l. all_held (item_order order) l ys) (wanted-named order n xs)
