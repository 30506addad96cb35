-- What the items of a shelf give, name by name, and what is left out of a walk.
use Rattle.std.proofs.Common.{◌≡◌, ℕ, ◌+◌, Bool, true, false, List, [], ◌∷◌, ◌++◌, Some, None, Option, Ordering, sym, refl, ap, ◌∙◌, ⊎_elim}
use Rattle.std.proofs.lemmas.List.{append_assoc}
use Rattle.std.proofs.lemmas.Bool.{cases_Bool}
use Rattle.std.specs.List.{flat_map}
use Rattle.values.specs.Order.{TotalOrder}
use Rattle.items.specs.Ascending.{ascends, kept}
use Rattle.items.specs.Items.{from_name, item_order, named, next_of, wanted}
use Rattle.items.specs.declared.item.Item.{Item}
use Rattle.items.proofs.Names.{names_more, names-start}
use Rattle.items.proofs.Next.{kept-none, rest_more}

module _ {A X : Type 0} (g : A → List X) where
  pub joined-append : (xs ys : List A) → flat_map g (xs ++ ys) ≡ flat_map g xs ++ flat_map g ys
  joined-append [] ys = refl
  joined-append (x ∷ xs) ys = ap (λ l. g x ++ l) (joined-append xs ys) ∙ sym (append_assoc (g x) (flat_map g xs) (flat_map g ys))

  -- those of p that are left out by q give nothing
  pub joined-narrow : (p q : A → Bool) → ((x : A) → q x ≡ true → p x ≡ true) → ((x : A) → p x ≡ true → q x ≡ false → g x ≡ []) → (xs : List A) → flat_map g (kept q xs) ≡ flat_map g (kept p xs)
  joined-narrow p q within none [] = refl
  joined-narrow p q within none (x ∷ xs) =
      let r = joined-narrow p q within none xs in
      ⊎_elim
      (λ (b : q x ≡ true). rw (b, within x b) (ap (λ l. g x ++ l) r))
      (λ (b : q x ≡ false). ⊎_elim (λ (a : p x ≡ true). rw (b, a, none x a b) r) (λ (a : p x ≡ false). rw (b, a) r) (cases_Bool (p x)))
      (cases_Bool (q x))

  pub joined-none : (p : A → Bool) → ((x : A) → p x ≡ true → g x ≡ []) → (xs : List A) → flat_map g (kept p xs) ≡ []
  joined-none p none [] = refl
  joined-none p none (x ∷ xs) =
      let r = joined-none p none xs in
      ⊎_elim (λ (a : p x ≡ true). rw (a, none x a) r) (λ (a : p x ≡ false). rw a r) (cases_Bool (p x))

module _ {V : Type 0} (order : V → V → Ordering) where
  module _ {X : Type 0} (g : Item V → List X) (xs : List (Item V)) where
    pub joined-start : flat_map g (kept (from_name 0) xs) ≡ flat_map g xs
    joined-start = ap (flat_map g) (names-start xs)

    -- what the items from a name on give: those of the name first
    pub joined-names : (k : ℕ) → ascends (item_order order) xs ≡ true → flat_map g (kept (from_name k) xs) ≡ flat_map g (kept (named k) xs) ++ flat_map g (kept (from_name (k + 1)) xs)
    joined-names k a = ap (flat_map g) (names_more order k xs a) ∙ joined-append g (kept (named k) xs) (kept (from_name (k + 1)) xs)

    -- what the items still to come give, after one that `next` answered, or none
    pub listed_more : (t : TotalOrder order) (n : ℕ) (f : Option V) (above : Option (Item V)) → ascends (item_order order) xs ≡ true → (y : Item V) → Some y ≡ next_of order n f above xs → flat_map g (kept (wanted order n f above) xs) ≡ g y ++ flat_map g (kept (wanted order n f (Some y)) xs)
    listed_more t n f above a y e = ap (flat_map g) (rest_more t n f above xs a y (sym e))

    pub listed-end : (n : ℕ) (f : Option V) (above : Option (Item V)) → None ≡ next_of order n f above xs → flat_map g (kept (wanted order n f above) xs) ≡ []
    listed-end n f above e = ap (flat_map g) (kept-none (wanted order n f above) xs (sym e))
