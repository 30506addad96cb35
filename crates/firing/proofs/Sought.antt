-- Looking for an item of a pattern: what the walk over a shelf keeps.
use Rattle.std.proofs.Common.{◌≡◌, ℕ, Bool, true, false, ◌||◌, List, [], ◌∷◌, Some, None, Option, Ordering, sym, refl, ap, ◌∙◌, ⊎_elim}
use Rattle.std.proofs.lemmas.Bool.{and_parts, and_from, cases_Bool, false≢true}
use Rattle.values.specs.Order.{TotalOrder}
use Rattle.records.specs.declared.event.Event.{Event}
use Rattle.items.specs.Ascending.{kept, ascends}
use Rattle.items.specs.Items.{agrees, item_order, next_of, wanted, named}
use Rattle.items.specs.declared.item.Item.{Item}
use Rattle.items.proofs.Next.{kept-none, rest_more}
use Rattle.sheets.specs.Tables.{SheetModel, argument_list, first_argument}
use Rattle.sheets.specs.Words.{some}
use Rattle.sheets.specs.declared.tables.Arguments.{Arguments}
use Rattle.sheets.specs.declared.tables.Arguments.TheVariants.{Nothing, One, Two, Three}
use Rattle.sheets.specs.declared.tables.Pattern.{Pattern}
use Rattle.sheets.specs.declared.tables.Row.{Row}
use Rattle.rules.specs.Kinds.{ValueKind}
use Rattle.rules.specs.Step.{all_agree, argument_value, is_of, values_in}
use Rattle.firing.specs.At.{first_value}

-- what each sought element passes may be kept first
pub some-kept : {X : Type 0} (p q : X → Bool) → ((x : X) → p x ≡ true → q x ≡ true) → (xs : List X) → some p (kept q xs) ≡ some p xs
some-kept p q h [] = refl
some-kept p q h (x ∷ xs) =
    let r = some-kept p q h xs in
    ⊎_elim
    (λ (f : q x ≡ true). rw f (ap (λ b. p x || b) r))
    (λ (f : q x ≡ false). ⊎_elim (λ (e : p x ≡ true). absurd (false≢true (sym f ∙ h x e))) (λ (e : p x ≡ false). rw (f, e) r) (cases_Bool (p x)))
    (cases_Bool (q x))

module _ {V : Type 0} (K : ValueKind V) (s : SheetModel V) (e : Event V) (x : Item V) (row : Row) where
  -- an item that agrees with all arguments agrees with the first
  first-agrees : (given : Arguments) (y : Item V) → all_agree K s e x row (argument_list given) (values_in y) ≡ true → agrees K.order (first_value (argument_value K s e x row) (first_argument given)) y.first ≡ true
  first-agrees Nothing y h = refl
  first-agrees (One a) y h = (and_parts _ _ h).0
  first-agrees (Two a b) y h = (and_parts _ _ h).0
  first-agrees (Three a b c) y h = (and_parts _ _ h).0

  -- an item of the pattern is of its name and of its first value
  of-wanted : (p : Pattern) (y : Item V) → is_of K s e x row p y ≡ true → wanted K.order p.state (first_value (argument_value K s e x row) (first_argument p.arguments)) None y ≡ true
  of-wanted p y h =
      let b = and_parts (named p.state y) _ h in
      and_from _ _ b.0 (and_from _ _ (first-agrees p.arguments y b.1) refl)

  -- so the walk over those loses none
  pub sought-start : (p : Pattern) (f : Option V) → f ≡ first_value (argument_value K s e x row) (first_argument p.arguments) → (xs : List (Item V)) → some (is_of K s e x row p) (kept (wanted K.order p.state f None) xs) ≡ some (is_of K s e x row p) xs
  sought-start p f i xs = some-kept (is_of K s e x row p) (wanted K.order p.state f None) (λ y h. rw i (of-wanted p y h)) xs

-- the items still to come, where `next` was asked for a name, a first value and above an item
module _ {V : Type 0} {order : V → V → Ordering} (t : TotalOrder order) (n : ℕ) (f : Option V) (a : Option (Item V)) (xs : List (Item V)) where
  module _ (p : Item V → Bool) (so_far : some p (kept (wanted order n f a) xs) ≡ some p xs) where
    pub sought-more : ascends (item_order order) xs ≡ true → (y : Item V) → Some y ≡ next_of order n f a xs → some p xs ≡ (p y || some p (kept (wanted order n f (Some y)) xs))
    sought-more u y e = sym so_far ∙ ap (some p) (rest_more t n f a xs u y (sym e))

    pub sought-found : ascends (item_order order) xs ≡ true → (y : Item V) → Some y ≡ next_of order n f a xs → true ≡ p y → true ≡ some p xs
    sought-found u y e h = sym (sought-more u y e ∙ ap (λ b. b || some p (kept (wanted order n f (Some y)) xs)) (sym h))

    pub sought-on : ascends (item_order order) xs ≡ true → (y : Item V) → Some y ≡ next_of order n f a xs → false ≡ p y → some p (kept (wanted order n f (Some y)) xs) ≡ some p xs
    sought-on u y e h = sym (sought-more u y e ∙ ap (λ b. b || some p (kept (wanted order n f (Some y)) xs)) (sym h))

    pub sought-none : None ≡ next_of order n f a xs → false ≡ some p xs
    sought-none e = ap (some p) (sym (kept-none (wanted order n f a) xs (sym e))) ∙ so_far
