-- What the items of a name give, where the walk keeps to the event's scope.
use Rattle.std.proofs.Common.{◌≡◌, ℕ, Bool, true, false, ◌&&◌, List, [], Some, None, Option, Ordering, sym, refl}
use Rattle.std.proofs.lemmas.Bool.{and_parts, both_ways, eqb-true, not_from_false}
use Rattle.std.specs.List.{flat_map}
use Rattle.items.specs.Ascending.{kept}
use Rattle.items.specs.Items.{agrees, wanted, named}
use Rattle.items.specs.declared.item.Item.{Item}
use Rattle.step.specs.Scopes.{skipped}
use Rattle.step.specs.declared.scope.Scope.TheVariants.{Only, Nothing}
use Rattle.step.proofs.Walks.{joined-narrow, joined-none}

module _ {V X : Type 0} (order : V → V → Ordering) (f : Item V → List X) (n : ℕ) (xs : List (Item V)) where
  -- a first value is given, or not
  listed-named : (v : Option V) → ((x : Item V) → named n x ≡ true → agrees order v x.first ≡ false → f x ≡ []) → flat_map f (kept (wanted order n v None) xs) ≡ flat_map f (kept (named n) xs)
  listed-named v none =
      joined-narrow f (named n) (wanted order n v None) (λ x h. (and_parts (named n x) _ h).0)
      (λ x a b. none x a (left (named n x) (agrees order v x.first) a b)) xs
    where
      left : (p q : Bool) → p ≡ true → (p && (q && true)) ≡ false → q ≡ false
      left true true a b = b
      left true false a b = refl
      left false q a b = absurd (both_ways false refl a)

  pub only-named : (v : V) → ((x : Item V) → x.name ≡ n → skipped order (Only v) x ≡ true → f x ≡ []) → flat_map f (kept (wanted order n (Some v) None) xs) ≡ flat_map f (kept (named n) xs)
  only-named v none = listed-named (Some v) (λ x a b. none x (eqb-true x.name n a) (not_from_false (agrees order (Some v) x.first) b))

  pub nothing-named : ((x : Item V) → x.name ≡ n → skipped order Nothing x ≡ true → f x ≡ []) → [] ≡ flat_map f (kept (named n) xs)
  nothing-named none = sym (joined-none f (named n) (λ x a. none x (eqb-true x.name n a) refl) xs)
