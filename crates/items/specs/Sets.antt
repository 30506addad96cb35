-- What putting in, taking out and finding mean for a set that is told as an ascending list.
use Rattle.std.specs.Prelude.{◌≡◌, Bool, true, false, ◌&&◌, ◌||◌, List, Some, None, ◌≢◌}
use Rattle.std.specs.declared.cmp.Ordering.TheVariants.{Less}
use Rattle.std.specs.declared.cmp.Ordering.{Ordering}
use Rattle.std.specs.Ordering.{is_eq, is_ne}
use Rattle.items.specs.Ascending.{first_of, ascends, held, placed, without}

-- what putting in, taking out and looking for the next mean for who is held
pub record SetMeaning {X : Type 0} (order : X → X → Ordering) : Type 0 where
  -- once x is put in, x is held, and what was held before
  pub put_in : (x z : X) (xs : List X) → held order z (placed order x xs) ≡ (is_eq (order z x) || held order z xs)
  -- once x is taken out, what was held before is held but for x
  pub taken_out : (x z : X) (xs : List X) → ascends order xs ≡ true → held order z (without order x xs) ≡ (is_ne (order z x) && held order z xs)
  -- the list still ascends, so that nothing stands in it twice
  pub put_ascends : (x : X) (xs : List X) → ascends order xs ≡ true → ascends order (placed order x xs) ≡ true
  pub out_ascends : (x : X) (xs : List X) → ascends order xs ≡ true → ascends order (without order x xs) ≡ true
  -- what is found is held and passes the test
  pub is_held : (w : X → Bool) (y : X) (xs : List X) → first_of w xs ≡ Some y → held order y xs ≡ true
  pub passes : (w : X → Bool) (y : X) (xs : List X) → first_of w xs ≡ Some y → w y ≡ true
  -- nothing less is held and passes the test
  pub least : (w : X → Bool) (y z : X) (xs : List X) → ascends order xs ≡ true → first_of w xs ≡ Some y → held order z xs ≡ true → w z ≡ true → order z y ≢ Less
  -- where nothing is found, nothing that is held passes the test
  pub nothing : (w : X → Bool) (z : X) (xs : List X) → first_of w xs ≡ None → held order z xs ≡ true → w z ≡ false
