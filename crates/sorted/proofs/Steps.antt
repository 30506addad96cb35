-- What the calls find and leave, over the list of items.
use Rattle.std.proofs.Common.{◌≡◌, ℕ, ◌<◌, ◌≤◌, true, false, List, [], ◌∷◌, length, get_or, Ordering, Less, Equal, Greater, refl, sym, ap, ◌∙◌, subst, ⊎_elim, arith}
use Rattle.std.proofs.lemmas.Bool.{cases_lt, false≢true}
use Rattle.std.specs.List.Sorted.{IsPartitionPoint, IsPartitionedBy}
use Rattle.std.specs.List.{insert, remove}
use Rattle.std.specs.Ordering.{is_lt}
use Rattle.values.specs.Order.{TotalOrder}
use Rattle.items.specs.Items.{ByteNames, item_order}
use Rattle.items.specs.Ascending.{leading, ascends, held, placed, without}
use Rattle.items.specs.declared.item.Item.{Item}
use Rattle.items.proofs.Orders.{item-total}
use Rattle.items.proofs.Ascending.{leading-above, leading-below, leading-less, leading-within, placed_at, ascends-placed, without_at, ascends-without}
use Rattle.items.proofs.Kept.{all_placed, all_without}
use Rattle.sorted.specs.Place.{place_of}
use Rattle.sorted.specs.declared.mark.Mark.{Mark}
use Rattle.sorted.specs.declared.mark.Mark.TheVariants.{At}
use Rattle.sorted.proofs.Places.{steady}

is_lt-less : (o : Ordering) → is_lt o ≡ true → o ≡ Less
is_lt-less Less e = refl
is_lt-less Equal e = absurd (false≢true e)
is_lt-less Greater e = absurd (false≢true e)

not-less : (o : Ordering) → is_lt o ≡ false → o ≡ Less → ⊥
not-less o e f = false≢true (sym e ∙ ap is_lt f)

-- where a partition point stands, if there is an element to look at
point : {X : Type 0} (p : X → Ordering) (xs : List X) (i : ℕ) → ((k : ℕ) (d : X) → k < length xs → p (get_or xs k d) ≡ Less → k < leading p xs) → i ≤ length xs
    → IsPartitionPoint (λ y. is_lt (p y) ≡ true) (λ y. is_lt (p y) ≡ false) xs i → i ≡ leading p xs
point p [] i up h r = omega arith
point p (x ∷ xs) i up h r =
    let l = leading-within p (x ∷ xs) in
    ⊎_elim
    (λ (e : i < leading p (x ∷ xs)).
    let b = leading-below p (x ∷ xs) i x (omega arith) (not-less _ (r.1 i x (omega arith) (omega arith))) in omega arith)
    (λ (e : leading p (x ∷ xs) ≤ i). ⊎_elim
    (λ (f : leading p (x ∷ xs) < i).
    let n = leading p (x ∷ xs) in
    let b = up n x (omega arith) (is_lt-less _ (r.0 n x (omega arith) (omega arith))) in omega arith)
    (λ (f : i ≤ leading p (x ∷ xs)). omega arith)
    (cases_lt (leading p (x ∷ xs)) i))
    (cases_lt i (leading p (x ∷ xs)))

module _ {V : Type 0} {order : V → V → Ordering} (t : TotalOrder order) (xs : List (Item V)) (a : ascends (item_order order) xs ≡ true) where
  module _ (x : Item V) (i : ℕ) (e : i ≡ leading (place_of order (At x)) xs) (ys : List (Item V)) where
    pub put_in : x.name < 256 → ByteNames xs → held (item_order order) x xs ≡ false → ys ≡ insert xs i x → (ascends (item_order order) ys ≡ true) × ByteNames ys × (ys ≡ placed (item_order order) x xs)
    put_in w b n q =
        let p : ys ≡ placed (item_order order) x xs = q ∙ ap (λ j. insert xs j x) e ∙ sym (placed_at (item-total t) x xs n) in
        (ap (ascends (item_order order)) p ∙ ascends-placed (item-total t) x xs a, subst ByteNames (sym p) (all_placed (item_order order) (λ (y : Item V). y.name < 256) x xs w b), p)

    pub taken_out : ByteNames xs → held (item_order order) x xs ≡ true → ys ≡ remove xs i → (ascends (item_order order) ys ≡ true) × ByteNames ys × (ys ≡ without (item_order order) x xs)
    taken_out b n q =
        let p : ys ≡ without (item_order order) x xs = q ∙ ap (remove xs) e ∙ sym (without_at (item-total t) x xs a n) in
        (ap (ascends (item_order order)) p ∙ ascends-without (item-total t) x xs a, subst ByteNames (sym p) (all_without (item_order order) (λ (y : Item V). y.name < 256) x xs b), p)

  module _ (m : Mark V) where
    -- those that stand before the mark come first
    pub parted : IsPartitionedBy (λ y. is_lt (place_of order m y)) xs
    parted i j d h k e =
        let n = leading-above (item-total t) (steady t m) xs j d a k (is_lt-less _ e) in
        ap is_lt (leading-less (place_of order m) xs i d (omega arith))

    pub sought : (i : ℕ) → i ≤ length xs → IsPartitionPoint (λ y. is_lt (place_of order m y) ≡ true) (λ y. is_lt (place_of order m y) ≡ false) xs i → i ≡ leading (place_of order m) xs
    sought i h r = point (place_of order m) xs i (λ k d. leading-above (item-total t) (steady t m) xs k d a) h r
