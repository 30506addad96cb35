-- Under a keyed sheet the counts do not depend on how the keys were mixed.
use Rattle.std.proofs.Common.{◌≡◌, ℕ, ◌+◌, Bool, true, false, List, [], ◌∷◌, Some, None, Option, sym, refl, ap, ◌∙◌, ap₂}
use Rattle.std.specs.List.{AllByRecursion}
use Rattle.values.specs.Order.{TotalOrder}
use Rattle.records.specs.declared.event.Event.{Event}
use Rattle.items.specs.Ascending.{kept}
use Rattle.items.specs.declared.item.Item.{Item}
use Rattle.sheets.specs.Tables.{SheetModel}
use Rattle.rules.specs.Book.{init_items}
use Rattle.rules.specs.Keys.{key_of, is_key, has_key}
use Rattle.rules.specs.Kinds.{ValueKind}
use Rattle.rules.specs.Law.{SoundSheet, KeyedSheet, count_over}
use Rattle.rules.specs.Step.{Count, count_added, moves_at, set_after}
use Rattle.rules.proofs.Effect.{IsSet, read_by, after-own, after-other, counts-own, counts-keyless}
use Rattle.rules.proofs.Mixed.{Cost, sum, matches, costs, Free, mixed}
use Rattle.rules.proofs.Runs.{ascending-after, ascending-inits, key-of}

module _ {V : Type 0} (K : ValueKind V) (T : TotalOrder K.order) (s : SheetModel V) (c : Count) (n : ℕ) where
  abbrev cost : List (Item V) → Event V → ℕ
  cost F e = count_added K c n (moves_at K s F e) F

  bill : List (Item V) → List (Event V) → List (Cost V)
  bill F [] = []
  bill F (e ∷ es) = record { key = key_of s e; cost = cost F e } ∷ bill (set_after K s F e) es

  line : List (Item V) → List (Event V) → List ℕ
  line F [] = []
  line F (e ∷ es) = cost F e ∷ line (set_after K s F e) es

  sum-bill : (F : List (Item V)) (es : List (Event V)) → count_over K s c n F es ≡ sum (bill F es)
  unfolding bill
  sum-bill F [] = refl
  sum-bill F (e ∷ es) = ap (λ m. cost F e + m) (sum-bill (set_after K s F e) es)

  matches-key : (k : V) (o : Option V) → matches K.order T k o ≡ is_key K k o
  matches-key k None = refl
  matches-key k (Some j) = refl

  module _ (sound : SoundSheet s) (keyed : KeyedSheet s) where
    free-bill : (F : List (Item V)) (es : List (Event V)) → IsSet K F → AllByRecursion (Free K.order T) (bill F es)
    unfolding bill
    free-bill F [] a = tt
    free-bill F (e ∷ es) a =
        (λ h. counts-keyless K T s sound keyed F a e h c n, free-bill (set_after K s F e) es (ascending-after K T s F e a))

    bill-slice : (k : V) (F : List (Item V)) (es : List (Event V)) → IsSet K F
        → costs K.order T k (bill F es) ≡ line (kept (read_by K T s k) F) (kept (has_key K s k) es)
    unfolding bill line
    bill-slice k F [] a = refl
    bill-slice k F (e ∷ es) a = go (has_key K s k e) refl (bill-slice k (set_after K s F e) es (ascending-after K T s F e a))
      where
        go : (b : Bool) → has_key K s k e ≡ b
            → costs K.order T k (bill (set_after K s F e) es) ≡ line (kept (read_by K T s k) (set_after K s F e)) (kept (has_key K s k) es)
            → costs K.order T k (bill F (e ∷ es)) ≡ line (kept (read_by K T s k) F) (kept (has_key K s k) (e ∷ es))
        go true f ih =
            rw (matches-key k (key_of s e), f)
            (ap₂ ◌∷◌
            (counts-own K T s sound keyed F a e k (key-of K T s k e f) c n)
            (ih ∙ ap (λ G. line G (kept (has_key K s k) es)) (after-own K T s sound keyed F a e k (key-of K T s k e f))))
        go false f ih =
            rw (matches-key k (key_of s e), f) (ih ∙ ap (λ G. line G (kept (has_key K s k) es)) (after-other K T s sound keyed F a e k f))

    pub same-totals : (es es' : List (Event V)) → ((k : V) → kept (has_key K s k) es ≡ kept (has_key K s k) es')
        → count_over K s c n (init_items K s) es ≡ count_over K s c n (init_items K s) es'
    same-totals es es' h =
        sum-bill start es
        ∙ (mixed K.order T (bill start es) (bill start es') (free-bill start es a) (free-bill start es' a)
        (λ k. bill-slice k start es a ∙ (ap (line (kept (read_by K T s k) start)) (h k) ∙ sym (bill-slice k start es' a)))
        ∙ sym (sum-bill start es'))
      where
        start : List (Item V)
        start = init_items K s

        a : IsSet K start
        a = ascending-inits K T s
