-- One step of a walk.
use Rattle.std.proofs.Common.{◌≡◌, ℕ, ◌<◌, ◌≤◌, Bool, true, false, List, map, length, get_or, Some, None, Ordering, Less, sym, ap, ◌∙◌, arith}
use Rattle.items.specs.Ascending.{first_of}
use Rattle.items.proofs.Orders.{by_answer}
use Rattle.indexed.specs.Links.{reached, last_of, front}
use Rattle.indexed.specs.Index.{Walkable}
use Rattle.indexed.proofs.Seek.{reached-more, reached-end}

module _ (long : ℕ) (ls : List ℕ) (lim a : ℕ) (w : Walkable long ls lim a) where
  pub last_end : (p : ℕ → Ordering) → lim ≤ get_or ls a 0 → last_of a (front p (reached ls lim a lim)) ≡ a
  last_end p h = rw (reached-end ls lim a h)

  pub first-end : {X : Type 0} (f : ℕ → X) (v : X → Bool) → lim ≤ get_or ls a 0 → first_of v (map f (reached ls lim a lim)) ≡ None
  first-end f v h = rw (reached-end ls lim a h)

  module _ (h : get_or ls a 0 < lim) where
    pub walk-on : Walkable long ls lim (get_or ls a 0)
    walk-on = record { starts = omega (arith, w.links_reach); links_reach = w.links_reach; cells_reach = w.cells_reach; ends = (reached-more ls lim a w.ends h).1 }

    pub walk-less : length (reached ls lim (get_or ls a 0) lim) < length (reached ls lim a lim)
    walk-less = let e = ap length (reached-more ls lim a w.ends h).0 in omega arith

    pub last_on : (p : ℕ → Ordering) → p (get_or ls a 0) ≡ Less → last_of (get_or ls a 0) (front p (reached ls lim (get_or ls a 0) lim)) ≡ last_of a (front p (reached ls lim a lim))
    last_on p e = sym (ap (λ l. last_of a (front p l)) (reached-more ls lim a w.ends h).0 ∙ simp e)

    pub last-here : (p : ℕ → Ordering) → (p (get_or ls a 0) ≡ Less → ⊥) → last_of a (front p (reached ls lim a lim)) ≡ a
    last-here p n =
        ap (λ l. last_of a (front p l)) (reached-more ls lim a w.ends h).0
        ∙ by_answer (p (get_or ls a 0)) (λ e. absurd (n e)) (λ e. simp e) (λ e. simp e)

    pub first_on : {X : Type 0} (f : ℕ → X) (v : X → Bool) → v (f (get_or ls a 0)) ≡ false → first_of v (map f (reached ls lim (get_or ls a 0) lim)) ≡ first_of v (map f (reached ls lim a lim))
    first_on f v e = sym (ap (λ l. first_of v (map f l)) (reached-more ls lim a w.ends h).0 ∙ simp e)

    pub first-here : {X : Type 0} (f : ℕ → X) (v : X → Bool) → v (f (get_or ls a 0)) ≡ true → first_of v (map f (reached ls lim a lim)) ≡ Some (f (get_or ls a 0))
    first-here f v e = ap (λ l. first_of v (map f l)) (reached-more ls lim a w.ends h).0 ∙ simp e
