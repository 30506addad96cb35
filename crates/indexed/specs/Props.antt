-- That an index is rightly made is a fact: it has one proof at most.
use Rattle.std.specs.Prelude.{ℕ, List, [], ◌∷◌}
use Rattle.std.specs.declared.cmp.Ordering.{Ordering}
use Rattle.std.proofs.Props.{props}
use Rattle.indexed.specs.Links.{Leads}
use Rattle.indexed.specs.Index.{Sound}
use Rattle.items.specs.declared.item.Item.{Item}

-- of links, by their list
Leads-prop : (ls : List ℕ) (lim a : ℕ) (xs : List ℕ) → IsProp (Leads ls lim a xs)
Leads-prop ls lim a [] = Prim.hlevel props
Leads-prop ls lim a (x ∷ xs) = let r = Leads-prop ls lim x xs in Prim.hlevel (props, r)

-- of an index's parts
pub Sound-prop : {V : Type 0} (order : V → V → Ordering) (bucket : V → ℕ) (blank : V) (cells : List (Item V)) (threads chains free : List ℕ) (lim : ℕ) (js : List ℕ) → IsProp (Sound order bucket blank cells threads chains free lim js)
Sound-prop order bucket blank cells threads chains free lim js = Prim.hlevel (props, Leads-prop)
