-- An index as it is made.
use Rattle.std.proofs.Common.{◌≡◌, ℕ, ◌+◌, ◌≤◌, List, [], ◌∷◌, ◌++◌, map, length, get_or, replicate, Ordering, refl, ap, ◌∙◌, ⊎_elim, arith, length-append}
use Rattle.std.proofs.lemmas.Bool.{cases_eq}
use Rattle.std.proofs.lemmas.List.{length-replicate, get_or-replicate}
use Rattle.values.specs.Order.{TotalOrder}
use Rattle.items.specs.declared.item.Item.{Item}
use Rattle.indexed.specs.Links.{times, Numbered}
use Rattle.indexed.specs.Index.{order_of, item_in, Sound}
use Rattle.indexed.specs.LinksLemmas.{times-same, times-other, times-append}
use Rattle.indexed.proofs.Sound.{order_is}

pub numbered_more : (i : ℕ) (xs ys : List ℕ) → ys ≡ xs ++ (i ∷ []) → Numbered i xs → Numbered (i + 1) ys
numbered_more i xs ys e n =
    let all : (j : ℕ) → times j ys ≡ times j xs + times j (i ∷ []) = λ j. ap (times j) e ∙ times-append j xs (i ∷ []) in
    let l = ap length e ∙ length-append xs (i ∷ []) in
    record {
      once = λ j. ⊎_elim
          (λ (f : j ≡ i). let a = n.below j (omega arith) in let b = ap (λ k. times j (k ∷ [])) f in omega (arith, all j, times-same j []))
          (λ m. let a = n.once j in omega (arith, all j, times-other j i [] m))
          (cases_eq j i);
      below = λ j h. let a = n.below j (omega arith) in omega (arith, all j, times-other j i [] (omega arith));
      many = omega (arith, n.many);
    }

module _ {V : Type 0} {order : V → V → Ordering} (t : TotalOrder order) (bucket : V → ℕ) (blank : V) (cells : List (Item V)) (threads chains free : List ℕ) (lim : ℕ) where
  pub fresh : lim ≤ length cells → lim ≤ 65536 → threads ≡ replicate (lim + 256) lim → chains ≡ replicate (lim + 262144) lim → Numbered lim free → Sound order bucket blank cells threads chains free lim []
  fresh l m n p s = record {
    long = l;
    threads_long = ap length n ∙ length-replicate (lim + 256) lim;
    chains_long = ap length p ∙ length-replicate (lim + 262144) lim;
    most = m;
    threaded = λ k h. let e = ap (λ ls. get_or ls (lim + k) 0) n ∙ get_or-replicate (lim + 256) (lim + k) lim 0 (omega arith) in omega arith;
    chained = λ k h. let e = ap (λ ls. get_or ls (lim + k) 0) p ∙ get_or-replicate (lim + 262144) (lim + k) lim 0 (omega arith) in omega arith;
    apart = λ j. let a = s.once j in omega arith;
    small = λ j h. let a = s.below j h in omega arith;
    full = omega (arith, s.many);
    rising = refl;
    tame = λ j h. absurd (omega arith);
  }

  pub made-empty : lim ≤ length cells → lim ≤ 65536 → threads ≡ replicate (lim + 256) lim → chains ≡ replicate (lim + 262144) lim → Numbered lim free
      → Sound order bucket blank cells threads chains free lim (order_of threads lim) × (map (item_in blank cells) (order_of threads lim) ≡ [])
  made-empty l m n p s =
      let r = fresh l m n p s in
      let o = order_is t bucket blank r in
      (rw o r, rw o)
