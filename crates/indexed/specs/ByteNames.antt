-- The items of an index rightly made have names that are bytes.
use Rattle.std.specs.Prelude.{ℕ, List}
use Rattle.std.specs.declared.cmp.Ordering.{Ordering}
use Rattle.std.proofs.ByRecursion.{All-map}
use Rattle.items.specs.Items.{ByteNames}
use Rattle.items.specs.declared.item.Item.{Item}
use Rattle.indexed.specs.Index.{Sound, item_in, items_of, order_of}
use Rattle.indexed.specs.LinksLemmas.{all_listed}

pub byte-names : {V : Type 0} {order : V → V → Ordering} {bucket : V → ℕ} {blank : V} {cells : List (Item V)} {threads chains free : List ℕ} {lim : ℕ}
    → Sound order bucket blank cells threads chains free lim (order_of threads lim) → ByteNames (items_of blank cells threads lim)
byte-names {blank = blank} {cells = cells} {threads = threads} {lim = lim} r = All-map _ (item_in blank cells) (order_of threads lim) (all_listed _ (order_of threads lim) r.tame)
