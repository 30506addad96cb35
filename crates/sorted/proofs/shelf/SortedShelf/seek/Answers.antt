use Rattle.std.proofs.Common.{rules, ◌≡◌, true, ap, ◌∙◌}
use Rattle.std.proofs.lemmas.List.Sorted.{IsPartitionPoint-from_clause}
use Rattle.std.specs.Ordering.{is_lt}
use Rattle.items.specs.Ascending.{ascends, leading}
use Rattle.items.specs.Items.{item_order}
use Rattle.sorted.specs.Meaning.{sorted_items}
use Rattle.sorted.specs.Place.{place_of}
use Rattle.sorted.proofs.Steps.{parted, sought}
use Rattle.sorted.proofs.shelf.SortedShelf.seek.Goals as goal

pub returns : goal.returns
returns g c =
    let t = g.met.V.Value.total in
    let m = c.args.mark.now in
    let xs = c.deref.result.now in
    let e = c.deref.ensures.value in
    let a : ascends (item_order g.V.Ord.cmp) xs ≡ true = ap (ascends (item_order g.V.Ord.cmp)) e ∙ c.args.self.now.ascending in
    let found : c.partition_point.result ≡ leading (place_of g.V.Ord.cmp m) (sorted_items c.args.self.now) =
    sought t xs a m _ c.partition_point.ensures.bound
    (IsPartitionPoint-from_clause (λ y. is_lt (place_of g.V.Ord.cmp m y)) xs _ c.partition_point.ensures.partitioned
    (parted t xs a m)
    (λ x r q k. search rules))
    ∙ ap (leading (place_of g.V.Ord.cmp m)) e in
    search (rules, found)
