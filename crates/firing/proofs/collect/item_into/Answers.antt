use Rattle.rules.specs.Kinds.{values_by}
use Rattle.std.specs.Option.{option_to_list}
use Rattle.firing.proofs.ItemParts.{item-filled, item-counted}
use Rattle.firing.proofs.collect.item_into.Goals as goal

pub returns : goal.returns
returns g c =
    let s = c.args.at.now in
    let F = g.S.Shelf.items c.args.shelf.now in
    let K = values_by g.V.Ord.cmp g.V.Value.blank g.V.Value.reads in
    let one = g.E.Effect.of_item c.args.effect.now s in
    let many = g.E.Effect.of_entry c.args.effect.now s in
    record {
      out = item-filled many K s F one c.args.item.now (option_to_list c.of_item.result) c.any_fires-fired.result c.of_item.ensures c.any_fires-fired.ensures c.args.place c.put_if-after.result c.put_if-after.ensures.place c.args.out.now c.put_if-after.new.buffer c.rows_into.new.out c.put_if-after.ensures.buffer c.rows_into.ensures.out;
      place = item-counted many K s F one c.args.item.now (option_to_list c.of_item.result) c.any_fires-fired.result c.of_item.ensures c.any_fires-fired.ensures c.args.place c.put_if-after.result c.put_if-after.ensures.place c.rows_into.result c.rows_into.ensures.place;
    }
