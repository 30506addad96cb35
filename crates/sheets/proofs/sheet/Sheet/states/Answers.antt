use Rattle.std.proofs.Common.{length, vec_items, ap, arith, leb-true}
use Rattle.std.proofs.lemmas.Bool.{and_parts}
use Rattle.sheets.specs.Sound.{sound_tables}
use Rattle.sheets.proofs.sheet.Sheet.states.Goals as goal

pub returns : goal.returns
unfolding sound_tables
returns g c =
    let t = c.args.self.now.table in
    let few = leb-true (length (vec_items t.states)) 32 (and_parts _ _ t.sound).0 in
    record { value = c.deref.ensures.value; few = omega (arith, few, ap length c.deref.ensures.value) }
