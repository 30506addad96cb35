use Rattle.std.proofs.Common.{sym, ◌∙◌, arith}
use Rattle.indexed.proofs.Finds.{q-within, none-there, other-there, same-there}
use Rattle.indexed.proofs.shelf.IndexedShelf.locate.Goals as goal

pub index-cell-requires : goal.index-cell-requires
index-cell-requires g c =
    let h = q-within g.met.V.Value.total g.met.V.Bucketed.below c.args.self.now.sound c.args.item.now c.requires.name c.args.before c.requires.before in
    omega (arith, c.args.self.now.chains.ok.0)

pub returns-then-cell-self : goal.returns-then-cell-self
returns-then-cell-self g c =
    none-there g.met.V.Value.total g.met.V.Bucketed.below c.args.self.now.sound c.args.item.now c.requires.name c.args.before c.requires.before
    c.index-cell.result.now c.index-cell.ensures c.if-cell-self.true

pub returns-in-Equal : goal.returns-in-Equal
returns-in-Equal g c =
    let r = same-there g.met.V.Value.total g.met.V.Bucketed.below c.args.self.now.sound c.args.item.now c.requires.name c.args.before c.requires.before
    c.index-cell.result.now c.index-cell.ensures c.if-cell-self.false c.index.result.now c.index.ensures (sym c.in-Equal.ensures) in
    record { is = r.0; there = r.1; found = r.2 }

pub returns-in_default : goal.returns-in_default
returns-in_default g c =
    other-there g.met.V.Value.total g.met.V.Bucketed.below c.args.self.now.sound c.args.item.now c.requires.name c.args.before c.requires.before
    c.index-cell.result.now c.index-cell.ensures c.if-cell-self.false c.index.result.now c.index.ensures
    (λ n. c.in_default.not-Equal (c.compare.ensures ∙ n))
