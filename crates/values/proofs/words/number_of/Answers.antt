use Rattle.std.proofs.Common.{ap, ◌∙◌, arith}
use Rattle.std.proofs.lemmas.Int.Digits.{number_more}
use Rattle.std.proofs.lemmas.List.{take_all}
use Rattle.values.specs.Words.{number_of}
use Rattle.values.specs.NumberBytes.{grows, within-seven}
use Rattle.values.proofs.words.number_of.Goals as goal

pub with_byte-n-requires : goal.with_byte-n-requires
with_byte-n-requires c = omega (arith, c.loop-b.invariant.0, within-seven c.loop-b.b-index (omega arith))

pub loop-b-preserved : goal.loop-b-preserved
loop-b-preserved c =
    let l = c.loop-b in
    let e = c.with_byte-n.ensures in
    (rw e (grows l.n _ l.b-index l.invariant.0 (c.type_inv.bytes l.b-index).fits), omega (arith, e, number_more 256 c.args.bytes.now l.b-index c.loop-b-test.true))

pub returns : goal.returns
returns c = c.loop-b.invariant.1 ∙ ap number_of (take_all _ _ c.loop-b-test.false)
