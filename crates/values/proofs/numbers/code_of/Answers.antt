use Rattle.std.proofs.Common.{sym, ap, ◌∙◌, arith}
use Rattle.values.specs.NumberForm.{holds_in}
use Rattle.values.specs.Widths.{code_here, code-later, narrow-le}
use Rattle.values.proofs.numbers.code_of.Goals as goal

pub holds_in-requires : goal.holds_in-requires
holds_in-requires c = omega (arith, c.width_of.ensures, narrow-le c.loop-code.code c.loop-code-test.true)

pub returns-then-holds_in : goal.returns-then-holds_in
returns-then-holds_in c =
    code_here c.args.n c.loop-code.code c.loop-code-test.true c.loop-code.invariant
    (ap (λ w. holds_in w c.args.n) (sym c.width_of.ensures) ∙ sym c.holds_in.ensures ∙ c.if-holds_in.true)

pub loop-code-preserved : goal.loop-code-preserved
loop-code-preserved c =
    code-later c.args.n c.loop-code.code c.loop-code-test.true c.loop-code.invariant
    (ap (λ w. holds_in w c.args.n) (sym c.width_of.ensures) ∙ sym c.holds_in.ensures ∙ c.if-holds_in.false)
