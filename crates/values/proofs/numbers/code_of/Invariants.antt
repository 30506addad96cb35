use Rattle.std.proofs.Common.{◌≡◌, ◌-◌}
use Rattle.values.specs.NumberForm.{code_from, code_of}
use Rattle.values.proofs.numbers.code_of.Given as goal

abbrev pub invariant-loop-code : goal.invariant-loop-code
invariant-loop-code l = code_of l.n ≡ code_from (3 - l.code) l.code l.n
