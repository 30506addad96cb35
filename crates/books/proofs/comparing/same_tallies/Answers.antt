use Rattle.std.proofs.Common.{rules, tests, ◌≡◌, Bool}
use Rattle.std.specs.Cmp.Lexicographic.{pointwise}
use Rattle.std.proofs.lemmas.Slice.Eq.{slice_eq-Decides}
use Rattle.rules.specs.contracts.tallies.TallyPartialEq.TheImpl.{eq-value}
use Rattle.books.proofs.comparing.same_tallies.Goals as goal

pub returns-clause-same : goal.returns-clause-same
returns-clause-same c =
    let equal : c.eq.result ≡ pointwise eq-value.it c.args.left.now c.args.other.now = search (rules, c.eq.ensures) in
    let d = slice_eq-Decides (λ a b. search (rules, tests)) c.args.left.now c.args.other.now c.eq.result equal in
    search (rules, tests, d)

pub returns-clause-differ : goal.returns-clause-differ
returns-clause-differ c =
    let equal : c.eq.result ≡ pointwise eq-value.it c.args.left.now c.args.other.now = search (rules, c.eq.ensures) in
    let d = slice_eq-Decides (λ a b. search (rules, tests)) c.args.left.now c.args.other.now c.eq.result equal in
    search (rules, tests, d)
