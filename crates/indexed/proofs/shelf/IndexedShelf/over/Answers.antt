use Rattle.indexed.proofs.Fresh.{made-empty}
use Rattle.std.proofs.Common.{arith}
use Rattle.indexed.proofs.shelf.IndexedShelf.over.Goals as goal

pub invariant_of-result : goal.invariant_of-result
invariant_of-result g c =
    let r = made-empty g.met.V.Value.total g.V.Bucketed.bucket_of g.V.Value.blank c.args.cells.items
    c.in_ok-threads.threads.items c.in_ok-chains.chains.items c.in_ok-free.free.items c.args.limit
    (omega (arith, c.args.cells.ok.0)) (omega arith)
    (c.in_ok-threads.ensures.items_if_clones_equal (λ y e. e)) (c.in_ok-chains.ensures.items_if_clones_equal (λ y e. e)) c.in_ok-free.ensures.0 in
    record { room = omega (arith, c.in_ok-free.ensures.1); sound = r.0 }

pub returns : goal.returns
returns g c =
    let r = made-empty g.met.V.Value.total g.V.Bucketed.bucket_of g.V.Value.blank c.args.cells.items
    c.in_ok-threads.threads.items c.in_ok-chains.chains.items c.in_ok-free.free.items c.args.limit
    (omega (arith, c.args.cells.ok.0)) (omega arith)
    (c.in_ok-threads.ensures.items_if_clones_equal (λ y e. e)) (c.in_ok-chains.ensures.items_if_clones_equal (λ y e. e)) c.in_ok-free.ensures.0 in
    (r.1, c.requires)
