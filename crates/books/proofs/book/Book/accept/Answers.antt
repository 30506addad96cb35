use Rattle.std.proofs.Common.{sym, refl, ap, ◌∙◌, subst, arith}
use Rattle.std.proofs.lemmas.List.{length-take}
use Rattle.buffers.specs.Places.{fill}
use Rattle.firing.specs.At.{event_in, sheet_in}
use Rattle.rules.specs.Book.{findings_at, took}
use Rattle.rules.specs.Kinds.{values_by}
use Rattle.books.proofs.Takes.{Most, counts-after, most-after, room-more}
use Rattle.books.proofs.book.Book.accept.Goals as goal

pub count_moves-requires : goal.count_moves-requires
count_moves-requires g c =
    let b = c.args.self.now in
    record {
      room = room-more b.phase b.accepted b.tallies c.args.self.now.counts c.requires.more _ (omega (arith, length-take c.args.count c.args.buffer.now, c.ranges.count.fits));
    }

pub invariant_of-self : goal.invariant_of-self
invariant_of-self g c =
    let K = values_by g.S.Of.Ord.cmp g.S.Of.Value.blank g.S.Of.Value.reads in
    let b = c.args.self.now in
    let F = g.S.Shelf.items b.shelf in
    record {
      few = omega (arith, c.requires.more, c.next_number-number.ensures);
      counts = subst (λ n. Most b.phase n c.count_moves.new.tallies) (sym c.next_number-number.ensures) (most-after K c.args.buffer.now c.args.count F b.tallies c.count_moves.new.tallies c.count_moves.ensures b.phase b.accepted b.counts (omega (arith, c.ranges.count.fits)));
    }

pub returns : goal.returns
unfolding took findings_at
returns g c =
    let K = values_by g.S.Of.Ord.cmp g.S.Of.Value.blank g.S.Of.Value.reads in
    let b = c.args.self.now in
    let F = g.S.Shelf.items b.shelf in
    let after = c.count_moves.ensures in
    record {
      book = record {
        phase = refl;
        accepted = c.next_number-number.ensures;
        items = c.write_and_apply.ensures.items;
        limit = c.write_and_apply.ensures.limit;
        counts = counts-after K c.args.buffer.now c.args.count F b.tallies c.count_moves.new.tallies after _ c.requires.moves;
      };
      findings = c.write_and_apply.ensures.findings ∙ ap (λ n. fill c.args.findings.now 0 (findings_at K (sheet_in c.args.at.now) n F (event_in c.args.at.now))) c.next_number-number.ensures;
    }
