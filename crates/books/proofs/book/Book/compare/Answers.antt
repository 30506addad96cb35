use Rattle.std.proofs.Common.{sym, refl, ◌∙◌}
use Rattle.std.proofs.lemmas.Bool.{false≢true}
use Rattle.rules.specs.Kinds.{values_by}
use Rattle.rules.proofs.Stands.{law}
use Rattle.books.specs.View.{book_view}
use Rattle.books.proofs.Compares.{agreed, disagreed}
use Rattle.books.proofs.book.Book.compare.Goals as goal

pub returns-then-same_items : goal.returns-then-same_items
returns-then-same_items g c =
    let b = c.args.self.now in
    let d = c.args.other.now in
    let t = c.same_tallies.ensures in
    record {
      agree = λ h. agreed b.phase d.phase b.accepted d.accepted b.tallies d.tallies _ _ (g.S.Shelf.limit b.shelf) (g.T.Shelf.limit d.shelf) (c.if-same_items.ensures.same refl) (t.same h);
      differ = λ h. t.differ (disagreed b.phase d.phase b.accepted d.accepted b.tallies d.tallies _ _ (g.S.Shelf.limit b.shelf) (g.T.Shelf.limit d.shelf) t.left t.other h);
      law = law (values_by g.S.Of.Ord.cmp g.S.Of.Value.blank g.S.Of.Value.reads) g.met.S.Of.Value.total (book_view g.S.Shelf.items g.S.Shelf.limit) (book_view g.T.Shelf.items g.T.Shelf.limit);
    }

pub returns-else-same_items : goal.returns-else-same_items
returns-else-same_items g c =
    record {
      agree = λ h. absurd (false≢true (sym c.if-same_items.false ∙ h));
      differ = λ h. c.same_items.ensures.differ h.items;
      law = law (values_by g.S.Of.Ord.cmp g.S.Of.Value.blank g.S.Of.Value.reads) g.met.S.Of.Value.total (book_view g.S.Shelf.items g.S.Shelf.limit) (book_view g.T.Shelf.items g.T.Shelf.limit);
    }
