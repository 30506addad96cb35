-- Books that are alike.
use Rattle.std.proofs.Common.{◌≡◌, ℕ, zero, suc, List, get_or, replicate, sym, refl, ap, ◌∙◌}
use Rattle.items.specs.declared.item.Item.{Item}
use Rattle.rules.specs.Book.{Alike, BookModel, book_of, count_in, made_book}
use Rattle.rules.specs.Tallies.{no_tally}
use Rattle.rules.specs.Step.{Count, Starts, Asks, Repeats, FiredOut, LapsedOut, StruckOut}
use Rattle.rules.specs.declared.phase.Phase.TheVariants as phase

module _ {V : Type 0} where
  pub alike_self : (b : BookModel V) → Alike b b
  alike_self b = record { phase = refl; accepted = refl; items = refl; limit = refl; counts = λ c n l. refl }

  pub alike-on : (a b c : BookModel V) → Alike a b → Alike b c → Alike a c
  alike-on a b c p q = record {
    phase = p.phase ∙ q.phase;
    accepted = p.accepted ∙ q.accepted;
    items = p.items ∙ q.items;
    limit = p.limit ∙ q.limit;
    counts = λ k n l. p.counts k n l ∙ q.counts k n l;
  }

  pub alike-back : (a b : BookModel V) → Alike a b → Alike b a
  alike-back a b p = record {
    phase = sym p.phase;
    accepted = sym p.accepted;
    items = sym p.items;
    limit = sym p.limit;
    counts = λ k n l. sym (p.counts k n l);
  }

none-counted : (c : Count) → count_in no_tally c ≡ 0
none-counted Starts = refl
none-counted Asks = refl
none-counted Repeats = refl
none-counted FiredOut = refl
none-counted LapsedOut = refl
none-counted StruckOut = refl

all_same : {X : Type 0} (k n : ℕ) (x : X) → get_or (replicate k x) n x ≡ x
all_same zero n x = refl
all_same (suc k) zero x = refl
all_same (suc k) (suc n) x = all_same k n x

-- a book with empty tallies is one as it is made
pub made_alike : {V : Type 0} (k : ℕ) (F : List (Item V)) (limit : ℕ)
    → Alike (book_of phase.Blank 0 (replicate k no_tally) F limit) (made_book F limit)
made_alike k F limit = record {
  phase = refl;
  accepted = refl;
  items = refl;
  limit = refl;
  counts = λ c n l. ap (λ t. count_in t c) (all_same k n no_tally) ∙ none-counted c;
}
