-- Facts on comparing books.
use Rattle.std.proofs.Common.{◌≡◌, ℕ, zero, suc, ◌+◌, ◌<◌, true, ◌&&◌, eqb, List, [], ◌∷◌, length, get_or, drop, sym, refl, ap, ◌∙◌, arith}
use Rattle.std.proofs.lemmas.List.{drop_all, drop_more}
use Rattle.std.proofs.lemmas.Bool.{and_from, and_parts, eq-eqb, eqb-true}
use Rattle.items.specs.declared.item.Item.{Item}
use Rattle.items.specs.Items.{named}
use Rattle.rules.specs.Book.{Agreeing, book_of}
use Rattle.rules.specs.Step.{how_many}
use Rattle.rules.specs.Tallies.{no_tally}
use Rattle.rules.specs.declared.phase.Phase.{Phase}
use Rattle.rules.specs.declared.tallies.Tally.{Tally}

-- tables of one length with the same tally at each place
same-table : (k : ℕ) (ts us : List Tally) → length ts ≡ k → length us ≡ k → ((n : ℕ) → n < k → get_or ts n no_tally ≡ get_or us n no_tally) → ts ≡ us
same-table zero [] [] a b h = refl
same-table zero [] (u ∷ us) a b h = absurd (omega arith)
same-table zero (t ∷ ts) us a b h = absurd (omega arith)
same-table (suc k) [] us a b h = absurd (omega arith)
same-table (suc k) (t ∷ ts) [] a b h = absurd (omega arith)
same-table (suc k) (t ∷ ts) (u ∷ us) a b h = λ i. h 0 (omega arith) i ∷ same-table k ts us (omega arith) (omega arith) (λ n l. h (suc n) (omega arith)) i

module _ {V : Type 0} (p p' : Phase) (n n' : ℕ) (ts us : List Tally) (F G : List (Item V)) (l l' : ℕ) where
  pub agreed : F ≡ G → ts ≡ us → Agreeing (book_of p n ts F l) (book_of p' n' us G l')
  agreed e h = record {
    items = e;
    counts = λ k x. λ i. record { kept = get_or (h i) k no_tally; «open» = how_many (named k) (e i) };
  }

  pub disagreed : length ts ≡ 32 → length us ≡ 32 → Agreeing (book_of p n ts F l) (book_of p' n' us G l') → ts ≡ us
  disagreed a b h = same-table 32 ts us a b (λ k x. λ i. (h.counts k x i).kept)
