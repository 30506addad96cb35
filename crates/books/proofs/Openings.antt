-- Facts on opening a book.
use Rattle.std.proofs.Common.{◌≡◌, ℕ, ◌+◌, List, [], ◌∷◌, length, Some, None, Ok, Err, Option, sym, refl, ap, ◌∙◌, subst, arith}
use Rattle.refusals.specs.declared.refusal.Refusal.{Refusal}
use Rattle.sheets.specs.Tables.{SheetModel}
use Rattle.rules.specs.Book.{Alike, BookModel, OpenOutcome, Opening, Served, open_refusal, opened_book, unless}
use Rattle.rules.specs.Kinds.{ValueKind}
use Rattle.rules.specs.Step.{how_many}
use Rattle.rules.proofs.Likeness.{alike_self}
use Rattle.opening.specs.Starts.{is_init}
use Rattle.opening.proofs.Inits.{inits-length, started-by}
use Rattle.judging.specs.Judging.{open_by}
use Rattle.books.specs.Opens.{Opened}

pub empty-list : {X : Type 0} (xs : List X) → length xs ≡ 0 → xs ≡ []
empty-list [] e = refl
empty-list (x ∷ xs) e = absurd (omega arith)

module _ {V : Type 0} (K : ValueKind V) (s : SheetModel V) (b : BookModel V) where
  -- what is judged is what the rules judge
  open_is : open_refusal K s b ≡ open_by b.phase (length b.items) b.limit (how_many is_init s.states)
  unfolding open_refusal
  open_is = ap (open_by b.phase (length b.items) b.limit) (inits-length K 0 s.states)

  -- an open by its refusal, if any
  abbrev open_with : Option Refusal → OpenOutcome V
  open_with o = unless o (λ r. record { back = Err r; book = b }) (record { back = Ok tt; book = opened_book K s b })

  module _ (held limit inits : ℕ) (is_held_lem : held ≡ length b.items) (is-limit : limit ≡ b.limit) (is-inits : inits ≡ how_many is_init s.states) where
    judged : open_refusal K s b ≡ open_by b.phase held limit inits
    judged = open_is ∙ sym (λ i. open_by b.phase (is_held_lem i) (is-limit i) (is-inits i))

    -- it is refused
    pub open-refused : (r : Refusal) → Some r ≡ open_by b.phase held limit inits → Served K s b (Opening (Err r)) b
    open-refused r h = let q = judged ∙ sym h in record { replied = rw q refl; book = subst (λ o. Alike b (open_with o).book) (sym q) (alike_self b) }

    -- it is opened
    pub open-taken : (b' : BookModel V) → None ≡ open_by b.phase held limit inits → Opened K s.states b b' → Served K s b (Opening (Ok tt)) b'
    unfolding opened_book
    open-taken b' h o =
        let q = judged ∙ sym h in
        record {
          replied = rw q refl;
          book = subst (λ o. Alike b' (open_with o).book) (sym q) (record {
            phase = o.phase;
            accepted = o.accepted;
            items = o.items;
            limit = o.limit;
            counts = λ c n l. o.counts c n l ∙ ap (λ k. b.counts c n + k) (started-by K s c n);
          });
        }
