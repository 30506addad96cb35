-- A book of the program, as the rules see it.
use Rattle.std.specs.Prelude.{ℕ, List}
use Rattle.items.specs.declared.item.Item.{Item}
use Rattle.rules.specs.Book.{BookModel, book_of}
use Rattle.books.specs.declared.book.Book.{Book}

-- the book with its shelf's set and limit
abbrev pub book_view : {V S : Type 0} → (S → List (Item V)) → (S → ℕ) → Book S → BookModel V
book_view items limit b = book_of b.phase b.accepted b.tallies (items b.shelf) (limit b.shelf)
