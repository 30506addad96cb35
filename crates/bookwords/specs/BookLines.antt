-- The words of a line about books.
use Rattle.std.specs.Prelude.{ℕ, Bool, cond, ◌||◌, List, [], ◌∷◌, Ok, Err, codes, Result}
use Rattle.std.specs.Str.{bytes_eq}
use Rattle.scripts.specs.Decimals.{number_in, room_in}
use Rattle.wordcounts.specs.Counts.{no_words, only_byte, only_word}
use Rattle.scripts.specs.declared.misfit.Misfit.{Misfit}
use Rattle.scripts.specs.declared.misfit.Misfit.TheVariants.{MissingWord, NotACommand, TooManyWords}
use Rattle.booklines.specs.Makes.{make_in}
use Rattle.booklines.specs.declared.make.Make.{Make}
use Rattle.booklines.specs.declared.bookline.Rooms.{Rooms}
use Rattle.booklines.specs.declared.bookline.BookLine.{BookLine}
use Rattle.booklines.specs.declared.bookline.BookLine.TheVariants as line

-- the first word of a line with an item or with events
abbrev pub is_long : List ℕ → Bool
is_long word = bytes_eq word (codes "hold") || (bytes_eq word (codes "put") || (bytes_eq word (codes "batch") || bytes_eq word (codes "deliver")))

-- the first word of any other line about books
abbrev pub is_short : List ℕ → Bool
is_short word = bytes_eq word (codes "book") || (bytes_eq word (codes "open") || (bytes_eq word (codes "end") || (bytes_eq word (codes "list") || (bytes_eq word (codes "tally") || bytes_eq word (codes "compare")))))

-- the places that the one word writes
abbrev pub only_room : Result (List ℕ) Misfit → Result ℕ Misfit
only_room (Ok word) = room_in (number_in word)
only_room (Err e) = Err e

-- the places of the two buffers
abbrev pub rooms_in : Result ℕ Misfit → Result ℕ Misfit → Result Rooms Misfit
rooms_in (Ok m) (Ok n) = Ok (record { moves = m; findings = n })
rooms_in (Ok m) (Err e) = Err e
rooms_in (Err e) n = Err e

module _ {V : Type 0} where
  -- a book of a make and a number of cells
  abbrev pub book_in : Result Make Misfit → Result ℕ Misfit → Result (BookLine V) Misfit
  book_in (Ok m) (Ok n) = Ok (line.Book m n)
  book_in (Ok m) (Err e) = Err e
  book_in (Err e) n = Err e

  -- a make, and then a number of cells
  abbrev pub book_words : List (List ℕ) → Result (BookLine V) Misfit
  book_words [] = Err MissingWord
  book_words (make ∷ []) = Err MissingWord
  book_words (make ∷ (cells ∷ [])) = book_in (make_in make) (room_in (number_in cells))
  book_words (make ∷ (cells ∷ (more ∷ rest))) = Err TooManyWords

  -- an opening
  abbrev pub open_line : Result (Unit {0}) Misfit → Result (BookLine V) Misfit
  open_line (Ok u) = Ok line.Open
  open_line (Err e) = Err e

  -- a comparison
  abbrev pub compare_line : Result (Unit {0}) Misfit → Result (BookLine V) Misfit
  compare_line (Ok u) = Ok line.Compare
  compare_line (Err e) = Err e

  -- a close, with so many places for findings
  abbrev pub end_line : Result ℕ Misfit → Result (BookLine V) Misfit
  end_line (Ok n) = Ok (line.End n)
  end_line (Err e) = Err e

  -- a listing, with so many places for items
  abbrev pub list_line : Result ℕ Misfit → Result (BookLine V) Misfit
  list_line (Ok n) = Ok (line.List n)
  list_line (Err e) = Err e

  -- the counts of a name
  abbrev pub tally_line : Result ℕ Misfit → Result (BookLine V) Misfit
  tally_line (Ok n) = Ok (line.Tally n)
  tally_line (Err e) = Err e

  -- a line of few words, by its first word and those behind it
  abbrev pub short_line : List ℕ → List (List ℕ) → Result (BookLine V) Misfit
  short_line word rest =
      cond (bytes_eq word (codes "book")) (book_words rest)
      (cond (bytes_eq word (codes "open")) (open_line (no_words rest))
      (cond (bytes_eq word (codes "end")) (end_line (only_room (only_word rest)))
      (cond (bytes_eq word (codes "list")) (list_line (only_room (only_word rest)))
      (cond (bytes_eq word (codes "tally")) (tally_line (only_byte (only_word rest)))
      (cond (bytes_eq word (codes "compare")) (compare_line (no_words rest)) (Err NotACommand))))))
