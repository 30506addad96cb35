-- The makes of shelf in words.
use Rattle.std.specs.Prelude.{ℕ, cond, List, Ok, Err, codes, Result}
use Rattle.std.specs.Str.{bytes_eq}
use Rattle.scripts.specs.declared.misfit.Misfit.{Misfit}
use Rattle.scripts.specs.declared.misfit.Misfit.TheVariants.{NotAShelf}
use Rattle.booklines.specs.declared.make.Make.{Make}
use Rattle.booklines.specs.declared.make.Make.TheVariants.{Sorted, Indexed}

-- the name of a make
abbrev pub make_name : Make → List ℕ
make_name Sorted = codes "sorted"
make_name Indexed = codes "indexed"

-- the make that a word names
abbrev pub make_in : List ℕ → Result Make Misfit
make_in word = cond (bytes_eq word (make_name Sorted)) (Ok Sorted) (cond (bytes_eq word (make_name Indexed)) (Ok Indexed) (Err NotAShelf))
