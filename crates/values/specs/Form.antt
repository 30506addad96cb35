-- The written form of a kind of value.
use Rattle.std.specs.Prelude.{◌≡◌, ℕ, ◌<◌, ◌≤◌, List, [], ◌++◌, length, take, drop, Some, Ok, Option, Result, slice_index}
use Rattle.std.specs.Option.{unwrap_or}

-- a list of bytes, as every slice of `u8` is
abbrev pub Bytes : List ℕ → Type 0
Bytes s = (i : ℕ) → slice_index s i < 256

-- what reading answers: the value in front with its length, or the place that is refused
abbrev pub Reading : Type 0 → Type 0
Reading V = Result (V × ℕ) ℕ

-- what every written form keeps
pub record WrittenForm {V : Type 0} (written : V → Option (List ℕ)) (reads : List ℕ → Reading V) : Type 0 where
  -- a value's written bytes, whatever follows them, read back to it and their length
  pub back : (x : V) (w rest : List ℕ) → Bytes (w ++ rest) → written x ≡ Some w → reads (w ++ rest) ≡ Ok (x, length w)
  -- a length answered lies within the bytes given
  pub within : (s : List ℕ) (x : V) (n : ℕ) → Bytes s → reads s ≡ Ok (x, n) → n ≤ length s
  -- and the bytes that it covers are the written bytes of the value read
  pub covers : (s : List ℕ) (x : V) (n : ℕ) → Bytes s → reads s ≡ Ok (x, n) → written x ≡ Some (take n s)

-- the bytes of a written form, where there is one
abbrev pub bytes_in : Option (List ℕ) → List ℕ
bytes_in o = unwrap_or o []

-- a buffer whose front is filled, and whose other places are untouched
abbrev pub filled : {X : Type 0} → List X → List X → List X
filled front buffer = front ++ drop (length front) buffer
