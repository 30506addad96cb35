-- Parts of lists of bytes are lists of bytes.
use Rattle.std.proofs.Common.{ℕ, ◌+◌, List, drop}
use Rattle.std.proofs.lemmas.List.{get_or-drop}
use Rattle.values.specs.Form.{Bytes}

pub bytes_drop : (s : List ℕ) (p : ℕ) → Bytes s → Bytes (drop p s)
bytes_drop s p bytes i = rw (get_or-drop p s i 0) (bytes (p + i))
