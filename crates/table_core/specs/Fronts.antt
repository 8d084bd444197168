-- A text that is written as far as its writer takes it.
use Rattle.std.specs.Prelude.{ℕ, Bool, true, false, List, Option, take}
use Rattle.std.specs.Io.KnownBytes.{Appends}

-- known bytes grow by a front of the text: its first so many bytes
abbrev pub AppendsFront : Option (List ℕ) → Option (List ℕ) → List ℕ → Type 0
AppendsFront old new text = (count : ℕ) × Appends old new (take count text)

-- a text was written: all of it, or where the writer failed a front of it
abbrev pub Writes : Option (List ℕ) → Option (List ℕ) → List ℕ → Bool → Type 0
Writes old new text true = Appends old new text
Writes old new text false = AppendsFront old new text
