-- The files of what a run prints.
use Rattle.std.specs.Prelude.{List, ◌∷◌, [], ℕ, codes}
use Rattle.run_outputs.specs.Texts.{TablesSaid}

-- the name of each file, and the text that it has
abbrev pub files_of : TablesSaid → List (List ℕ × List ℕ)
files_of tables = (codes "lines.txt", tables.lines) ∷ (codes "book.csv", tables.book) ∷ (codes "calls.csv", tables.calls) ∷ (codes "trace.csv", tables.trace) ∷ []
