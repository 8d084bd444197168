-- What the rows of a script say is divided as the rows are.
use Rattle.std.proofs.Common.{◌≡◌, ◌==◌, ℕ, Bool, true, false, cond, Option, List, [], ◌∷◌, map, refl, ap}
use Rattle.std.specs.List.{filter}
use Rattle.run_outputs.specs.Parts.{part_of, part_rows, part_script}
use Rattle.run_texts.specs.Happenings.{RowData}
use Rattle.run_texts.specs.Views.{row_data}
use Rattle.run_texts.specs.declared.script.ScriptRow.{ScriptRow}

one_kept : (passes : Bool) (row : ScriptRow) (kept : List ScriptRow) (said : List RowData) → map row_data kept ≡ said
    → map row_data (cond passes (row ∷ kept) kept) ≡ cond passes (row_data row ∷ said) said
one_kept true row kept said is = ap (λ l. row_data row ∷ l) is
one_kept false row kept said is = is

kept_alike : (q : RowData → Bool) (rows : List ScriptRow) → map row_data (filter (λ row. q (row_data row)) rows) ≡ filter q (map row_data rows)
kept_alike q [] = refl
kept_alike q (row ∷ rows) = one_kept (q (row_data row)) row (filter (λ r. q (row_data r)) rows) (filter q (map row_data rows)) (kept_alike q rows)

pub part_said_alike : (firsts : List ℕ) (payer : ℕ → Option ℕ) (rows : List ScriptRow) (part : ℕ)
    → map row_data (part_rows firsts payer rows part) ≡ part_script firsts payer (map row_data rows) part
part_said_alike firsts payer rows part = kept_alike (λ row. part_of firsts payer row.what == part) rows
