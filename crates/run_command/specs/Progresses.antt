-- What is shown of how far a run is.
use Rattle.std.specs.Prelude.{◌+◌, ◌-◌, ◌++◌, ℕ, List, Option, Some, None, codes, length, option_map, slice_get, unwrap_or}
use Rattle.std.specs.Fmt.{decimal}
use Rattle.run_command.specs.declared.watching.Progress.{Progress}
use Rattle.run_texts.specs.declared.script.ScriptRow.{ScriptRow}

-- the part, where there are some, or else the row of all
abbrev pub place_text : Option (ℕ × ℕ) → Progress → List ℕ
place_text None progress = codes "moment " ++ (decimal progress.moment ++ (codes ", row " ++ (decimal progress.row ++ (codes " of " ++ decimal progress.rows))))
place_text (Some part) progress = codes "part " ++ (decimal part.0 ++ (codes " of " ++ (decimal part.1 ++ (codes ", moment " ++ decimal progress.moment))))

-- `moment M, row R of N`, or `part P of N, moment M`
abbrev pub progress_text : Progress → List ℕ
progress_text progress = place_text progress.part progress

-- the moment of the last of some rows, 0 before the first
abbrev pub moment_reached : List ScriptRow → ℕ
moment_reached taken = unwrap_or (option_map (λ row. row.at) (slice_get taken (length taken - 1))) 0

-- how far a script is of which these rows were taken, where its last row and its part are these. Its header is row 1
abbrev pub progress_at : List ScriptRow → ℕ → Option (ℕ × ℕ) → Progress
progress_at taken rows part = record { row = length taken + 1; moment = moment_reached taken; rows = rows; part = part }
