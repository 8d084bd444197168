-- What a reader of a script has of its rows.
use Rattle.std.specs.Prelude.{◌≡◌, ◌≤◌, ℕ, true, List, [], ◌∷◌, All, map, reverse}
use Rattle.std.specs.BTreeSet.{BTreeSet}
use Rattle.price_core.specs.declared.times.TheConstants.{MAX_MOMENT}
use Rattle.run_texts.specs.Happenings.{RowData, is_in_time}
use Rattle.run_texts.specs.Scripts.{last_row_moment}
use Rattle.run_texts.specs.Starts.{HasCalls}
use Rattle.run_texts.specs.Views.{happens_of, row_data, rows_are_in_order}
use Rattle.run_texts.specs.declared.script.ScriptRow.{ScriptRow}

-- the moment of the last row
abbrev pub last_moment_of : ℕ → List ScriptRow → ℕ
last_moment_of start [] = start
last_moment_of start (row ∷ rows) = last_moment_of row.at rows

-- the rows say what was read, newest first; the calls that have started are there, and the moment of the last row
pub record AreRowsOf (earlier : List RowData) (calls : BTreeSet ℕ) (last : ℕ) (rows : List ScriptRow) : Type 0 where
  pub say : earlier ≡ reverse (map row_data rows)
  pub started : HasCalls calls earlier
  pub before : last ≡ last_row_moment earlier
  pub ends : last ≡ last_moment_of 0 rows
  pub in_range : All (λ row. row.at ≤ MAX_MOMENT) rows
  pub in_time : All (λ row. is_in_time (happens_of row.what) ≡ true) rows
  pub in_order : rows_are_in_order 0 rows ≡ true
