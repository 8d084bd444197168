-- What a row of the code says.
use Rattle.std.specs.Prelude.{◌≤◌}
use Rattle.account_core.specs.Entries.{entry_data}
use Rattle.book_texts.specs.BookRows.{Enters, Opens, RowSaid}
use Rattle.book_texts.specs.declared.book_row.BookRow.{BookRow}
use Rattle.book_texts.specs.declared.book_row.BookRow.TheVariants as row
use Rattle.price_core.specs.declared.plan.TheConstants.{MAX_MONEY}

-- what a row of the code says
abbrev pub row_said_of : BookRow → RowSaid
row_said_of (row.Opening account opening until) = Opens account opening until
row_said_of (row.Entry account entry) = Enters account (entry_data entry)

-- an opening that an account may have
abbrev pub IsAffordable : BookRow → Type 0
IsAffordable (row.Opening account opening until) = opening ≤ MAX_MONEY
IsAffordable (row.Entry account entry) = Unit {0}
