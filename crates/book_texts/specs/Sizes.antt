-- How long a table of books may be.
use Rattle.std.specs.Prelude.{ℕ}
use Rattle.table_core.specs.declared.table.TheConstants.{MAX_TABLE_ROWS}
use Rattle.book_texts.specs.declared.size.BookSize.{BookSize}
use Rattle.book_texts.specs.declared.size.BookSize.TheVariants as size

-- how many rows a table of books may have besides its header: 1,000,000, or as many as any table
abbrev pub most_rows : BookSize → ℕ
most_rows size.Short = 1000000
most_rows size.Long = MAX_TABLE_ROWS
