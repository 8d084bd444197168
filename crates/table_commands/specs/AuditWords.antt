-- What the options of `audit` say.
use Rattle.std.specs.Prelude.{Bool, true, false, List, codes}
use Rattle.book_texts.specs.declared.size.AuditAsk.{AuditAsk}
use Rattle.book_texts.specs.declared.size.BookSize.{BookSize}
use Rattle.book_texts.specs.declared.size.BookSize.TheVariants as size
use Rattle.clap.specs.Words.{Row}
use Rattle.table_commands.specs.Options.{has_flag}

-- a long table is taken where that is asked for
abbrev pub book_size_of : Bool → BookSize
book_size_of true = size.Long
book_size_of false = size.Short

-- how long a table the options ask for, whether its wrong rows are shown, and whether its lines are
abbrev pub audit_in : List Row → AuditAsk
audit_in options = record { size = book_size_of (has_flag options (codes "long")); rows = has_flag options (codes "rows"); lines = has_flag options (codes "lines") }
