-- The message of a line: a line is one row, or none where it is empty.
use Rattle.std.specs.Prelude.{◌==◌, ◌&&◌, ℕ, Bool, not, Option, Some, None, List, [], ◌∷◌, Result, Ok, Err, if◌then◌else◌, length, nat_le}
use Rattle.run_texts.specs.Messages.{MessageView, message_in}
use Rattle.table_core.specs.Judging.{and_then}
use Rattle.table_core.specs.Rows.{Fields, rows_of}
use Rattle.table_core.specs.declared.fault.RowKind.{RowKind}
use Rattle.table_core.specs.declared.fault.RowKind.TheVariants as kind

-- a row of the nine columns of a trace
abbrev pub nine : Fields → Result Fields RowKind
nine fields = if length fields == 9 then Ok fields else Err kind.Csv

-- the message of the rows of a line, which are one at most
abbrev pub message_of : List Fields → Option (Result MessageView RowKind)
message_of [] = None
message_of (fields ∷ []) = Some (and_then (nine fields) message_in)
message_of (fields ∷ other ∷ others) = Some (Err kind.Csv)

-- the message of a line, if there is a row in it
abbrev pub line_message : List ℕ → Option (Result MessageView RowKind)
line_message line = message_of (rows_of line)

-- whether a byte is a comma, or stands for itself in a field: it is printable ASCII, and no quote
abbrev pub is_plain : ℕ → Bool
is_plain byte = nat_le 32 byte && nat_le byte 126 && not (byte == 34)
