-- The bytes of the input.
use Rattle.std.specs.Prelude.{ℕ, Bool, true, false, List, length, Result, Ok, Err, if◌then◌else◌, nat_lt}
use Rattle.std.specs.declared.io.ErrorKind.{ErrorKind}
use Rattle.std.specs.declared.io.ErrorKind.TheVariants as kind
use Rattle.book_texts.specs.declared.size.BookSize.{BookSize}
use Rattle.book_texts.specs.declared.size.BookSize.TheVariants as size
use Rattle.run_values.specs.declared.run_fault.RunFault.TheVariants as run
use Rattle.table_commands.specs.declared.fault.Fault.{Fault}
use Rattle.table_commands.specs.declared.fault.Fault.TheVariants as fault

-- the input, where it has at most 16,777,216 bytes
abbrev pub sized : List ℕ → Result (List ℕ) Fault
sized text = if nat_lt 16777216 (length text) then Err fault.TooLong else Ok text

-- the same of a table of books: a long one may have any number of bytes
abbrev pub sized_as : BookSize → List ℕ → Result (List ℕ) Fault
sized_as size.Short text = sized text
sized_as size.Long text = Ok text

-- whether an error of this kind says that memory ran out
abbrev pub is_out_of_memory : ErrorKind → Bool
is_out_of_memory kind.OutOfMemory = true
is_out_of_memory _ = false

-- the fault of an input that failed with an error of this kind
abbrev pub failed_input : ErrorKind → Fault
failed_input why = if is_out_of_memory why then fault.Run run.OutOfMemory else fault.Device
