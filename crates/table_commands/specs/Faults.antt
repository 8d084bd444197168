-- The faults of the program: their lines, their statuses, and how an answer meets its meaning.
use Rattle.std.specs.Prelude.{◌≡◌, ℕ, List, ◌++◌, Option, Some, None, Result, Ok, Err, ⊤, codes}
use Rattle.std.specs.Fmt.{decimal}
use Rattle.table_commands.specs.declared.words_fault.WordsFault.{WordsFault}
use Rattle.table_commands.specs.declared.words_fault.WordsFault.TheVariants as words
use Rattle.run_texts.specs.Kinds.{line_kind_name as name_of_line}
use Rattle.run_values.specs.LogFaults.{log_fault_name as name_of_log}
use Rattle.run_texts.specs.declared.input_fault.InputFault.{InputFault}
use Rattle.run_texts.specs.declared.input_fault.InputFault.TheVariants as input
use Rattle.rating.specs.declared.fault.RateFault.{RateFault}
use Rattle.rating.specs.declared.fault.RateFault.TheVariants as rate
use Rattle.run_values.specs.RunFaults.{run_fault_name}
use Rattle.run_values.specs.declared.run_fault.RunFault.TheVariants as run
use Rattle.table_core.specs.Faults.{row_fault_text}
use Rattle.table_core.specs.declared.fault.RowFault.{RowFault}
use Rattle.table_core.specs.declared.fault.RowKind.TheVariants as kind
use Rattle.table_core.specs.declared.fault.TableFault.{TableFault}
use Rattle.table_core.specs.declared.fault.TableFault.TheVariants as table
use Rattle.tariff_core.specs.TariffFaults.{tariff_fault_text as tariff_text_of}
use Rattle.table_commands.specs.declared.fault.Fault.{Fault}
use Rattle.table_commands.specs.declared.fault.Fault.TheVariants as fault
use Rattle.table_commands.specs.declared.fault.TableName.{TableName}
use Rattle.table_commands.specs.declared.fault.TableName.TheVariants as table_name

-- how a table is called
abbrev pub text_of_table_name : TableName → List ℕ
text_of_table_name table_name.Reports = codes "reports"
text_of_table_name table_name.Ops = codes "ops"
text_of_table_name table_name.Setup = codes "setup"
text_of_table_name table_name.Script = codes "script"
text_of_table_name table_name.Book = codes "book"
text_of_table_name table_name.Records = codes "records"
text_of_table_name table_name.Messages = codes "messages"

-- the line that says a fault, without its end
abbrev pub line_of_fault : Fault → List ℕ
line_of_fault fault.Arguments = codes "prepaid: arguments"
line_of_fault fault.Config = codes "prepaid: input: Config"
line_of_fault fault.TooLong = codes "prepaid: input: TooLong"
line_of_fault fault.Parts = codes "prepaid: input: Parts"
line_of_fault (fault.Tariff row) = codes "prepaid: tariff " ++ tariff_text_of row
line_of_fault (fault.Table name row) = codes "prepaid: " ++ (text_of_table_name name ++ (codes " " ++ row_fault_text row))
line_of_fault (fault.Log why) = codes "prepaid: log: " ++ name_of_log why
line_of_fault (fault.LogRow row kind) = codes "prepaid: log row " ++ (decimal row ++ (codes ": " ++ name_of_line kind))
line_of_fault fault.Into = codes "prepaid: into: Device"
line_of_fault fault.Device = codes "prepaid: run: Device"
line_of_fault (fault.Run why) = codes "prepaid: run: " ++ run_fault_name why

-- the exit status of a fault
abbrev pub status_of : Fault → ℕ
status_of (fault.Log why) = 2
status_of (fault.LogRow row kind) = 2
status_of fault.Into = 2
status_of fault.Device = 2
status_of (fault.Run why) = 2
status_of _ = 1

-- the fault of the table that is called so
abbrev pub in_table : TableName → TableFault → Fault
in_table name (table.Row refused) = fault.Table name refused
in_table name table.Device = fault.Device
in_table name table.OutOfMemory = fault.Run run.OutOfMemory

-- the same, of a table's meaning
abbrev pub meaning_in : {X : Type 0} → TableName → Result X RowFault → Result X Fault
meaning_in name (Ok x) = Ok x
meaning_in name (Err refused) = Err (fault.Table name refused)

-- the fault of words that have no request
abbrev pub of_words : WordsFault → Fault
of_words words.Arguments = fault.Arguments
of_words words.Config = fault.Config
of_words words.OutOfMemory = fault.Run run.OutOfMemory

-- the fault of the input of a run
abbrev pub of_run_input : InputFault → Fault
of_run_input input.Parts = fault.Parts
of_run_input input.TooLong = fault.TooLong
of_run_input (input.Tariff row) = fault.Tariff row
of_run_input (input.Setup row) = fault.Table table_name.Setup row
of_run_input (input.Script row) = fault.Table table_name.Script row
of_run_input input.Device = fault.Device
of_run_input input.OutOfMemory = fault.Run run.OutOfMemory

-- the fault of a table whose header isn't the one that it must have
abbrev pub no_header : TableName → Fault
no_header name = fault.Table name (record { row = 1; kind = kind.Header })

-- the fault of records that aren't rated to their end; an output that failed has none
abbrev pub of_rate : RateFault → Option Fault
of_rate (rate.Input why) = Some (of_run_input why)
of_rate (rate.Header why) = Some (no_header table_name.Records)
of_rate rate.Output = None

-- what a section of the input of a run means, its faults as the program's
abbrev pub meaning_of_section : {X : Type 0} → Result X InputFault → Result X Fault
meaning_of_section (Ok x) = Ok x
meaning_of_section (Err why) = Err (of_run_input why)

-- this is so of a fault, unless it may come at any words and any input: the input failed, or memory ran out
abbrev pub UnlessMayAlwaysCome : Fault → Type 0 → Type 0
UnlessMayAlwaysCome fault.Device fact = ⊤
UnlessMayAlwaysCome (fault.Run run.OutOfMemory) fact = ⊤
UnlessMayAlwaysCome _ fact = fact

-- a fault is what the words and the input mean, unless it may always come
abbrev pub RefusesCommand : {Y : Type 0} → Fault → Result Y Fault → Type 0
RefusesCommand why meaning = UnlessMayAlwaysCome why (meaning ≡ Err why)

-- an answer, seen by `view`, is what is meant
abbrev pub GivesAnswer : {X Y : Type 0} → (X → Y) → Result X Fault → Result Y Fault → Type 0
GivesAnswer view (Ok x) meaning = meaning ≡ Ok (view x)
GivesAnswer view (Err why) meaning = RefusesCommand why meaning

-- an answer is one of those that are meant
abbrev pub GivesOne : {Y : Type 0} → (Result Y Fault → Type 0) → Result Y Fault → Type 0
GivesOne IsMeant (Ok x) = IsMeant (Ok x)
GivesOne IsMeant (Err why) = UnlessMayAlwaysCome why (IsMeant (Err why))
