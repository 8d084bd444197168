-- The faults of a tariff table: their numbers, their texts, and how an answer meets a table's meaning.
use Rattle.std.specs.Prelude.{ℕ, List, ◌++◌, codes}
use Rattle.std.specs.Fmt.{decimal}
use Rattle.table_core.specs.declared.fault.RowKind.{RowKind}
use Rattle.table_core.specs.declared.fault.RowKind.TheVariants as own
use Rattle.table_core.specs.declared.fault.TableFault.{TableFault}
use Rattle.table_core.specs.declared.fault.TableFault.TheVariants as fault
use Rattle.tariff_core.specs.declared.tariff_fault.TariffFault.{TariffFault}
use Rattle.tariff_core.specs.declared.tariff_fault.TariffKind.{TariffKind}
use Rattle.tariff_core.specs.declared.tariff_fault.TariffKind.TheVariants as kind

-- the number of a kind
abbrev pub tariff_kind_code : TariffKind → ℕ
tariff_kind_code kind.Csv = 1
tariff_kind_code kind.Header = 2
tariff_kind_code kind.Digits = 3
tariff_kind_code kind.From = 4
tariff_kind_code kind.Money = 5
tariff_kind_code kind.Repeated = 6
tariff_kind_code kind.NoMidnightBand = 7
tariff_kind_code kind.OutOfMemory = 8
tariff_kind_code kind.Device = 9
tariff_kind_code kind.TooManyRows = 10
tariff_kind_code kind.Free = 11
tariff_kind_code kind.First = 12
tariff_kind_code kind.Step = 13
tariff_kind_code kind.Days = 14

-- the name of a kind
abbrev pub tariff_kind_name : TariffKind → List ℕ
tariff_kind_name kind.Csv = codes "Csv"
tariff_kind_name kind.Header = codes "Header"
tariff_kind_name kind.Digits = codes "Digits"
tariff_kind_name kind.From = codes "From"
tariff_kind_name kind.Money = codes "Money"
tariff_kind_name kind.Repeated = codes "Repeated"
tariff_kind_name kind.NoMidnightBand = codes "NoMidnightBand"
tariff_kind_name kind.OutOfMemory = codes "OutOfMemory"
tariff_kind_name kind.Device = codes "Device"
tariff_kind_name kind.TooManyRows = codes "TooManyRows"
tariff_kind_name kind.Free = codes "Free"
tariff_kind_name kind.First = codes "First"
tariff_kind_name kind.Step = codes "Step"
tariff_kind_name kind.Days = codes "Days"

-- `row N: KIND`
abbrev pub tariff_fault_text : TariffFault → List ℕ
tariff_fault_text fault = codes "row " ++ (decimal fault.row ++ (codes ": " ++ tariff_kind_name fault.kind))

-- the kind of a fault that any table may have
abbrev pub kind_from : RowKind → TariffKind
kind_from own.Header = kind.Header
kind_from own.TooManyRows = kind.TooManyRows
kind_from _ = kind.Csv

-- the fault of a tariff whose table is given up at a row
abbrev pub fault_from : ℕ → TableFault → TariffFault
fault_from row (fault.Row refused) = record { row = refused.row; kind = kind_from refused.kind }
fault_from row fault.Device = record { row = row; kind = kind.Device }
fault_from row fault.OutOfMemory = record { row = row; kind = kind.OutOfMemory }
