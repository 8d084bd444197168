-- Why the input of a run isn't read, and how an answer meets what an input means.
use Rattle.std.specs.Prelude.{◌≡◌, Result, Ok, Err, ⊤}
use Rattle.run_texts.specs.declared.input_fault.InputFault.{InputFault}
use Rattle.run_texts.specs.declared.input_fault.InputFault.TheVariants as input
use Rattle.table_core.specs.declared.fault.TableFault.{TableFault}
use Rattle.table_core.specs.declared.fault.TableFault.TheVariants as table
use Rattle.tariff_core.specs.declared.tariff_fault.TariffFault.{TariffFault}
use Rattle.tariff_core.specs.declared.tariff_fault.TariffKind.{TariffKind}
use Rattle.tariff_core.specs.declared.tariff_fault.TariffKind.TheVariants as kind

-- the fault of a tariff by its kind: out of memory and a failed reader are no faults of its rows
abbrev pub of_tariff_by : TariffKind → TariffFault → InputFault
of_tariff_by kind.OutOfMemory fault = input.OutOfMemory
of_tariff_by kind.Device fault = input.Device
of_tariff_by _ fault = input.Tariff fault

-- the fault of a tariff
abbrev pub of_tariff : TariffFault → InputFault
of_tariff fault = of_tariff_by fault.kind fault

-- the fault of a setup
abbrev pub of_setup : TableFault → InputFault
of_setup (table.Row refused) = input.Setup refused
of_setup table.Device = input.Device
of_setup table.OutOfMemory = input.OutOfMemory

-- the fault of a script
abbrev pub of_script : TableFault → InputFault
of_script (table.Row refused) = input.Script refused
of_script table.Device = input.Device
of_script table.OutOfMemory = input.OutOfMemory

-- a fault of the input is the one that its meaning has; a failed reader and out of memory may come at any
abbrev pub RefusesInput : {Y : Type 0} → InputFault → Result Y InputFault → Type 0
RefusesInput input.Device meaning = ⊤
RefusesInput input.OutOfMemory meaning = ⊤
RefusesInput why meaning = meaning ≡ Err why

-- an answer, seen by `view`, is what is meant
abbrev pub GivesInput : {X Y : Type 0} → (X → Y) → Result X InputFault → Result Y InputFault → Type 0
GivesInput view (Ok x) meaning = meaning ≡ Ok (view x)
GivesInput view (Err why) meaning = RefusesInput why meaning
