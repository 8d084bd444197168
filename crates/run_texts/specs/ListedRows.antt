-- How a row of a setup is answered.
use Rattle.std.specs.Prelude.{◌≡◌, ◌≤◌, ◌+◌, List, length, Result, Ok, Err, ⊤}
use Rattle.run_texts.specs.Setups.{TableSetup}
use Rattle.run_texts.specs.Views.{setup_in}
use Rattle.run_values.specs.Setups.{Listing}
use Rattle.run_values.specs.declared.setup.TheConstants.{MAX_ACCOUNTS}
use Rattle.table_core.specs.Rows.{Fields}
use Rattle.table_core.specs.declared.fault.RowKind.{RowKind}
use Rattle.table_core.specs.declared.fault.RowKind.TheVariants as kind
use Rattle.table_core.specs.declared.taking.TakeFault.{TakeFault}
use Rattle.table_core.specs.declared.taking.TakeFault.TheVariants as list
use Rattle.run_values.specs.declared.setup_fault.SetupFault.{SetupFault}
use Rattle.run_values.specs.declared.setup_fault.SetupFault.TheVariants as fault

-- the fault of a row for a fault of a directory; an opening credit out of range is no number that may be there
abbrev pub list_fault_of : SetupFault → TakeFault
list_fault_of fault.Repeated = list.Row kind.Repeated
list_fault_of fault.Unknown = list.Row kind.Unknown
list_fault_of fault.OutOfRange = list.Row kind.Number
list_fault_of fault.OutOfMemory = list.OutOfMemory

-- a fault of a row is the one that it comes to; out of memory may come at any row
abbrev pub RefusesRow : TakeFault → Result TableSetup RowKind → Type 0
RefusesRow (list.Row kind) meaning = meaning ≡ Err kind
RefusesRow list.OutOfMemory meaning = ⊤

-- what is named after a row is what the row comes to, or its fault
abbrev pub ListsRow : Result (Unit {0}) TakeFault → TableSetup → Result TableSetup RowKind → Type 0
ListsRow (Ok done) named meaning = meaning ≡ Ok named
ListsRow (Err why) named meaning = RefusesRow why meaning

-- a directory has what the rows name: one account or one subscriber a row, and no more accounts than a run may have
pub record IsListingOf (rows : List Fields) (named : TableSetup) (directory : Listing) : Type 0 where
  pub is : named ≡ setup_in directory
  pub few : length directory.accounts ≤ MAX_ACCOUNTS
  pub count : length directory.accounts + length directory.subscribers ≡ length rows
