-- What the input of a run says, or its first fault.
use Rattle.std.specs.Prelude.{ℕ, List, Result, Ok, Err, map, ok_or}
use Rattle.run_texts.specs.Happenings.{RowData}
use Rattle.run_texts.specs.Sections.{texts_of}
use Rattle.run_texts.specs.Scripts.{script_of}
use Rattle.run_texts.specs.Setups.{TableSetup, table_setup_of}
use Rattle.run_texts.specs.Views.{row_data, setup_in}
use Rattle.run_texts.specs.declared.input.RunTexts.{RunTexts}
use Rattle.run_texts.specs.declared.input_fault.InputFault.{InputFault}
use Rattle.run_texts.specs.declared.input_fault.InputFault.TheVariants as input
use Rattle.table_core.specs.Judging.{and_then}
use Rattle.table_core.specs.Rows.{rows_of}
use Rattle.tariff_core.specs.Bands.{Band}
use Rattle.tariff_core.specs.TariffTable.{tariff_of}

-- the tariff, what the run is set up with, and what happens
pub record RunInput : Type 0 where
  pub tariff : List Band
  pub setup : TableSetup
  pub script : List RowData

-- what was read says this
abbrev pub input_in : RunTexts → RunInput
input_in texts = record { tariff = texts.tariff; setup = setup_in texts.directory; script = map row_data texts.script.items }

-- the meaning of a section, whose faults are named so
abbrev pub as_input_fault : {X E : Type 0} → (E → InputFault) → Result X E → Result X InputFault
as_input_fault tell (Ok x) = Ok x
as_input_fault tell (Err why) = Err (tell why)

-- what a tariff says
abbrev pub tariff_in : List ℕ → Result (List Band) InputFault
tariff_in text = as_input_fault input.Tariff (tariff_of (rows_of text))

-- what an input says, its sections judged in order
abbrev pub input_of : List ℕ → Result RunInput InputFault
input_of text =
    and_then (ok_or (texts_of text) input.Parts) (λ texts.
    and_then (tariff_in texts.tariff) (λ tariff.
    and_then (as_input_fault input.Setup (table_setup_of (rows_of texts.setup))) (λ setup.
    and_then (as_input_fault input.Script (script_of setup.accounts (rows_of texts.script))) (λ script.
    Ok (record { tariff = tariff; setup = setup; script = script })))))
