use Rattle.std.proofs.Common.{map, take}
use Rattle.run_outputs.specs.Parts.{HavePayers, payer_of}
use Rattle.run_texts.specs.Views.{row_data, with_digits}
use Rattle.run_outputs.proofs.payers.payers_in.Given as goal

-- the accounts of the calls so far
abbrev pub invariant-loop-row : goal.invariant-loop-row
invariant-loop-row l = HavePayers (payer_of (with_digits l.setup.subscribers) (map row_data (take l.row-index l.script))) l.payers
