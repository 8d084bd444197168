use Rattle.rating.proofs.PassLemmas.{byte_goes, quote_goes, row_ends}
use Rattle.rating.specs.Cuts.{cut_state_of}
use Rattle.rating.specs.declared.call.TheConstants.{MAX_SHOWN}
use Rattle.std.proofs.Common.{None}
use Rattle.rating.proofs.cursor.in_rest.Goals as goal

pub returns-in-EndsRow : goal.returns-in-EndsRow
returns-in-EndsRow c = λ rest. row_ends MAX_SHOWN (cut_state_of c.args.within) None c.args.byte rest (rw c.in-EndsRow.is at c.step.ensures)

pub returns-in-Skips : goal.returns-in-Skips
returns-in-Skips c = λ rest. quote_goes MAX_SHOWN (cut_state_of c.args.within) c.args.byte _ rest (rw c.in-Skips.is at c.step.ensures)

pub returns-in-Adds : goal.returns-in-Adds
returns-in-Adds c = λ rest. byte_goes MAX_SHOWN (cut_state_of c.args.within) c.args.byte _ rest (rw c.in-Adds.is at c.step.ensures)
