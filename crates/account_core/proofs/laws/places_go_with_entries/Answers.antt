use Rattle.std.proofs.Common.{sym, ap, ◌∙◌}
use Rattle.std.specs.Prelude.{◌+◌}
use Rattle.account_core.specs.Places.{owed, owed_to}
use Rattle.account_core.proofs.Entering.{owed_at_most, owed_moves}
use Rattle.account_core.proofs.Moves.{known_here}
use Rattle.account_core.proofs.laws.places_go_with_entries.Goals as goal

pub returns : goal.returns
returns c = record {
  moves = λ h entry. owed_moves h entry ∙ ap (λ k. owed h + owed_to k) (sym (known_here h entry));
  share = owed_at_most;
}
