use Rattle.account_core.specs.Entries.{entry_data}
use Rattle.turn_account.proofs.turn.append.Given as goal

abbrev pub ghosts-append_as : goal.ghosts-append_as
ghosts-append_as a = record { entry = entry_data a.entry.now }
