use Rattle.std.proofs.Common.{ℕ, ◌<◌}
use Rattle.std.specs.Prelude.{slice_index_or}
use Rattle.account_core.specs.declared.entry.Entry.{Entry}
use Rattle.locked_account.proofs.closing.are_of_seats.Given as goal

abbrev pub invariant-loop-entry : goal.invariant-loop-entry
invariant-loop-entry l = (k : ℕ) (d : Entry) → k < l.entry-index → (slice_index_or l.history k d).seat < l.seats
