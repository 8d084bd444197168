use Rattle.std.proofs.Common.{◌≡◌, ◌≤◌, take, map, length}
use Rattle.account_core.specs.Entries.{entry_data}
use Rattle.account_core.specs.Own.{own}
use Rattle.locked_account.proofs.closing.is_own.Given as goal

abbrev pub invariant-loop-entry : goal.invariant-loop-entry
invariant-loop-entry l =
    record {
      within : l.at ≤ length l.mine;
      same : own l.seat (map entry_data (take l.entry-index l.history)) ≡ map entry_data (take l.at l.mine);
    }
