use Rattle.std.proofs.Common.{◌≡◌, ℕ, List, ◌++◌}
use Rattle.std.specs.List.{list_any}
use Rattle.std.specs.BTreeMap.{is_at}
use Rattle.std.specs.Ordering.{nat_cmp}
use Rattle.script_player.specs.Dues.{is_among}
use Rattle.script_player.proofs.network.Network.due_calls.Given as goal

-- the calls of the moments so far are put in
abbrev pub invariant-loop-due : goal.invariant-loop-due
invariant-loop-due l =
    (done : List (ℕ × ℕ)) × (done ++ l.due-iterator ≡ l.initial.due-iterator) × ((call : ℕ) → is_among l.calls.keys call ≡ list_any (λ due. is_at (nat_cmp call) due.1) done)
