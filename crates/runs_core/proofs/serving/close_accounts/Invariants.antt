use Rattle.std.proofs.Common.{◌≡◌, [], length, map}
use Rattle.std.specs.Prelude.{All, replicate}
use Rattle.std.specs.Vec.Iter.{into_iter_items}
use Rattle.runs_core.proofs.Columns.{laid}
use Rattle.runs_core.proofs.serving.close_accounts.Given as goal

abbrev pub invariant-loop-team : goal.invariant-loop-team
invariant-loop-team g l =
    (laid (map (λ row. row.items) l.rows.items) (map (λ team. team.items) (into_iter_items l.team-iterator)) ≡ laid (replicate (length l.accounts.items) []) (map (λ team. team.items) l.fn.left.items))
    × (length (map (λ row. row.items) l.rows.items) ≡ length l.accounts.items)
    × All (λ team. map g.S.Shared.reads.key team.items ≡ map g.S.Shared.key l.accounts.items) (into_iter_items l.team-iterator)
