use Rattle.std.proofs.Common.{◌≡◌, ◌+◌, ◌≤◌, [], length, map}
use Rattle.std.specs.Prelude.{All}
use Rattle.std.specs.Vec.{vec_capacity, vec_len}
use Rattle.std.specs.Vec.Iter.{into_iter_items, into_iter_len}
use Rattle.runs_core.specs.Sending.{ArePromised, heard_by, promises_of, sent_by}
use Rattle.runs_core.specs.Teams.{AreFresh}
use Rattle.runs_core.proofs.threads.start_all.Given as goal

abbrev pub invariant-loop-team : goal.invariant-loop-team
invariant-loop-team g l =
    (length l.links.items + 1 ≡ l.number)
    × (l.number + length (into_iter_items l.teams) ≡ length (into_iter_items l.fn.teams) + 1)
    × AreFresh g.S.Shared.reads (map g.S.Shared.key l.accounts) l.number (map (λ team. team.items) (into_iter_items l.teams))
    × All (λ link. sent_by link ≡ []) l.links.items
    × ArePromised l.setup l.accounts 1 (promises_of l.links.items)
    × All (λ link. heard_by link ≡ []) l.links.items
    × (vec_len l.links + length (into_iter_items l.teams) ≤ vec_capacity l.links)

abbrev pub decreases-loop-team : goal.decreases-loop-team
decreases-loop-team g l = into_iter_len l.teams
