use Rattle.std.proofs.Common.{◌≡◌, ◌+◌, ◌≤◌, ◌++◌, drop, length}
use Rattle.std.specs.Vec.{vec_capacity, vec_len}
use Rattle.script_player.specs.Posts.{posts_of}
use Rattle.script_player.proofs.network.post.Given as goal

abbrev pub invariant-loop-out : goal.invariant-loop-out
invariant-loop-out l =
    (l.initial.given.items ++ posts_of l.call l.sent ≡ l.given.items ++ posts_of l.call (drop l.out-index l.sent)) × (vec_len l.given + length l.sent ≤ vec_capacity l.given + l.out-index)
