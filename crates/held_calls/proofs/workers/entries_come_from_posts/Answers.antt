use Rattle.held_calls.proofs.Chaining.{come_from_posts}
use Rattle.held_calls.proofs.workers.entries_come_from_posts.Goals as goal

pub returns : goal.returns
returns c = come_from_posts
