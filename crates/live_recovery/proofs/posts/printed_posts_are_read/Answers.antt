use Rattle.live_recovery.proofs.PostLines.{posts_read}
use Rattle.live_recovery.proofs.posts.printed_posts_are_read.Goals as goal

pub returns : goal.returns
returns c =
    posts_read c.printed_decimals_are_read.ensures.plain c.printed_decimals_are_read.ensures.read c.printed_tables_are_read.ensures
    c.printed_moments_are_read.ensures.plain c.printed_moments_are_read.ensures.read
