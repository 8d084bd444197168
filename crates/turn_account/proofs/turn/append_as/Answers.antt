use Rattle.std.proofs.Common.{rules}
use Rattle.account_core.specs.Entries.{entry_data}
use Rattle.turn_account.proofs.Turning.{appends_as}
use Rattle.turn_account.proofs.turn.append_as.Goals as goal

pub fetch_add-requires : goal.fetch_add-requires
fetch_add-requires g c = (
  search rules,
  search rules,
  appends_as _ _ _ _ (entry_data c.args.entry.now) _ c.requires.entry c.requires.serving c.requires.seat c.requires.admitted c.requires.answered
      c.places_go_with_entries.ensures.share,
)
