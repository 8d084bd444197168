use Rattle.std.proofs.Common.{◌++◌}
use Rattle.script_player.proofs.DeedLemmas.{run_lived}
use Rattle.script_player.proofs.player.ScriptPlayerDriver.ended.Goals as goal

pub returns-clause-lives : goal.returns-clause-lives
returns-clause-lives c =
    let player = c.args.self.now in
    run_lived player.network.config player.delay (player.taken ++ player.left) player
