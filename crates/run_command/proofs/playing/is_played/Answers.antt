use Rattle.run_command.proofs.PlayLemmas.{play_of}
use Rattle.std.proofs.Common.{refl, rules}
use Rattle.run_command.proofs.playing.is_played.Goals as goal

pub returns : goal.returns
returns c = λ rows heard all rounds.
    let player = c.args.player.now in
    play_of player.network.config player.delay player.taken player.left rows heard player.network.given player (c.ended.ensures.left (search rules)) all rounds c.ended.ensures.lives c.requires refl
    c.given.ensures.calls c.given.ensures.begins c.given.ensures.recharges
