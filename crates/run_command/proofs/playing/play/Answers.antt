use Rattle.std.proofs.Common.{◌∙◌, ◌++◌, List, [], ap, refl}
use Rattle.run_command.proofs.ListenLemmas.{counts_heard, keeps_heard, player_hears}
use Rattle.run_command.proofs.PlayLemmas.{given_by, played_as, rounds_of}
use Rattle.run_values.specs.Options.{ask_of}
use Rattle.run_values.specs.declared.post.Answer.{Answer}
use Rattle.runs_core.specs.Hearing.{all_heard}
use Rattle.script_player.specs.Plays.{Play}
use Rattle.run_command.proofs.playing.play.Goals as goal

pub returns-clause-played : goal.returns-clause-played
returns-clause-played g c =
    let listener = c.new-listener.result in
    let before = listener.player in
    let end = c.serve-served.new.driver in
    let after = end.player in
    let made = c.new-listener.ensures.player in
    let kept = c.in_ok-books.ensures.agenda in
    let ran = c.in_ok-books.ensures.run in
    let rounds = ran.rounds in
    let is_fresh = made ∙ c.in_ok-player.ensures.fresh in
    let config = ap (λ p. p.0) kept ∙ ap (λ (play : Play). play.network.config) is_fresh in
    let delay = ap (λ p. p.1) kept ∙ ap (λ (play : Play). play.delay) is_fresh in
    let rows = ap (λ p. p.2) kept ∙ ap (λ (play : Play). play.taken ++ play.left) is_fresh in
    let given = given_by (ask_of c.args.options.now) c.args.options.now.ssf after.network.config after.delay c.args.script.items after.taken after.left ran.heard after.network.given after.unplaced
    (record { tssf = refl; tccd = refl; default_handling = refl })
    config
    delay
    rows
    (c.is_played.ensures c.args.script.items ran.heard rows
    (rounds_of c.args.options.now.ssf after.network.config c.args.options.now.delay after.delay c.args.script.items before ran.heard after is_fresh config delay
    (player_hears [] listener ran.heard end rounds))) in
    let played = c.played.ensures in
    played_as (ask_of c.args.options.now) c.args.setup.now c.args.script.items c.played.result ran.heard after.network.given after.unplaced c.in_ok-books.books.items played.given played.unplaced
    (ap (λ (books : _). books.items) played.books)
    given
    ran.run
    (λ asked. ap (λ (heard : _). heard.items) played.heard ∙ keeps_heard [] listener ran.heard end (c.new-listener.ensures.keeps ∙ asked) rounds
    ∙ ap (λ (l : List Answer). l ++ all_heard ran.heard) c.new-listener.ensures.heard)
    (played.refusals ∙ counts_heard [] listener ran.heard end [] c.new-listener.ensures.refusals rounds)
