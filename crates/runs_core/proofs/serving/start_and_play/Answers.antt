use Rattle.std.proofs.Common.{rules, ◌∙◌}
use Rattle.std.proofs.lemmas.Result.{on_ok_weaker}
use Rattle.runs_core.proofs.RoundLemmas.{none_served_by, played_by, same_count}
use Rattle.runs_core.proofs.serving.start_and_play.Goals as goal
use Rattle.runs_core.specs.Workers.{number_by}

pub play-requires-clause-served : goal.play-requires-clause-served
play-requires-clause-served g c = λ _ _.
    none_served_by (number_by g.S.Shared.terms) g.S.Shared.key g.S.Shared.reads g.S.Shared.was c.args.setup.now c.args.accounts.now _ c.requires.first (search rules) (search rules)

pub returns-clause-played : goal.returns-clause-played
returns-clause-played g c =
    on_ok_weaker c.play.result
    (played_by g.D.Driver.given g.D.Driver.ended g.D.Driver.hears (number_by g.S.Shared.terms) g.S.Shared.key g.S.Shared.reads g.S.Shared.was c.args.setup.now c.args.accounts.now c.args.crew.now.worker _ _ _ c.requires.first) c.play.ensures.played

pub returns-clause-count : goal.returns-clause-count
returns-clause-count g c =
    on_ok_weaker c.play.result (λ _. same_count _ _ c.play.ensures.promises ∙ c.in_ok-start_all.ensures.count) c.play.ensures.ended
