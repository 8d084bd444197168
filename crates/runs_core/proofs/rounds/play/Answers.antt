use Rattle.std.proofs.Common.{refl, rules, ◌∙◌}
use Rattle.std.specs.Prelude.{true}
use Rattle.runs_core.proofs.Finishing.{none_failed}
use Rattle.runs_core.proofs.RoundLemmas.{none_played, played_more, played_out}
use Rattle.runs_core.proofs.rounds.play.Goals as goal
use Rattle.runs_core.specs.Workers.{number_by}

pub loop-init : goal.loop-init
loop-init g c = (
  none_played g.D.Driver.given g.D.Driver.ended g.D.Driver.hears (number_by g.S.Shared.terms) g.S.Shared.key g.S.Shared.reads g.S.Shared.was _ _ _ _ _
      c.requires.fresh (search rules) c.requires.served,
  refl,
  refl,
  c.requires.works,
)

pub loop-preserved : goal.loop-preserved
loop-preserved g c =
    let before = c.loop.invariant in
    let more = c.in_ok-play_round.ensures.more (search rules) in (
      played_more g.D.Driver.given g.D.Driver.ended g.D.Driver.hears (number_by g.S.Shared.terms) g.S.Shared.key g.S.Shared.reads g.S.Shared.was _ _
          _ _ _ _ _ _ _ more.0 before.0 more.1 (search rules) (search rules) more.2,
      c.play_round.ensures.promises ∙ before.1,
      c.play_round.ensures.agenda ∙ before.2,
      none_failed _ _ true c.play_round.ensures.failed (search rules),
    )

pub returns-then-not-branch-clause-played : goal.returns-then-not-branch-clause-played
returns-then-not-branch-clause-played g c =
    let last = c.in_ok-play_round.ensures in
    played_out g.D.Driver.given g.D.Driver.ended g.D.Driver.hears (number_by g.S.Shared.terms) g.S.Shared.key g.S.Shared.reads g.S.Shared.was _ _
    _ _ _ _ _ _ c.loop.invariant.0 (last.given (search rules)) (search rules) (search rules) (last.crew (search rules))

pub play_round-requires-clause-ready : goal.play_round-requires-clause-ready
play_round-requires-clause-ready g c = λ _ _. c.loop.invariant.0.served.first.ready

pub returns-in_err-play_round-clause-promises : goal.returns-in_err-play_round-clause-promises
returns-in_err-play_round-clause-promises g c = c.play_round.ensures.promises ∙ c.loop.invariant.1

pub returns-in_err-play_round-clause-agenda : goal.returns-in_err-play_round-clause-agenda
returns-in_err-play_round-clause-agenda g c = c.play_round.ensures.agenda ∙ c.loop.invariant.2

pub returns-then-not-branch-clause-promises : goal.returns-then-not-branch-clause-promises
returns-then-not-branch-clause-promises g c = c.play_round.ensures.promises ∙ c.loop.invariant.1

pub returns-then-not-branch-clause-agenda : goal.returns-then-not-branch-clause-agenda
returns-then-not-branch-clause-agenda g c = c.play_round.ensures.agenda ∙ c.loop.invariant.2
