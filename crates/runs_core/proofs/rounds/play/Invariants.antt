use Rattle.std.proofs.Common.{◌≡◌, None}
use Rattle.runs_core.specs.Sending.{promises_of}
use Rattle.runs_core.specs.Workers.{accounts_of, number_by, setup_of}
use Rattle.runs_core.proofs.RoundLemmas.{IsPlaying}
use Rattle.runs_core.proofs.rounds.play.Given as goal

abbrev pub invariant-loop : goal.invariant-loop
invariant-loop g l =
    IsPlaying g.D.Driver.given g.D.Driver.ended g.D.Driver.hears (number_by g.S.Shared.terms) g.S.Shared.key g.S.Shared.reads g.S.Shared.was
    (setup_of l.fn.crew.worker) (accounts_of l.fn.crew.worker) l.fn.driver l.driver l.answers.items l.crew
    × (promises_of l.crew.links.items ≡ promises_of l.fn.crew.links.items) × (g.D.Driver.agenda l.driver ≡ g.D.Driver.agenda l.fn.driver) × (l.crew.failed ≡ None)
