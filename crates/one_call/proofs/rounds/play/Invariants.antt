use Rattle.std.proofs.Common.{◌≡◌, Some}
use Rattle.account_core.specs.Known.{nothing_known}
use Rattle.dialogue_core.specs.Views.{phase_of}
use Rattle.ssf_core.specs.Meters.{Meter, Shows}
use Rattle.one_call.specs.Covered.{IsAtRest}
use Rattle.one_call.specs.Deliveries.{queued_in}
use Rattle.one_call.proofs.rounds.play.Given as goal

abbrev pub invariant-inputs : goal.invariant-inputs
invariant-inputs g l = g.P.Port.state l.fn.port l.fn.call.0 ≡ Some nothing_known → record {
  none : l.counts.forfeits ≡ 0;
  meter : Meter;
  shows : Shows l.ssf meter;
  rests : IsAtRest l.fn.call.0 meter (queued_in l.deliveries.items) (g.P.Port.state l.port l.fn.call.0) (phase_of l.dialogue);
}
