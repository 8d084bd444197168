use Rattle.std.proofs.Common.{◌≡◌, ◌++◌, ℕ, List, drop}
use Rattle.cap_values.specs.Orders.{Period}
use Rattle.dialogue_core.specs.Views.{phase_of}
use Rattle.ssf_core.specs.Meters.{Meter, RunsThrough}
use Rattle.one_call.specs.Covered.{IsAtRest}
use Rattle.one_call.specs.Deliveries.{AreSent, queued_in}
use Rattle.one_call.proofs.hear.hear_all.Given as goal

abbrev pub invariant-loop-out : goal.invariant-loop-out
invariant-loop-out g l = record {
  kept : (call : ℕ) (meter after : Meter) (handed : List Period)
      → IsAtRest call meter (handed ++ queued_in l.initial.deliveries.items) (g.P.Port.state l.initial.port call) (phase_of l.initial.dialogue)
      → RunsThrough handed meter l.sent after → l.counts.forfeits ≡ l.initial.counts.forfeits;
  rests : (call : ℕ) (meter after : Meter) (handed : List Period)
      → IsAtRest call meter (handed ++ queued_in l.initial.deliveries.items) (g.P.Port.state l.initial.port call) (phase_of l.initial.dialogue)
      → RunsThrough handed meter l.sent after
      → (now : Meter) × (IsAtRest call now (handed ++ queued_in l.deliveries.items) (g.P.Port.state l.port call) (phase_of l.dialogue)
      × RunsThrough handed now (drop l.out-index l.sent) after);
  sent : AreSent l.due l.to l.initial.deliveries.items l.deliveries.items;
}
