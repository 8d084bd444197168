use Rattle.std.proofs.Common.{length}
use Rattle.script_player.proofs.DeliveryLemmas.{HaveDelivered}
use Rattle.script_player.proofs.player.deliver.Given as goal

abbrev pub invariant-loop-delivery : goal.invariant-loop-delivery
invariant-loop-delivery l = HaveDelivered l.now l.initial.network l.network l.initial.deliveries.items l.deliveries.items

abbrev pub decreases-loop-delivery : goal.decreases-loop-delivery
decreases-loop-delivery l = length l.deliveries.items
