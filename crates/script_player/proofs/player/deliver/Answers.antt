use Rattle.script_player.proofs.DeliveryLemmas.{delivered_more, delivered_none, delivers_due}
use Rattle.script_player.proofs.CallItems.{grows_on}
use Rattle.script_player.proofs.player.deliver.Goals as goal

pub loop-delivery-init : goal.loop-delivery-init
loop-delivery-init c = delivered_none c.args.now c.args.network.now c.args.deliveries.now.items

pub loop-delivery-preserved : goal.loop-delivery-preserved
loop-delivery-preserved c =
    delivered_more c.args.now c.args.network.now c.loop-delivery.network c.give.new.self c.args.deliveries.now.items c.loop-delivery.deliveries.items c.take_due.new.deliveries.items c.in-Some.delivery
    c.loop-delivery.invariant c.in-Some.ensures.takes c.give.ensures.grows c.in_ok-give.ensures.gives.gives

pub returns-in_err-give-clause-grows : goal.returns-in_err-give-clause-grows
returns-in_err-give-clause-grows c = grows_on c.args.network.now c.loop-delivery.network c.give.new.self c.loop-delivery.invariant.grows c.give.ensures.grows

pub returns-clause-delivers : goal.returns-clause-delivers
returns-clause-delivers c =
    delivers_due c.args.now c.args.network.now c.loop-delivery.network c.args.deliveries.now.items c.loop-delivery.deliveries.items c.take_due.new.deliveries.items c.loop-delivery.invariant
    c.in_default.ensures.takes
