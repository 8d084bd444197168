use Rattle.std.proofs.Common.{◌∷◌, [], ap, ◌∙◌, refl}
use Rattle.cap_values.specs.Orders.{order_of, periods_in}
use Rattle.one_call.specs.Deliveries.{queued_in}
use Rattle.one_call.specs.Steps.{Delivers, Meets}
use Rattle.one_call.proofs.Orders.{handed-first}
use Rattle.one_call.proofs.step.step.Goals as goal

pub returns-in-Some : goal.returns-in-Some
returns-in-Some c = record {
  next = (Delivers c.in-Some.delivery, (c.in-Some.ensures.takes, refl));
  metered = (
    periods_in (order_of c.in-Some.delivery.op ∷ []),
    (
      ap queued_in c.in-Some.ensures.takes.1 ∙ handed-first c.in-Some.delivery.op (queued_in c.take_due.new.deliveries.items),
      c.operation.ensures.metered,
    ),
  );
}

pub returns-in-Some-take_event-clause-next : goal.returns-in-Some-take_event-clause-next
returns-in-Some-take_event-clause-next c = (Meets c.in-Some-take_event.event, (rw c.in_default.is at c.take_due.ensures.takes, c.in-Some-take_event.ensures))
