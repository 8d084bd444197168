-- What orders on their way pay for.
use Rattle.std.proofs.Common.{◌≡◌, ◌++◌, ℕ, List, [], ◌∷◌, refl, ap, ◌∙◌, sym, append_assoc}
use Rattle.cap_values.specs.Orders.{Order, Period, Watch, Pay, GoOn, Release, order_of, orders_of, periods_in, with_period}
use Rattle.cap_values.specs.declared.operation.ScfOp.{ScfOp}
use Rattle.ssf_core.specs.Deliveries.{deliveries_at}
use Rattle.ssf_core.specs.declared.deliveries.Delivery.{Delivery}
use Rattle.one_call.specs.Deliveries.{AreSent, queued_in}

with_period-append : (order : Order) (a b : List Period) → with_period order (a ++ b) ≡ with_period order a ++ b
with_period-append (Watch arms) a b = refl
with_period-append (Pay period switch release) a b = refl
with_period-append GoOn a b = refl
with_period-append (Release cause) a b = refl

-- what was queued, and then what is
pub queued-append : (first second : List Delivery) → queued_in (first ++ second) ≡ queued_in first ++ queued_in second
queued-append [] second = refl
queued-append (delivery ∷ first) second =
    ap (with_period (order_of delivery.op)) (queued-append first second) ∙ with_period-append (order_of delivery.op) (queued_in first) (queued_in second)

pub queued-sent : (at call : ℕ) (ops : List ScfOp) → queued_in (deliveries_at at call ops) ≡ periods_in (orders_of ops)
queued-sent at call [] = refl
queued-sent at call (op ∷ ops) = ap (with_period (order_of op)) (queued-sent at call ops)

-- what is handed on, before what stays queued
pub handed-first : (op : ScfOp) (later : List Period) → with_period (order_of op) later ≡ periods_in (order_of op ∷ []) ++ later
handed-first op later = with_period-append (order_of op) [] later

sent-append : (at call : ℕ) (first second : List ScfOp) → deliveries_at at call (first ++ second) ≡ deliveries_at at call first ++ deliveries_at at call second
sent-append at call [] second = refl
sent-append at call (op ∷ first) second = ap (λ (ds : List Delivery). record { at = at; call = call; op = op } ∷ ds) (sent-append at call first second)

-- what was sent first, and then
pub both_sent : (at call : ℕ) (before now after : List Delivery) → AreSent at call before now → AreSent at call now after → AreSent at call before after
both_sent at call before now after first second = (
  first.0 ++ second.0,
  second.1
      ∙ (ap (λ (ds : List Delivery). ds ++ deliveries_at at call second.0) first.1
      ∙ (append_assoc before (deliveries_at at call first.0) (deliveries_at at call second.0) ∙ ap (λ (ds : List Delivery). before ++ ds) (sym (sent-append at call first.0 second.0)))),
)
