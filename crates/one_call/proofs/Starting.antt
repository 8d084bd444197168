-- A gsmSSF that is started, and the first ask of the service.
use Rattle.std.proofs.Common.{◌≡◌, ℕ, Option, Some, None, List, [], ◌∷◌, refl, sym, subst, ◌∙◌}
use Rattle.std.specs.Prelude.{is_some}
use Rattle.account_core.specs.Known.{CallFacts, nothing_known}
use Rattle.cap_values.specs.declared.message.SsfMsg.TheVariants as msg
use Rattle.dialogue_core.specs.Phases.{Phase, Says}
use Rattle.dialogue_core.specs.Rules.{on_begin, seconds_to}
use Rattle.ssf_core.specs.Calls.{Stands, View}
use Rattle.ssf_core.specs.Meters.{Later, Meter, Metered, RunsThrough, MetersItem, meter_of}
use Rattle.ssf_core.specs.declared.item.Item.{Item}
use Rattle.ssf_core.specs.declared.item.Item.TheVariants as item
use Rattle.ssf_core.specs.declared.item.Out.{Out}
use Rattle.price_core.specs.declared.route.Route.{Route}
use Rattle.one_call.specs.Covered.{IsReadyCall}
use Rattle.one_call.specs.Starts.{IsStarted, IsUnpaid}

unpaid_later : (meter after : Meter) → Later meter after → IsUnpaid meter → IsUnpaid after
unpaid_later meter after later unpaid = record {
  none_granted = later.same_granted ∙ unpaid.none_granted;
  none_pending = later.none_pending unpaid.none_pending;
  none_awaited = later.same_awaited ∙ unpaid.none_awaited;
}

unpaid_sends : (meter after : Meter) (now : ℕ) (sent : Item) → MetersItem meter now sent after → IsUnpaid meter → IsUnpaid after
unpaid_sends meter after now (item.Msg (msg.InitialDp call calling called)) sends unpaid = unpaid_later meter after sends unpaid
unpaid_sends meter after now (item.Msg (msg.EventReport event leg mode)) sends unpaid = unpaid_later meter after sends unpaid
unpaid_sends meter after now (item.Msg (msg.ChargingReport active info)) sends unpaid = unpaid_later meter after sends.later unpaid
unpaid_sends meter after now (item.Msg msg.Ended) sends unpaid = unpaid_later meter after sends unpaid
unpaid_sends meter after now item.Proceed sends unpaid = unpaid_later meter after sends unpaid
unpaid_sends meter after now (item.Clear cause) sends unpaid = unpaid_later meter after sends unpaid

unpaid_runs : (meter after : Meter) (outs : List Out) → RunsThrough [] meter outs after → IsUnpaid meter → IsUnpaid after
unpaid_runs meter after [] run unpaid = unpaid_later run.0 after run.1.1 (unpaid_later meter run.0 run.1.0 unpaid)
unpaid_runs meter after (out ∷ outs) run unpaid =
    unpaid_runs run.1.1.0 after outs run.1.1.1.1 (unpaid_sends run.0 run.1.1.0 out.at out.item run.1.1.1.0 (unpaid_later meter run.0 run.1.0 unpaid))

pub new_is_started : (view : View) → Stands view [] → IsStarted view
new_is_started view stands = (meter_of [], (([], (stands, refl)), record { none_granted = refl; none_pending = refl; none_awaited = refl }))

-- without an order a gsmSSF takes no period
pub started_still : (before after : View) (sent : List Out) → Metered [] before sent after → IsStarted before → IsStarted after
started_still before after sent metered started =
    let next = metered started.0 started.1.0 in (next.0, (next.1.0, unpaid_runs started.0 next.0 sent next.1.1 started.1.1))

seconds_if : (now : ℕ) (at : Option ℕ) → is_some (seconds_to now at) ≡ is_some at
seconds_if now None = refl
seconds_if now (Some at) = refl

-- the service's first turn fits a gsmSSF that took no period, and a port to which the call is new
pub begun_ready : (call now wanted least : ℕ) (route : Option Route) (meter : Meter) (standing : Option CallFacts) (phase : Phase) (said : Says)
    → on_begin call now wanted least route ≡ (said, phase) → standing ≡ Some nothing_known → IsUnpaid meter → IsReadyCall call meter [] standing phase said
begun_ready call now wanted least None meter standing phase said is new unpaid =
    let P : (Says × Phase) → Type 0 = λ p. IsReadyCall call meter [] standing p.1 p.0 in
    subst P is (record { kept = nothing_known; stands = new; fits = tt })
begun_ready call now wanted least (Some route) meter standing phase said is new unpaid =
    let P : (Says × Phase) → Type 0 = λ p. IsReadyCall call meter [] standing p.1 p.0 in
    subst P is (record {
      kept = nothing_known;
      stands = new;
      fits = record {
        ours = refl;
        its_call = refl;
        its_plan = refl;
        none_kept = refl;
        none_queued = refl;
        none_granted = unpaid.none_granted;
        none_pending = unpaid.none_pending;
        none_awaited = unpaid.none_awaited;
        rated = λ some. sym route.switches ∙ (sym (seconds_if now route.switch_at) ∙ some);
      };
    })
