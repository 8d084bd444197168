-- Time passes and messages are heard: what rests stays at rest, and what the service says fits.
use Rattle.std.proofs.Common.{◌≡◌, ◌+◌, ◌≤◌, ◌++◌, ◌⊎◌, inl, inr, ℕ, Bool, true, Option, Some, Ok, Err, List, [], ◌∷◌, sym, ap, ◌∙◌, arith, append_assoc, ◌<◌, suc, length, get_or, drop, drop-cons, add-one}
use Rattle.std.proofs.Math.Nat.{le_trans}
use Rattle.std.proofs.lemmas.List.{append-nil}
use Rattle.std.specs.Prelude.{is_some}
use Rattle.account_core.specs.Known.{CallFacts}
use Rattle.cap_values.specs.Orders.{Period, orders_of, periods_in}
use Rattle.cap_values.specs.declared.event.Event.{Event}
use Rattle.cap_values.specs.declared.event.Event.TheVariants as event
use Rattle.cap_values.specs.declared.message.SsfMsg.{SsfMsg}
use Rattle.cap_values.specs.declared.message.SsfMsg.TheVariants as msg
use Rattle.cap_values.specs.declared.mode.Mode.{Mode}
use Rattle.cap_values.specs.declared.operation.ScfOp.{ScfOp}
use Rattle.dialogue_core.specs.Phases.{Conditions, Phase, Says, FirstAsk, Running, Settling, MoreAsk, Returning, Ending, Closed}
use Rattle.dialogue_core.specs.Rules.{going_on, event_reported, on_message}
use Rattle.dialogue_core.specs.declared.fault.DialogueFault.{DialogueFault}
use Rattle.ssf_core.specs.Meters.{EndsMeter, Later, Meter, RunsThrough, TakesPeriod}
use Rattle.ssf_core.specs.Meters as meters
use Rattle.ssf_core.specs.declared.item.Item.TheVariants as item
use Rattle.ssf_core.specs.declared.item.Out.{Out}
use Rattle.price_core.specs.Rates.{Rates}
use Rattle.price_core.specs.Times.{Elapsed, no_times}
use Rattle.one_call.specs.Covered.{IsAtRest, IsCovered, IsReadyCall, IsResting, IsSingle, KnowsTimes}
use Rattle.ssf_core.specs.Deliveries.{deliveries_at}
use Rattle.ssf_core.specs.declared.deliveries.Delivery.{Delivery}
use Rattle.one_call.specs.Deliveries.{queued_in}
use Rattle.one_call.proofs.Asking.{FitsThen, sequel_fits}
use Rattle.one_call.proofs.Orders.{queued-append, queued-sent}
use Rattle.one_call.proofs.Settling.{every_report_settles}

-- ---- time passes

single_later : (meter after : Meter) (plan : Rates) (queued : List Period) → Later meter after → IsSingle meter plan queued → IsSingle after plan queued
single_later meter after plan [] later single = tt
single_later meter after plan (period ∷ []) later single = (later.none_pending single.0, single.1)
single_later meter after plan (period ∷ (next ∷ queued)) later single = absurd single

by_then : (switched : Option ℕ) (s moment last : ℕ) → (switched ≡ Some s) ⊎ (last ≤ s) → (switched ≡ Some s → moment ≤ s) → moment ≤ last → moment ≤ s
by_then switched s moment last (inl was) sooner behind = sooner was
by_then switched s moment last (inr order) sooner behind = le_trans behind order

known_times_later : (meter after : Meter) (times : Elapsed) → Later meter after → (times ≡ no_times) ⊎ KnowsTimes meter times → (times ≡ no_times) ⊎ KnowsTimes after times
known_times_later meter after times later (inl none) = inl none
known_times_later meter after times later (inr on_message) = inr (record {
  answer = on_message.answer;
  switch = on_message.switch;
  moment = on_message.moment;
  was_answered = later.keeps_answer on_message.answer on_message.was_answered;
  behind = le_trans on_message.behind later.no_fall;
  are = on_message.are;
  same_switch = λ s is. later.keeps_switch s (on_message.same_switch s is);
  later_switch = λ s none is. by_then meter.switched s on_message.moment meter.last (later.comes s is) (on_message.later_switch s none) on_message.behind;
})

covered_later : (meter after : Meter) (queued : List Period) (kept : CallFacts) → Later meter after → IsCovered meter queued kept → IsCovered after queued kept
covered_later meter after queued kept later covered = record {
  plan = covered.plan;
  is_plan = covered.is_plan;
  covers = rw later.same_granted covered.covers;
  within_day = covered.within_day;
  single = single_later meter after covered.plan queued later covered.single;
  agrees = known_times_later meter after kept.times later covered.agrees;
  rated = λ awaited. covered.rated (sym later.same_awaited ∙ awaited);
  unforfeited = covered.unforfeited;
}

resting_later : (call : ℕ) (meter after : Meter) (queued : List Period) (kept : CallFacts) (phase : Phase) → Later meter after → IsResting call meter queued kept phase
    → IsResting call after queued kept phase
resting_later call meter after queued kept (FirstAsk t) later rests = tt
resting_later call meter after queued kept (Running t) later rests = (rests.0, covered_later meter after queued kept later rests.1)
resting_later call meter after queued kept (Settling t active since) later rests = tt
resting_later call meter after queued kept (MoreAsk t) later rests = tt
resting_later call meter after queued kept (Returning then) later rests = tt
resting_later call meter after queued kept Ending later rests = tt
resting_later call meter after queued kept Closed later rests = tt

pub rest_later : (call : ℕ) (meter after : Meter) (queued : List Period) (standing : Option CallFacts) (phase : Phase) → Later meter after
    → IsAtRest call meter queued standing phase → IsAtRest call after queued standing phase
rest_later call meter after queued standing phase later rest = record {
  kept = rest.kept;
  stands = rest.stands;
  fits = resting_later call meter after queued rest.kept phase later rest.fits;
}

-- ---- an order is taken or refused

known_times_taken : (meter after : Meter) (period : Period) (times : Elapsed) → TakesPeriod period meter after → (times ≡ no_times) ⊎ KnowsTimes meter times → (times ≡ no_times) ⊎ KnowsTimes after times
known_times_taken meter after period times takes (inl none) = inl none
known_times_taken meter after period times takes (inr on_message) = inr (record {
  answer = on_message.answer;
  switch = on_message.switch;
  moment = on_message.moment;
  was_answered = takes.same_answer ∙ on_message.was_answered;
  behind = le_trans on_message.behind takes.no_fall;
  are = on_message.are;
  same_switch = λ s is. takes.same_switch ∙ on_message.same_switch s is;
  later_switch = λ s none is. on_message.later_switch s none (sym takes.same_switch ∙ is);
})

rated_taken : (awaited ordered : Bool) (rated : Type 0) → (awaited ≡ true) ⊎ (ordered ≡ true) → (awaited ≡ true → rated) → (ordered ≡ true → rated) → rated
rated_taken awaited ordered rated (inl was) old new = old was
rated_taken awaited ordered rated (inr is) old new = new is

covered_taken : (meter after : Meter) (period : Period) (kept : CallFacts) → TakesPeriod period meter after → IsCovered meter (period ∷ []) kept → IsCovered after [] kept
covered_taken meter after period kept takes covered = record {
  plan = covered.plan;
  is_plan = covered.is_plan;
  covers = rw takes.more_granted (omega (arith, covered.covers));
  within_day = covered.within_day;
  single = tt;
  agrees = known_times_taken meter after period kept.times takes covered.agrees;
  rated = λ awaited. rated_taken meter.awaited (is_some period.switch) (is_some covered.plan.after ≡ true) (takes.ordered awaited) covered.rated covered.single.1;
  unforfeited = covered.unforfeited;
}

covered_refused : (meter after : Meter) (period : Period) (kept : CallFacts) → Later meter after → IsCovered meter (period ∷ []) kept → IsCovered after [] kept
covered_refused meter after period kept later covered = record {
  plan = covered.plan;
  is_plan = covered.is_plan;
  covers = rw later.same_granted (omega (arith, covered.covers));
  within_day = covered.within_day;
  single = tt;
  agrees = known_times_later meter after kept.times later covered.agrees;
  rated = λ awaited. covered.rated (sym later.same_awaited ∙ awaited);
  unforfeited = covered.unforfeited;
}

covered_ends : (handed queued : List Period) (meter after : Meter) (kept : CallFacts) → EndsMeter handed meter after → IsCovered meter (handed ++ queued) kept
    → IsCovered after queued kept
covered_ends [] queued meter after kept later covered = covered_later meter after queued kept later covered
covered_ends (period ∷ []) [] meter after kept (inl later) covered = covered_refused meter after period kept later covered
covered_ends (period ∷ []) [] meter after kept (inr takes) covered = covered_taken meter after period kept takes covered
covered_ends (period ∷ []) (next ∷ queued) meter after kept ends covered = absurd covered.single
covered_ends (period ∷ (next ∷ handed)) queued meter after kept ends covered = absurd covered.single

resting_ends : (call : ℕ) (handed queued : List Period) (meter after : Meter) (kept : CallFacts) (phase : Phase) → EndsMeter handed meter after
    → IsResting call meter (handed ++ queued) kept phase → IsResting call after queued kept phase
resting_ends call handed queued meter after kept (FirstAsk t) ends rests = tt
resting_ends call handed queued meter after kept (Running t) ends rests = (rests.0, covered_ends handed queued meter after kept ends rests.1)
resting_ends call handed queued meter after kept (Settling t active since) ends rests = tt
resting_ends call handed queued meter after kept (MoreAsk t) ends rests = tt
resting_ends call handed queued meter after kept (Returning then) ends rests = tt
resting_ends call handed queued meter after kept Ending ends rests = tt
resting_ends call handed queued meter after kept Closed ends rests = tt

-- the next item
pub run_next : (handed : List Period) (now after : Meter) (outs : List Out) (index : ℕ) (out : Out) → index < length outs → out ≡ get_or outs index out
    → RunsThrough handed now (drop index outs) after
    → (ready : Meter) × (Later now ready × ((sent : Meter) × (meters.MetersItem ready out.at out.item sent × RunsThrough handed sent (drop (index + 1) outs) after)))
run_next handed now after outs index out within is run =
    let front : drop index outs ≡ out ∷ drop (index + 1) outs =
    drop-cons outs index out within ∙ (ap (λ (o : Out). o ∷ drop (suc index) outs) (sym is) ∙ ap (λ n. out ∷ drop n outs) (sym (add-one index))) in
    rw front at run

-- all items were heard
pub rest_ends : (call : ℕ) (handed queued : List Period) (meter after : Meter) (standing : Option CallFacts) (phase : Phase) → RunsThrough handed meter [] after
    → IsAtRest call meter (handed ++ queued) standing phase → IsAtRest call after queued standing phase
rest_ends call handed queued meter after standing phase run rest = record {
  kept = rest.kept;
  stands = rest.stands;
  fits = resting_ends call handed queued run.0 after rest.kept phase run.1.1 (resting_later call meter run.0 (handed ++ queued) rest.kept phase run.1.0 rest.fits);
}

-- ---- a message is heard

nothing_queued : (call : ℕ) (meter : Meter) (queued : List Period) (kept : CallFacts) (t : Conditions) → IsResting call meter queued kept (Running t)
    → IsResting call meter (queued ++ periods_in []) kept (Running t)
nothing_queued call meter queued kept t rests = rw (append-nil queued) rests

event_fits : (call : ℕ) (meter : Meter) (queued : List Period) (kept : CallFacts) (t : Conditions) (e : Event) (mode : Mode) → IsResting call meter queued kept (Running t)
    → FitsThen call meter queued kept (Running t) (event_reported t e mode)
event_fits call meter queued kept t event.CollectedInfo mode rests = rests.0
event_fits call meter queued kept t event.RouteSelectFailure mode rests = rests.0
event_fits call meter queued kept t event.CalledPartyBusy mode rests = rests.0
event_fits call meter queued kept t event.NoAnswer mode rests = rests.0
event_fits call meter queued kept t event.Answer mode rests = nothing_queued call meter queued kept t rests
event_fits call meter queued kept t event.Disconnect mode rests = rests.0
event_fits call meter queued kept t event.Abandon mode rests = rests.0

known_fits : (call number moment now : ℕ) (meter after : Meter) (queued : List Period) (kept : CallFacts) (phase : Phase) (message : SsfMsg) → IsResting call meter queued kept phase
    → meters.MetersItem meter now (item.Msg message) after → FitsThen call after queued kept phase (on_message phase number moment message)
known_fits call number moment now meter after queued kept (FirstAsk t) message rests sends = tt
known_fits call number moment now meter after queued kept (Running t) (msg.InitialDp id calling called) rests later = resting_later call meter after queued kept (Running t) later rests
known_fits call number moment now meter after queued kept (Running t) (msg.EventReport e leg mode) rests later =
    event_fits call after queued kept t e mode (resting_later call meter after queued kept (Running t) later rests)
known_fits call number moment now meter after queued kept (Running t) (msg.ChargingReport active info) rests reports =
    let settles = every_report_settles meter after queued kept now active info rests.1 reports in
    record { ours = rests.0; its_call = rests.0; accepted = settles.accepted; goes_on = settles.goes_on }
known_fits call number moment now meter after queued kept (Running t) msg.Ended rests later = rests.0
known_fits call number moment now meter after queued kept (Settling t active since) message rests sends = tt
known_fits call number moment now meter after queued kept (MoreAsk t) message rests sends = tt
known_fits call number moment now meter after queued kept (Returning then) message rests sends = tt
known_fits call number moment now meter after queued kept Ending (msg.InitialDp id calling called) rests sends = tt
known_fits call number moment now meter after queued kept Ending (msg.EventReport e leg mode) rests sends = sequel_fits call after queued kept (going_on mode)
known_fits call number moment now meter after queued kept Ending (msg.ChargingReport active info) rests sends = tt
known_fits call number moment now meter after queued kept Ending msg.Ended rests sends = tt
known_fits call number moment now meter after queued kept Closed message rests sends = tt

pub heard : (call number moment now : ℕ) (meter after : Meter) (queued : List Period) (standing : Option CallFacts) (old new : Phase) (said : Says) (message : SsfMsg)
    → on_message old number moment message ≡ Ok (said, new) → IsAtRest call meter queued standing old → meters.MetersItem meter now (item.Msg message) after
    → IsReadyCall call after queued standing new said
heard call number moment now meter after queued standing old new said message is rest sends = record {
  kept = rest.kept;
  stands = rest.stands;
  fits = rw is at (known_fits call number moment now meter after queued rest.kept old message rest.fits sends);
}

pub unheard : (call number moment now : ℕ) (meter after : Meter) (queued : List Period) (standing : Option CallFacts) (old new : Phase) (message : SsfMsg) (fault : DialogueFault)
    → on_message old number moment message ≡ Err fault → new ≡ old → IsAtRest call meter queued standing old → meters.MetersItem meter now (item.Msg message) after
    → IsAtRest call after (queued ++ periods_in (orders_of [])) standing new
unheard call number moment now meter after queued standing old new message fault is same rest sends =
    rw (append-nil queued, same) (record {
      kept = rest.kept;
      stands = rest.stands;
      fits = rw is at (known_fits call number moment now meter after queued rest.kept old message rest.fits sends);
    })

-- ---- operations are on their way

-- the operations of an answer are queued behind what was
pub sent_rests : (call at to : ℕ) (meter : Meter) (handed : List Period) (before after : List Delivery) (ops : List ScfOp) (standing : Option CallFacts) (phase : Phase)
    → after ≡ before ++ deliveries_at at to ops → IsAtRest call meter ((handed ++ queued_in before) ++ periods_in (orders_of ops)) standing phase
    → IsAtRest call meter (handed ++ queued_in after) standing phase
sent_rests call at to meter handed before after ops standing phase is rest =
    let queue : queued_in after ≡ queued_in before ++ periods_in (orders_of ops) =
    ap queued_in is ∙ (queued-append before (deliveries_at at to ops) ∙ ap (λ (q : List Period). queued_in before ++ q) (queued-sent at to ops)) in
    rw (queue, ← append_assoc handed (queued_in before) (periods_in (orders_of ops))) rest

-- the first operations are on their way
pub first_rests : (call at to : ℕ) (meter : Meter) (before after : List Delivery) (ops : List ScfOp) (standing : Option CallFacts) (phase : Phase)
    → before ≡ [] → after ≡ before ++ deliveries_at at to ops → IsAtRest call meter ([] ++ periods_in (orders_of ops)) standing phase
    → IsAtRest call meter (queued_in after) standing phase
first_rests call at to meter before after ops standing phase empty is rest =
    let queue : queued_in after ≡ periods_in (orders_of ops) =
    ap queued_in (is ∙ ap (λ (ds : List Delivery). ds ++ deliveries_at at to ops) empty) ∙ queued-sent at to ops in
    rw queue rest
