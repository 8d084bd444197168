-- What a reply or a refusal of the port makes of an ask.
use Rattle.std.proofs.Common.{◌≡◌, ◌++◌, inl, ℕ, Bool, true, false, Option, Some, None, Ok, Err, List, [], ◌∷◌, refl, sym, ap, ◌∙◌, arith}
use Rattle.std.proofs.lemmas.Bool.{eq-eqb}
use Rattle.std.specs.Prelude.{unwrap_or, if◌then◌else◌, IsSome}
use Rattle.account_core.specs.Answers.{accepted_times}
use Rattle.account_core.specs.Asked.{Asked, Credits, Reserves, Settles, Returns, IsOfCall, call_of}
use Rattle.account_core.specs.Known.{CallFacts, deed, deed_of, known_after}
use Rattle.account_core.specs.Known as known
use Rattle.account_core.specs.Ledger.{entry_by}
use Rattle.account_core.specs.Standing.{IsGrant, FitsCall}
use Rattle.account_core.specs.declared.entry.Reply.{Reply}
use Rattle.account_core.specs.declared.entry.Reply.TheVariants.{Credited, CreditOver, Granted, Denied, Settled, Forfeit, Returned}
use Rattle.cap_values.specs.Orders.{Period, Pay}
use Rattle.dialogue_core.specs.Phases.{Conditions, Phase, Says, Sequel, FirstAsk, Running, Settling, MoreAsk, Returning, Ending, Closed, Sends, Finished}
use Rattle.dialogue_core.specs.Phases as phase
use Rattle.dialogue_core.specs.Rules.{Step, are_units, says_first_period, on_reply, sequel, on_refusal}
use Rattle.dialogue_core.specs.declared.fault.DialogueFault.TheVariants.{Unexpected}
use Rattle.ssf_core.specs.Meters.{Meter}
use Rattle.price_core.specs.Rates.{Rates}
use Rattle.price_core.specs.declared.times.TimeInfo.{TimeInfo}
use Rattle.one_call.specs.Covered.{FitsMeter, IsAsking, IsCovered, IsFreshCall, IsMore, IsUsedUp}
use Rattle.one_call.specs.Counts.{with_answer}
use Rattle.one_call.specs.declared.counts.Counts.{Counts}

-- ---- what an entry does to a call that it is of

pub deed_is : (call : ℕ) (asked : Asked) (reply : Reply) → call_of asked ≡ call → deed call (entry_by 0 asked reply) ≡ deed_of asked reply
unfolding deed
deed_is call asked reply same = rw (eq-eqb (call_of asked) call same) refl

pub of_call : (call : ℕ) (meter : Meter) (queued : List Period) (kept : CallFacts) (phase : Phase) (asked : Asked) → IsAsking call meter queued kept phase asked → IsOfCall call asked
of_call call meter queued kept (FirstAsk t) (Reserves of plan wanted least moment) asks = asks.ours
of_call call meter queued kept (FirstAsk t) (Credits amount until) asks = absurd asks
of_call call meter queued kept (FirstAsk t) (Settles of number info) asks = absurd asks
of_call call meter queued kept (FirstAsk t) (Returns of) asks = absurd asks
of_call call meter queued kept (Running t) asked asks = absurd asks
of_call call meter queued kept (Settling t active since) (Settles of number info) asks = asks.ours
of_call call meter queued kept (Settling t active since) (Credits amount until) asks = absurd asks
of_call call meter queued kept (Settling t active since) (Reserves of plan wanted least moment) asks = absurd asks
of_call call meter queued kept (Settling t active since) (Returns of) asks = absurd asks
of_call call meter queued kept (MoreAsk t) (Reserves of plan wanted least moment) asks = asks.ours
of_call call meter queued kept (MoreAsk t) (Credits amount until) asks = absurd asks
of_call call meter queued kept (MoreAsk t) (Settles of number info) asks = absurd asks
of_call call meter queued kept (MoreAsk t) (Returns of) asks = absurd asks
of_call call meter queued kept (Returning after) (Returns of) asks = asks
of_call call meter queued kept (Returning after) (Credits amount until) asks = absurd asks
of_call call meter queued kept (Returning after) (Reserves of plan wanted least moment) asks = absurd asks
of_call call meter queued kept (Returning after) (Settles of number info) asks = absurd asks
of_call call meter queued kept Ending asked asks = absurd asks
of_call call meter queued kept Closed asked asks = absurd asks

-- ---- a reply

-- what is said then fits; a reply that has no place leaves the dialogue where it is
abbrev pub FitsThen : ℕ → Meter → List Period → CallFacts → Phase → Step → Type 0
FitsThen call meter queued kept phase (Ok next) = FitsMeter call meter queued kept next.1 next.0
FitsThen call meter queued kept phase (Err fault) = FitsMeter call meter queued kept phase Finished

abbrev pub given : Bool → Says → Phase → Step
given units said phase = if units then Ok (said, phase) else Err Unexpected

-- the first grant covers the first period
first_covered : (call of : ℕ) (meter : Meter) (queued : List Period) (kept : CallFacts) (t : Conditions) (asked : Rates) (wanted least units : ℕ) → IsFreshCall call meter queued kept t asked of
    → IsGrant kept wanted least units → IsCovered meter (queued ++ record { units = units; switch = t.switch } ∷ []) (known_after kept (known.Grants asked units))
first_covered call of meter queued kept t asked wanted least units fresh grant =
    rw fresh.none_queued (record {
      plan = t.plan;
      is_plan = rw (fresh.none_kept, fresh.its_plan) refl;
      covers = rw (fresh.none_kept, fresh.none_granted) (omega arith);
      within_day = grant.day;
      single = (fresh.none_pending, fresh.rated);
      agrees = rw fresh.none_kept (inl refl);
      rated = λ awaited. let no : false ≡ true = sym fresh.none_awaited ∙ awaited in absurd (cc);
      unforfeited = rw fresh.none_kept refl;
    })

-- a further grant covers a further period
more_covered : (meter : Meter) (queued : List Period) (kept : CallFacts) (asked : Rates) (wanted least units : ℕ) → IsUsedUp meter queued kept → IsGrant kept wanted least units
    → IsCovered meter (queued ++ record { units = units; switch = None } ∷ []) (known_after kept (known.Grants asked units))
more_covered meter queued kept asked wanted least units used grant =
    rw used.none_queued (record {
      plan = used.covered.plan;
      is_plan = ap (λ (p : Option Rates). Some (unwrap_or p asked)) used.covered.is_plan;
      covers = omega (arith, used.all);
      within_day = grant.day;
      single = (used.none_pending, λ some. absurd (cc));
      agrees = used.covered.agrees;
      rated = used.covered.rated;
      unforfeited = used.covered.unforfeited;
    })

first_given : (b : Bool) (call of : ℕ) (meter : Meter) (queued : List Period) (kept : CallFacts) (t : Conditions) (asked : Rates) (wanted least units : ℕ) (last : Bool)
    → IsFreshCall call meter queued kept t asked of → IsGrant kept wanted least units
    → FitsThen call meter queued (known_after kept (known.Grants asked units)) (FirstAsk t) (given b (says_first_period t units last) (Running t))
first_given true call of meter queued kept t asked wanted least units last fresh grant =
    (fresh.its_call, first_covered call of meter queued kept t asked wanted least units fresh grant)
first_given false call of meter queued kept t asked wanted least units last fresh grant = tt

more_given : (b : Bool) (call of : ℕ) (meter : Meter) (queued : List Period) (kept : CallFacts) (t : Conditions) (asked : Rates) (wanted least units : ℕ) (last : Bool)
    → IsMore call meter queued kept t of → IsGrant kept wanted least units
    → FitsThen call meter queued (known_after kept (known.Grants asked units)) (MoreAsk t) (given b (Sends (Pay units None last ∷ [])) (Running t))
more_given true call of meter queued kept t asked wanted least units last more grant =
    (more.its_call, more_covered meter queued kept asked wanted least units more.used_up grant)
more_given false call of meter queued kept t asked wanted least units last more grant = tt

-- what follows a return asks nothing, and settles nothing
pub sequel_fits : (call : ℕ) (meter : Meter) (queued : List Period) (kept : CallFacts) (after : Sequel) → FitsMeter call meter queued kept (sequel after).1 (sequel after).0
sequel_fits call meter queued kept phase.Nothing = tt
sequel_fits call meter queued kept phase.Continues = tt
sequel_fits call meter queued kept phase.Clears = tt
sequel_fits call meter queued kept phase.Fails = tt
sequel_fits call meter queued kept phase.Closes = tt

unsettled : (kept : CallFacts) (info : TimeInfo) → IsSome (accepted_times kept info) → accepted_times kept info ≡ None → ⊥
unsettled kept info accepted none = let some = rw none at accepted in absurd (cc)

-- a reply of the port's kind, to what was asked
pub answered_fits : (call : ℕ) (meter : Meter) (queued : List Period) (kept : CallFacts) (phase : Phase) (asked : Asked) (reply : Reply)
    → IsAsking call meter queued kept phase asked → FitsCall kept asked reply
    → FitsThen call meter queued (known_after kept (deed_of asked reply)) phase (on_reply phase reply)
answered_fits call meter queued kept (FirstAsk t) (Credits amount until) reply asks kind = absurd asks
answered_fits call meter queued kept (FirstAsk t) (Reserves of plan wanted least moment) (Credited a) asks kind = absurd kind
answered_fits call meter queued kept (FirstAsk t) (Reserves of plan wanted least moment) (CreditOver a) asks kind = absurd kind
answered_fits call meter queued kept (FirstAsk t) (Reserves of plan wanted least moment) (Granted units last a) asks kind = first_given (are_units units) call of meter queued kept t plan wanted least units last asks kind
answered_fits call meter queued kept (FirstAsk t) (Reserves of plan wanted least moment) (Denied a) asks kind = tt
answered_fits call meter queued kept (FirstAsk t) (Reserves of plan wanted least moment) (Settled p a) asks kind = absurd kind
answered_fits call meter queued kept (FirstAsk t) (Reserves of plan wanted least moment) (Forfeit p a) asks kind = absurd kind
answered_fits call meter queued kept (FirstAsk t) (Reserves of plan wanted least moment) (Returned p a) asks kind = absurd kind
answered_fits call meter queued kept (FirstAsk t) (Settles of number info) reply asks kind = absurd asks
answered_fits call meter queued kept (FirstAsk t) (Returns of) reply asks kind = absurd asks
answered_fits call meter queued kept (Running t) asked reply asks kind = absurd asks
answered_fits call meter queued kept (Settling t true since) (Credits amount until) reply asks kind = absurd asks
answered_fits call meter queued kept (Settling t true since) (Reserves of plan wanted least moment) reply asks kind = absurd asks
answered_fits call meter queued kept (Settling t true since) (Settles of number info) (Credited a) asks kind = absurd kind
answered_fits call meter queued kept (Settling t true since) (Settles of number info) (CreditOver a) asks kind = absurd kind
answered_fits call meter queued kept (Settling t true since) (Settles of number info) (Granted units last a) asks kind = absurd kind
answered_fits call meter queued kept (Settling t true since) (Settles of number info) (Denied a) asks kind = absurd kind
answered_fits call meter queued kept (Settling t true since) (Settles of number info) (Settled p a) asks kind = record { ours = asks.its_call; its_call = asks.its_call; used_up = asks.goes_on refl }
answered_fits call meter queued kept (Settling t true since) (Settles of number info) (Forfeit p a) asks kind = absurd (unsettled kept info asks.accepted kind)
answered_fits call meter queued kept (Settling t true since) (Settles of number info) (Returned p a) asks kind = absurd kind
answered_fits call meter queued kept (Settling t true since) (Returns of) reply asks kind = absurd asks
answered_fits call meter queued kept (Settling t false since) (Credits amount until) reply asks kind = absurd asks
answered_fits call meter queued kept (Settling t false since) (Reserves of plan wanted least moment) reply asks kind = absurd asks
answered_fits call meter queued kept (Settling t false since) (Settles of number info) (Credited a) asks kind = absurd kind
answered_fits call meter queued kept (Settling t false since) (Settles of number info) (CreditOver a) asks kind = absurd kind
answered_fits call meter queued kept (Settling t false since) (Settles of number info) (Granted units last a) asks kind = absurd kind
answered_fits call meter queued kept (Settling t false since) (Settles of number info) (Denied a) asks kind = absurd kind
answered_fits call meter queued kept (Settling t false since) (Settles of number info) (Settled p a) asks kind = asks.its_call
answered_fits call meter queued kept (Settling t false since) (Settles of number info) (Forfeit p a) asks kind = absurd (unsettled kept info asks.accepted kind)
answered_fits call meter queued kept (Settling t false since) (Settles of number info) (Returned p a) asks kind = absurd kind
answered_fits call meter queued kept (Settling t false since) (Returns of) reply asks kind = absurd asks
answered_fits call meter queued kept (MoreAsk t) (Credits amount until) reply asks kind = absurd asks
answered_fits call meter queued kept (MoreAsk t) (Reserves of plan wanted least moment) (Credited a) asks kind = absurd kind
answered_fits call meter queued kept (MoreAsk t) (Reserves of plan wanted least moment) (CreditOver a) asks kind = absurd kind
answered_fits call meter queued kept (MoreAsk t) (Reserves of plan wanted least moment) (Granted units last a) asks kind = more_given (are_units units) call of meter queued kept t plan wanted least units last asks kind
answered_fits call meter queued kept (MoreAsk t) (Reserves of plan wanted least moment) (Denied a) asks kind = asks.its_call
answered_fits call meter queued kept (MoreAsk t) (Reserves of plan wanted least moment) (Settled p a) asks kind = absurd kind
answered_fits call meter queued kept (MoreAsk t) (Reserves of plan wanted least moment) (Forfeit p a) asks kind = absurd kind
answered_fits call meter queued kept (MoreAsk t) (Reserves of plan wanted least moment) (Returned p a) asks kind = absurd kind
answered_fits call meter queued kept (MoreAsk t) (Settles of number info) reply asks kind = absurd asks
answered_fits call meter queued kept (MoreAsk t) (Returns of) reply asks kind = absurd asks
answered_fits call meter queued kept (Returning after) (Credits amount until) reply asks kind = absurd asks
answered_fits call meter queued kept (Returning after) (Reserves of plan wanted least moment) reply asks kind = absurd asks
answered_fits call meter queued kept (Returning after) (Settles of number info) reply asks kind = absurd asks
answered_fits call meter queued kept (Returning after) (Returns of) (Credited a) asks kind = absurd kind
answered_fits call meter queued kept (Returning after) (Returns of) (CreditOver a) asks kind = absurd kind
answered_fits call meter queued kept (Returning after) (Returns of) (Granted units last a) asks kind = absurd kind
answered_fits call meter queued kept (Returning after) (Returns of) (Denied a) asks kind = absurd kind
answered_fits call meter queued kept (Returning after) (Returns of) (Settled p a) asks kind = absurd kind
answered_fits call meter queued kept (Returning after) (Returns of) (Forfeit p a) asks kind = absurd kind
answered_fits call meter queued kept (Returning after) (Returns of) (Returned p a) asks kind = sequel_fits call meter queued (known_after kept (deed_of (Returns of) (Returned p a))) after
answered_fits call meter queued kept Ending asked reply asks kind = absurd asks
answered_fits call meter queued kept Closed asked reply asks kind = absurd asks

-- ---- a refusal

-- a refusal of the port, of what was asked
pub refused_fits : (call : ℕ) (meter : Meter) (queued : List Period) (kept : CallFacts) (phase : Phase) (asked : Asked) → IsAsking call meter queued kept phase asked
    → FitsThen call meter queued kept phase (on_refusal phase)
refused_fits call meter queued kept (FirstAsk t) (Credits amount until) asks = absurd asks
refused_fits call meter queued kept (FirstAsk t) (Reserves of plan wanted least moment) asks = tt
refused_fits call meter queued kept (FirstAsk t) (Settles of number info) asks = absurd asks
refused_fits call meter queued kept (FirstAsk t) (Returns of) asks = absurd asks
refused_fits call meter queued kept (Running t) asked asks = absurd asks
refused_fits call meter queued kept (Settling t true since) (Credits amount until) asks = absurd asks
refused_fits call meter queued kept (Settling t true since) (Reserves of plan wanted least moment) asks = absurd asks
refused_fits call meter queued kept (Settling t true since) (Settles of number info) asks = asks.its_call
refused_fits call meter queued kept (Settling t true since) (Returns of) asks = absurd asks
refused_fits call meter queued kept (Settling t false since) (Credits amount until) asks = absurd asks
refused_fits call meter queued kept (Settling t false since) (Reserves of plan wanted least moment) asks = absurd asks
refused_fits call meter queued kept (Settling t false since) (Settles of number info) asks = asks.its_call
refused_fits call meter queued kept (Settling t false since) (Returns of) asks = absurd asks
refused_fits call meter queued kept (MoreAsk t) (Credits amount until) asks = absurd asks
refused_fits call meter queued kept (MoreAsk t) (Reserves of plan wanted least moment) asks = asks.its_call
refused_fits call meter queued kept (MoreAsk t) (Settles of number info) asks = absurd asks
refused_fits call meter queued kept (MoreAsk t) (Returns of) asks = absurd asks
refused_fits call meter queued kept (Returning after) (Credits amount until) asks = absurd asks
refused_fits call meter queued kept (Returning after) (Reserves of plan wanted least moment) asks = absurd asks
refused_fits call meter queued kept (Returning after) (Settles of number info) asks = absurd asks
refused_fits call meter queued kept (Returning after) (Returns of) asks = sequel_fits call meter queued kept after
refused_fits call meter queued kept Ending asked asks = absurd asks
refused_fits call meter queued kept Closed asked asks = absurd asks

-- ---- no forfeit

accepted_in : (call : ℕ) (meter : Meter) (queued : List Period) (kept : CallFacts) (phase : Phase) (of number : ℕ) (info : TimeInfo)
    → IsAsking call meter queued kept phase (Settles of number info) → IsSome (accepted_times kept info)
accepted_in call meter queued kept (FirstAsk t) of number info asks = absurd asks
accepted_in call meter queued kept (Running t) of number info asks = absurd asks
accepted_in call meter queued kept (Settling t active since) of number info asks = asks.accepted
accepted_in call meter queued kept (MoreAsk t) of number info asks = absurd asks
accepted_in call meter queued kept (Returning after) of number info asks = absurd asks
accepted_in call meter queued kept Ending of number info asks = absurd asks
accepted_in call meter queued kept Closed of number info asks = absurd asks

-- no reply of the port's kind is a forfeit
pub no_forfeit : (call : ℕ) (meter : Meter) (queued : List Period) (kept : CallFacts) (phase : Phase) (asked : Asked) (reply : Reply) (counts : Counts)
    → IsAsking call meter queued kept phase asked → FitsCall kept asked reply → (with_answer counts (Ok reply)).forfeits ≡ counts.forfeits
no_forfeit call meter queued kept phase asked (Credited a) counts asks kind = refl
no_forfeit call meter queued kept phase asked (CreditOver a) counts asks kind = refl
no_forfeit call meter queued kept phase asked (Granted units last a) counts asks kind = refl
no_forfeit call meter queued kept phase asked (Denied a) counts asks kind = refl
no_forfeit call meter queued kept phase asked (Settled p a) counts asks kind = refl
no_forfeit call meter queued kept phase asked (Returned p a) counts asks kind = refl
no_forfeit call meter queued kept phase (Credits amount until) (Forfeit p a) counts asks kind = absurd kind
no_forfeit call meter queued kept phase (Reserves of plan wanted least moment) (Forfeit p a) counts asks kind = absurd kind
no_forfeit call meter queued kept phase (Settles of number info) (Forfeit p a) counts asks kind = absurd (unsettled kept info (accepted_in call meter queued kept phase of number info asks) kind)
no_forfeit call meter queued kept phase (Returns of) (Forfeit p a) counts asks kind = absurd kind
