-- A call has paid the price of its times by the route at its start.
use Rattle.std.proofs.Common.{◌≡◌, ◌≢◌, ℕ, Bool, true, false, true≢false, Option, Some, None, List, refl, sym, ap, subst, ◌∙◌, inl, inr}
use Rattle.std.specs.Prelude.{◌⊎◌, is_none, is_some, unwrap_or}
use Rattle.std.specs.Option.{option_map}
use Rattle.std.proofs.lemmas.List.Elements.{All-contains}
use Rattle.account_core.specs.Entries.{EntryData}
use Rattle.account_core.specs.TariffLaws.{TariffLaws}
use Rattle.account_core.specs.Known.{CallFacts, known, paid_if_granted}
use Rattle.run_outputs.proofs.LawLemmas.{ungranted_pays_nothing}
use Rattle.run_outputs.specs.Calls.{call_reports_of}
use Rattle.run_outputs.specs.Records.{IsPrefixOf, IsRecord, Run, outcome_of}
use Rattle.run_outputs.specs.Standings.{past_of, standing_of}
use Rattle.run_outputs.specs.declared.call_record.CallRecord.{CallRecord}
use Rattle.run_outputs.specs.declared.outcome.Outcome.TheVariants as outcome
use Rattle.cap_values.specs.NumberDigits.{digits_of_number}
use Rattle.cap_values.specs.declared.message.SsfMsg.TheVariants.{InitialDp}
use Rattle.cap_values.specs.declared.number.Number.{Number}
use Rattle.run_laws.proofs.Ranges.{untalked}
use Rattle.run_laws.proofs.Reserves.{IsBegun, there}
use Rattle.run_laws.proofs.Unrouted.{past_begun, routed}
use Rattle.run_laws.specs.Records.{CallsPayTheirRoute, IsServedRun, IsUntalked, PaysItsRoute}
use Rattle.run_laws.specs.Starts.{HasItsStart, HaveTheirStarts, begins_with}
use Rattle.run_values.specs.declared.post.Body.{Body}
use Rattle.run_values.specs.declared.post.Body.TheVariants.{Ssf}
use Rattle.held_calls.specs.Entered.{ReservesAreInTheBooks}
use Rattle.account_core.specs.Closed.{Closed}
use Rattle.account_core.specs.Refusals.{Knowing}
use Rattle.price_core.specs.Price.{price_at}
use Rattle.price_core.specs.Rates.{Rates}
use Rattle.tariff_core.specs.Routes.{IsRoute}

-- ---- a call that was granted something and has no forfeit

forfeits : (account : Option ℕ) (has_route : Bool) (call : ℕ) (given : List (ℕ × Body)) (h : List EntryData) → is_none account ≡ false → has_route ≡ true
    → is_some (known call h).plan ≡ true → (known call h).forfeited ≡ true → outcome_of account has_route (call_reports_of call given) (standing_of call h) ≡ outcome.Forfeit
forfeits account has_route call given h there has granted forfeited = rw (there, has, granted, forfeited) refl

priced : (call : CallFacts) (plan : Rates) → call.plan ≡ Some plan → call.forfeited ≡ false → unwrap_or (paid_if_granted call) 0 ≡ price_at plan call.times
priced call plan planned lawful = rw (planned, lawful) refl

unprefixed : {X : Type 0} (listed : X → List ℕ) (prefix : Option X) → is_some prefix ≡ false → option_map listed prefix ≡ None
unprefixed listed None none = refl
unprefixed listed (Some prefix) none = absurd (true≢false none)

with_account : (account : Option ℕ) (books : List Closed) (call : ℕ) (plan : Rates) → (known call (past_of account books)).plan ≡ Some plan → is_none account ≡ false
with_account None books call plan planned = cc
with_account (Some account) books call plan planned = refl

-- a start
abbrev start_at : ℕ → Number → Number → Option (ℕ × Number × Number)
start_at at calling called = Some (at, calling, called)

module _ (Stood : Closed → ℕ → Knowing) (laws : TariffLaws) (reserves : ReservesAreInTheBooks Stood) (run : Run) (is : IsServedRun Stood run) (starts : HaveTheirStarts run.given)
    (call : CallRecord) (record_is : IsRecord run call) (lawful : call.outcome ≢ outcome.Forfeit) where
  ungranted : (known call.call (past_of call.account run.books)).plan ≡ None → IsUntalked call
  ungranted none = record {
    times = record_is.from.times ∙ untalked Stood laws run is call.call call.account none;
    paid = ungranted_pays_nothing run call record_is (rw none refl);
  }

  module _ (plan : Rates) (planned : (known call.call (past_of call.account run.books)).plan ≡ Some plan) (place : ℕ) (begun : IsBegun run place call.call plan) where
    started : start_at begun.at begun.calling begun.called ≡ start_at record_is.start.at record_is.start.calling record_is.start.called
    started =
        let of_begun : begins_with call.call run.given ≡ start_at begun.at begun.calling begun.called =
        All-contains (λ (item : ℕ × Body). HasItsStart run.given item.0 item.1) run.given (begun.at, Ssf call.call (InitialDp begun.other begun.calling begun.called)) starts begun.given in
        sym of_begun ∙ ap (option_map (λ start. (start.at, start.calling, start.called))) record_is.begins

    at_start : IsRoute run.setup.tariff (digits_of_number call.called) call.start begun.route
    at_start =
        let moment : begun.at ≡ call.start =
        ap (λ (start : Option (ℕ × Number × Number)). unwrap_or (option_map (λ (s : ℕ × Number × Number). s.0) start) begun.at) started ∙ sym record_is.from.start_is in
        let number : begun.called ≡ call.called =
        ap (λ (start : Option (ℕ × Number × Number)). unwrap_or (option_map (λ (s : ℕ × Number × Number). s.2) start) begun.called) started ∙ sym record_is.from.called in
        let To : Number → Type 0 = λ called. IsRoute run.setup.tariff (digits_of_number called) begun.at begun.route in
        let At : ℕ → Type 0 = λ at. IsRoute run.setup.tariff (digits_of_number call.called) at begun.route in
        subst At moment (subst To number begun.routed)

    has_prefix : (has : Bool) → is_some call.prefix ≡ has → has ≡ true
    has_prefix true same = refl
    has_prefix false same =
        let Called : Number → Type 0 = λ called. IsRoute run.setup.tariff (digits_of_number called) call.start begun.route in
        let route = subst Called record_is.from.called at_start in
        let Own : Option (List ℕ) → Type 0 = λ prefix. IsPrefixOf run.setup.tariff (digits_of_number record_is.start.called) prefix in
        absurd (routed run.setup.tariff (digits_of_number record_is.start.called) route.prefix route.is_prefix (subst Own (unprefixed (λ prefix. prefix.items) call.prefix same) record_is.from.prefix))

    no_forfeit : (forfeited : Bool) → (known call.call (past_of call.account run.books)).forfeited ≡ forfeited → forfeited ≡ false
    no_forfeit false same = refl
    no_forfeit true same =
        absurd (lawful (record_is.from.outcome_is
        ∙ forfeits call.account (is_some call.prefix) call.call run.given (past_of call.account run.books)
        (with_account call.account run.books call.call plan planned) (has_prefix (is_some call.prefix) refl) (rw planned refl) same))

    granted : PaysItsRoute run call
    granted =
        let k : CallFacts = known call.call (past_of call.account run.books) in
        let price : call.paid ≡ price_at plan k.times = record_is.from.paid ∙ priced k plan planned (no_forfeit k.forfeited refl) in
        record {
          route = begun.route;
          routed = at_start;
          paid = price ∙ ap (price_at plan) (sym record_is.from.times) ∙ ap (λ (rates : Rates). price_at rates call.times) begun.plan_is;
        }

  pays : (plan : Option Rates) → (known call.call (past_of call.account run.books)).plan ≡ plan → IsUntalked call ⊎ PaysItsRoute run call
  pays None none = inl (ungranted none)
  pays (Some plan) planned =
      let (place, begun) = past_begun Stood reserves run is call.call plan call.account planned in
      inr (granted plan planned place begun)

pub calls_routed : (Stood : Closed → ℕ → Knowing) → TariffLaws → ReservesAreInTheBooks Stood → CallsPayTheirRoute Stood
calls_routed Stood laws reserves run call is starts record_is lawful =
    pays Stood laws reserves run is starts call record_is lawful (known call.call (past_of call.account run.books)).plan refl
