-- Each Reserve in a book of a run is of a call that has an InitialDP among what was given, from a subscriber of the account, and by the plan of the route that the called number has then.
use Rattle.std.proofs.Common.{◌≡◌, ◌<◌, ℕ, Option, Some, None, true, List, length, refl, subst, All, Contains}
use Rattle.std.specs.Prelude.{is_some, slice_index_or}
use Rattle.std.proofs.lemmas.List.Elements.{All-contains, All-contains_itself}
use Rattle.account_core.specs.Asked.{Asked, Credits, Reserves, Settles, Returns}
use Rattle.account_core.specs.Entries.{EntryData}
use Rattle.run_outputs.specs.Calls.{parties_of}
use Rattle.run_outputs.specs.Records.{Run}
use Rattle.cap_values.specs.NumberDigits.{digits_of_number}
use Rattle.cap_values.specs.declared.message.SsfMsg.TheVariants.{InitialDp}
use Rattle.cap_values.specs.declared.number.Number.{Number}
use Rattle.run_laws.proofs.Entries.{own_holds}
use Rattle.run_laws.proofs.Openings.{book_of}
use Rattle.run_laws.proofs.Posts.{handled_all}
use Rattle.run_laws.proofs.Grants.{IfReserves}
use Rattle.run_laws.specs.Records.{IsServedRun}
use Rattle.run_laws.specs.Starts.{HasItsParties}
use Rattle.run_values.specs.declared.post.Body.{Body}
use Rattle.run_values.specs.declared.post.Body.TheVariants.{Ssf}
use Rattle.run_values.specs.declared.post.Post.{Post}
use Rattle.held_calls.specs.Entered.{ReservesAreInTheBooks}
use Rattle.account_core.specs.Closed.{Closed}
use Rattle.account_core.specs.Own.{own}
use Rattle.account_core.specs.Refusals.{Knowing}
use Rattle.price_core.specs.Rates.{Rates}
use Rattle.price_core.specs.RatesOf.{rates_of}
use Rattle.tariff_core.specs.Routes.{IsRoute}
use Rattle.price_core.specs.declared.route.Route.{Route}
use Rattle.held_calls.specs.Workers.{IsOnTerms}
use Rattle.runs_core.specs.Verdicts.{home_of}

-- a call has an InitialDP at a moment, from a subscriber of the account at a place, and this plan is that of the called number's route at the moment
pub record IsBegun (run : Run) (place call : ℕ) (plan : Rates) : Type 0 where
  pub at : ℕ
  pub other : ℕ
  pub calling : Number
  pub called : Number
  pub given : Contains run.given (at, Ssf call (InitialDp other calling called))
  pub home : home_of calling run.setup ≡ Some place
  pub route : Route
  pub routed : IsRoute run.setup.tariff (digits_of_number called) at route
  pub plan_is : plan ≡ rates_of route.plan

begun_by : (run : Run) (place : ℕ) (posts : List Post) → All (λ post. Contains run.given (post.at, post.body)) posts → (asked : Asked) → IsOnTerms run.setup place posts asked
    → IfReserves (IsBegun run place) asked
begun_by run place posts given (Credits amount until) terms = tt
begun_by run place posts given (Reserves call plan wanted least at) terms =
    let begun = terms.0 in
    let Given : Body → Type 0 = λ body. Contains run.given (begun.post.at, body) in
    record {
      at = begun.post.at;
      other = begun.other;
      calling = begun.calling;
      called = begun.called;
      given = subst Given begun.is (All-contains (λ (post : Post). Contains run.given (post.at, post.body)) posts begun.post given begun.stands);
      home = begun.home;
      route = begun.route;
      routed = begun.routed;
      plan_is = begun.plan_is;
    }
begun_by run place posts given (Settles call number info) terms = tt
begun_by run place posts given (Returns call) terms = tt

pub book_begun : (Stood : Closed → ℕ → Knowing) → ReservesAreInTheBooks Stood → (run : Run) → IsServedRun Stood run → (place : ℕ) (d : Closed) → place < length run.books
    → All (λ entry. IfReserves (IsBegun run place) entry.asked) (slice_index_or run.books place d).history
book_begun Stood reserves run is place d within =
    let book : Closed = slice_index_or run.books place d in
    let here = book_of run.setup is.workers run.books is.may_be is.served.opened is.accounts place d within in
    own_holds (λ (entry : EntryData). IfReserves (IsBegun run place) entry.asked) book.history is.workers (is.served.owned place d within) (λ seat seated.
    let its = is.served.answered seat seated in
    let given : All (λ post. Contains run.given (post.at, post.body)) its.posts =
    handled_all (λ at body. Contains run.given (at, body)) is.workers run.given seat its.posts its.share (All-contains_itself run.given) in
    let terms = reserves run.setup is.workers run.given is.answers run.books seat book.account place book its here in
    λ k e stands. begun_by run place its.posts given (slice_index_or (own seat book.history) k e).asked (terms k e stands))

-- its InitialDP names the parties that the call starts with
pub begun_parties : (Stood : Closed → ℕ → Knowing) (run : Run) → IsServedRun Stood run → (place call : ℕ) (plan : Rates) (begun : IsBegun run place call plan)
    → parties_of call run.given ≡ Some (begun.calling, begun.called)
begun_parties Stood run is place call plan begun =
    All-contains (λ (item : ℕ × Body). HasItsParties run.given item.1) run.given (begun.at, Ssf call (InitialDp begun.other begun.calling begun.called)) is.parties begun.given

-- a plan that is there
pub there : (found : Option Rates) → is_some found ≡ true → (plan : Rates) × (found ≡ Some plan)
there None is = cc
there (Some plan) is = (plan, refl)
