-- A call to a number without a route has paid nothing.
use Rattle.std.proofs.Common.{◌≡◌, ◌==◌, ℕ, Bool, true, false, cond, Option, Some, None, List, [], ◌∷◌, ◌++◌, reverse, refl, sym, ap, subst, ◌∙◌, All}
use Rattle.std.specs.Option.{option_map}
use Rattle.std.specs.Prelude.{find, is_some, unwrap_or}
use Rattle.std.proofs.lemmas.List.{reverse-append}
use Rattle.std.proofs.lemmas.List.Elements.{All-append, All-cons, All-head, All-nil, All-same, All-tail}
use Rattle.account_core.specs.Entries.{EntryData}
use Rattle.account_core.specs.Known.{known}
use Rattle.run_outputs.proofs.LawLemmas.{parties_start, ungranted_pays_nothing, unrouted_has_none}
use Rattle.run_outputs.specs.Records.{Run}
use Rattle.run_outputs.specs.Standings.{past_in, past_of}
use Rattle.cap_values.specs.NumberDigits.{digits_of_number}
use Rattle.cap_values.specs.declared.number.Number.{Number}
use Rattle.run_laws.proofs.Grants.{IfReserves, granted_has}
use Rattle.run_laws.proofs.Reserves.{IsBegun, begun_parties, book_begun, there}
use Rattle.run_laws.specs.Records.{IsServedRun, UnroutedCallsPayNothing}
use Rattle.held_calls.specs.Entered.{ReservesAreInTheBooks}
use Rattle.account_core.specs.Closed.{Closed}
use Rattle.account_core.specs.Refusals.{Knowing}
use Rattle.tariff_core.specs.Bands.{Band}
use Rattle.price_core.specs.Rates.{Rates}
use Rattle.tariff_core.specs.Routes.{HasNoRoute, IsPrefixFor}

-- ---- a call that was granted anything has begun

pub reversed : (P : EntryData → Type 0) (h : List EntryData) → All P h → All P (reverse h)
reversed P [] all = All-nil P
reversed P (entry ∷ h) all =
    All-same P (reverse (entry ∷ h)) (reverse h ++ entry ∷ []) (reverse-append (entry ∷ []) h)
    (All-append P (reverse h) (entry ∷ []) (reversed P h (All-tail P entry h all)) (All-cons P entry [] (All-head P entry h all) (All-nil P)))

pub all_found : (Q : Closed → Type 0) (test : Closed → Bool) (books : List Closed) (book : Closed) → All Q books → find test books ≡ Some book → Q book
all_found Q test [] book all is = cc
all_found Q test (first ∷ books) book all is = by (all_found Q test books book (All-tail Q first books all)) (test first) is
  where
    by : (find test books ≡ Some book → Q book) → (passes : Bool) → cond passes (Some first) (find test books) ≡ Some book → Q book
    by later true here = let same : first ≡ book = cc in subst Q same (All-head Q first books all)
    by later false found = later found

-- ---- and it has paid nothing

-- a number with a prefix that counts has a route
pub routed : (bands : List Band) (called prefix : List ℕ) → IsPrefixFor bands called prefix → HasNoRoute bands called → ⊥
routed bands called prefix is_prefix no_route =
    let (k, band, within, stands, own) = is_prefix.listed in
    no_route k band within (subst (λ (p : List ℕ). (rest : List ℕ) × (called ≡ p ++ rest)) (sym own ∙ ap (λ (b : Band). b.prefix) (sym stands)) is_prefix.begins)

module _ (Stood : Closed → ℕ → Knowing) (reserves : ReservesAreInTheBooks Stood) (run : Run) (is : IsServedRun Stood run) where
  abbrev HasBegun : Closed → Type 0
  HasBegun book = (place : ℕ) × All (λ entry. IfReserves (IsBegun run place) entry.asked) book.history

  granted_begun : (call : ℕ) (plan : Rates) (found : Option Closed) → ((book : Closed) → found ≡ Some book → HasBegun book) → (known call (past_in found)).plan ≡ Some plan
      → (place : ℕ) × IsBegun run place call plan
  granted_begun call plan None each granted = cc
  granted_begun call plan (Some book) each granted =
      let begun = each book refl in
      let P : EntryData → Type 0 = λ entry. IfReserves (IsBegun run begun.0) entry.asked in
      (begun.0, granted_has (IsBegun run begun.0) call plan (reverse book.history) (reversed P book.history begun.1) granted)

  pub past_begun : (call : ℕ) (plan : Rates) (account : Option ℕ) → (known call (past_of account run.books)).plan ≡ Some plan → (place : ℕ) × IsBegun run place call plan
  past_begun call plan None granted = cc
  past_begun call plan (Some account) granted =
      granted_begun call plan (find (λ book. book.account == account) run.books)
      (λ book found. all_found HasBegun (λ book. book.account == account) run.books book (λ place d within. (place, book_begun Stood reserves run is place d within)) found) granted

pub unrouted_pay_nothing : (Stood : Closed → ℕ → Knowing) → ReservesAreInTheBooks Stood → UnroutedCallsPayNothing Stood
unrouted_pay_nothing Stood reserves run call is record_is unrouted =
    ungranted_pays_nothing run call record_is (ungranted (is_some (known call.call (past_of call.account run.books)).plan) refl)
  where
    ungranted : (granted : Bool) → is_some (known call.call (past_of call.account run.books)).plan ≡ granted
        → is_some (known call.call (past_of call.account run.books)).plan ≡ false
    ungranted false same = same
    ungranted true same =
        let (plan, planned) = there (known call.call (past_of call.account run.books)).plan same in
        let (place, begun) = past_begun Stood reserves run is call.call plan call.account planned in
        let same_parties : Some (begun.calling, begun.called) ≡ Some (record_is.start.calling, record_is.start.called) =
        sym (begun_parties Stood run is place call.call plan begun) ∙ parties_start run call record_is in
        let one : begun.called ≡ record_is.start.called = ap (λ (o : Option (Number × Number)). unwrap_or (option_map (λ (p : Number × Number). p.1) o) begun.called) same_parties in
        let prefix : List ℕ = begun.routed.prefix in
        let Prefix : Number → Type 0 = λ called. IsPrefixFor run.setup.tariff (digits_of_number called) prefix in
        absurd (routed run.setup.tariff (digits_of_number record_is.start.called) prefix (subst Prefix one begun.routed.is_prefix) (unrouted_has_none run call record_is unrouted))
