-- What an answered entry may do to its call, and that the call stays sound under it.
use Rattle.std.proofs.Common.{◌≡◌, ℕ, ◌+◌, ◌≤◌, Bool, true, false, Option, Some, None, refl, sym, ap, ◌∙◌, arith, subst}
use Rattle.std.specs.Prelude.{◌&&◌, if◌then◌else◌, not, is_some, unwrap_or}
use Rattle.price_core.specs.Ceiling.{ceiling_of}
use Rattle.price_core.specs.Laws.{MayStand}
use Rattle.price_core.specs.Lawful.{is_lawful}
use Rattle.price_core.specs.Rates.{Rates}
use Rattle.price_core.specs.Reading.{times_read}
use Rattle.price_core.specs.Times.{Elapsed}
use Rattle.price_core.specs.declared.times.TimeInfo.{TimeInfo}
use Rattle.account_core.specs.Answers.{accepted_times, lawful_times}
use Rattle.account_core.specs.Known.{EntryDeed, Ends, Forfeits, Grants, CallFacts, Reports, Rests, is_open, known_after, paid_of, plan_in_force, taken_of, taken_under}
use Rattle.account_core.specs.Sound.{IsGrantedCall, IsSound, IsSoundUnder}
use Rattle.account_core.proofs.CallStateLemmas.{paid_within}
use Rattle.account_core.specs.TariffLaws.{TariffLaws}

-- ---- what an answered entry may do, with this much credit left

pub record IsGrant (credit : ℕ) (call : CallFacts) (plan : Rates) (units : ℕ) : Type 0 where
  pub unreturned : call.returned ≡ false
  pub within_day : call.times.before + call.times.after + units ≤ 864000
  pub covered : ceiling_of (plan_in_force call plan) call.times units ≤ credit + taken_of call

pub record IsReport (call : CallFacts) (info : TimeInfo) : Type 0 where
  pub open_yet : is_open call ≡ true
  pub times : Elapsed
  pub accepted : accepted_times call info ≡ Some times

pub record IsEnd (call : CallFacts) (paid : ℕ) : Type 0 where
  pub open_yet : is_open call ≡ true
  pub paid_is : paid ≡ paid_of call

abbrev pub IsAllowed : ℕ → CallFacts → EntryDeed → Type 0
IsAllowed credit call (Grants plan units) = IsGrant credit call plan units
IsAllowed credit call (Reports info) = IsReport call info
IsAllowed credit call Forfeits = is_open call ≡ true
IsAllowed credit call (Ends paid) = IsEnd call paid
IsAllowed credit call Rests = Unit {0}

-- ---- open calls

pub open_parts : (plan : Option Rates) (returned : Bool) → (is_some plan && not returned) ≡ true → (plan ≡ None → ⊥) × (returned ≡ false)
open_parts None returned is = cc
open_parts (Some plan) true is = cc
open_parts (Some plan) false is = (λ none. cc, refl)

taken_under_open : (plan : Option Rates) (call : CallFacts) → (plan ≡ None → ⊥) → call.returned ≡ false → taken_under plan call ≡ call.top
taken_under_open None call begun here = absurd (begun refl)
taken_under_open (Some plan) call begun here = rw here refl

taken_under_returned : (plan : Option Rates) (call : CallFacts) → (plan ≡ None → ⊥) → call.returned ≡ true → taken_under plan call ≡ paid_of call
taken_under_returned None call begun here = absurd (begun refl)
taken_under_returned (Some plan) call begun here = rw here refl

-- an open call takes its top
pub taken_open : (call : CallFacts) → is_open call ≡ true → taken_of call ≡ call.top
unfolding taken_of
taken_open call is = let (begun, here) = open_parts call.plan call.returned is in taken_under_open call.plan call begun here

-- and one that is ended takes what it has paid
pub taken_ended : (call : CallFacts) (paid : ℕ) → is_open call ≡ true → taken_of (known_after call (Ends paid)) ≡ paid_of call
unfolding taken_of
taken_ended call paid is =
    let (begun, here) = open_parts call.plan call.returned is in taken_under_returned call.plan (known_after call (Ends paid)) begun refl

pub taken_granted : (call : CallFacts) (plan : Rates) (units : ℕ) → call.returned ≡ false
    → taken_of (known_after call (Grants plan units)) ≡ ceiling_of (plan_in_force call plan) call.times units
unfolding taken_of
taken_granted call plan units here = rw here refl

-- ---- an accepted report

pub record IsAccepted (call : CallFacts) (info : TimeInfo) (times : Elapsed) : Type 0 where
  pub plan : Rates
  pub plan_is : call.plan ≡ Some plan
  pub lawful_yet : call.forfeited ≡ false
  pub read : times_read call.times info ≡ Some times
  pub lawful : is_lawful plan call.times times call.granted ≡ true

if_lawful : (b : Bool) (found times : Elapsed) → (if b then Some found else None) ≡ Some times → (b ≡ true) × (found ≡ times)
if_lawful true found times is = (refl, cc)
if_lawful false found times is = cc

lawful_under : (plan : Option Rates) (call : CallFacts) (info : TimeInfo) (read : Option Elapsed) (times : Elapsed)
    → call.plan ≡ plan → call.forfeited ≡ false → times_read call.times info ≡ read → lawful_times plan call read ≡ Some times → IsAccepted call info times
lawful_under None call info read times plan_is yet read_is is = cc
lawful_under (Some plan) call info None times plan_is yet read_is is = cc
lawful_under (Some plan) call info (Some found) times plan_is yet read_is is =
    let (lawful, same) = if_lawful (is_lawful plan call.times found call.granted) found times is in
    record {
      plan = plan;
      plan_is = plan_is;
      lawful_yet = yet;
      read = read_is ∙ ap Some same;
      lawful = let P : Elapsed → Type 0 = λ t. is_lawful plan call.times t call.granted ≡ true in subst P same lawful;
    }

accepted_if : (forfeited : Bool) (call : CallFacts) (info : TimeInfo) (times : Elapsed) → call.forfeited ≡ forfeited
    → (if forfeited then None else lawful_times call.plan call (times_read call.times info)) ≡ Some times → IsAccepted call info times
accepted_if true call info times yet is = cc
accepted_if false call info times yet is = lawful_under call.plan call info (times_read call.times info) times refl yet refl is

pub accepted : (call : CallFacts) (info : TimeInfo) (times : Elapsed) → accepted_times call info ≡ Some times → IsAccepted call info times
unfolding accepted_times
accepted call info times is = accepted_if call.forfeited call info times refl is

-- ---- a call stays sound

pub under : (plan : Option Rates) (call later : CallFacts) → (plan ≡ None → ⊥) → ((p : Rates) → plan ≡ Some p → IsGrantedCall p call → IsGrantedCall p later)
    → IsSoundUnder plan call → IsSoundUnder plan later
under None call later begun held sound = absurd (begun refl)
under (Some plan) call later begun held sound = held plan refl sound

module _ (laws : TariffLaws) where
  stands_under : (plan : Option Rates) (call : CallFacts) (offered : Rates) → IsSoundUnder plan call
      → MayStand (unwrap_or plan offered) call.times × (call.times.before + call.times.after ≤ 864000)
  stands_under None call offered nothing =
      let P : CallFacts → Type 0 = λ k. MayStand offered k.times × (k.times.before + k.times.after ≤ 864000) in
      subst P (sym nothing) (record { times_are = refl; rated = λ switched. cc }, omega arith)
  stands_under (Some plan) call offered held =
      let (stands, within) = laws.stand plan held.base (held.base.before + held.base.after + held.units) call.times held.comes in
      (stands, omega (arith, within, held.within_day))

  -- a call's times may be charged under its plan, or under any where it has none yet
  pub stands : (call : CallFacts) (offered : Rates) → IsSound call → MayStand (plan_in_force call offered) call.times × (call.times.before + call.times.after ≤ 864000)
  stands call offered sound = stands_under call.plan call offered sound

  held_granted : (credit : ℕ) (call : CallFacts) (plan : Rates) (units : ℕ) → IsSound call → IsGrant credit call plan units
      → IsGrantedCall (plan_in_force call plan) (known_after call (Grants plan units))
  held_granted credit call plan units sound grant = record {
    base = call.times;
    units = units;
    granted_is = refl;
    top_is = refl;
    comes = laws.stay (plan_in_force call plan) call.times (call.times.before + call.times.after + units) (stands call plan sound).0 (omega arith);
    within_day = grant.within_day;
  }

  held_reported : (call : CallFacts) (info : TimeInfo) (times : Elapsed) → IsAccepted call info times → (p : Rates) → call.plan ≡ Some p → IsGrantedCall p call
      → IsGrantedCall p (known_after call (Reports info))
  held_reported call info times report p plan_is held =
      let same : report.plan ≡ p = cc in
      let P : Rates → Type 0 = λ plan. is_lawful plan call.times times call.granted ≡ true in
      let lawful = subst P same report.lawful in
      let G : ℕ → Type 0 = λ n. is_lawful p call.times times n ≡ true in
      let comes = laws.follow p held.base (held.base.before + held.base.after + held.units) call.times times held.comes
      (laws.read call.times info times report.read).0 (subst G held.granted_is lawful) in
      record {
        base = held.base;
        units = held.units;
        granted_is = held.granted_is;
        top_is = held.top_is;
        comes = rw report.read comes;
        within_day = held.within_day;
      }

  -- whatever an answered entry does
  pub sound_after : (credit : ℕ) (call : CallFacts) (deed : EntryDeed) → IsSound call → IsAllowed credit call deed → IsSound (known_after call deed)
  sound_after credit call (Grants plan units) sound grant = held_granted credit call plan units sound grant
  sound_after credit call (Reports info) sound report =
      under call.plan call (known_after call (Reports info)) (open_parts call.plan call.returned report.open_yet).0
      (held_reported call info report.times (accepted call info report.times report.accepted)) sound
  sound_after credit call Forfeits sound is =
      under call.plan call (known_after call Forfeits) (open_parts call.plan call.returned is).0
      (λ p here held. record {
        base = held.base;
        units = held.units;
        granted_is = held.granted_is;
        top_is = held.top_is;
        comes = held.comes;
        within_day = held.within_day;
      }) sound
  sound_after credit call (Ends paid) sound end =
      under call.plan call (known_after call (Ends paid)) (open_parts call.plan call.returned end.open_yet).0
      (λ p here held. record {
        base = held.base;
        units = held.units;
        granted_is = held.granted_is;
        top_is = held.top_is;
        comes = held.comes;
        within_day = held.within_day;
      }) sound
  sound_after credit call Rests sound rests = sound

  -- and it takes no more than there is
  pub takes_within : (credit : ℕ) (call : CallFacts) (deed : EntryDeed) → IsSound call → IsAllowed credit call deed
      → taken_of (known_after call deed) ≤ credit + taken_of call
  takes_within credit call (Grants plan units) sound grant = rw (taken_granted call plan units grant.unreturned) grant.covered
  takes_within credit call (Reports info) sound report =
      omega (arith, taken_open call report.open_yet, taken_open (known_after call (Reports info)) report.open_yet)
  takes_within credit call Forfeits sound is = omega (arith, taken_open call is, taken_open (known_after call Forfeits) is)
  takes_within credit call (Ends paid) sound end = omega (arith, taken_ended call paid end.open_yet, paid_within laws.not_passed call sound)
  takes_within credit call Rests sound rests = omega arith
