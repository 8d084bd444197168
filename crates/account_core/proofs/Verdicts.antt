-- The answers do only what is allowed.
use Rattle.std.proofs.Common.{◌≡◌, ℕ, ◌+◌, ◌≤◌, Bool, true, false, Option, Some, None, List, refl, arith, subst}
use Rattle.std.specs.Prelude.{◌==◌, ◌||◌, if◌then◌else◌, nat_le, nat_lt}
use Rattle.std.proofs.lemmas.Bool.Decides.{nat_tests}
use Rattle.price_core.specs.Rates.{Rates}
use Rattle.price_core.specs.Times.{Elapsed}
use Rattle.price_core.specs.declared.times.TimeInfo.{TimeInfo}
use Rattle.account_core.specs.Answers.{accepted_times, inadmissible, misplaced, settle_verdict, showing, units_offered, bare_reply}
use Rattle.account_core.specs.Asked.{Asked, Credits, Reserves, Returns, Settles, call_of, is_in_range}
use Rattle.account_core.specs.Available.{available, credited, credits}
use Rattle.account_core.specs.Entries.{EntryData}
use Rattle.account_core.specs.Expiry.{is_past, last_moment}
use Rattle.account_core.specs.Known.{CallFacts, deed_of, is_open, known, plan_in_force, taken_of}
use Rattle.account_core.specs.Sound.{IsSound}
use Rattle.account_core.specs.declared.entry.Reply.{Reply}
use Rattle.account_core.specs.declared.entry.Reply.TheVariants as reply
use Rattle.account_core.specs.declared.fault.AccountFault.{AccountFault}
use Rattle.account_core.specs.declared.fault.AccountFault.TheVariants as fault
use Rattle.account_core.proofs.Soundness.{IsAllowed, IsGrant, stands}
use Rattle.account_core.specs.TariffLaws.{TariffLaws}

-- ---- what a reply shows changes nothing else

pub deed_showing : (asked : Asked) (response : Reply) (credit : ℕ) → deed_of asked (showing credit response) ≡ deed_of asked response
deed_showing (Credits amount moment) response credit = refl
deed_showing (Reserves call plan wanted least at) (reply.Granted units last available) credit = refl
deed_showing (Settles call number info) (reply.Settled paid available) credit = refl
deed_showing (Settles call number info) (reply.Forfeit paid available) credit = refl
deed_showing (Returns call) (reply.Returned paid available) credit = refl
deed_showing asked response credit = refl

pub credited_showing : (asked : Asked) (response : Reply) (credit : ℕ) → credited asked (showing credit response) ≡ credited asked response
credited_showing (Credits amount moment) (reply.Credited available) credit = refl
credited_showing asked response credit = refl

-- ---- what is admissible

in_range : (range : Bool) (later : Option AccountFault) → (if range then later else Some fault.OutOfRange) ≡ None → (range ≡ true) × (later ≡ None)
in_range true later is = (refl, is)
in_range false later is = cc

pub in_place : (h : List EntryData) (asked : Asked) → inadmissible h asked ≡ None → (is_in_range asked ≡ true) × (misplaced (known (call_of asked) h) asked ≡ None)
in_place h asked is = in_range (is_in_range asked) (misplaced (known (call_of asked) h) asked) is

pub none_if : (b : Bool) (why : AccountFault) → (if b then Some why else None) ≡ None → b ≡ false
none_if true why is = cc
none_if false why is = refl

pub none_else : (b : Bool) (why : AccountFault) → (if b then None else Some why) ≡ None → b ≡ true
none_else true why is = refl
none_else false why is = cc

-- ---- by operation

any_false : (a b c d : Bool) → (a || b || c || d) ≡ false → b ≡ false
any_false true b c d is = cc
any_false false true c d is = cc
any_false false false c d is = refl

some_units : (n : ℕ) → (n == 0) ≡ false → 1 ≤ n
some_units n is = grind (arith, nat_tests)

credited_if : (fits : Bool) (amount : ℕ) (moment : Option ℕ) → credited (Credits amount moment) (if fits then reply.Credited 0 else reply.CreditOver 0) ≡ (if fits then amount else 0)
credited_if true amount moment = refl
credited_if false amount moment = refl

fits_capped : (funds amount : ℕ) → funds ≤ 1000000000000000 → funds + (if nat_le (funds + amount) 1000000000000000 then amount else 0) ≤ 1000000000000000
fits_capped funds amount capped = grind (arith, nat_tests)

-- the credits stay within the largest money
pub credited_capped : (opening : ℕ) (until : Option ℕ) (h : List EntryData) (asked : Asked) → opening + credits h ≤ 1000000000000000
    → opening + credits h + credited asked (bare_reply opening until h asked) ≤ 1000000000000000
credited_capped opening until h (Credits amount moment) capped =
    rw (credited_if (nat_le (opening + credits h + amount) 1000000000000000) amount moment) (fits_capped (opening + credits h) amount capped)
credited_capped opening until h (Reserves call plan wanted least at) capped = omega (arith, capped)
credited_capped opening until h (Settles call number info) capped = omega (arith, capped)
credited_capped opening until h (Returns call) capped = omega (arith, capped)

module _ (laws : TariffLaws) where
  grant_allowed : (credit : ℕ) (call : CallFacts) (plan : Rates) (wanted units : ℕ) → IsSound call → call.returned ≡ false
      → units_offered credit call plan wanted ≡ units → 1 ≤ units → IsGrant credit call plan units
  unfolding units_offered
  grant_allowed credit call plan wanted units sound here is some =
      let (state, day) = stands laws call plan sound in
      let money : ℕ = credit + taken_of call in
      let P : ℕ → Type 0 = λ n. 1 ≤ n → IsGrant credit call plan n in
      subst P is (λ more. record {
        unreturned = here;
        within_day = (laws.within (plan_in_force call plan) call.times wanted money day).1;
        covered = laws.covered (plan_in_force call plan) call.times wanted money more;
      }) some

  reserve_allowed : (denied : Bool) (credit : ℕ) (call : CallFacts) (number : ℕ) (plan : Rates) (wanted least at : ℕ) (late : Bool) → IsSound call → call.returned ≡ false
      → (nat_lt (units_offered credit call plan wanted) least || (units_offered credit call plan wanted == 0) || call.forfeited || late) ≡ denied
      → IsAllowed credit call (deed_of (Reserves number plan wanted least at)
      (if denied then reply.Denied 0 else reply.Granted (units_offered credit call plan wanted) (nat_lt (units_offered credit call plan wanted) wanted) 0))
  reserve_allowed true credit call number plan wanted least at late sound here is = tt
  reserve_allowed false credit call number plan wanted least at late sound here is =
      let some = any_false (nat_lt (units_offered credit call plan wanted) least) (units_offered credit call plan wanted == 0) call.forfeited late is in
      grant_allowed credit call plan wanted (units_offered credit call plan wanted) sound here refl (some_units (units_offered credit call plan wanted) some)

  settle_allowed : (credit : ℕ) (call : CallFacts) (c number : ℕ) (info : TimeInfo) (times : Option Elapsed) → is_open call ≡ true → accepted_times call info ≡ times
      → IsAllowed credit call (deed_of (Settles c number info) (settle_verdict call times))
  settle_allowed credit call c number info None is read = is
  settle_allowed credit call c number info (Some times) is read = record { open_yet = is; times = times; accepted = read }

  -- an admissible operation's answer does what is allowed
  pub verdict_allowed : (opening : ℕ) (until : Option ℕ) (h : List EntryData) (asked : Asked) → IsSound (known (call_of asked) h) → inadmissible h asked ≡ None
      → IsAllowed (available opening h) (known (call_of asked) h) (deed_of asked (bare_reply opening until h asked))
  verdict_allowed opening until h (Credits amount moment) sound is = tt
  verdict_allowed opening until h (Reserves call plan wanted least at) sound is =
      reserve_allowed _ (available opening h) (known call h) call plan wanted least at (is_past (last_moment until h) at) sound
      (none_if (known call h).returned fault.CallUsed (in_place h (Reserves call plan wanted least at) is).1) refl
  verdict_allowed opening until h (Settles call number info) sound is =
      settle_allowed (available opening h) (known call h) call number info (accepted_times (known call h) info)
      (none_else (is_open (known call h)) fault.NotOpen (in_place h (Settles call number info) is).1) refl
  verdict_allowed opening until h (Returns call) sound is =
      record { open_yet = none_else (is_open (known call h)) fault.NotOpen (in_place h (Returns call) is).1; paid_is = refl }
