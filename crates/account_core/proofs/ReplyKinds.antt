-- An account's answers are of the kinds that operations have.
use Rattle.std.proofs.Common.{◌≡◌, ℕ, ◌≤◌, Bool, true, false, Option, Some, None, List, refl, arith}
use Rattle.std.specs.Prelude.{◌==◌, ◌||◌, ◌+◌, ◌-◌, if◌then◌else◌, min, nat_le, nat_lt}
use Rattle.std.proofs.lemmas.Bool.Decides.{nat_tests}
use Rattle.price_core.proofs.AffordLemmas.{units_covered_within}
use Rattle.price_core.specs.Afford.{units_covered}
use Rattle.price_core.specs.Rates.{Rates}
use Rattle.price_core.specs.Times.{Elapsed}
use Rattle.price_core.specs.declared.times.TimeInfo.{TimeInfo}
use Rattle.account_core.specs.Answers.{accepted_times, answer, settle_verdict, showing, units_offered, bare_reply}
use Rattle.account_core.specs.Asked.{Asked, Credits, Reserves, Returns, Settles}
use Rattle.account_core.specs.Available.{available, credits}
use Rattle.account_core.specs.Entries.{EntryData}
use Rattle.account_core.specs.Expiry.{is_past, last_moment}
use Rattle.account_core.specs.Known.{CallFacts, known, plan_in_force, taken_of}
use Rattle.account_core.specs.declared.entry.Reply.TheVariants as reply
use Rattle.account_core.specs.Kinds.{IsReplyTo}

offered_within : (credit : ℕ) (call : CallFacts) (plan : Rates) (wanted : ℕ) → units_offered credit call plan wanted ≤ wanted
unfolding units_offered
offered_within credit call plan wanted =
    let most = min wanted (864000 - (call.times.before + call.times.after)) in
    let within : units_covered (plan_in_force call plan) call.times (credit + taken_of call) most ≤ most =
    units_covered_within (plan_in_force call plan) call.times (credit + taken_of call) most in
    omega (arith, within)

fits_credit : (within : Bool) (credit amount : ℕ) (moment : Option ℕ) → IsReplyTo (Credits amount moment) (showing credit (if within then reply.Credited 0 else reply.CreditOver 0))
fits_credit true credit amount moment = tt
fits_credit false credit amount moment = tt

fits_reserve : (short nothing forfeited late : Bool) (credit call : ℕ) (plan : Rates) (units wanted least at : ℕ) (last : Bool) → nat_lt units least ≡ short
    → (units == 0) ≡ nothing → units ≤ wanted
    → IsReplyTo (Reserves call plan wanted least at) (showing credit (if short || nothing || forfeited || late then reply.Denied 0 else reply.Granted units last 0))
fits_reserve true nothing forfeited late credit call plan units wanted least at last short_is nothing_is within = tt
fits_reserve false true forfeited late credit call plan units wanted least at last short_is nothing_is within = tt
fits_reserve false false true late credit call plan units wanted least at last short_is nothing_is within = tt
fits_reserve false false false true credit call plan units wanted least at last short_is nothing_is within = tt
fits_reserve false false false false credit call plan units wanted least at last short_is nothing_is within =
    let some : 1 ≤ units = grind (arith, nat_tests) in
    let enough : least ≤ units = grind (arith, nat_tests) in
    (some, enough, within)

fits_settle : (times : Option Elapsed) (known : CallFacts) (credit call number : ℕ) (info : TimeInfo)
    → IsReplyTo (Settles call number info) (showing credit (settle_verdict known times))
fits_settle (Some times) known credit call number info = tt
fits_settle None known credit call number info = tt

fits_showing : (opening : ℕ) (until : Option ℕ) (credit : ℕ) (h : List EntryData) (asked : Asked) → IsReplyTo asked (showing credit (bare_reply opening until h asked))
fits_showing opening until credit h (Credits amount moment) = fits_credit (nat_le (opening + credits h + amount) 1000000000000000) credit amount moment
fits_showing opening until credit h (Reserves call plan wanted least at) =
    let units = units_offered (available opening h) (known call h) plan wanted in
    fits_reserve (nat_lt units least) (units == 0) (known call h).forfeited (is_past (last_moment until h) at) credit call plan units wanted least at (nat_lt units wanted) refl refl
    (offered_within (available opening h) (known call h) plan wanted)
fits_showing opening until credit h (Settles call number info) = fits_settle (accepted_times (known call h) info) (known call h) credit call number info
fits_showing opening until credit h (Returns call) = tt

pub answer_fits : (opening : ℕ) (until : Option ℕ) (h : List EntryData) (asked : Asked) → IsReplyTo asked (answer opening until h asked)
unfolding answer
answer_fits opening until h asked = fits_showing opening until _ h asked
