-- Every answer is of its operation's kind, and its entry moves each call as a port keeps it.
use Rattle.std.proofs.Common.{◌≡◌, ℕ, ◌+◌, ◌≤◌, ◌++◌, ◌∷◌, [], Bool, true, false, Option, Some, None, List, Result, Ok, Err, refl, sym, ap, ◌∙◌, arith, subst}
use Rattle.std.specs.Prelude.{◌==◌, ◌||◌, if◌then◌else◌, nat_lt, reverse, IfOk, OnErr, OnOk}
use Rattle.std.proofs.lemmas.Bool.Decides.{nat_tests}
use Rattle.std.proofs.lemmas.List.{reverse-append}
use Rattle.price_core.specs.Rates.{Rates}
use Rattle.price_core.specs.Times.{Elapsed}
use Rattle.price_core.specs.declared.times.TimeInfo.{TimeInfo}
use Rattle.account_core.specs.Answers.{IsLegal, accepted_times, answer, inadmissible, misplaced, settle_verdict, showing, units_offered}
use Rattle.account_core.specs.Asked.{Asked, Credits, IsOfCall, Reserves, Returns, Settles}
use Rattle.account_core.specs.Available.{available}
use Rattle.account_core.specs.Entries.{EntryData}
use Rattle.account_core.specs.Expiry.{is_past, last_moment}
use Rattle.account_core.specs.Known.{CallFacts, deed, known, known_after, plan_in_force, taken_of}
use Rattle.account_core.specs.Laws.{AnswersFitTheirOperations}
use Rattle.account_core.specs.Ledger.{Ledger, answer_of, entry_by, refusal_of}
use Rattle.account_core.specs.Sound.{IsSound}
use Rattle.account_core.specs.Standing.{FitsOperation, FitsCall, MovesCall}
use Rattle.account_core.specs.TariffLaws.{TariffLaws}
use Rattle.account_core.specs.declared.entry.Reply.{Reply}
use Rattle.account_core.specs.declared.entry.Reply.TheVariants as reply
use Rattle.account_core.specs.declared.fault.AccountFault.{AccountFault}
use Rattle.account_core.proofs.Entering.{admitted}
use Rattle.account_core.proofs.SoundPasts.{legal_is_sound}
use Rattle.account_core.proofs.Soundness.{stands}
use Rattle.account_core.proofs.Verdicts.{in_place}

-- ---- by operation

undenied : (a b c d : Bool) → (a || b || c || d) ≡ false → (a ≡ false) × (b ≡ false)
undenied true b c d is = cc
undenied false true c d is = cc
undenied false false c d is = (refl, refl)

some_units : (n : ℕ) → (n == 0) ≡ false → 1 ≤ n
some_units n is = grind (arith, nat_tests)

not_less : (n m : ℕ) → nat_lt n m ≡ false → m ≤ n
not_less n m is = grind (arith, nat_tests)

reserve_kindly : (denied : Bool) (call : CallFacts) (c : ℕ) (plan : Rates) (wanted least at units credit : ℕ) (last late : Bool)
    → (nat_lt units least || (units == 0) || call.forfeited || late) ≡ denied → units ≤ wanted → call.times.before + call.times.after + units ≤ 864000
    → FitsCall call (Reserves c plan wanted least at) (showing credit (if denied then reply.Denied 0 else reply.Granted units last 0))
reserve_kindly true call c plan wanted least at units credit last late is within day = tt
reserve_kindly false call c plan wanted least at units credit last late is within day =
    let (enough, some) = undenied (nat_lt units least) (units == 0) call.forfeited late is in
    record { some = some_units units some; enough = not_less units least enough; within = within; day = day }

settle_kindly : (times : Option Elapsed) (call : CallFacts) (c number : ℕ) (info : TimeInfo) (credit : ℕ) → accepted_times call info ≡ times
    → FitsCall call (Settles c number info) (showing credit (settle_verdict call times))
settle_kindly None call c number info credit is = is
settle_kindly (Some times) call c number info credit is = rw is refl

offered_within : TariffLaws → (call : CallFacts) (plan : Rates) (credit wanted : ℕ) → IsSound call
    → (units_offered credit call plan wanted ≤ wanted) × (call.times.before + call.times.after + units_offered credit call plan wanted ≤ 864000)
unfolding units_offered
offered_within laws call plan credit wanted sound =
    let (state, day) = stands laws call plan sound in laws.within (plan_in_force call plan) call.times wanted (credit + taken_of call) day

kindly_here : TariffLaws → (opening : ℕ) (until : Option ℕ) (h : List EntryData) (c : ℕ) (asked : Asked) → IsSound (known c h) → IsOfCall c asked
    → FitsCall (known c h) asked (answer opening until h asked)
unfolding answer
kindly_here laws opening until h c (Credits amount moment) sound here = absurd here
kindly_here laws opening until h c (Reserves other plan wanted least at) sound here =
    let P : ℕ → Type 0 = λ n. IsSound (known n h) → FitsCall (known n h) (Reserves other plan wanted least at) (answer opening until h (Reserves other plan wanted least at)) in
    subst P here (λ s. let (within, day) = offered_within laws (known other h) plan (available opening h) wanted s in
    reserve_kindly _ (known other h) other plan wanted least at (units_offered (available opening h) (known other h) plan wanted) _ _ (is_past (last_moment until h) at) refl within day) sound
kindly_here laws opening until h c (Settles other number info) sound here =
    let P : ℕ → Type 0 = λ n. FitsCall (known n h) (Settles other number info) (answer opening until h (Settles other number info)) in
    subst P here (settle_kindly (accepted_times (known other h) info) (known other h) other number info _ refl)
kindly_here laws opening until h c (Returns other) sound here = tt

call_here : (c : ℕ) (asked : Asked) → IsOfCall c asked → (h : List EntryData) → inadmissible h asked ≡ None → misplaced (known c h) asked ≡ None
call_here c (Credits amount moment) here h is = absurd here
call_here c (Reserves other plan wanted least at) here h is =
    let P : ℕ → Type 0 = λ n. misplaced (known n h) (Reserves other plan wanted least at) ≡ None in subst P here (in_place h (Reserves other plan wanted least at) is).1
call_here c (Settles other number info) here h is =
    let P : ℕ → Type 0 = λ n. misplaced (known n h) (Settles other number info) ≡ None in subst P here (in_place h (Settles other number info) is).1
call_here c (Returns other) here h is =
    let P : ℕ → Type 0 = λ n. misplaced (known n h) (Returns other) ≡ None in subst P here (in_place h (Returns other) is).1

pub kindly : TariffLaws → AnswersFitTheirOperations
kindly laws opening until history call asked small legal is here = (
  call_here call asked here (reverse history) is,
  kindly_here laws opening until (reverse history) call asked ((legal_is_sound laws opening until (reverse history) small legal).each call) here,
)

-- ---- the entry of any seat does the same

deed_of_any : (seat call : ℕ) (asked : Asked) (response : Reply) → deed call (entry_by seat asked response) ≡ deed call (entry_by 0 asked response)
unfolding deed
deed_of_any seat call asked response = refl

entry_moves : (history later : List EntryData) (seat call : ℕ) (asked : Asked) (response : Reply) → later ≡ history ++ entry_by seat asked response ∷ []
    → known call (reverse later) ≡ known_after (known call (reverse history)) (deed call (entry_by 0 asked response))
entry_moves history later seat call asked response is =
    ap (λ h. known call (reverse h)) is
    ∙ (ap (known call) (reverse-append history (entry_by seat asked response ∷ []))
    ∙ ap (known_after (known call (reverse history))) (deed_of_any seat call asked response))

-- what an account answers moves each call of its history
pub account_moves : AnswersFitTheirOperations → (before later : Ledger) (seat call : ℕ) (asked : Asked) (result : Result Reply AccountFault)
    → before.opening ≤ 1000000000000000 → IsLegal before.opening before.until before.history
    → IfOk result (λ response. response ≡ answer_of before asked)
    → IfOk result (λ response. later ≡ record before { history = before.history ++ entry_by seat asked response ∷ [] })
    → OnOk result (refusal_of before asked ≡ None) → OnErr result (later ≡ before)
    → MovesCall call (known call (reverse before.history)) asked result (Some (known call (reverse later.history)))
account_moves kind before later seat call asked (Err fault) small legal answered entered open_yet kept =
    ap (λ l. Some (known call (reverse l.history))) kept
account_moves kind before later seat call asked (Ok response) small legal answered entered open_yet kept =
    let P : Reply → Type 0 = λ r. FitsOperation call (known call (reverse before.history)) asked r in (
      ap Some (entry_moves before.history later.history seat call asked response (ap (λ l. l.history) entered)),
      subst P (sym answered)
          (kind before.opening before.until before.history call asked small legal (admitted before.limit (reverse before.history) asked open_yet).0),
    )
