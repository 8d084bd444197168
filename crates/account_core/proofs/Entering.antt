-- A teller stands for the longer history when an answered operation is entered.
use Rattle.std.proofs.Common.{◌≡◌, ℕ, ◌+◌, ◌-◌, ◌≤◌, Bool, true, false, Option, Some, None, List, [], ◌∷◌, ◌++◌, length, refl, sym, ap, ◌∙◌, arith, subst}
use Rattle.std.specs.Prelude.{◌==◌, if◌then◌else◌, map, nat_lt, reverse}
use Rattle.std.proofs.lemmas.Bool.{eqb-true}
use Rattle.std.proofs.lemmas.Bool.Decides.{nat_tests}
use Rattle.std.proofs.lemmas.List.{length-append, length-reverse, map-append, reverse-append}
use Rattle.price_core.specs.Rates.{Rates}
use Rattle.price_core.specs.Times.{Elapsed}
use Rattle.price_core.specs.declared.times.TimeInfo.{TimeInfo}
use Rattle.account_core.specs.Answers.{IsAnswered, answer, inadmissible, misplaced, settle_verdict, shown_by, accepted_times, units_offered, bare_reply}
use Rattle.account_core.specs.Asked.{Asked, Credits, IsCredit, IsOfCall, Reserves, Returns, Settles, call_of, is_in_range}
use Rattle.account_core.specs.Available.{available, credited, credits, taken_by_all}
use Rattle.account_core.specs.CallStates.{Renews, call_state_of}
use Rattle.account_core.specs.Entries.{EntryData, asked_of, entry_data}
use Rattle.account_core.specs.Expiry.{last_moment_after}
use Rattle.account_core.specs.Kept.{KnowsEach, known_of}
use Rattle.account_core.specs.Known.{EntryDeed, Ends, CallFacts, Rests, deed_of, is_open, known, known_after, known_asked, paid_of}
use Rattle.account_core.specs.Ledger.{Ledger, answer_of, entry_by, refusal_of}
use Rattle.account_core.specs.Places.{needed, needed_by, or_else, over_limit, owed, owed_to, refusal, refusal_for}
use Rattle.account_core.specs.Sound.{AnswersFit, GrantsWithinDay, IsSoundPast}
use Rattle.account_core.specs.Tallied.{IsTallied, tally_of}
use Rattle.account_core.specs.Tellers.{IsAnsweredByTeller, IsTellerOf, entered}
use Rattle.account_core.specs.declared.tally.Tally.{Tally}
use Rattle.account_core.specs.declared.teller.Teller.{Teller}
use Rattle.account_core.specs.declared.entry.Entry.{Entry}
use Rattle.account_core.specs.declared.entry.Reply.{Reply}
use Rattle.account_core.specs.declared.entry.Reply.TheVariants as reply
use Rattle.account_core.specs.declared.fault.AccountFault.{AccountFault}
use Rattle.account_core.specs.declared.fault.AccountFault.TheVariants as fault
use Rattle.account_core.specs.declared.call_state.CallState.{CallState}
use Rattle.account_core.specs.declared.call_states.CallStates.{CallStates}
use Rattle.account_core.proofs.Asking.{refused_asked}
use Rattle.account_core.proofs.Fitting.{answer_shows}
use Rattle.account_core.proofs.Moves.{at_most_all, its_call, its_deed, known_apart, known_here, sum_moves}
use Rattle.account_core.proofs.Owing.{owes_denied, owes_end, owes_grant, owes_report}
use Rattle.account_core.proofs.SoundPasts.{answered_credit, answered_deed}
use Rattle.account_core.proofs.Verdicts.{credited_capped, in_place}

-- the history with an entry at its end
pub past_pushed : (items : List Entry) (entry : Entry) → reverse (map entry_data (items ++ entry ∷ [])) ≡ entry_data entry ∷ reverse (map entry_data items)
past_pushed items entry = rw (map-append entry_data items (entry ∷ []), reverse-append) refl

-- ---- what is not refused

or_else_none : (first second : Option AccountFault) → or_else first second ≡ None → (first ≡ None) × (second ≡ None)
or_else_none None second is = (refl, is)
or_else_none (Some why) second is = cc

within_by : (over : Bool) (limit places : ℕ) → nat_lt limit places ≡ over → (if over then Some fault.HistoryFull else None) ≡ None → places ≤ limit
within_by true limit places over is = cc
within_by false limit places over is = grind (arith, nat_tests)

within_if : (limit places : ℕ) → (if nat_lt limit places then Some fault.HistoryFull else None) ≡ None → places ≤ limit
within_if limit places is = within_by (nat_lt limit places) limit places refl is

pub admitted : (limit : ℕ) (h : List EntryData) (asked : Asked) → refusal limit h asked ≡ None → (inadmissible h asked ≡ None) × (length h + owed h + needed h asked ≤ limit)
unfolding refusal
admitted limit h asked is =
    let (admissible, within) = or_else_none (inadmissible h asked) (over_limit limit (length h + owed h) (needed h asked)) is in
    (admissible, within_if limit (length h + owed h + needed h asked) within)

-- what a teller refuses, by what is known of the call, its ledger does
pub refusal_response : (ledger : Ledger) (teller : Teller) → IsTellerOf ledger teller → (asked : Asked) (call : CallFacts) → call ≡ known_asked asked (reverse ledger.history)
    → refusal_for teller.limit teller.entries teller.owed call asked ≡ refusal_of ledger asked
unfolding refusal
refusal_response ledger teller is asked call call_is =
    rw (is.limit_is, is.counted, is.owed_are, ← length-reverse ledger.history) (refused_asked (reverse ledger.history) ledger.limit (length (reverse ledger.history)) (owed (reverse ledger.history)) asked call call_is)

-- ---- an account has no gate

gate_by : (b : Bool) (first second : Option AccountFault) → (first ≡ Some fault.GateClosed → ⊥) → (second ≡ Some fault.GateClosed → ⊥)
    → (if b then first else second) ≡ Some fault.GateClosed → ⊥
gate_by true first second x y is = x is
gate_by false first second x y is = y is

gate_misplaced : (call : CallFacts) (asked : Asked) → misplaced call asked ≡ Some fault.GateClosed → ⊥
gate_misplaced call (Credits amount moment) is = cc
gate_misplaced call (Reserves number plan wanted least at) is = gate_by call.returned (Some fault.CallUsed) None (λ e. cc) (λ e. cc) is
gate_misplaced call (Settles number mail info) is = gate_by (is_open call) None (Some fault.NotOpen) (λ e. cc) (λ e. cc) is
gate_misplaced call (Returns number) is = gate_by (is_open call) None (Some fault.NotOpen) (λ e. cc) (λ e. cc) is

gate_either : (first second : Option AccountFault) → (first ≡ Some fault.GateClosed → ⊥) → (second ≡ Some fault.GateClosed → ⊥)
    → or_else first second ≡ Some fault.GateClosed → ⊥
gate_either None second x y is = y is
gate_either (Some why) second x y is = x is

pub never_gated : (limit : ℕ) (h : List EntryData) (asked : Asked) → refusal limit h asked ≡ Some fault.GateClosed → ⊥
unfolding refusal
never_gated limit h asked is =
    gate_either (inadmissible h asked) (over_limit limit (length h + owed h) (needed h asked))
    (gate_by (is_in_range asked) (misplaced (known (call_of asked) h) asked) (Some fault.OutOfRange) (gate_misplaced (known (call_of asked) h) asked) (λ e. cc))
    (gate_by (nat_lt limit (length h + owed h + needed h asked)) (Some fault.HistoryFull) None (λ e. cc) (λ e. cc)) is

-- ---- places

owes_reserve : (denied : Bool) (known : CallFacts) (units : ℕ) (last : Bool) (call : ℕ) (plan : Rates) (wanted least at : ℕ)
    → 1 + owed_to (known_after known (deed_of (Reserves call plan wanted least at) (if denied then reply.Denied 0 else reply.Granted units last 0)))
    ≤ owed_to known + needed_by known (Reserves call plan wanted least at)
unfolding owed_to
owes_reserve true known units last call plan wanted least at = omega (arith, owes_denied (is_open known) known.awaits call plan wanted least at)
owes_reserve false known units last call plan wanted least at = owes_grant known.plan known.returned known.awaits call plan wanted least at

owes_settle : (times : Option Elapsed) (known : CallFacts) (call number : ℕ) (info : TimeInfo)
    → 1 + owed_to (known_after known (deed_of (Settles call number info) (settle_verdict known times))) ≤ owed_to known + needed_by known (Settles call number info)
unfolding owed_to
owes_settle None known call number info = owes_report (is_open known) known.awaits
owes_settle (Some times) known call number info = owes_report (is_open known) known.awaits

owes_return : (known : CallFacts) (call paid : ℕ) → 1 + owed_to (known_after known (Ends paid)) ≤ owed_to known + needed_by known (Returns call)
unfolding owed_to
owes_return known call paid = owes_end known.plan known.returned known.awaits

-- an answer's entry and what is owed after it take the places that were owed and needed
pub owes : (opening : ℕ) (until : Option ℕ) (h : List EntryData) (asked : Asked)
    → 1 + owed_to (known_after (known (call_of asked) h) (deed_of asked (bare_reply opening until h asked))) ≤ owed_to (known (call_of asked) h) + needed h asked
owes opening until h (Credits amount moment) = omega arith
owes opening until h (Reserves call plan wanted least at) =
    owes_reserve _ (known call h) (units_offered (available opening h) (known call h) plan wanted) _ call plan wanted least at
owes opening until h (Settles call number info) = owes_settle (accepted_times (known call h) info) (known call h) call number info
owes opening until h (Returns call) = owes_return (known call h) call (paid_of (known call h))

nothing_owed : (call : CallFacts) → call.plan ≡ None → owed_to call ≡ 0
unfolding owed_to
nothing_owed call none = rw none refl

pub owed_moves : (h : List EntryData) (entry : EntryData)
    → owed (entry ∷ h) + owed_to (known (its_call entry) h) ≡ owed h + owed_to (known_after (known (its_call entry) h) (its_deed entry))
unfolding owed
owed_moves h entry = sum_moves owed_to nothing_owed h entry

pub owed_at_most : (h : List EntryData) (call : ℕ) → owed_to (known call h) ≤ owed h
unfolding owed
owed_at_most h call = at_most_all owed_to nothing_owed h call

-- what is owed after an answered entry
pub owed_after : (opening : ℕ) (until : Option ℕ) (h : List EntryData) (entry : EntryData) → IsAnswered opening until h entry → 1 + owed (entry ∷ h) ≤ owed h + needed h entry.asked
owed_after opening until h entry answered =
    let P : EntryDeed → Type 0 = λ d. 1 + owed_to (known_after (known (its_call entry) h) d) ≤ owed_to (known (its_call entry) h) + needed h entry.asked in
    let call_owes = subst P (sym (answered_deed opening until h entry answered)) (owes opening until h entry.asked) in
    omega (arith, owed_moves h entry, call_owes)

-- ---- the states

tells_by : (here : Bool) (old new : CallStates) (h : List EntryData) (entry : EntryData) (state : CallState) (call : ℕ) → (its_call entry == call) ≡ here
    → Renews old new (its_call entry) state → KnowsEach old h → known_of state ≡ known_after (known (its_call entry) h) (its_deed entry)
    → known_of (call_state_of new call) ≡ known call (entry ∷ h)
tells_by true old new h entry state call is renews tells known_is =
    let P : ℕ → Type 0 = λ c. known_of state ≡ known c (entry ∷ h) in
    let now : call_state_of new call ≡ state = renews call ∙ ap (λ b. if b then state else call_state_of old call) is in
    ap known_of now ∙ subst P (eqb-true (its_call entry) call is) (known_is ∙ sym (known_here h entry))
tells_by false old new h entry state call is renews tells known_is =
    let now : call_state_of new call ≡ call_state_of old call = renews call ∙ ap (λ b. if b then state else call_state_of old call) is in
    ap known_of now ∙ (tells call ∙ sym (known_apart h entry call is))

-- the states after that of an entry's call is renewed
pub tells_renewed : (old new : CallStates) (h : List EntryData) (entry : EntryData) (state : CallState)
    → Renews old new (its_call entry) state → KnowsEach old h → known_of state ≡ known_after (known (its_call entry) h) (its_deed entry)
    → KnowsEach new (entry ∷ h)
tells_renewed old new h entry state renews tells known_is call = tells_by _ old new h entry state call refl renews tells known_is

rests_by : (here : Bool) (h : List EntryData) (entry : EntryData) (call : ℕ) → (its_call entry == call) ≡ here → its_deed entry ≡ Rests → known call (entry ∷ h) ≡ known call h
rests_by true h entry call is rests =
    let P : ℕ → Type 0 = λ c. known c (entry ∷ h) ≡ known c h in
    subst P (eqb-true (its_call entry) call is) (known_here h entry ∙ ap (known_after (known (its_call entry) h)) rests)
rests_by false h entry call is rests = known_apart h entry call is

pub tells_resting : (m : CallStates) (h : List EntryData) (entry : EntryData) → its_deed entry ≡ Rests → KnowsEach m h → KnowsEach m (entry ∷ h)
tells_resting m h entry rests tells call = tells call ∙ sym (rests_by _ h entry call refl rests)

-- ---- the whole

-- an operation of a call credits nothing, and leaves the last moment
pub of_call : (call : ℕ) (asked : Asked) → IsOfCall call asked
    → (call_of asked ≡ call) × (((response : Reply) → credited asked response ≡ 0) × ((last : Option ℕ) (response : Reply) → last_moment_after last asked response ≡ last))
of_call call (Credits amount moment) is = absurd is
of_call call (Reserves other plan wanted least at) is = (is, (λ response. refl, λ last response. refl))
of_call call (Settles other number info) is = (is, (λ response. refl, λ last response. refl))
of_call call (Returns other) is = (is, (λ response. refl, λ last response. refl))

-- what a teller keeps of the longer history, by what it kept
pub record IsEntered (h : List EntryData) (entry : EntryData) (old new : Teller) : Type 0 where
  pub tells : KnowsEach new.tally.calls (entry ∷ h)
  pub funds_are : new.tally.funds ≡ old.tally.funds + credited entry.asked entry.reply
  pub credit_is : new.tally.available ≡ shown_by entry.reply
  pub last_is : new.tally.last_moment ≡ last_moment_after old.tally.last_moment entry.asked entry.reply
  pub owed_are : new.owed ≡ owed (entry ∷ h)
  pub limit_is : new.limit ≡ old.limit
  pub one_more : new.entries ≡ old.entries + 1

pub past_entered : (history : List EntryData) (entry : EntryData) → reverse (history ++ entry ∷ []) ≡ entry ∷ reverse history
past_entered history entry = reverse-append history (entry ∷ [])

-- an admitted operation with its answer is an entry of the history
pub answered_by : (ledger : Ledger) (asked : Asked) (response : Reply) (seat : ℕ) → refusal_of ledger asked ≡ None → response ≡ answer_of ledger asked
    → IsAnswered ledger.opening ledger.until (reverse ledger.history) (entry_by seat asked response)
answered_by ledger asked response seat allowed is = record { admissible = (admitted ledger.limit (reverse ledger.history) asked allowed).0; answered = is }

-- the places of the entry and of all that is owed after it are those that were owed and needed
pub places_after : (ledger : Ledger) (entry : EntryData) → IsAnswered ledger.opening ledger.until (reverse ledger.history) entry
    → length (entered ledger entry).history + owed (reverse (entered ledger entry).history) ≤ length ledger.history + (owed (reverse ledger.history) + needed (reverse ledger.history) entry.asked)
places_after ledger entry answered =
    let longer : owed (reverse (ledger.history ++ entry ∷ [])) ≡ owed (entry ∷ reverse ledger.history) = ap owed (past_entered ledger.history entry) in
    omega (arith, longer, length-append ledger.history (entry ∷ []), owed_after ledger.opening ledger.until (reverse ledger.history) entry answered)

pub teller_entered : (ledger : Ledger) (old new : Teller) (entry : Entry) → IsAnsweredByTeller ledger old entry
    → IsEntered (reverse ledger.history) (entry_data entry) old new → IsTellerOf (entered ledger (entry_data entry)) new
teller_entered ledger old new entry is more =
    let h = reverse ledger.history in
    let noted = entry_data entry in
    let tallied = is.teller_is.tallied in
    let answered = answered_by ledger (asked_of entry.op) entry.reply entry.seat is.allowed is.answered in
    let P : List EntryData → Type 0 = λ past. IsTallied ledger.opening ledger.until past new.tally in
    let O : List EntryData → Type 0 = λ past. new.owed ≡ owed past in
    record {
      tallied = subst P (sym (past_entered ledger.history noted)) (record {
        small = tallied.small;
        legal = (tallied.legal, answered);
        tells = more.tells;
        funds_are = omega (arith, more.funds_are, tallied.funds_are);
        credit_is = more.credit_is ∙ answer_shows ledger.opening ledger.until h noted is.answered;
        last_is = more.last_is ∙ ap (λ l. last_moment_after l noted.asked noted.reply) tallied.last_is;
      });
      limit_is = more.limit_is ∙ is.teller_is.limit_is;
      counted = omega (arith, more.one_more, is.teller_is.counted, length-append ledger.history (noted ∷ []));
      owed_are = subst O (sym (past_entered ledger.history noted)) more.owed_are;
      within_limit = omega (
        arith,
        more.one_more,
        more.owed_are,
        more.limit_is,
        is.teller_is.counted,
        is.teller_is.limit_is,
        owed_after ledger.opening ledger.until h noted answered,
        (admitted ledger.limit h noted.asked is.allowed).1,
        length-reverse ledger.history,
      );
    }

-- ---- a Credit

pub credit_rests : (asked : Asked) (response : Reply) → IsCredit asked → deed_of asked response ≡ Rests
credit_rests (Credits amount moment) response is = refl
credit_rests (Reserves call plan wanted least at) response is = absurd is
credit_rests (Settles call number info) response is = absurd is
credit_rests (Returns call) response is = absurd is

pub owed_resting : (h : List EntryData) (entry : EntryData) → its_deed entry ≡ Rests → owed (entry ∷ h) ≡ owed h
owed_resting h entry rests =
    let same : owed_to (known_after (known (its_call entry) h) (its_deed entry)) ≡ owed_to (known (its_call entry) h) = ap (λ d. owed_to (known_after (known (its_call entry) h) d)) rests in
    omega (arith, owed_moves h entry, same)

pub credit_entered : (h : List EntryData) (entry : EntryData) (old : Teller) → IsCredit entry.asked → KnowsEach old.tally.calls h → old.owed ≡ owed h
    → IsEntered h entry old (record old {
      tally = tally_of old.tally.calls (old.tally.funds + credited entry.asked entry.reply) (shown_by entry.reply) (last_moment_after old.tally.last_moment entry.asked entry.reply);
      entries = old.entries + 1;
    })
credit_entered h entry old is tells owed_are =
    let rests = credit_rests entry.asked entry.reply is in
    record {
      tells = tells_resting old.tally.calls h entry rests tells;
      funds_are = refl;
      credit_is = refl;
      last_is = refl;
      owed_are = owed_are ∙ sym (owed_resting h entry rests);
      limit_is = refl;
      one_more = refl;
    }

-- the funds stay within the largest money
pub funds_fit : (opening : ℕ) (until : Option ℕ) (h : List EntryData) (entry : EntryData) → IsSoundPast opening h → IsAnswered opening until h entry
    → opening + credits h + credited entry.asked entry.reply ≤ 1000000000000000
funds_fit opening until h entry sound answered = omega (arith, answered_credit opening until h entry answered, credited_capped opening until h entry.asked sound.capped)

-- ---- an operation of a call

module _ (opening : ℕ) (until : Option ℕ) (limit : ℕ) (h : List EntryData) (call : ℕ) (entry : EntryData) (here : IsOfCall call entry.asked) (before : CallFacts) (before_is : before ≡ known call h)
    (open_yet : refusal limit h entry.asked ≡ None) (is : entry.reply ≡ answer opening until h entry.asked) where
  pub before_its : before ≡ known (its_call entry) h
  before_its = before_is ∙ ap (λ c. known c h) (sym (of_call call entry.asked here).0)

  answered_here : IsAnswered opening until h entry
  answered_here = record { admissible = (admitted limit h entry.asked open_yet).0; answered = is }

  pub placed_known : misplaced before entry.asked ≡ None
  placed_known =
      let P : CallFacts → Type 0 = λ k. misplaced k entry.asked ≡ None in
      subst P (sym before_its) (in_place h entry.asked (admitted limit h entry.asked open_yet).0).1

  pub room_known : AnswersFit opening until h → GrantsWithinDay before (its_deed entry)
  room_known fitting =
      let P : EntryDeed → Type 0 = λ d. GrantsWithinDay (known (its_call entry) h) d in
      let K : CallFacts → Type 0 = λ k. GrantsWithinDay k (its_deed entry) in
      subst K (sym before_its) (subst P (sym (answered_deed opening until h entry answered_here)) (fitting entry.asked (admitted limit h entry.asked open_yet).0).room)

  pub owed_enough : (places : ℕ) → places ≡ owed h → owed_to before ≤ places
  owed_enough places places_are = omega (arith, places_are, ap owed_to before_its, owed_at_most h (its_call entry))

  pub call_entered : (old new : Teller) (state : CallState) (owed_before owed_now : ℕ)
      → KnowsEach old.tally.calls h → Renews old.tally.calls new.tally.calls call state → known_of state ≡ known_after before (its_deed entry) → old.owed ≡ owed h
      → owed_before ≡ owed_to before → owed_now ≡ owed_to (known_of state) → new.owed ≡ old.owed + owed_now - owed_before
      → new.tally.funds ≡ old.tally.funds → new.tally.available ≡ shown_by entry.reply → new.tally.last_moment ≡ old.tally.last_moment
      → new.limit ≡ old.limit → new.entries ≡ old.entries + 1 → IsEntered h entry old new
  call_entered old new state owed_before owed_now tells renews state_is owed_are before_owed now_owed new_owed funds_are credit_is last_is limit_is one_more =
      let (same, (rests, stays)) = of_call call entry.asked here in
      let U : ℕ → Type 0 = λ c. Renews old.tally.calls new.tally.calls c state in
      let renewed : known_of state ≡ known_after (known (its_call entry) h) (its_deed entry) = state_is ∙ ap (λ k. known_after k (its_deed entry)) before_its in
      record {
        tells = tells_renewed old.tally.calls new.tally.calls h entry state (subst U (sym same) renews) tells renewed;
        funds_are = omega (arith, funds_are, rests entry.reply);
        credit_is = credit_is;
        last_is = last_is ∙ sym (stays old.tally.last_moment entry.reply);
        owed_are = omega (arith, new_owed, owed_are, before_owed, now_owed, ap owed_to before_its, ap owed_to renewed, owed_moves h entry, owed_at_most h (its_call entry));
        limit_is = limit_is;
        one_more = one_more;
      }

-- ---- a new teller

pub nothing_owed_yet : owed [] ≡ 0
unfolding owed
nothing_owed_yet = refl

pub nothing_taken_yet : (opening : ℕ) → available opening [] ≡ opening
unfolding available taken_by_all
nothing_taken_yet opening = omega arith

pub teller_new : (opening : ℕ) (until : Option ℕ) (limit : ℕ) (tally : Tally) → IsTallied opening until [] tally
    → IsTellerOf (record { opening = opening; until = until; limit = limit; history = [] }) (record { tally = tally; limit = limit; entries = 0; owed = 0 })
teller_new opening until limit tally tallied = record {
  tallied = tallied;
  limit_is = refl;
  counted = refl;
  owed_are = sym nothing_owed_yet;
  within_limit = omega arith;
}
