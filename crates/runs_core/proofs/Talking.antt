-- The talk of a dialogue with its account, ask by ask.
use Rattle.std.proofs.Common.{◌≡◌, ◌++◌, ◌∙◌, ℕ, false, Option, None, Ok, Err, List, [], ◌∷◌, refl, sym, ap, subst, append_assoc, append-nil}
use Rattle.account_core.specs.Asked.{Asked}
use Rattle.account_core.specs.Entries.{EntryData}
use Rattle.account_core.specs.Refusals.{IsRefusedAt, Knowing, Refusal}
use Rattle.account_core.specs.Seats.{Reads}
use Rattle.account_core.specs.declared.fault.AccountFault.{AccountFault}
use Rattle.cap_values.specs.Orders.{Order}
use Rattle.dialogue_core.specs.Phases.{Phase, Says, Asks, Sends, Finished}
use Rattle.runs_core.specs.Cases.{AtDesk, or_fault}
use Rattle.dialogue_core.specs.Talks.{AreGot, Asking, Gets, Got, IsTalkedOut, after_got, is_ask, orders_sent_by, talked}
use Rattle.runs_core.specs.Talks.{AllAsk, AreRightlyGot, IsRightlyGot, IsTalk, Showing, entries_of, entry_of, last_fault}

-- ---- how far a talk has come

-- the asks so far got these, the newest first, and were entered; this is said now
pub record IsSoFar (Shows : Showing) (seat : ℕ) (first : Says × Phase) (before after : List EntryData) (now : Says × Phase) (refused : Option AccountFault) : Type 0 where
  pub gots : List Got
  pub asked : AllAsk first gots
  pub talks : talked first gots ≡ now
  pub enters : after ≡ before ++ entries_of seat first gots
  pub refuses : refused ≡ last_fault gots
  pub right : AreRightlyGot Shows seat first before gots

pub so_begun : (Shows : Showing) (seat : ℕ) (first : Says × Phase) (mine : List EntryData) → IsSoFar Shows seat first mine mine first None
so_begun Shows seat first mine = record { gots = []; asked = tt; talks = refl; enters = sym (append-nil mine); refuses = refl; right = tt }

-- ---- what shows a refusal goes on to show it

pub right_still : (Shows Later : Showing) → ((mine : List EntryData) (asked : Asked) (why : AccountFault) → Shows mine asked why → Later mine asked why)
    → (mine : List EntryData) (says : Says) (got : Got) → IsRightlyGot Shows mine says got → IsRightlyGot Later mine says got
right_still Shows Later still mine (Asks asked) (Ok reply) right = tt
right_still Shows Later still mine (Asks asked) (Err fault) right = still mine asked fault right
right_still Shows Later still mine (Sends orders) got right = tt
right_still Shows Later still mine Finished got right = tt

pub all_right_still : (Shows Later : Showing) → ((mine : List EntryData) (asked : Asked) (why : AccountFault) → Shows mine asked why → Later mine asked why)
    → (seat : ℕ) (first : Says × Phase) (before : List EntryData) (gots : List Got) → AreRightlyGot Shows seat first before gots → AreRightlyGot Later seat first before gots
all_right_still Shows Later still seat first before [] right = tt
all_right_still Shows Later still seat first before (got ∷ earlier) right = (
  right_still Shows Later still (before ++ entries_of seat first earlier) (talked first earlier).0 got right.0,
  all_right_still Shows Later still seat first before earlier right.1,
)

pub refused_still : (Was Later : Knowing) → ((mine : List EntryData) (refusal : Refusal) → Was mine refusal → Later mine refusal)
    → (mine : List EntryData) (asked : Asked) (why : AccountFault) → IsRefusedAt Was mine asked why → IsRefusedAt Later mine asked why
refused_still Was Later still mine asked why is =
    record { account = is.account; was = still mine _ is.was; legal = is.legal; refused = is.refused; room = is.room }

pub rights_known : (Was Later : Knowing) → ((mine : List EntryData) (refusal : Refusal) → Was mine refusal → Later mine refusal)
    → (seat : ℕ) (first : Says × Phase) (before : List EntryData) (gots : List Got) → AreRightlyGot (IsRefusedAt Was) seat first before gots → AreRightlyGot (IsRefusedAt Later) seat first before gots
rights_known Was Later still = all_right_still (IsRefusedAt Was) (IsRefusedAt Later) (refused_still Was Later still)

pub right_known : (Was Later : Knowing) → ((mine : List EntryData) (refusal : Refusal) → Was mine refusal → Later mine refusal)
    → (mine : List EntryData) (says : Says) (got : Got) → IsRightlyGot (IsRefusedAt Was) mine says got → IsRightlyGot (IsRefusedAt Later) mine says got
right_known Was Later still = right_still (IsRefusedAt Was) (IsRefusedAt Later) (refused_still Was Later still)

-- ---- ask by ask

pub fault_after : (gots : List Got) (got : Got) → or_fault (last_fault gots) got ≡ last_fault (got ∷ gots)
fault_after gots (Ok reply) = refl
fault_after gots (Err fault) = refl

so_asked : (Was Later : Knowing) → ((mine : List EntryData) (refusal : Refusal) → Was mine refusal → Later mine refusal)
    → (seat : ℕ) (first : Says × Phase) (before between after : List EntryData) (asked : Asked) (from : Phase) (got : Got) (old new : Option AccountFault)
    → IsSoFar (IsRefusedAt Was) seat first before between (Asks asked, from) old → after ≡ between ++ entry_of seat (Asks asked) got → new ≡ or_fault old got
    → IsRightlyGot (IsRefusedAt Later) between (Asks asked) got → IsSoFar (IsRefusedAt Later) seat first before after (after_got from got) new
so_asked Was Later still seat first before between after asked from got old new so enters refuses right = record {
  gots = got ∷ so.gots;
  asked = (ap (λ (p : Says × Phase). is_ask p.0) so.talks, so.asked);
  talks = rw (so.talks) refl;
  enters = rw (so.talks) (enters ∙ ap (λ l. l ++ entry_of seat (Asks asked) got) so.enters ∙ append_assoc before (entries_of seat first so.gots) (entry_of seat (Asks asked) got));
  refuses = refuses ∙ ap (λ r. or_fault r got) so.refuses ∙ fault_after so.gots got;
  right =
      let R : List EntryData × Says → Type 0 = λ at. IsRightlyGot (IsRefusedAt Later) at.0 at.1 got in
      (subst R (λ i. (so.enters i, (sym so.talks i).0)) right, rights_known Was Later still seat first before so.gots so.right);
}

pub so_ended : (Shows : Showing) (seat : ℕ) (first : Says × Phase) (before after : List EntryData) (last : Says) (phase : Phase) (orders : List Order) (refused : Option AccountFault)
    → IsSoFar Shows seat first before after (last, phase) refused → is_ask last ≡ false → orders ≡ orders_sent_by last → IsTalk Shows seat first before after phase orders refused
so_ended Shows seat first before after last phase orders refused so rests sends = record {
  gots = so.gots;
  asked = so.asked;
  last = last;
  talks = so.talks;
  rests = rests;
  sends = sends;
  enters = so.enters;
  refuses = so.refuses;
  right = so.right;
}

-- ---- at a desk

-- how far a talk at a desk has come, whose seat's key and number stay
pub record IsSpoken {X K T : Type 0} (shown : X → T × Option AccountFault) (reads : Reads K T) (Was : T → Knowing) (first : Says × Phase) (from now : X) (next : Says × Phase) : Type 0 where
  pub same_key : reads.key (shown now).0 ≡ reads.key (shown from).0
  pub same_number : reads.number (shown now).0 ≡ reads.number (shown from).0
  pub still : (mine : List EntryData) (refusal : Refusal) → Was (shown from).0 mine refusal → Was (shown now).0 mine refusal
  pub so_far : IsSoFar (IsRefusedAt (Was (shown now).0)) (reads.number (shown from).0) first (reads.mine (shown from).0) (reads.mine (shown now).0) next (shown now).1

asked_at : {X K T : Type 0} (shown : X → T × Option AccountFault) (reads : Reads K T) (Was : T → Knowing) (Calls : Asking T) (first : Says × Phase) (from between to : X) (said : Says) (phase : Phase) (got : Got)
    → Gets (AtDesk shown reads Was Calls) between said got to → IsSpoken shown reads Was first from between (said, phase) → IsSpoken shown reads Was first from to (after_got phase got)
asked_at shown reads Was Calls first from between to (Asks asked) phase got is so =
    record {
      same_key = is.same_key ∙ so.same_key;
      same_number = is.same_number ∙ so.same_number;
      still = λ mine refusal was. is.still mine refusal (so.still mine refusal was);
      so_far =
          so_asked (Was (shown between).0) (Was (shown to).0) is.still (reads.number (shown from).0) first (reads.mine (shown from).0) (reads.mine (shown between).0) (reads.mine (shown to).0) asked phase got
          (shown between).1 (shown to).1 so.so_far (rw so.same_number at is.enters) is.refuses is.right;
    }
asked_at shown reads Was Calls first from between to (Sends orders) phase got is so = absurd is
asked_at shown reads Was Calls first from between to Finished phase got is so = absurd is

-- what the asks got leads so far
pub spoken : {X K T : Type 0} (shown : X → T × Option AccountFault) (reads : Reads K T) (Was : T → Knowing) (Calls : Asking T) (first : Says × Phase) (from : X) (gots : List Got) (to : X)
    → AreGot (AtDesk shown reads Was Calls) first from gots to → (shown from).1 ≡ None → IsSpoken shown reads Was first from to (talked first gots)
spoken shown reads Was Calls first from [] to is none = rw is (record {
  same_key = refl;
  same_number = refl;
  still = λ mine refusal was. was;
  so_far = rw none (so_begun (IsRefusedAt (Was (shown from).0)) (reads.number (shown from).0) first (reads.mine (shown from).0));
})
spoken shown reads Was Calls first from (got ∷ earlier) to is none =
    let (between, before, gets) = is in
    asked_at shown reads Was Calls first from between to (talked first earlier).0 (talked first earlier).1 got gets (spoken shown reads Was Calls first from earlier between before none)

-- what a talk that was ended by nothing leads to
pub spoken_out : {X K T : Type 0} (shown : X → T × Option AccountFault) (reads : Reads K T) (Was : T → Knowing) (Calls : Asking T) (first : Says × Phase) (from to : X) (phase : Phase) (orders : List Order)
    (talk : IsTalkedOut (AtDesk shown reads Was Calls) first from to phase orders) → (shown from).1 ≡ None → IsSpoken shown reads Was first from to (talk.last, phase)
spoken_out shown reads Was Calls first from to phase orders talk none = rw talk.talks at (spoken shown reads Was Calls first from talk.gots to talk.are_got none)

-- ---- its calls

call_for : {X K T : Type 0} (shown : X → T × Option AccountFault) (reads : Reads K T) (Was : T → Knowing) (Calls : Asking T) (from to : X) (said : Says) (got : Got)
    → Gets (AtDesk shown reads Was Calls) from said got to → Gets Calls (shown from).0 said got (shown to).0
call_for shown reads Was Calls from to (Asks asked) got is = is.called
call_for shown reads Was Calls from to (Sends orders) got is = absurd is
call_for shown reads Was Calls from to Finished got is = absurd is

-- what the asks of a talk at a desk got, they got by calls
pub calls_for : {X K T : Type 0} (shown : X → T × Option AccountFault) (reads : Reads K T) (Was : T → Knowing) (Calls : Asking T) (first : Says × Phase) (from : X) (gots : List Got) (to : X)
    → AreGot (AtDesk shown reads Was Calls) first from gots to → AreGot Calls first (shown from).0 gots (shown to).0
calls_for shown reads Was Calls first from [] to is = ap (λ x. (shown x).0) is
calls_for shown reads Was Calls first from (got ∷ earlier) to is =
    let (between, before, gets) = is in (
      (shown between).0,
      calls_for shown reads Was Calls first from earlier between before,
      call_for shown reads Was Calls between to (talked first earlier).0 got gets,
    )

fault_kept : {X K T : Type 0} (shown : X → T × Option AccountFault) (reads : Reads K T) (Was : T → Knowing) (Calls : Asking T) (from to : X) (said : Says) (got : Got)
    → Gets (AtDesk shown reads Was Calls) from said got to → (shown to).1 ≡ or_fault (shown from).1 got
fault_kept shown reads Was Calls from to (Asks asked) got is = is.refuses
fault_kept shown reads Was Calls from to (Sends orders) got is = absurd is
fault_kept shown reads Was Calls from to Finished got is = absurd is

-- and the last fault of these asks is kept
pub fault_answer : {X K T : Type 0} (shown : X → T × Option AccountFault) (reads : Reads K T) (Was : T → Knowing) (Calls : Asking T) (first : Says × Phase) (from : X) (gots : List Got) (to : X)
    → AreGot (AtDesk shown reads Was Calls) first from gots to → (shown from).1 ≡ None → (shown to).1 ≡ last_fault gots
fault_answer shown reads Was Calls first from [] to is none = ap (λ x. (shown x).1) is ∙ none
fault_answer shown reads Was Calls first from (got ∷ earlier) to is none =
    let (between, before, gets) = is in
    fault_kept shown reads Was Calls between to (talked first earlier).0 got gets ∙ ap (λ fault. or_fault fault got) (fault_answer shown reads Was Calls first from earlier between before none)
    ∙ fault_after earlier got
