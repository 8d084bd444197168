-- A call that goes on no more after its report was returned, where its account replies as accounts do.
use Rattle.std.proofs.Common.{◌≡◌, ◌≤◌, ◌++◌, ℕ, Bool, true, false, None, Ok, Err, List, [], ◌∷◌, refl, sym, subst, All, arith}
use Rattle.std.specs.Prelude.{if◌then◌else◌, reverse}
use Rattle.std.proofs.lemmas.Bool.Decides.{nat_tests}
use Rattle.std.proofs.lemmas.Grind.{flat_map-append}
use Rattle.std.proofs.lemmas.List.Elements.{All-head}
use Rattle.account_core.specs.Asked.{Asked, Credits, IsOfCall, Reserves, Returns, Settles}
use Rattle.account_core.specs.Entries.{EntryData}
use Rattle.account_core.specs.Known.{is_open, known}
use Rattle.account_core.specs.Ledger.{entry_by}
use Rattle.account_core.specs.declared.entry.Reply.{Reply}
use Rattle.account_core.specs.declared.entry.Reply.TheVariants.{Granted, Denied, Settled, Forfeit, Returned}
use Rattle.account_core.specs.declared.fault.AccountFault.{AccountFault}
use Rattle.cap_values.specs.Orders.{Pay}
use Rattle.dialogue_core.specs.Phases as phase
use Rattle.dialogue_core.specs.Phases.{Conditions, Phase, Says, Sequel, FirstAsk, Running, Settling, MoreAsk, Returning, Ending, Closed, Asks, Sends, Finished}
use Rattle.held_calls.specs.Dialogues.{IsHonest}
use Rattle.dialogue_core.specs.Rules.{are_units, on_reply, sequel}
use Rattle.dialogue_core.specs.Talks.{Got, after_got, is_ask, or_done, talked}
use Rattle.dialogue_core.specs.declared.fault.DialogueFault.TheVariants.{Unexpected}
use Rattle.held_calls.proofs.Entries.{IsHonestEntry, talk_stands}
use Rattle.held_calls.proofs.Steps.{is_running}
use Rattle.held_calls.proofs.Rules.{Awaits, Fits, Stands}
use Rattle.held_calls.specs.Held.{IsShown}
use Rattle.held_calls.proofs.Listed.{all_first, all_later}
use Rattle.price_core.specs.declared.times.TheConstants.{DAY}
use Rattle.runs_core.proofs.OwnCalls.{SaysOf}
use Rattle.held_calls.proofs.Talked.{says_of_call}
use Rattle.held_calls.specs.Owed.{NeverRefusesOwed}
use Rattle.runs_core.specs.Served.{returned_in, returns_of}
use Rattle.runs_core.specs.Talks.{AllAsk, AreRightlyGot, IsRightlyGot, Showing, entries_of, entry_of}
use Rattle.runs_core.specs.Workers.{IsAbout}

-- a call that had a grant owes its Return until it was asked for and answered
abbrev pub Owes : ℕ → List ℕ → Says × Phase → Type 0
Owes call returned (Asks asked, FirstAsk t) = ⊥
Owes call returned (Asks asked, to) = returned ≡ []
Owes call returned (Sends orders, to) = is_running to ≡ false → returned ≡ call ∷ []
Owes call returned (Finished, to) = is_running to ≡ false → returned ≡ call ∷ []

owes_after : (call : ℕ) (after : Sequel) → Owes call (call ∷ []) (sequel after)
owes_after call phase.Nothing = λ idle. refl
owes_after call phase.Continues = λ idle. refl
owes_after call phase.Clears = λ idle. refl
owes_after call phase.Fails = λ idle. refl
owes_after call phase.Closes = λ idle. refl

units_are : (units : ℕ) → 1 ≤ units → units ≤ DAY → are_units units ≡ true
units_are units positive within = grind (arith, nat_tests)

owes_more : (call : ℕ) (t : Conditions) (units : ℕ) (last b : Bool) → b ≡ true
    → Owes call [] (or_done (MoreAsk t) (if b then Ok (Sends (Pay units None last ∷ []), Running t) else Err Unexpected))
owes_more call t units last true is = λ idle. absurd (cc)
owes_more call t units last false is = absurd (cc)

-- what a got must be: of its kind, or a refusal of what doesn't return
abbrev IsFair : Asked → Got → Type 0
IsFair asked (Ok reply) = IsHonest asked reply
IsFair (Returns call) (Err fault) = ⊥
IsFair asked (Err fault) = Unit {0}

owes_reply : (call seat : ℕ) (to : Phase) (asked : Asked) (reply : Reply) → IsOfCall call asked → Awaits to asked → IsHonest asked reply → Owes call [] (Asks asked, to)
    → Owes call (returns_of (entry_of seat (Asks asked) (Ok reply))) (or_done to (on_reply to reply))
owes_reply call seat (FirstAsk t) asked reply of waits honest owes = absurd owes
owes_reply call seat (Settling t true since) (Settles other number info) (Settled p a) of waits honest owes = refl
owes_reply call seat (Settling t true since) (Settles other number info) (Forfeit p a) of waits honest owes = refl
owes_reply call seat (Settling t true since) (Settles other number info) reply of waits honest owes = absurd honest
owes_reply call seat (Settling t false since) (Settles other number info) (Settled p a) of waits honest owes = refl
owes_reply call seat (Settling t false since) (Settles other number info) (Forfeit p a) of waits honest owes = refl
owes_reply call seat (Settling t false since) (Settles other number info) reply of waits honest owes = absurd honest
owes_reply call seat (MoreAsk t) (Reserves other plan wanted least at) (Granted units last a) of waits honest owes = owes_more call t units last (are_units units) (units_are units honest.0 honest.1)
owes_reply call seat (MoreAsk t) (Reserves other plan wanted least at) (Denied a) of waits honest owes = refl
owes_reply call seat (MoreAsk t) (Reserves other plan wanted least at) reply of waits honest owes = absurd honest
owes_reply call seat (Returning after) (Returns other) (Returned p a) of waits honest owes = subst (λ (c : ℕ). Owes call (c ∷ []) (sequel after)) (sym of) (owes_after call after)
owes_reply call seat (Returning after) (Returns other) reply of waits honest owes = absurd honest
owes_reply call seat to asked reply of waits honest owes = absurd waits

owes_refusal : (call seat : ℕ) (to : Phase) (asked : Asked) (fault : AccountFault) → Awaits to asked → IsFair asked (Err fault) → Owes call [] (Asks asked, to)
    → Owes call [] (after_got to (Err fault))
owes_refusal call seat (FirstAsk t) asked fault waits fair owes = absurd owes
owes_refusal call seat (Settling t true since) (Settles other number info) fault waits fair owes = refl
owes_refusal call seat (Settling t false since) (Settles other number info) fault waits fair owes = refl
owes_refusal call seat (MoreAsk t) (Reserves other plan wanted least at) fault waits fair owes = refl
owes_refusal call seat (Returning after) (Returns other) fault waits fair owes = absurd fair
owes_refusal call seat to asked fault waits fair owes = absurd waits

none_owed : (call : ℕ) (returned : List ℕ) (asked : Asked) (to : Phase) → Owes call returned (Asks asked, to) → (returned ≡ []) × Owes call [] (Asks asked, to)
none_owed call returned asked (FirstAsk t) owes = absurd owes
none_owed call returned asked (Running t) owes = (owes, refl)
none_owed call returned asked (Settling t active since) owes = (owes, refl)
none_owed call returned asked (MoreAsk t) owes = (owes, refl)
none_owed call returned asked (Returning after) owes = (owes, refl)
none_owed call returned asked Ending owes = (owes, refl)
none_owed call returned asked Closed owes = (owes, refl)

owes_got : (call seat : ℕ) (returned : List ℕ) (said : Says) (to : Phase) (got : Got) → is_ask said ≡ true → SaysOf call said → Fits said to
    → ((asked : Asked) → said ≡ Asks asked → IsFair asked got) → Owes call returned (said, to) → Owes call (returned ++ returns_of (entry_of seat said got)) (after_got to got)
owes_got call seat returned (Asks asked) to (Ok reply) pending of fits fair owes =
    let so = none_owed call returned asked to owes in
    subst (λ (l : List ℕ). Owes call (l ++ returns_of (entry_of seat (Asks asked) (Ok reply))) (after_got to (Ok reply))) (sym so.0)
    (owes_reply call seat to asked reply of fits (fair asked refl) so.1)
owes_got call seat returned (Asks asked) to (Err fault) pending of fits fair owes =
    let so = none_owed call returned asked to owes in
    subst (λ (l : List ℕ). Owes call (l ++ []) (after_got to (Err fault))) (sym so.0) (owes_refusal call seat to asked fault fits (fair asked refl) so.1)
owes_got call seat returned (Sends orders) to got pending of fits fair owes = absurd (cc)
owes_got call seat returned Finished to got pending of fits fair owes = absurd (cc)

-- ---- what each ask got is fair

fair_refusal : (Shows : ℕ → Showing) (call place : ℕ) (mine : List EntryData) (asked : Asked) (to : Phase) (fault : AccountFault) → NeverRefusesOwed Shows call → IsOfCall call asked → Awaits to asked
    → IsShown to (known call (reverse mine)) → Shows place mine asked fault → IsFair asked (Err fault)
fair_refusal Shows call place mine (Credits amount until) to fault never of waits shown shows = tt
fair_refusal Shows call place mine (Reserves other plan wanted least at) to fault never of waits shown shows = tt
fair_refusal Shows call place mine (Settles other number info) to fault never of waits shown shows = tt
fair_refusal Shows call place mine (Returns other) (Returning after) fault never of waits shown shows =
    never place mine (Returns other) fault of (subst (λ (c : ℕ). is_open (known c (reverse mine)) ≡ true) (sym of) shown) shows
fair_refusal Shows call place mine (Returns other) to fault never of waits shown shows = absurd waits

fair_got : (Shows : ℕ → Showing) (call place seat : ℕ) (mine : List EntryData) (said : Says) (to : Phase) (got : Got) → NeverRefusesOwed Shows call → SaysOf call said
    → Stands (known call (reverse mine)) (said, to) → IsRightlyGot (Shows place) mine said got → All IsHonestEntry (entry_of seat said got)
    → (asked : Asked) → said ≡ Asks asked → IsFair asked got
fair_got Shows call place seat mine (Asks asked) to (Ok reply) never of stands right honest other is =
    let same : asked ≡ other = cc in
    subst (λ (a : Asked). IsFair a (Ok reply)) same (All-head IsHonestEntry (entry_by seat asked reply) [] honest)
fair_got Shows call place seat mine (Asks asked) to (Err fault) never of stands right honest other is =
    let same : asked ≡ other = cc in
    subst (λ (a : Asked). IsFair a (Err fault)) same (fair_refusal Shows call place mine asked to fault never of stands.0 stands.1 right)
fair_got Shows call place seat mine (Sends orders) to got never of stands right honest other is = absurd (cc)
fair_got Shows call place seat mine Finished to got never of stands right honest other is = absurd (cc)

-- ---- in a talk

pub talk_owes : (Shows : ℕ → Showing) (call place seat : ℕ) (mine : List EntryData) (first : Says × Phase) (gots : List Got) → NeverRefusesOwed Shows call → IsAbout call first.1 → SaysOf call first.0
    → AllAsk first gots → Stands (known call (reverse mine)) first → AreRightlyGot (Shows place) seat first mine gots → All IsHonestEntry (entries_of seat first gots)
    → Owes call [] first → Owes call (returns_of (entries_of seat first gots)) (talked first gots)
talk_owes Shows call place seat mine first [] never about says asked stands right honest owes = owes
talk_owes Shows call place seat mine first (got ∷ earlier) never about says asked stands right honest owes =
    let before = entries_of seat first earlier in
    let said : Says = (talked first earlier).0 in
    let to : Phase = (talked first earlier).1 in
    let last = entry_of seat said got in
    let rest = talk_owes Shows call place seat mine first earlier never about says asked.1 stands right.1 (all_first IsHonestEntry before last honest) owes in
    let now = talk_stands call seat mine first earlier about says asked.1 stands in
    let of = says_of_call call first earlier about says in
    let fair = fair_got Shows call place seat (mine ++ before) said to got never of now right.0 (all_later IsHonestEntry before last honest) in
    subst (λ (l : List ℕ). Owes call l (talked first (got ∷ earlier))) (sym (flat_map-append (λ (e : EntryData). returned_in e.asked) before last))
    (owes_got call seat (returns_of before) said to got asked.0 of now.0 fair rest)

owes_none : (call : ℕ) (returned : List ℕ) (last : Says) (to : Phase) → is_ask last ≡ false → Owes call returned (last, to) → is_running to ≡ false → returned ≡ call ∷ []
owes_none call returned (Asks asked) to rests owes idle = absurd (cc)
owes_none call returned (Sends orders) to rests owes idle = owes idle
owes_none call returned Finished to rests owes idle = owes idle

-- a call whose report is settled, and that goes on no more then, is returned
pub talk_leaves : (Shows : ℕ → Showing) (call place seat number : ℕ) (info : _) (t : Conditions) (active : Bool) (since : ℕ) (mine : List EntryData) (gots : List Got) (last : Says) (to : Phase)
    → NeverRefusesOwed Shows call → t.call ≡ call → AllAsk (Asks (Settles call number info), Settling t active since) gots
    → Stands (known call (reverse mine)) (Asks (Settles call number info), Settling t active since)
    → AreRightlyGot (Shows place) seat (Asks (Settles call number info), Settling t active since) mine gots
    → All IsHonestEntry (entries_of seat (Asks (Settles call number info), Settling t active since) gots) → talked (Asks (Settles call number info), Settling t active since) gots ≡ (last, to)
    → is_ask last ≡ false → is_running to ≡ false → returns_of (entries_of seat (Asks (Settles call number info), Settling t active since) gots) ≡ call ∷ []
talk_leaves Shows call place seat number info t active since mine gots last to never about asked stands right honest talk rests idle =
    let first : Says × Phase = (Asks (Settles call number info), Settling t active since) in
    let owes = talk_owes Shows call place seat mine first gots never about refl asked stands right honest refl in
    owes_none call (returns_of (entries_of seat first gots)) last to rests (subst (Owes call (returns_of (entries_of seat first gots))) talk owes) idle
