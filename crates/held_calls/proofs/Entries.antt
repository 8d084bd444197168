-- What the entries of a talk say of its call, and of each other call.
use Rattle.std.proofs.Common.{◌≡◌, ◌≢◌, ◌<◌, ◌++◌, ◌∙◌, ℕ, zero, suc, true, false, Ok, Err, List, [], ◌∷◌, length, refl, sym, ap, subst, append-nil, append_assoc, get_or-set_same, get_or-set_other, arith}
use Rattle.std.specs.Prelude.{◌==◌, reverse, slice_index_or}
use Rattle.std.proofs.lemmas.Bool.{eq-eqb}
use Rattle.std.proofs.lemmas.Bool.Decides.{nat_tests}
use Rattle.std.proofs.lemmas.List.{reverse-append}
use Rattle.std.proofs.lemmas.List.Elements.{filter-append}
use Rattle.account_core.proofs.Moves.{known_here}
use Rattle.account_core.proofs.Asking.{asked_call}
use Rattle.account_core.specs.Asked.{Asked, Credits, IsOfCall, Reserves, Returns, Settles, call_of}
use Rattle.account_core.specs.Entries.{EntryData}
use Rattle.account_core.specs.Known.{CallFacts, deed_of, known, known_after}
use Rattle.account_core.specs.Ledger.{entry_by}
use Rattle.account_core.specs.declared.entry.Reply.{Reply}
use Rattle.dialogue_core.specs.Phases.{Phase, Says, Asks, Sends, Finished}
use Rattle.held_calls.specs.Dialogues.{IsHonest}
use Rattle.dialogue_core.specs.Talks.{Got, after_got, is_ask, talked}
use Rattle.held_calls.proofs.Rules.{Stands, facts_after, got_stands}
use Rattle.held_calls.specs.Held.{entries_at, facts_at}
use Rattle.account_core.proofs.Owning.{known_alike}
use Rattle.account_core.specs.Own.{asks_of_call, of_call}
use Rattle.runs_core.proofs.OwnCalls.{SaysOf}
use Rattle.held_calls.proofs.Talked.{says_of_call}
use Rattle.runs_core.specs.Handled.{grown}
use Rattle.runs_core.specs.Talks.{AllAsk, entries_of, entry_of}
use Rattle.runs_core.specs.Workers.{IsAbout}

-- an entry with a reply of the kind that an account gives to what was asked
abbrev pub IsHonestEntry : EntryData → Type 0
IsHonestEntry entry = IsHonest entry.asked entry.reply

-- ---- the call of an entry

of_this : (call : ℕ) (asked : Asked) → IsOfCall call asked → asks_of_call call asked ≡ true
of_this call (Credits amount until) of = absurd of
of_this call (Reserves other plan wanted least at) of = eq-eqb other call of
of_this call (Settles other number info) of = eq-eqb other call of
of_this call (Returns other) of = eq-eqb other call of

apart : (call its : ℕ) → call ≢ its → (its == call) ≡ false
apart call its differ = grind (arith, nat_tests, differ)

of_other : (call its : ℕ) (asked : Asked) → call ≢ its → IsOfCall its asked → asks_of_call call asked ≡ false
of_other call its (Credits amount until) differ of = refl
of_other call its (Reserves other plan wanted least at) differ of = ap (λ c. c == call) of ∙ apart call its differ
of_other call its (Settles other number info) differ of = ap (λ c. c == call) of ∙ apart call its differ
of_other call its (Returns other) differ of = ap (λ c. c == call) of ∙ apart call its differ

-- ---- the entries of a talk

pub of_call-append : (call : ℕ) (mine entries : List EntryData) → of_call call (mine ++ entries) ≡ of_call call mine ++ of_call call entries
of_call-append call mine entries = filter-append (λ (e : EntryData). asks_of_call call e.asked) mine entries

own_entry : (seat call : ℕ) (said : Says) (got : Got) → SaysOf call said → of_call call (entry_of seat said got) ≡ entry_of seat said got
own_entry seat call (Asks asked) (Ok reply) of = rw (of_this call asked of) refl
own_entry seat call (Asks asked) (Err fault) of = refl
own_entry seat call (Sends orders) got of = refl
own_entry seat call Finished got of = refl

-- all of them are of its call
pub own_entries : (seat call : ℕ) (first : Says × Phase) (gots : List Got) → IsAbout call first.1 → SaysOf call first.0 → of_call call (entries_of seat first gots) ≡ entries_of seat first gots
own_entries seat call first [] about says = refl
own_entries seat call first (got ∷ earlier) about says =
    let last = entry_of seat (talked first earlier).0 got in
    of_call-append call (entries_of seat first earlier) last
    ∙ ap (λ l. l ++ of_call call last) (own_entries seat call first earlier about says)
    ∙ ap (λ l. entries_of seat first earlier ++ l) (own_entry seat call (talked first earlier).0 got (says_of_call call first earlier about says))

other_entry : (seat call its : ℕ) (said : Says) (got : Got) → call ≢ its → SaysOf its said → of_call call (entry_of seat said got) ≡ []
other_entry seat call its (Asks asked) (Ok reply) differ of = rw (of_other call its asked differ of) refl
other_entry seat call its (Asks asked) (Err fault) differ of = refl
other_entry seat call its (Sends orders) got differ of = refl
other_entry seat call its Finished got differ of = refl

-- and none of another
pub other_entries : (seat call its : ℕ) (first : Says × Phase) (gots : List Got) → call ≢ its → IsAbout its first.1 → SaysOf its first.0 → of_call call (entries_of seat first gots) ≡ []
other_entries seat call its first [] differ about says = refl
other_entries seat call its first (got ∷ earlier) differ about says =
    let last = entry_of seat (talked first earlier).0 got in
    of_call-append call (entries_of seat first earlier) last
    ∙ ap (λ l. l ++ of_call call last) (other_entries seat call its first earlier differ about says)
    ∙ other_entry seat call its (talked first earlier).0 got differ (says_of_call its first earlier about says)

-- a Credit is of no call
pub credit_entry : (seat call amount : ℕ) (until : _) (got : Got) → of_call call (entry_of seat (Asks (Credits amount until)) got) ≡ []
credit_entry seat call amount until (Ok reply) = refl
credit_entry seat call amount until (Err fault) = refl

-- ---- the lists of a worker, as one of them grows

pub grown_apart : (call at : ℕ) (entries : List EntryData) (lists : List (List EntryData)) (place : ℕ) → of_call call entries ≡ [] → entries_at call (grown lists at entries) place ≡ entries_at call lists place
grown_apart call at entries [] place none = refl
grown_apart call zero entries (mine ∷ lists) zero none = of_call-append call mine entries ∙ ap (λ l. of_call call mine ++ l) none ∙ append-nil (of_call call mine)
grown_apart call zero entries (mine ∷ lists) (suc place) none = refl
grown_apart call (suc at) entries (mine ∷ lists) zero none = refl
grown_apart call (suc at) entries (mine ∷ lists) (suc place) none = grown_apart call at entries lists place none

pub grown_here : (at : ℕ) (entries : List EntryData) (lists : List (List EntryData)) → at < length lists → slice_index_or (grown lists at entries) at [] ≡ slice_index_or lists at [] ++ entries
grown_here at entries lists within = get_or-set_same lists at (slice_index_or lists at [] ++ entries) [] within

pub grown_elsewhere : (at : ℕ) (entries : List EntryData) (lists : List (List EntryData)) (place : ℕ) → place ≢ at → slice_index_or (grown lists at entries) place [] ≡ slice_index_or lists place []
grown_elsewhere at entries lists place differ = get_or-set_other lists at place (slice_index_or lists at [] ++ entries) [] differ

-- ---- what is known of a call

-- where its entries are the same, what is known of it is
pub known_same : (call : ℕ) (lists grew : List (List EntryData)) (place : ℕ) → entries_at call grew place ≡ entries_at call lists place → facts_at call grew place ≡ facts_at call lists place
known_same call lists grew place same = known_alike call (slice_index_or grew place []) (slice_index_or lists place []) same

known_next : (call : ℕ) (h : List EntryData) (seat : ℕ) (asked : Asked) (reply : Reply) → call_of asked ≡ call
    → known call (entry_by seat asked reply ∷ h) ≡ known_after (known call h) (deed_of asked reply)
known_next call h seat asked reply is =
    subst (λ (c : ℕ). known c (entry_by seat asked reply ∷ h) ≡ known_after (known c h) (deed_of asked reply)) is (known_here h (entry_by seat asked reply))

facts_next : (call seat : ℕ) (mine : List EntryData) (asked : Asked) (got : Got) → IsOfCall call asked
    → known call (reverse (mine ++ entry_of seat (Asks asked) got)) ≡ facts_after (known call (reverse mine)) asked got
facts_next call seat mine asked (Ok reply) of =
    ap (known call) (reverse-append mine (entry_by seat asked reply ∷ [])) ∙ known_next call (reverse mine) seat asked reply (asked_call call asked of)
facts_next call seat mine asked (Err fault) of = ap (λ l. known call (reverse l)) (append-nil mine)

step_stands : (call seat : ℕ) (mine : List EntryData) (said : Says) (phase : Phase) (got : Got) → SaysOf call said → is_ask said ≡ true → Stands (known call (reverse mine)) (said, phase)
    → Stands (known call (reverse (mine ++ entry_of seat said got))) (after_got phase got)
step_stands call seat mine (Asks asked) phase got of pending stands =
    subst (λ (facts : CallFacts). Stands facts (after_got phase got)) (sym (facts_next call seat mine asked got of))
    (got_stands (known call (reverse mine)) phase asked got stands.0 stands.1)
step_stands call seat mine (Sends orders) phase got of pending stands = absurd (cc)
step_stands call seat mine Finished phase got of pending stands = absurd (cc)

-- what is known of the call of a talk fits what its dialogue says, ask by ask
pub talk_stands : (call seat : ℕ) (mine : List EntryData) (first : Says × Phase) (gots : List Got) → IsAbout call first.1 → SaysOf call first.0 → AllAsk first gots
    → Stands (known call (reverse mine)) first → Stands (known call (reverse (mine ++ entries_of seat first gots))) (talked first gots)
talk_stands call seat mine first [] about says asked stands = subst (λ (l : List EntryData). Stands (known call (reverse l)) first) (sym (append-nil mine)) stands
talk_stands call seat mine first (got ∷ earlier) about says asked stands =
    let before = entries_of seat first earlier in
    let last = entry_of seat (talked first earlier).0 got in
    subst (λ (l : List EntryData). Stands (known call (reverse l)) (talked first (got ∷ earlier))) (append_assoc mine before last)
    (step_stands call seat (mine ++ before) (talked first earlier).0 (talked first earlier).1 got (says_of_call call first earlier about says) asked.0
    (talk_stands call seat mine first earlier about says asked.1 stands))
