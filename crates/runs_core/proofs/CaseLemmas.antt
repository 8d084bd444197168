-- What acting on a case does to the seats and the dialogues.
use Rattle.std.proofs.Common.{◌≡◌, ◌≢◌, ◌<◌, ◌++◌, ◌∙◌, ℕ, Bool, true, false, Option, Some, Result, Ok, Err, List, [], length, map, refl, sym, ap, subst, OnOk, get_or}
use Rattle.std.specs.Prelude.{◌==◌, if◌then◌else◌, option_map, slice_set, slice_index_or}
use Rattle.std.specs.BTreeMap.{is_at}
use Rattle.std.specs.Map.{lookup}
use Rattle.std.specs.Ordering.{nat_cmp}
use Rattle.std.proofs.Math.Seq.{map-set_same}
use Rattle.std.proofs.lemmas.List.{get_or-map, get_or-set_other, get_or-set_same, get_or_default, length-map, length-set, map-set}
use mathlib.Core.Logic.{dite}
use native.Mathlib.Decide.{ℕ_discrete}
use Rattle.account_core.specs.Asked.{Credits}
use Rattle.account_core.specs.Entries.{EntryData}
use Rattle.account_core.specs.Refusals.{Knowing, Refusal}
use Rattle.account_core.specs.declared.fault.AccountFault.{AccountFault}
use Rattle.cap_values.specs.Orders.{Order}
use Rattle.dialogue_core.specs.Phases.{Phase, Says, Asks}
use Rattle.runs_core.proofs.Talking.{fault_after}
use Rattle.runs_core.specs.Cases.{IsCredited}
use Rattle.runs_core.specs.Handled.{IsRecharged, IsTalked, StandsNow, AnswerView, grown}
use Rattle.runs_core.specs.Refusals.{WasAt}
use Rattle.runs_core.specs.Talks.{AreRightlyGot, IsRightlyGot, IsTalk, Showing, entries_of, entry_of}
use Rattle.runs_core.specs.Verdicts.{DialogueAt}
use Rattle.runs_core.specs.Workers.{talk_standing, standings_in}
use Rattle.runs_core.specs.declared.worker.Talk.{Talk}

pub on_ok : {X E : Type 0} (r : Result X E) (P : Type 0) → P → OnOk r P
on_ok (Ok x) P p = p
on_ok (Err e) P p = tt

-- ---- one seat of several

pub as_many : {S T K : Type 0} (key_of : T → K) (key : S → K) (seats : List T) (accounts : List S) → map key_of seats ≡ map key accounts → length seats ≡ length accounts
as_many key_of key seats accounts keys = sym (length-map seats key_of) ∙ ap length keys ∙ length-map accounts key

pub own_account : {S T K : Type 0} (key_of : T → K) (key : S → K) (seats : List T) (accounts : List S) (place : ℕ) (seat : T) (account : S)
    → map key_of seats ≡ map key accounts → place < length accounts → seat ≡ get_or seats place seat → account ≡ get_or accounts place account → key_of seat ≡ key account
own_account key_of key seats accounts place seat account keys within is_seat is_account =
    let there : place < length seats = rw (as_many key_of key seats accounts keys) within in
    ap key_of is_seat ∙ sym (get_or-map key_of seats place seat (key account) there) ∙ ap (λ l. get_or l place (key account)) keys
    ∙ get_or-map key accounts place account (key account) within ∙ ap key (sym is_account)

pub same_seats : {T K : Type 0} (key_of : T → K) (seats : List T) (place : ℕ) (before after : T) → before ≡ get_or seats place before → key_of after ≡ key_of before
    → map key_of (slice_set seats place after) ≡ map key_of seats
same_seats key_of seats place before after is same = map-set_same key_of seats place after before (same ∙ ap key_of is)

pub grown_at : {T : Type 0} (mine_of : T → List EntryData) (seats : List T) (place : ℕ) (before after : T) (entries : List EntryData) → place < length seats → before ≡ get_or seats place before
    → mine_of after ≡ mine_of before ++ entries → map mine_of (slice_set seats place after) ≡ grown (map mine_of seats) place entries
grown_at mine_of seats place before after entries within is enters =
    let was : get_or (map mine_of seats) place [] ≡ mine_of before = get_or-map mine_of seats place before [] within ∙ ap mine_of (sym is) in
    map-set mine_of seats place after ∙ ap (λ mine. slice_set (map mine_of seats) place mine) (enters ∙ ap (λ mine. mine ++ entries) (sym was))

pub numbered_at : {T : Type 0} (number_of : T → ℕ) (seats : List T) (place : ℕ) (seat : T) → place < length seats → seat ≡ get_or seats place seat
    → number_of seat ≡ slice_index_or (map number_of seats) place 0
numbered_at number_of seats place seat within is = ap number_of is ∙ sym (get_or-map number_of seats place seat 0 within)

-- ---- the dialogues

mapped : (b : Bool) (talk : Talk) (other : Option Talk) → option_map talk_standing (if b then Some talk else other) ≡ (if b then Some (talk_standing talk) else option_map talk_standing other)
mapped true talk other = refl
mapped false talk other = refl

pub stands_now : (old new : List (ℕ × Talk)) (call : ℕ) (talk : Talk) → ((other : ℕ) → lookup (is_at (nat_cmp other)) new ≡ (if other == call then Some talk else lookup (is_at (nat_cmp other)) old))
    → StandsNow call (talk_standing talk) (standings_in old) (standings_in new)
stands_now old new call talk kept other = ap (option_map talk_standing) (kept other) ∙ mapped (other == call) talk (lookup (is_at (nat_cmp other)) old)

-- ---- what is known at each place

pub was_there : {T : Type 0} (Was : T → Knowing) (seats : List T) (place : ℕ) (after : T) → place < length seats
    → (mine : List EntryData) (refusal : Refusal) → Was after mine refusal → WasAt Was (slice_set seats place after) place mine refusal
was_there Was seats place after within mine refusal was = record {
  seat = after;
  within = subst (λ (n : ℕ). place < n) (sym (length-set seats place after)) within;
  seat_is = sym (get_or-set_same seats place after after within);
  was = was;
}

pub was_at : {T : Type 0} (Was : T → Knowing) (seats : List T) (place : ℕ) (before after : T) → place < length seats → before ≡ get_or seats place before
    → ((mine : List EntryData) (refusal : Refusal) → Was before mine refusal → Was after mine refusal)
    → (other : ℕ) (mine : List EntryData) (refusal : Refusal) → WasAt Was seats other mine refusal → WasAt Was (slice_set seats place after) other mine refusal
was_at Was seats place before after within is still other mine refusal known =
    dite (ℕ_discrete other place)
    (λ (here : other ≡ place).
    let same : known.seat ≡ before = known.seat_is ∙ ap (λ (n : ℕ). get_or seats n known.seat) here ∙ get_or_default seats place known.seat before within ∙ sym is in
    let there : WasAt Was (slice_set seats place after) place mine refusal =
    was_there Was seats place after within mine refusal (still mine refusal (subst (λ (t : _). Was t mine refusal) same known.was)) in
    subst (λ (n : ℕ). WasAt Was (slice_set seats place after) n mine refusal) (sym here) there)
    (λ (apart : other ≢ place). record {
      seat = known.seat;
      within = subst (λ (n : ℕ). other < n) (sym (length-set seats place after)) known.within;
      seat_is = known.seat_is ∙ sym (get_or-set_other seats place other after known.seat apart);
      was = known.was;
    })

-- ---- what is done

pub mine_at : {T : Type 0} (mine_of : T → List EntryData) (seats : List T) (place : ℕ) (seat : T) → place < length seats → seat ≡ get_or seats place seat
    → mine_of seat ≡ slice_index_or (map mine_of seats) place []
mine_at mine_of seats place seat within is = ap mine_of is ∙ sym (get_or-map mine_of seats place seat [] within)

pub recharged_by : (Shows : Showing) (numbers : List ℕ) (place amount : ℕ) (until : Option ℕ) (seat : ℕ) (lists grew : List (List EntryData)) (talks : ℕ → Option DialogueAt) (before after : List EntryData) (answer : AnswerView)
    → IsCredited Shows seat (Credits amount until) before after answer → seat ≡ slice_index_or numbers place 0 → before ≡ slice_index_or lists place []
    → ((entries : List EntryData) → after ≡ before ++ entries → grew ≡ grown lists place entries)
    → (done : IsRecharged numbers place amount until (record { lists = lists; talks = talks }) (record { lists = grew; talks = talks }) answer)
    × IsRightlyGot Shows (slice_index_or lists place []) (Asks (Credits amount until)) done.got
recharged_by Shows numbers place amount until seat lists grew talks before after answer is number mine grows = (
  record {
    got = is.got;
    orders = is.orders;
    stray = is.stray;
    refused = is.refuses ∙ fault_after [] is.got;
    lists = rw (← number) (grows (entry_of seat (Asks (Credits amount until)) is.got) is.enters);
    talks = λ call. refl;
  },
  subst (λ (m : List EntryData). IsRightlyGot Shows m (Asks (Credits amount until)) is.got) mine is.right,
)

pub talked_by : (Shows : Showing) (numbers : List ℕ) (call place seat : ℕ) (first : Says × Phase) (phase : Phase) (lists grew : List (List EntryData)) (talks now : ℕ → Option DialogueAt)
    (before after : List EntryData) (orders : List Order) (refused : Option AccountFault) (answer : AnswerView)
    → IsTalk Shows seat first before after phase orders refused → seat ≡ slice_index_or numbers place 0 → before ≡ slice_index_or lists place []
    → ((entries : List EntryData) → after ≡ before ++ entries → grew ≡ grown lists place entries)
    → StandsNow call (record { phase = phase; place = place }) talks now → answer.orders ≡ orders → answer.stray ≡ false → answer.refused ≡ refused
    → (done : IsTalked numbers call place first (record { lists = lists; talks = talks }) (record { lists = grew; talks = now }) answer)
    × AreRightlyGot Shows (slice_index_or numbers place 0) first (slice_index_or lists place []) done.gots
talked_by Shows numbers call place seat first phase lists grew talks now before after orders refused answer is number mine grows stands ordered stray why = (
  record {
    gots = is.gots;
    asked = is.asked;
    last = is.last;
    phase = phase;
    talk = is.talks;
    rests = is.rests;
    orders = ordered ∙ is.sends;
    stray = stray;
    refused = why ∙ is.refuses;
    lists = rw (← number) (grows (entries_of seat first is.gots) is.enters);
    talks = stands;
  },
  subst (λ (at : ℕ × List EntryData). AreRightlyGot Shows at.0 first at.1 is.gots) (λ i. (number i, mine i)) is.right,
)
