-- What the books of a run have of a call.
use Rattle.std.proofs.Common.{◌≡◌, ◌+◌, ◌++◌, ◌∙◌, ℕ, Bool, true, false, Option, Some, None, List, [], ◌∷◌, map, refl, sym, ap, subst, All, arith}
use Rattle.std.specs.Option.{option_or}
use Rattle.std.specs.Prelude.{◌==◌, ◌%◌, ◌&&◌, ◌≤◌, filter, if◌then◌else◌, reverse, slice_index_or}
use Rattle.std.proofs.lemmas.List.{reverse-append, reverse-reverse, get_or-map}
use Rattle.std.proofs.lemmas.List.Elements.{All-cons, All-head, All-nil}
use Rattle.std.proofs.lemmas.Bool.Decides.{nat_tests}
use Rattle.std.proofs.lemmas.Nat.{mod_below}
use Rattle.account_core.specs.Answers.{IsLegal, IsLegalPast, answer, inadmissible}
use Rattle.account_core.specs.Asked.{Asked, Credits, IsOfCall, Reserves, Returns, Settles}
use Rattle.account_core.specs.Entries.{EntryData}
use Rattle.account_core.specs.Known.{CallFacts, known}
use Rattle.account_core.specs.Laws.{AnswersFitTheirOperations}
use Rattle.account_core.specs.Standing.{FitsCall}
use Rattle.account_core.specs.declared.entry.Reply.{Reply}
use Rattle.account_core.specs.declared.entry.Reply.TheVariants.{Granted, Denied, Settled, Forfeit, Returned}
use Rattle.account_core.specs.declared.fault.AccountFault.TheVariants as fault
use Rattle.held_calls.specs.Dialogues.{IsHonest}
use Rattle.held_calls.proofs.Entries.{IsHonestEntry}
use Rattle.held_calls.proofs.Going.{other_report, worked_left, worked_returned, worked_settled}
use Rattle.held_calls.proofs.Steps.{left_same, none_either}
use Rattle.held_calls.specs.Going.{after_item, after_message, ended_from, ended_in, gathered, is_there, left_from, left_in, pays, taken_from, taken_in}
use Rattle.held_calls.specs.Held.{entries_at}
use Rattle.held_calls.specs.Runs.{RunCallsAreReturned, RunCallsThatEndAreReturned, RunReportsAreSettled}
use Rattle.run_values.specs.Setups.{Setup}
use Rattle.run_values.specs.declared.post.Answer.{Answer}
use Rattle.run_values.specs.declared.post.Body.{Body}
use Rattle.run_values.specs.declared.post.Body.TheVariants.{Ssf, Recharge}
use Rattle.held_calls.proofs.Listed.{all_first, all_later}
use Rattle.runs_core.specs.Closing.{lists_of, refuses_in}
use Rattle.held_calls.specs.Entered.{IsBookAt, RunCallsAreOfOneWorker, RunOwedIsNeverRefused}
use Rattle.runs_core.specs.Hearing.{answers_to}
use Rattle.runs_core.specs.Shares.{Item, item_at, item_of, numbered, share_from, worker_of}
use Rattle.account_core.proofs.Beginnings.{begins_itself}
use Rattle.account_core.proofs.Owning.{filter_reverse}
use Rattle.account_core.specs.Closed.{Closed}
use Rattle.account_core.specs.Own.{asks_of_call, of_call, own}
use Rattle.account_core.specs.Refusals.{Refusal}
use Rattle.turn_account.specs.Seen.{CallsOfOneSeatAreAlone, IsBySeat, StoodIn}
use Rattle.price_core.specs.declared.plan.TheConstants.{MAX_MONEY}
use Rattle.runs_core.proofs.Handling.{same_number}
use Rattle.runs_core.specs.Handled.{AnswerView, answer_view}
use Rattle.held_calls.specs.Workers.{ends_call}
use Rattle.runs_core.specs.Served.{Report, reported_in, returns_of, settles_of}

-- ---- an item of another worker is of no message of the call

record IsApart (setup : Setup) (call number : ℕ) (was : Option ℕ) (body : Body) (view : AnswerView) : Type 0 where
  after : after_item setup call was body view ≡ was
  ended : ended_in call was body ≡ None

differs_so : (workers call other : ℕ) (b : Bool) → (other == call) ≡ b → (other % workers == call % workers) ≡ false → (other == call) ≡ false
differs_so workers call other true same apart =
    let alike : other ≡ call = grind (arith, nat_tests, same) in
    let alike_too : (other % workers == call % workers) ≡ true = rw alike (grind (arith, nat_tests)) in absurd (cc)
differs_so workers call other false same apart = same

apart_item : (setup : Setup) (workers call number : ℕ) (was : Option ℕ) (body : Body) (view : AnswerView) → (worker_of workers body == call % workers) ≡ false → IsApart setup call number was body view
apart_item setup workers call number was (Ssf other message) view apart =
    let differs = differs_so workers call other (other == call) refl apart in
    record {
      after = ap (λ (b : Bool). if b then after_message setup (pays view.orders) was message else was) differs;
      ended = ap (λ (b : Bool). if b && ends_call message then was else None) differs;
    }
apart_item setup workers call number was (Recharge account amount until) view apart =
    record { after = refl; ended = refl }

-- nor has it a report of it
taken_apart : (workers call place number : ℕ) (was : Option ℕ) (body : Body) → (worker_of workers body == call % workers) ≡ false → taken_in call place was number body ≡ []
taken_apart workers call place number was (Ssf other message) apart =
    none_either (is_there was place) (filter (λ (report : Report). report.1 == call) (reported_in number (Ssf other message)))
    (other_report number call other message (differs_so workers call other (other == call) refl apart))
taken_apart workers call place number was (Recharge account amount until) apart = none_either (is_there was place) [] refl

-- ---- a worker's share says of its calls what all items do

gathered_none : {X : Type 0} (comes : Option ℕ → Option ℕ → Item → List X) (setup : Setup) (call : ℕ) (was : Option ℕ) (items : List Item) → gathered comes setup call was items [] ≡ []
gathered_none comes setup call was [] = refl
gathered_none comes setup call was (item ∷ items) = refl

ended_none : (setup : Setup) (call : ℕ) (was : Option ℕ) (items : List Item) → ended_from setup call was items [] ≡ None
ended_none setup call was [] = refl
ended_none setup call was (item ∷ items) = refl

-- an item of another worker comes to nothing
abbrev ComesToNone : {X : Type 0} → (Option ℕ → Option ℕ → Item → List X) → ℕ → ℕ → Type 0
ComesToNone comes workers call = (was now : Option ℕ) (item : Item) → (worker_of workers item.body == call % workers) ≡ false → now ≡ was → comes was now item ≡ []

-- with the next item
gathered_next : {X : Type 0} (comes : Option ℕ → Option ℕ → Item → List X) (setup : Setup) (workers call : ℕ) (was : Option ℕ) (first : ℕ) (next : ℕ × Body) (given : List (ℕ × Body)) (answer : Answer) (answers : List Answer) (b : Bool)
    → ComesToNone comes workers call → (worker_of workers next.1 == call % workers) ≡ b
    → ((now : Option ℕ) → gathered comes setup call now (share_from workers (first + 1) given (call % workers)) (map answer_view (answers_to workers (call % workers) given answers))
    ≡ gathered comes setup call now (numbered (first + 1) given) (map answer_view answers))
    → gathered comes setup call was (if b then item_at first next ∷ share_from workers (first + 1) given (call % workers) else share_from workers (first + 1) given (call % workers))
    (map answer_view (if b then answer ∷ answers_to workers (call % workers) given answers else answers_to workers (call % workers) given answers))
    ≡ gathered comes setup call was (numbered first (next ∷ given)) (map answer_view (answer ∷ answers))
gathered_next comes setup workers call was first next given answer answers true none is rest =
    let now : Option ℕ = after_item setup call was next.1 (answer_view answer) in ap (λ l. comes was now (item_at first next) ++ l) (rest now)
gathered_next comes setup workers call was first next given answer answers false none is rest =
    let now : Option ℕ = after_item setup call was next.1 (answer_view answer) in
    let apart = apart_item setup workers call first was next.1 (answer_view answer) is in
    rest was ∙ ap (λ (w : Option ℕ). gathered comes setup call w (numbered (first + 1) given) (map answer_view answers)) (sym apart.after)
    ∙ ap (λ l. l ++ gathered comes setup call now (numbered (first + 1) given) (map answer_view answers)) (sym (none was now (item_at first next) is apart.after))

shared_gathered : {X : Type 0} (comes : Option ℕ → Option ℕ → Item → List X) (setup : Setup) (workers call : ℕ) (was : Option ℕ) (first : ℕ) (given : List (ℕ × Body)) (answers : List Answer)
    → ComesToNone comes workers call
    → gathered comes setup call was (share_from workers first given (call % workers)) (map answer_view (answers_to workers (call % workers) given answers))
    ≡ gathered comes setup call was (numbered first given) (map answer_view answers)
shared_gathered comes setup workers call was first [] answers none = refl
shared_gathered comes setup workers call was first (next ∷ given) [] none = gathered_none comes setup call was (share_from workers first (next ∷ given) (call % workers))
shared_gathered comes setup workers call was first (next ∷ given) (answer ∷ answers) none =
    gathered_next comes setup workers call was first next given answer answers (worker_of workers next.1 == call % workers) none refl
    (λ now. shared_gathered comes setup workers call now (first + 1) given answers none)

ended_next : (setup : Setup) (workers call : ℕ) (was : Option ℕ) (first : ℕ) (next : ℕ × Body) (given : List (ℕ × Body)) (answer : Answer) (answers : List Answer) (b : Bool)
    → (worker_of workers next.1 == call % workers) ≡ b
    → ((now : Option ℕ) → ended_from setup call now (share_from workers (first + 1) given (call % workers)) (map answer_view (answers_to workers (call % workers) given answers))
    ≡ ended_from setup call now (numbered (first + 1) given) (map answer_view answers))
    → ended_from setup call was (if b then item_at first next ∷ share_from workers (first + 1) given (call % workers) else share_from workers (first + 1) given (call % workers))
    (map answer_view (if b then answer ∷ answers_to workers (call % workers) given answers else answers_to workers (call % workers) given answers))
    ≡ ended_from setup call was (numbered first (next ∷ given)) (map answer_view (answer ∷ answers))
ended_next setup workers call was first next given answer answers true is rest =
    ap (λ later. option_or (ended_in call was next.1) later) (rest (after_item setup call was next.1 (answer_view answer)))
ended_next setup workers call was first next given answer answers false is rest =
    let apart = apart_item setup workers call first was next.1 (answer_view answer) is in
    rest was ∙ ap (λ (now : Option ℕ). ended_from setup call now (numbered (first + 1) given) (map answer_view answers)) (sym apart.after)
    ∙ ap (λ (found : Option ℕ). option_or found (ended_from setup call (after_item setup call was next.1 (answer_view answer)) (numbered (first + 1) given) (map answer_view answers))) (sym apart.ended)

shared_ended : (setup : Setup) (workers call : ℕ) (was : Option ℕ) (first : ℕ) (given : List (ℕ × Body)) (answers : List Answer)
    → ended_from setup call was (share_from workers first given (call % workers)) (map answer_view (answers_to workers (call % workers) given answers))
    ≡ ended_from setup call was (numbered first given) (map answer_view answers)
shared_ended setup workers call was first [] answers = refl
shared_ended setup workers call was first (next ∷ given) [] = ended_none setup call was (share_from workers first (next ∷ given) (call % workers))
shared_ended setup workers call was first (next ∷ given) (answer ∷ answers) =
    ended_next setup workers call was first next given answer answers (worker_of workers next.1 == call % workers) refl (λ now. shared_ended setup workers call now (first + 1) given answers)

-- ---- in the books

-- the entries of a call in a book are those of its worker there
whole : (books : List Closed) (workers call account place : ℕ) (setup : Setup) (book : Closed) → CallsOfOneSeatAreAlone → All (λ b. (c : ℕ) → IsBySeat b (c % workers) c) books
    → IsBookAt setup books account place book → of_call call book.history ≡ entries_at call (lists_of (call % workers) books) place
whole books workers call account place setup book alone by_one at =
    let worker : ℕ = call % workers in
    let by_it : IsBySeat book worker call = subst (λ (b : Closed). IsBySeat b worker call) at.book_is (by_one place book at.within call) in
    let listed : slice_index_or (lists_of worker books) place [] ≡ own worker book.history =
    get_or-map (λ (b : Closed). own worker b.history) books place book [] at.within ∙ ap (λ (b : Closed). own worker b.history) at.book_is in
    let refusal : Refusal = record {
      account = record { opening = book.opening; until = book.until; limit = book.limit; history = book.history };
      asked = Returns call;
      why = fault.NotOpen;
    } in
    alone book worker call by_it (own worker book.history) refusal
    (record { opening = refl; until = refl; limit = refl; begins = begins_itself book.history; own = refl })
    ∙ ap (of_call call) (sym listed)

pub run_settled : RunOwedIsNeverRefused → RunCallsAreOfOneWorker StoodIn → CallsOfOneSeatAreAlone → RunReportsAreSettled
run_settled is_owed one alone setup workers given answers books account place book call some run at =
    let worker : ℕ = call % workers in
    let by = run.answered worker (mod_below call workers some) in
    let view = map answer_view (answers_to workers worker given answers) in
    let settled = worked_settled (refuses_in StoodIn books worker) setup worker by.posts view (lists_of worker books) call (is_owed setup workers given answers books call run) by.answered place in
    ap settles_of (whole books workers call account place setup book alone (one setup workers given answers books run) at)
    ∙ settled ∙ ap (λ (items : List Item). taken_from setup call place None items view) by.share
    ∙ shared_gathered (λ was now item. taken_in call place was item.number item.body) setup workers call None 0 given answers
    (λ was now item apart same. taken_apart workers call place item.number was item.body apart)

pub run_returned : RunOwedIsNeverRefused → RunCallsAreOfOneWorker StoodIn → CallsOfOneSeatAreAlone → RunCallsAreReturned
run_returned is_owed one alone setup workers given answers books account place book call there some run at ended =
    let worker : ℕ = call % workers in
    let by = run.answered worker (mod_below call workers some) in
    let view = map answer_view (answers_to workers worker given answers) in
    let its : ended_from setup call None (map item_of by.posts) view ≡ Some there =
    ap (λ (items : List Item). ended_from setup call None items view) by.share ∙ shared_ended setup workers call None 0 given answers ∙ ended in
    ap returns_of (whole books workers call account place setup book alone (one setup workers given answers books run) at)
    ∙ worked_returned (refuses_in StoodIn books worker) setup worker by.posts view (lists_of worker books) call there (is_owed setup workers given answers books call run) by.answered its place

-- ---- the replies of a legal history are of the kinds that accounts give

of_its : (call : ℕ) (asked : Asked) → asks_of_call call asked ≡ true → IsOfCall call asked
of_its call (Credits amount until) is = absurd (cc)
of_its call (Reserves other plan wanted least at) is = same_number other call is
of_its call (Settles other number info) is = same_number other call is
of_its call (Returns other) is = same_number other call is

honest_fit : (facts : CallFacts) (asked : Asked) (reply : Reply) → FitsCall facts asked reply → IsHonest asked reply
honest_fit facts (Reserves call plan wanted least at) (Granted units last a) fits = (fits.some, omega (arith, fits.day))
honest_fit facts (Reserves call plan wanted least at) (Denied a) fits = tt
honest_fit facts (Settles call number info) (Settled p a) fits = tt
honest_fit facts (Settles call number info) (Forfeit p a) fits = tt
honest_fit facts (Returns call) (Returned p a) fits = tt
honest_fit facts asked reply fits = absurd fits

honest_or : (call : ℕ) (b : Bool) (entry : EntryData) (rest : List EntryData) → (b ≡ true → IsHonestEntry entry) → All IsHonestEntry rest → All IsHonestEntry (if b then entry ∷ rest else rest)
honest_or call true entry rest here all = All-cons IsHonestEntry entry rest (here refl) all
honest_or call false entry rest here all = all

honest_past : AnswersFitTheirOperations → (opening : ℕ) (until : Option ℕ) (call : ℕ) (h : List EntryData) → opening ≤ MAX_MONEY → IsLegalPast opening until h → All IsHonestEntry (of_call call h)
honest_past kindly opening until call [] small legal = All-nil IsHonestEntry
honest_past kindly opening until call (entry ∷ h) small legal =
    let before : IsLegal opening until (reverse h) = subst (IsLegalPast opening until) (sym (reverse-reverse h)) legal.0 in
    let admissible : inadmissible (reverse (reverse h)) entry.asked ≡ None = subst (λ (l : List EntryData). inadmissible l entry.asked ≡ None) (sym (reverse-reverse h)) legal.1.admissible in
    honest_or call (asks_of_call call entry.asked) entry (of_call call h)
    (λ is.
    let kind = kindly opening until (reverse h) call entry.asked small before admissible (of_its call entry.asked is) in
    let given = honest_fit (known call (reverse (reverse h))) entry.asked (answer opening until (reverse (reverse h)) entry.asked) kind.1 in
    subst (λ (r : Reply). IsHonest entry.asked r) (sym (legal.1.answered ∙ ap (λ (l : List EntryData). answer opening until l entry.asked) (sym (reverse-reverse h)))) given)
    (honest_past kindly opening until call h small legal.0)

turned : (xs : List EntryData) → All IsHonestEntry (reverse xs) → All IsHonestEntry xs
turned [] all = All-nil IsHonestEntry
turned (x ∷ xs) all =
    let parts : All IsHonestEntry (reverse xs ++ x ∷ []) = subst (All IsHonestEntry) (reverse-append (x ∷ []) xs) all in
    All-cons IsHonestEntry x xs (All-head IsHonestEntry x [] (all_later IsHonestEntry (reverse xs) (x ∷ []) parts)) (turned xs (all_first IsHonestEntry (reverse xs) (x ∷ []) parts))

honest_book : AnswersFitTheirOperations → (book : Closed) (call : ℕ) → book.opening ≤ MAX_MONEY → IsLegal book.opening book.until book.history → All IsHonestEntry (of_call call book.history)
honest_book kindly book call small legal =
    turned (of_call call book.history)
    (subst (All IsHonestEntry) (filter_reverse (λ (entry : EntryData). asks_of_call call entry.asked) book.history) (honest_past kindly book.opening book.until call (reverse book.history) small legal))

pub run_left : AnswersFitTheirOperations → RunOwedIsNeverRefused → RunCallsAreOfOneWorker StoodIn → CallsOfOneSeatAreAlone → RunCallsThatEndAreReturned
run_left kindly is_owed one alone setup workers given answers books account place book call some run at small =
    let worker : ℕ = call % workers in
    let by = run.answered worker (mod_below call workers some) in
    let view = map answer_view (answers_to workers worker given answers) in
    let legal : IsLegal book.opening book.until book.history = subst (λ (b : Closed). IsLegal b.opening b.until b.history) at.book_is (run.legal place book at.within) in
    let all_of = whole books workers call account place setup book alone (one setup workers given answers books run) at in
    let honest : All IsHonestEntry (entries_at call (lists_of worker books) place) = subst (All IsHonestEntry) all_of (honest_book kindly book call small legal) in
    ap returns_of all_of
    ∙ worked_left (refuses_in StoodIn books worker) setup worker by.posts view (lists_of worker books) call (is_owed setup workers given answers books call run) by.answered place honest
    ∙ ap (λ (items : List Item). left_from setup call place None items view) by.share
    ∙ shared_gathered (λ was now item. left_in call place was now) setup workers call None 0 given answers (λ was now item apart same. left_same call place was now same)
