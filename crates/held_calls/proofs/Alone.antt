-- Each call of a run is one worker's alone, so what closes it is never refused.
use Rattle.std.proofs.Common.{◌≡◌, ◌<◌, ℕ, zero, suc, Bool, true, false, List, [], ◌∷◌, length, map, refl, sym, subst, arith, All}
use Rattle.std.specs.Prelude.{◌==◌, ◌%◌, filter, if◌then◌else◌, slice_index_or}
use Rattle.std.specs.Map.{keys_of}
use Rattle.std.proofs.lemmas.Bool.{eq-eqb}
use Rattle.std.proofs.lemmas.List.{get_or-map, length-map}
use Rattle.std.proofs.lemmas.List.Elements.{All-cons, All-contains, All-head, All-nil, All-same}
use Rattle.account_core.specs.Asked.{Asked, Credits, Reserves, Returns, Settles}
use Rattle.account_core.specs.Entries.{EntryData}
use Rattle.cap_values.specs.declared.message.SsfMsg.TheVariants.{InitialDp, EventReport, ChargingReport, Ended}
use Rattle.run_values.specs.declared.post.Body.{Body}
use Rattle.run_values.specs.declared.post.Body.TheVariants.{Ssf, Recharge}
use Rattle.run_values.specs.declared.post.Post.{Post}
use Rattle.account_core.specs.Closed.{Closed}
use Rattle.account_core.specs.Own.{asks_of_call, own}
use Rattle.account_core.specs.Refusals.{Knowing}
use Rattle.turn_account.specs.Seen.{CallsOfOneSeatAreAlone, IsBySeat, StoodIn}
use Rattle.held_calls.proofs.Refusing.{never_refused}
use Rattle.held_calls.specs.Workers.{EntriesComeFromPosts}
use Rattle.runs_core.specs.Served.{AreServed, IsServed, Report, begun_by, begun_of, held_in, held_calls_of, reported_in, reports_of, settled_in, settles_of}
use Rattle.held_calls.proofs.InBooks.{lists_worked}
use Rattle.held_calls.proofs.Listed.{all_joined, all_part, all_passing, all_pieces, all_unmapped}
use Rattle.runs_core.proofs.HandOuts.{agrees}
use Rattle.runs_core.specs.Closing.{StoodAt, lists_of}
use Rattle.held_calls.specs.Entered.{RunCallsAreOfOneWorker, RunOwedIsNeverRefused}
use Rattle.runs_core.specs.Shares.{Item, item_of, numbered, share, worker_of}

-- ---- the share of a worker

kept_pass : {X : Type 0} (test : X → Bool) (here : Bool) (x : X) (kept : List X) → test x ≡ here → All (λ y. test y ≡ true) kept → All (λ y. test y ≡ true) (if here then x ∷ kept else kept)
kept_pass test true x kept is all = All-cons (λ y. test y ≡ true) x kept is all
kept_pass test false x kept is all = all

all_pass : {X : Type 0} (test : X → Bool) (xs : List X) → All (λ y. test y ≡ true) (filter test xs)
all_pass test [] = All-nil (λ y. test y ≡ true)
all_pass test (x ∷ xs) = kept_pass test (test x) x (filter test xs) refl (all_pass test xs)

module _ (workers worker : ℕ) where
  abbrev Its : ℕ → Type 0
  Its call = call % workers ≡ worker

  abbrev ItsReport : Report → Type 0
  ItsReport report = Its report.1

  posts_its : (given : List (ℕ × Body)) (posts : List Post) → map item_of posts ≡ share workers given worker → All (λ post. worker_of workers post.body ≡ worker) posts
  posts_its given posts is =
      let Goes : Item → Type 0 = λ item. (worker_of workers item.body == worker) ≡ true in
      let shared : All Goes (share workers given worker) = all_pass (λ (item : Item). worker_of workers item.body == worker) (numbered 0 given) in
      let goes = all_unmapped Goes item_of posts (All-same Goes (map item_of posts) (share workers given worker) is shared) in
      λ k d within. agrees (worker_of workers (slice_index_or posts k d).body) worker (goes k d within)

  begun_its : (body : Body) → worker_of workers body ≡ worker → All Its (begun_by body)
  begun_its (Ssf call (InitialDp other calling called)) goes = All-cons Its call [] goes (All-nil Its)
  begun_its (Ssf call (EventReport event leg mode)) goes = All-nil Its
  begun_its (Ssf call (ChargingReport active info)) goes = All-nil Its
  begun_its (Ssf call Ended) goes = All-nil Its
  begun_its (Recharge account amount until) goes = All-nil Its

  reported_its : (number : ℕ) (body : Body) → worker_of workers body ≡ worker → All ItsReport (reported_in number body)
  reported_its number (Ssf call (InitialDp other calling called)) goes = All-nil ItsReport
  reported_its number (Ssf call (EventReport event leg mode)) goes = All-nil ItsReport
  reported_its number (Ssf call (ChargingReport active info)) goes = All-cons ItsReport (number, call, info) [] goes (All-nil ItsReport)
  reported_its number (Ssf call Ended) goes = All-nil ItsReport
  reported_its number (Recharge account amount until) goes = All-nil ItsReport

  -- ---- its entries

  one_its : (asked : Asked) (call : ℕ) → All Its (held_in asked) → All ItsReport (settled_in asked) → asks_of_call call asked ≡ true → call % workers ≡ worker
  one_its (Credits amount until) call held settled is = absurd (cc)
  one_its (Reserves other plan wanted least at) call held settled is = subst Its (agrees other call is) (All-head Its other [] held)
  one_its (Settles other number info) call held settled is = subst Its (agrees other call is) (All-head ItsReport (number, other, info) [] settled)
  one_its (Returns other) call held settled is = subst Its (agrees other call is) (All-head Its other [] held)

  mine_its : (account : ℕ) (posts : List Post) (mine : List EntryData) → IsServed account posts mine → All (λ post. worker_of workers post.body ≡ worker) posts
      → All (λ entry. (call : ℕ) → asks_of_call call entry.asked ≡ true → call % workers ≡ worker) mine
  mine_its account posts mine served goes =
      let begun : All Its (begun_of posts) = all_joined Its (λ (post : Post). begun_by post.body) posts (λ k d within. begun_its (slice_index_or posts k d).body (goes k d within)) in
      let reported : All ItsReport (reports_of posts) =
      all_joined ItsReport (λ (post : Post). reported_in post.number post.body) posts (λ k d within. reported_its (slice_index_or posts k d).number (slice_index_or posts k d).body (goes k d within)) in
      let held = all_pieces Its (λ (entry : EntryData). held_in entry.asked) mine (λ k d within. All-contains Its (begun_of posts) (slice_index_or (held_calls_of mine) k d) begun (served.calls k d within)) in
      let settled = all_pieces ItsReport (λ (entry : EntryData). settled_in entry.asked) mine (all_part ItsReport (settles_of mine) (reports_of posts) served.settles reported) in
      λ k d within call is. one_its (slice_index_or mine k d).asked call (held k d within) (settled k d within) is

-- ---- in the books

served_list : (accounts : List ℕ) (posts : List Post) (lists : List (List EntryData)) (place : ℕ) → AreServed accounts posts lists → place < length lists
    → (account : ℕ) × IsServed account posts (slice_index_or lists place [])
served_list accounts posts [] place are within = absurd (omega (arith, within))
served_list [] posts (mine ∷ lists) place are within = absurd are
served_list (account ∷ accounts) posts (mine ∷ lists) zero are within = (account, are.0)
served_list (account ∷ accounts) posts (mine ∷ lists) (suc place) are within = served_list accounts posts lists place are.1 (omega (arith, within))

pub calls_of_one : (Stood : Closed → ℕ → Knowing) → EntriesComeFromPosts → RunCallsAreOfOneWorker Stood
calls_of_one Stood come setup workers given answers books run = λ place d within call k e here is.
    let book : Closed = slice_index_or books place d in
    let entry : EntryData = slice_index_or book.history k e in
    let seat : ℕ = entry.seat in
    let its = run.answered seat (run.owned place d within k e here) in
    let are = come setup seat its.posts _ (lists_of seat books) (lists_worked Stood setup workers given answers books seat its) in
    let served = served_list (keys_of setup.accounts) its.posts (lists_of seat books) place are (omega (arith, within, length-map books (λ (b : Closed). own seat b.history))) in
    let mine : IsServed served.0 its.posts (own seat book.history) =
    let S : List EntryData → Type 0 = λ m. IsServed served.0 its.posts m in
    subst S (get_or-map (λ (b : Closed). own seat b.history) books place d [] within) served.1 in
    let By : EntryData → Type 0 = λ other. (c : ℕ) → asks_of_call c other.asked ≡ true → c % workers ≡ seat in
    let all = mine_its workers seat served.0 its.posts (own seat book.history) mine (posts_its workers seat given its.posts its.share) in
    sym (all_passing (λ (other : EntryData). other.seat == seat) By book.history all k e here (eq-eqb seat seat refl) call is)

pub owed_never : EntriesComeFromPosts → CallsOfOneSeatAreAlone → RunOwedIsNeverRefused
owed_never come alone setup workers given answers books call run =
    never_refused (StoodAt StoodIn books (call % workers)) call (λ place mine refusal was.
    let By : Closed → Type 0 = λ b. IsBySeat b (call % workers) call in
    let by_it : By was.book = subst By (sym was.book_is) (calls_of_one StoodIn come setup workers given answers books run place was.book was.within call) in
    alone was.book (call % workers) call by_it mine refusal was.stood)
