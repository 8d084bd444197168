-- What the workers of a run handle is as what its driver gives, as timely too, and so is what they settle and credit.
use Rattle.std.proofs.Common.{◌≡◌, ◌+◌, ℕ, Bool, true, false, Option, List, [], ◌∷◌, map, arith, All}
use Rattle.std.specs.Prelude.{◌==◌, if◌then◌else◌, slice_index_or, IfSome}
use Rattle.std.proofs.lemmas.List.Elements.{All-cons, All-filter, All-head, All-nil, All-same, All-tail}
use Rattle.account_core.specs.Asked.{Asked, Credits, Reserves, Settles, Returns}
use Rattle.account_core.specs.Entries.{EntryData}
use Rattle.cap_values.specs.declared.message.SsfMsg.{SsfMsg}
use Rattle.cap_values.specs.declared.message.SsfMsg.TheVariants.{InitialDp, EventReport, ChargingReport, Ended}
use Rattle.book_texts.specs.Fits.{FitsReport, IsMoment}
use Rattle.held_calls.proofs.Listed.{all_joined, all_part, all_pieces, all_unmapped}
use Rattle.run_laws.specs.Timely.{IsTimely, IsTimelyMessage}
use Rattle.run_values.specs.Setups.{Setup}
use Rattle.run_values.specs.declared.post.Body.{Body}
use Rattle.run_values.specs.declared.post.Body.TheVariants.{Ssf, Recharge}
use Rattle.run_values.specs.declared.post.Post.{Post}
use Rattle.runs_core.specs.Shares.{Item, item_at, item_of, numbered, share, worker_of}
use Rattle.held_calls.specs.Workers.{IsOnTerms}
use Rattle.runs_core.specs.Served.{IsServed, Money, Report, credited_in, credits_of, recharged_in, recharges_of, report_in, reported_in, reports_of, settled_in, settles_of}

-- ---- what each worker handles

numbered_all : (P : ℕ → Body → Type 0) (first : ℕ) (given : List (ℕ × Body)) → All (λ item. P item.0 item.1) given → All (λ item. P item.at item.body) (numbered first given)
numbered_all P first [] all = All-nil (λ (item : Item). P item.at item.body)
numbered_all P first (next ∷ given) all =
    All-cons (λ (item : Item). P item.at item.body) (item_at first next) (numbered (first + 1) given) (All-head (λ (item : ℕ × Body). P item.0 item.1) next given all)
    (numbered_all P (first + 1) given (All-tail (λ (item : ℕ × Body). P item.0 item.1) next given all))

-- what holds of all that was given, each at its moment, holds of what a worker handles
pub handled_all : (P : ℕ → Body → Type 0) (workers : ℕ) (given : List (ℕ × Body)) (worker : ℕ) (posts : List Post) → map item_of posts ≡ share workers given worker
    → All (λ item. P item.0 item.1) given → All (λ post. P post.at post.body) posts
handled_all P workers given worker posts is all =
    let Q : Item → Type 0 = λ item. P item.at item.body in
    let shared : All Q (share workers given worker) = All-filter (λ (item : Item). worker_of workers item.body == worker) Q (numbered 0 given) (numbered_all P 0 given all) in
    all_unmapped Q item_of posts (All-same Q (map item_of posts) (share workers given worker) is shared)

-- ---- the reports and the recharges among posts

IsTimelyReport : Report → Type 0
IsTimelyReport report = FitsReport report.2

IsTimelyMoney : Money → Type 0
IsTimelyMoney money = IfSome money.1 IsMoment

message_reports : (number call : ℕ) (message : SsfMsg) → IsTimelyMessage message → All IsTimelyReport (report_in number call message)
unfolding IsTimelyReport
message_reports number call (InitialDp other calling called) timely = All-nil IsTimelyReport
message_reports number call (EventReport event leg mode) timely = All-nil IsTimelyReport
message_reports number call (ChargingReport active info) timely = All-cons IsTimelyReport (number, call, info) [] timely (All-nil IsTimelyReport)
message_reports number call Ended timely = All-nil IsTimelyReport

body_reports : (number : ℕ) (body : Body) → IsTimely body → All IsTimelyReport (reported_in number body)
body_reports number (Ssf call message) timely = message_reports number call message timely
body_reports number (Recharge account amount until) timely = All-nil IsTimelyReport

recharge_of : (is : Bool) (amount : ℕ) (until : Option ℕ) → IfSome until IsMoment → All IsTimelyMoney (if is then (amount, until) ∷ [] else [])
unfolding IsTimelyMoney
recharge_of true amount until timely = All-cons IsTimelyMoney (amount, until) [] timely (All-nil IsTimelyMoney)
recharge_of false amount until timely = All-nil IsTimelyMoney

body_recharges : (account : ℕ) (body : Body) → IsTimely body → All IsTimelyMoney (recharged_in account body)
body_recharges account (Ssf call message) timely = All-nil IsTimelyMoney
body_recharges account (Recharge other amount until) timely = recharge_of (other == account) amount until timely

-- ---- what a worker enters for an account

-- the times that an operation has of a report, of a recharge or of a message
abbrev pub IsTimelyAsked : Asked → Type 0
IsTimelyAsked (Credits amount until) = IfSome until IsMoment
IsTimelyAsked (Reserves call plan wanted least at) = IsMoment at
IsTimelyAsked (Settles call number info) = FitsReport info
IsTimelyAsked (Returns call) = Unit {0}

asked_timely : (setup : Setup) (place : ℕ) (posts : List Post) (asked : Asked) → All IsTimelyReport (settled_in asked) → All IsTimelyMoney (credited_in asked)
    → IsOnTerms setup place posts asked → IsTimelyAsked asked
unfolding IsTimelyReport IsTimelyMoney
asked_timely setup place posts (Credits amount until) settled credited on_terms = All-head IsTimelyMoney (amount, until) [] credited
asked_timely setup place posts (Reserves call plan wanted least at) settled credited on_terms =
    let message = on_terms.1 in omega (arith, message.post.in_range, message.moment)
asked_timely setup place posts (Settles call number info) settled credited on_terms = All-head IsTimelyReport (number, call, info) [] settled
asked_timely setup place posts (Returns call) settled credited on_terms = tt

pub mine_timely : (setup : Setup) (place account : ℕ) (posts : List Post) (mine : List EntryData) → IsServed account posts mine → All (λ post. IsTimely post.body) posts
    → All (λ entry. IsOnTerms setup place posts entry.asked) mine → All (λ entry. IsTimelyAsked entry.asked) mine
mine_timely setup place account posts mine served timely on_terms =
    let reported : All IsTimelyReport (reports_of posts) =
    all_joined IsTimelyReport (λ (post : Post). reported_in post.number post.body) posts (λ k d within. body_reports (slice_index_or posts k d).number (slice_index_or posts k d).body (timely k d within)) in
    let recharged : All IsTimelyMoney (recharges_of account posts) =
    all_joined IsTimelyMoney (λ (post : Post). recharged_in account post.body) posts (λ k d within. body_recharges account (slice_index_or posts k d).body (timely k d within)) in
    let settled = all_pieces IsTimelyReport (λ (entry : EntryData). settled_in entry.asked) mine (all_part IsTimelyReport (settles_of mine) (reports_of posts) served.settles reported) in
    let credited = all_pieces IsTimelyMoney (λ (entry : EntryData). credited_in entry.asked) mine (all_part IsTimelyMoney (credits_of mine) (recharges_of account posts) served.credits recharged) in
    λ k d within. asked_timely setup place posts (slice_index_or mine k d).asked (settled k d within) (credited k d within) (on_terms k d within)
