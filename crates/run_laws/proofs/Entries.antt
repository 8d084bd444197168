-- Each entry of a book of a run fits its columns.
use Rattle.std.proofs.Common.{◌≡◌, ◌<◌, ℕ, true, List, length, refl, arith, All}
use Rattle.std.specs.Prelude.{◌==◌, ◌&&◌, nat_le, slice_index_or}
use Rattle.std.proofs.lemmas.Bool.{and_parts, eq-eqb, leb-true}
use Rattle.account_core.specs.Asked.{Asked, Credits, Reserves, Settles, Returns, is_in_range}
use Rattle.account_core.specs.Entries.{EntryData}
use Rattle.account_core.specs.Laws.{EntriesAreInRange, EntryIsInRange}
use Rattle.book_texts.specs.Typed.{IsTyped, IsTypedAsked}
use Rattle.book_texts.specs.Fits.{FitsAsked, FitsEntry}
use Rattle.held_calls.proofs.Listed.{all_passing}
use Rattle.run_laws.proofs.Openings.{IsOpenedWithin}
use Rattle.run_laws.proofs.Posts.{IsTimelyAsked, handled_all, mine_timely}
use Rattle.run_laws.specs.Timely.{AreTimely, IsTimely}
use Rattle.run_values.specs.Setups.{Setup}
use Rattle.run_values.specs.declared.post.Answer.{Answer}
use Rattle.run_values.specs.declared.post.Body.{Body}
use Rattle.held_calls.specs.Entered.{IsBookAt, ReservesAreInTheBooks, RunEntriesAreServed}
use Rattle.runs_core.specs.Runs.{IsRun}
use Rattle.account_core.specs.Closed.{Closed}
use Rattle.account_core.specs.Own.{own}
use Rattle.account_core.specs.Refusals.{Knowing}

-- ---- an operation, by its ranges, its types and its times

asked_fits : (asked : Asked) → is_in_range asked ≡ true → IsTypedAsked asked → IsTimelyAsked asked → FitsAsked asked
asked_fits (Credits amount until) range typed timely = (leb-true amount 1000000000000000 (and_parts (nat_le 1 amount) (nat_le amount 1000000000000000) range).1, timely)
asked_fits (Reserves call plan wanted least at) range typed timely =
    let (wants, takes) = and_parts (nat_le 1 wanted && nat_le wanted 864000) (nat_le least 864000) range in
    let (some, most) = and_parts (nat_le 1 wanted) (nat_le wanted 864000) wants in
    (typed.0, typed.1, leb-true wanted 864000 most, leb-true least 864000 takes, timely)
asked_fits (Settles call number info) range typed timely = (typed.0, typed.1, timely)
asked_fits (Returns call) range typed timely = typed

-- ---- an entry of a history is one of its worker's own

pub own_holds : (P : EntryData → Type 0) (history : List EntryData) (workers : ℕ) → All (λ entry. entry.seat < workers) history
    → ((worker : ℕ) → worker < workers → All P (own worker history)) → All P history
own_holds P history workers owned each = λ k d within.
    let entry : EntryData = slice_index_or history k d in
    all_passing (λ (other : EntryData). other.seat == entry.seat) P history (each entry.seat (owned k d within)) k d within (eq-eqb entry.seat entry.seat refl)

-- ---- the entries of a book

module _ (Stood : Closed → ℕ → Knowing) (serves : RunEntriesAreServed Stood) (reserves : ReservesAreInTheBooks Stood) (ranges : EntriesAreInRange) (setup : Setup) (workers : ℕ) (given : List (ℕ × Body)) (answers : List Answer)
    (books : List Closed) (run : IsRun Stood setup workers given answers books) (timely : AreTimely given) where
  history_timely : (place : ℕ) (d : Closed) → place < length books → IsBookAt setup books (slice_index_or books place d).account place (slice_index_or books place d)
      → All (λ entry. IsTimelyAsked entry.asked) (slice_index_or books place d).history
  history_timely place d within is =
      let book : Closed = slice_index_or books place d in
      own_holds (λ (entry : EntryData). IsTimelyAsked entry.asked) book.history workers (run.owned place d within) (λ seat here.
      let its = run.answered seat here in
      mine_timely setup place book.account its.posts (own seat book.history) (serves setup workers given answers books seat book.account place book its is)
      (handled_all (λ at body. IsTimely body) workers given seat its.posts its.share timely)
      (reserves setup workers given answers books seat book.account place book its is))

  pub history_fits : (place : ℕ) (d : Closed) → place < length books → IsBookAt setup books (slice_index_or books place d).account place (slice_index_or books place d)
      → IsOpenedWithin workers (slice_index_or books place d) → IsTyped (slice_index_or books place d) → All FitsEntry (slice_index_or books place d).history
  history_fits place d within is opened typed =
      let book : Closed = slice_index_or books place d in
      let in_range : All EntryIsInRange book.history = ranges book.opening book.until book.history opened.opening (run.legal place d within) in
      let on_time = history_timely place d within is in
      λ k e here. record {
        seat = let few = run.owned place d within k e here in omega (arith, few, opened.seats);
        asked = asked_fits (slice_index_or book.history k e).asked (in_range k e here).asked (typed.history k e here) (on_time k e here);
        reply = (in_range k e here).reply;
      }
