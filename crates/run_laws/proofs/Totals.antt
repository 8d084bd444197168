-- The records of a run's calls have paid what the calls of its books have.
use Rattle.std.proofs.Common.{◌≡◌, ◌≢◌, ◌==◌, ◌<◌, ◌≤◌, ◌+◌, ℕ, Bool, true, false, Option, Some, None, List, [], ◌∷◌, length, map, reverse, refl, sym, ap, subst, ◌∙◌, arith, sum_by, All}
use Rattle.std.specs.Prelude.{find, if◌then◌else◌, is_some, option_and_then, slice_index_or, unwrap_or}
use Rattle.std.specs.List.{list_any}
use Rattle.std.specs.List.Sorted.{IsStrictlySortedBy}
use Rattle.std.specs.Option.{option_map}
use Rattle.std.specs.Ordering.{nat_cmp}
use Rattle.std.proofs.lemmas.Bool.{eqb-true}
use Rattle.std.proofs.lemmas.List.Elements.{All-head, All-tail}
use Rattle.std.proofs.lemmas.List.Sums.{sum_by-cons}
use Rattle.account_core.proofs.Moves.{calls_once}
use Rattle.account_core.proofs.Sums.{times_in}
use Rattle.account_core.specs.Available.{calls}
use Rattle.account_core.specs.Entries.{EntryData}
use Rattle.account_core.specs.Known.{known, paid_if_granted}
use Rattle.run_outputs.proofs.LawLemmas.{none_paid, parties_start, started_by}
use Rattle.run_outputs.specs.Records.{AreRecords, IsRecord, Run}
use Rattle.run_outputs.specs.Standings.{past_in, past_of}
use Rattle.run_outputs.specs.declared.call_record.CallRecord.{CallRecord}
use Rattle.cap_values.specs.declared.number.Number.{Number}
use Rattle.run_laws.proofs.Openings.{accounts_rise, book_of}
use Rattle.run_laws.proofs.Grants.{IfReserves, granted_has}
use Rattle.run_laws.proofs.Reserves.{IsBegun, begun_parties, book_begun, there}
use Rattle.run_laws.proofs.Sums.{no_value, nothing_in, only_one, rising_once, same_sum, value_in}
use Rattle.run_laws.proofs.Unrouted.{reversed}
use Rattle.run_laws.specs.Records.{IsServedRun, RecordsSumUp, paid_by_calls, paid_in}
use Rattle.run_values.specs.Setups.{place_of}
use Rattle.held_calls.specs.Entered.{ReservesAreInTheBooks}
use Rattle.account_core.specs.Closed.{Closed}
use Rattle.account_core.specs.Refusals.{Knowing}
use Rattle.price_core.specs.Rates.{Rates}
use Rattle.runs_core.proofs.Handling.{at_place}
use Rattle.runs_core.specs.Verdicts.{home_of}

-- ---- sums of sums

sum_alike : {X : Type 0} (f g : X → ℕ) (xs : List X) → All (λ x. f x ≡ g x) xs → sum_by f xs ≡ sum_by g xs
sum_alike f g [] all = refl
sum_alike {X} f g (x ∷ xs) all =
    let P : X → Type 0 = λ y. f y ≡ g y in
    let here : f x ≡ g x = All-head P x xs all in
    let later : sum_by f xs ≡ sum_by g xs = sum_alike f g xs (All-tail P x xs all) in
    sum_by-cons f x xs ∙ ap (λ n. n + sum_by f xs) here ∙ ap (λ n. g x + n) later ∙ sym (sum_by-cons g x xs)

four_sums : (a b s t u v w : ℕ) → s ≡ a + t → u ≡ b + v → w ≡ t + v → (a + b) + w ≡ s + u
four_sums a b s t u v w one two three = omega (arith, one, two, three)

sum_both : {X : Type 0} (f g : X → ℕ) (xs : List X) → sum_by (λ x. f x + g x) xs ≡ sum_by f xs + sum_by g xs
sum_both f g [] = refl
sum_both f g (x ∷ xs) =
    sum_by-cons (λ y. f y + g y) x xs
    ∙ four_sums (f x) (g x) (sum_by f (x ∷ xs)) (sum_by f xs) (sum_by g (x ∷ xs)) (sum_by g xs) (sum_by (λ y. f y + g y) xs) (sum_by-cons f x xs) (sum_by-cons g x xs) (sum_both f g xs)

-- the sums of the columns are those of the rows
swap_sums : (g : ℕ → Closed → ℕ) (cs : List ℕ) (books : List Closed) → sum_by (λ book. sum_by (λ c. g c book) cs) books ≡ sum_by (λ c. sum_by (g c) books) cs
swap_sums g [] books = nothing_in (λ book. 0) books (λ k d within. refl)
swap_sums g (c ∷ cs) books =
    sum_alike (λ book. sum_by (λ e. g e book) (c ∷ cs)) (λ book. g c book + sum_by (λ e. g e book) cs) books (λ k d within. sum_by-cons (λ e. g e (slice_index_or books k d)) c cs)
    ∙ sum_both (g c) (λ book. sum_by (λ e. g e book) cs) books
    ∙ ap (λ n. sum_by (g c) books + n) (swap_sums g cs books)
    ∙ sym (sum_by-cons (λ e. sum_by (g e) books) c cs)

-- ---- what a call has paid in a book

paid_granted : (call : ℕ) (book : Closed) → paid_in call book ≢ 0 → is_some (known call (reverse book.history)).plan ≡ true
paid_granted call book some = by (is_some (known call (reverse book.history)).plan) refl
  where
    by : (granted : Bool) → is_some (known call (reverse book.history)).plan ≡ granted → is_some (known call (reverse book.history)).plan ≡ true
    by true is = is
    by false is = absurd (some (none_paid (known call (reverse book.history)).plan (known call (reverse book.history)) is))

at_most_one : (n : ℕ) (granted : Bool) → n ≡ (if granted then 1 else 0) → n ≤ 1
at_most_one n true is = omega (arith, is)
at_most_one n false is = omega (arith, is)

value_of_past : (call : ℕ) (found : Option Closed) → unwrap_or (paid_if_granted (known call (past_in found))) 0 ≡ value_in (paid_in call) found
value_of_past call None = refl
value_of_past call (Some book) = refl

module _ (Stood : Closed → ℕ → Knowing) (reserves : ReservesAreInTheBooks Stood) (run : Run) (is : IsServedRun Stood run) where
  begun_in : (place : ℕ) (d : Closed) → place < length run.books → (call : ℕ) → paid_in call (slice_index_or run.books place d) ≢ 0 → (plan : Rates) × IsBegun run place call plan
  begun_in place d within call some =
      let book : Closed = slice_index_or run.books place d in
      let P : EntryData → Type 0 = λ entry. IfReserves (IsBegun run place) entry.asked in
      let (plan, planned) = there (known call (reverse book.history)).plan (paid_granted call book some) in
      (plan, granted_has (IsBegun run place) call plan (reverse book.history) (reversed P book.history (book_begun Stood reserves run is place d within)) planned)

  -- the account of a record is at the place of each book in which its call has paid
  placed : (call : CallRecord) → IsRecord run call → (place : ℕ) (d : Closed) → place < length run.books → paid_in call.call (slice_index_or run.books place d) ≢ 0
      → option_and_then (λ account. place_of account run.setup) call.account ≡ Some place
  placed call record_is place d within some =
      let (plan, begun) = begun_in place d within call.call some in
      let same : begun.calling ≡ record_is.start.calling =
      ap (λ (o : Option (Number × Number)). unwrap_or (option_map (λ (p : Number × Number). p.0) o) begun.calling)
      (sym (begun_parties Stood run is place call.call plan begun) ∙ parties_start run call record_is) in
      let Home : Number → Type 0 = λ calling. home_of calling run.setup ≡ Some place in
      ap (option_and_then (λ account. place_of account run.setup)) record_is.from.account ∙ subst Home same begun.home

  its_account : (account place : ℕ) (d : Closed) → place < length run.books → place_of account run.setup ≡ Some place → (slice_index_or run.books place d).account ≡ account
  its_account account place d within at =
      let here = book_of run.setup is.workers run.books is.may_be is.served.opened is.accounts place d within in
      let other = at_place run.setup (slice_index_or run.books place d).account place here.place_is in
      let own = at_place run.setup account place at in
      sym (eqb-true _ _ other.1) ∙ eqb-true _ _ own.1

  rising_books : IsStrictlySortedBy nat_cmp (map (λ (book : Closed). book.account) run.books)
  rising_books =
      accounts_rise run.setup is.workers run.books is.may_be is.served.opened is.accounts

  paid_with : (call : CallRecord) (account : Option ℕ)
      → ((place : ℕ) (d : Closed) → place < length run.books → paid_in call.call (slice_index_or run.books place d) ≢ 0 → option_and_then (λ a. place_of a run.setup) account ≡ Some place)
      → unwrap_or (paid_if_granted (known call.call (past_of account run.books))) 0 ≡ sum_by (paid_in call.call) run.books
  paid_with call None own =
      sym (nothing_in (paid_in call.call) run.books (λ place d within. no_value (paid_in call.call (slice_index_or run.books place d)) (λ some. let never = own place d within some in cc)))
  paid_with call (Some account) own =
      value_of_past call.call (find (λ book. book.account == account) run.books)
      ∙ sym (only_one (paid_in call.call) account run.books rising_books (λ place d within some. its_account account place d within (own place d within some)))

  -- a record has paid what its call has paid in all books
  paid_in_books : (call : CallRecord) → IsRecord run call → call.paid ≡ sum_by (paid_in call.call) run.books
  paid_in_books call record_is = record_is.from.paid ∙ paid_with call call.account (placed call record_is)

  all_records : (records : List CallRecord) → All (IsRecord run) records → sum_by (λ call. call.paid) records ≡ sum_by (λ c. sum_by (paid_in c) run.books) (map (λ call. call.call) records)
  all_records [] all = refl
  all_records (call ∷ records) all =
      let here : call.paid ≡ sum_by (paid_in call.call) run.books = paid_in_books call (All-head (IsRecord run) call records all) in
      sum_by-cons (λ (c : CallRecord). c.paid) call records
      ∙ ap (λ n. n + sum_by (λ (c : CallRecord). c.paid) records) here
      ∙ ap (λ n. sum_by (paid_in call.call) run.books + n) (all_records records (All-tail (IsRecord run) call records all))
      ∙ sym (sum_by-cons (λ c. sum_by (paid_in c) run.books) call.call (map (λ (c : CallRecord). c.call) records))

  module _ (records : List CallRecord) (are : AreRecords run records) where
    stands_once : (place : ℕ) (d : Closed) → place < length run.books → (call : ℕ) → paid_in call (slice_index_or run.books place d) ≢ 0
        → times_in call (map (λ (r : CallRecord). r.call) records) ≡ 1
    stands_once place d within call some =
        let (plan, begun) = begun_in place d within call some in
        let listed : list_any (λ other. call == other) (map (λ (r : CallRecord). r.call) records) ≡ true =
        sym (are.started call) ∙ started_by call run.given (begun.calling, begun.called) (begun_parties Stood run is place call plan begun) in
        rising_once (map (λ (r : CallRecord). r.call) records) are.ascending call ∙ rw (listed) refl

    -- the calls of a book have paid what the started calls have paid in it
    book_total : (place : ℕ) (d : Closed) → place < length run.books
        → paid_by_calls (slice_index_or run.books place d) ≡ sum_by (λ c. paid_in c (slice_index_or run.books place d)) (map (λ (r : CallRecord). r.call) records)
    book_total place d within =
        let book : Closed = slice_index_or run.books place d in
        let h : List EntryData = reverse book.history in
        same_sum (λ c. paid_in c book) (calls h) (map (λ (r : CallRecord). r.call) records)
        (λ c. at_most_one (times_in c (calls h)) (is_some (known c h).plan) (calls_once h c))
        (λ c some. let granted : is_some (known c h).plan ≡ true = paid_granted c book some in
        (calls_once h c ∙ rw (granted) refl) ∙ sym (stands_once place d within c some))

    pub total : sum_by (λ call. call.paid) records ≡ sum_by paid_by_calls run.books
    total =
        all_records records are.each
        ∙ sym (swap_sums paid_in (map (λ (r : CallRecord). r.call) records) run.books)
        ∙ sym (sum_alike paid_by_calls (λ book. sum_by (λ c. paid_in c book) (map (λ (r : CallRecord). r.call) records)) run.books book_total)

pub records_total : (Stood : Closed → ℕ → Knowing) → ReservesAreInTheBooks Stood → RecordsSumUp Stood
records_total Stood reserves run records is are = total Stood reserves run is records are
