-- The records of some accounts' calls, by a run of all items and by one of theirs.
use Rattle.std.proofs.Common.{◌≡◌, ◌∙◌, ℕ, Bool, true, false, true≢false, Option, Some, None, List, [], ◌∷◌, map, refl, sym, ap, subst, arith, All}
use Rattle.std.specs.Prelude.{◌==◌, ◌&&◌, ◌||◌, if◌then◌else◌, is_some, reverse, unwrap_or}
use Rattle.std.specs.List.{filter, list_any}
use Rattle.std.specs.List.Sorted.{IsStrictlySortedBy}
use Rattle.std.specs.Option.{ForSome, option_or}
use Rattle.std.specs.Ordering.{nat_cmp}
use Rattle.std.proofs.lemmas.Bool.Decides.{nat_tests}
use Rattle.std.proofs.lemmas.List.Elements.{All-cons, All-head, All-nil, All-tail}
use Rattle.std.proofs.lemmas.List.Kept.{IsStrictlySortedBy-filter}
use Rattle.account_core.specs.Asked.{Asked, Credits, Reserves, Settles, Returns, call_of}
use Rattle.account_core.specs.Entries.{EntryData}
use Rattle.account_core.specs.Known.{CallFacts, known, paid_if_granted}
use Rattle.account_core.specs.declared.entry.Reply.{Reply}
use Rattle.run_outputs.specs.Calls.{end_by, first_said, report_by, call_reports_of, start_by, start_of, message_of_call}
use Rattle.run_outputs.specs.Records.{IsRecord, outcome_of}
use Rattle.run_outputs.specs.Standings.{book_of, denies, denies_call, is_denied, is_denied_later, last_by, last_grant, past_in, past_of, standing_of}
use Rattle.run_outputs.specs.declared.call_record.CallRecord.{CallRecord}
use Rattle.cap_values.specs.declared.event.Event.TheVariants as event
use Rattle.cap_values.specs.declared.message.SsfMsg.{SsfMsg}
use Rattle.cap_values.specs.declared.message.SsfMsg.TheVariants.{InitialDp, EventReport, ChargingReport, Ended}
use Rattle.cap_values.specs.declared.number.Number.{Number}
use Rattle.part_laws.proofs.Blind.{call_same, known_same, reverse_map}
use Rattle.part_laws.specs.Chosen.{AreByAccount, Choice, HasBooksOf, IsByAccount, chosen, chosen_book, is_chosen}
use Rattle.part_laws.specs.Numbers.{unnumbered, unnumbered_book, without_number, without_numbers}
use Rattle.part_laws.specs.Printed.{RecordsAreThoseOfAll, run_given}
use Rattle.run_values.specs.Setups.{Setup, account_of}
use Rattle.run_values.specs.declared.post.Body.{Body}
use Rattle.run_values.specs.declared.post.Body.TheVariants.{Ssf, Recharge}
use Rattle.account_core.specs.Closed.{Closed}

-- ---- what a history says of a call, without the numbers

denies_same : (asked : Asked) (response : Reply) → denies (unnumbered asked) response ≡ denies asked response
denies_same (Credits amount until) response = refl
denies_same (Reserves call plan wanted least at) response = refl
denies_same (Settles call number info) response = refl
denies_same (Returns call) response = refl

denies_call_same : (call : ℕ) (entry : EntryData) → denies_call call (without_number entry) ≡ denies_call call entry
denies_call_same call entry =
    ap (λ n. n == call && denies (unnumbered entry.asked) entry.reply) (call_same entry.asked)
    ∙ ap (λ b. call_of entry.asked == call && b) (denies_same entry.asked entry.reply)

denied_same : (call : ℕ) (h : List EntryData) → is_denied call (without_numbers h) ≡ is_denied call h
denied_same call [] = refl
denied_same call (entry ∷ h) =
    ap (λ b. b || is_denied call (without_numbers h)) (denies_call_same call entry) ∙ ap (λ b. denies_call call entry || b) (denied_same call h)

denied_later_same : (call : ℕ) (h : List EntryData) → is_denied_later call (without_numbers h) ≡ is_denied_later call h
denied_later_same call [] = refl
denied_later_same call (entry ∷ h) =
    ap (λ b. b && is_some (known call (without_numbers h)).plan || is_denied_later call (without_numbers h)) (denies_call_same call entry)
    ∙ ap (λ (k : CallFacts). denies_call call entry && is_some k.plan || is_denied_later call (without_numbers h)) (known_same call h)
    ∙ ap (λ b. denies_call call entry && is_some (known call h).plan || b) (denied_later_same call h)

last_by_same : (asked : Asked) (response : Reply) → last_by (unnumbered asked) response ≡ last_by asked response
last_by_same (Credits amount until) response = refl
last_by_same (Reserves call plan wanted least at) response = refl
last_by_same (Settles call number info) response = refl
last_by_same (Returns call) response = refl

last_grant_same : (call : ℕ) (h : List EntryData) → last_grant call (without_numbers h) ≡ last_grant call h
last_grant_same call [] = refl
last_grant_same call (entry ∷ h) =
    ap (λ n. option_or (if n == call then last_by (unnumbered entry.asked) entry.reply else None) (last_grant call (without_numbers h))) (call_same entry.asked)
    ∙ ap (λ (o : Option Bool). option_or (if call_of entry.asked == call then o else None) (last_grant call (without_numbers h))) (last_by_same entry.asked entry.reply)
    ∙ ap (option_or (if call_of entry.asked == call then last_by entry.asked entry.reply else None)) (last_grant_same call h)

standing_same : (call : ℕ) (h : List EntryData) → standing_of call (without_numbers h) ≡ standing_of call h
standing_same call h = rw (known_same call h, denied_same call h, denied_later_same call h, last_grant_same call h) refl

standing_alike : (call : ℕ) (h g : List EntryData) → without_numbers h ≡ without_numbers g → standing_of call h ≡ standing_of call g
standing_alike call h g same = sym (standing_same call h) ∙ ap (standing_of call) same ∙ standing_same call g

known_alike : (call : ℕ) (h g : List EntryData) → without_numbers h ≡ without_numbers g → known call h ≡ known call g
known_alike call h g same = sym (known_same call h) ∙ ap (known call) same ∙ known_same call g

module _ (setup : Setup) (choice : Choice) where
  -- ---- what is told of a call

  message_apart : {X : Type 0} (call : ℕ) (tell : SsfMsg → Option X) (body : Body) → (choice.calls call ≡ is_chosen choice body → ⊥) → message_of_call call tell body ≡ None
  message_apart {X} call tell (Ssf other message) apart = by_call (other == call) refl
    where
      by_call : (b : Bool) → (other == call) ≡ b → (if b then tell message else None) ≡ None
      by_call true here = let its : call ≡ other = grind (arith, nat_tests, here) in absurd (apart (ap choice.calls its))
      by_call false here = refl
  message_apart call tell (Recharge account amount until) apart = refl

  first_same : {X : Type 0} (call : ℕ) (tell : ℕ → SsfMsg → Option X) (given : List (ℕ × Body)) → choice.calls call ≡ true
      → first_said call tell (chosen choice given) ≡ first_said call tell given
  first_same call tell [] own = refl
  first_same call tell (item ∷ given) own = by_own (is_chosen choice item.1) refl (first_same call tell given own)
    where
      by_own : (b : Bool) → is_chosen choice item.1 ≡ b → first_said call tell (chosen choice given) ≡ first_said call tell given
          → first_said call tell (if b then item ∷ chosen choice given else chosen choice given) ≡ option_or (message_of_call call (tell item.0) item.1) (first_said call tell given)
      by_own true is rest = ap (option_or (message_of_call call (tell item.0) item.1)) rest
      by_own false is rest =
          rest ∙ sym (ap (λ o. option_or o (first_said call tell given)) (message_apart call (tell item.0) item.1 (λ same. true≢false (sym own ∙ same ∙ is))))

  first_none : {X : Type 0} (call : ℕ) (tell : ℕ → SsfMsg → Option X) (given : List (ℕ × Body)) → choice.calls call ≡ false → first_said call tell (chosen choice given) ≡ None
  first_none call tell [] apart = refl
  first_none call tell (item ∷ given) apart = by_own (is_chosen choice item.1) refl (first_none call tell given apart)
    where
      by_own : (b : Bool) → is_chosen choice item.1 ≡ b → first_said call tell (chosen choice given) ≡ None
          → first_said call tell (if b then item ∷ chosen choice given else chosen choice given) ≡ None
      by_own true is rest =
          ap (λ o. option_or o (first_said call tell (chosen choice given))) (message_apart call (tell item.0) item.1 (λ same. true≢false (sym is ∙ sym same ∙ apart))) ∙ rest
      by_own false is rest = rest

  reports_same : (call : ℕ) (given : List (ℕ × Body)) → choice.calls call ≡ true → call_reports_of call (chosen choice given) ≡ call_reports_of call given
  reports_same call given own =
      rw (
        first_same call (report_by event.Answer) given own,
        first_same call end_by given own,
        first_same call (report_by event.CalledPartyBusy) given own,
        first_same call (report_by event.NoAnswer) given own,
        first_same call (report_by event.RouteSelectFailure) given own,
        first_same call (report_by event.Abandon) given own,
        first_same call (report_by event.Disconnect) given own,
      ) refl

  -- ---- the account of a call that starts

  abbrev IsOwn : ℕ → Number → Type 0
  IsOwn call calling = ForSome (account_of calling setup.subscribers) (λ account. choice.calls call ≡ choice.accounts account)

  own_start : (call at : ℕ) (message : SsfMsg) (start : _) → start_by at message ≡ Some start → IsByAccount setup choice (Ssf call message) → IsOwn call start.calling
  own_start call at (InitialDp other calling called) start is by =
      let same : calling ≡ start.calling = cc is in
      subst (λ (number : Number). IsOwn call number) same by
  own_start call at (EventReport e leg mode) start is by = absurd (cc)
  own_start call at (ChargingReport active info) start is by = absurd (cc)
  own_start call at Ended start is by = absurd (cc)

  own_begun : (call at : ℕ) (body : Body) (start : _) → message_of_call call (start_by at) body ≡ Some start → IsByAccount setup choice body → IsOwn call start.calling
  own_begun call at (Ssf other message) start is by = by_call (other == call) refl is
    where
      by_call : (b : Bool) → (other == call) ≡ b → (if b then start_by at message else None) ≡ Some start → IsOwn call start.calling
      by_call true here is =
          let its : other ≡ call = grind (arith, nat_tests, here) in
          subst (λ (c : ℕ). IsOwn c start.calling) its (own_start other at message start is by)
      by_call false here is = absurd (cc)
  own_begun call at (Recharge account amount until) start is by = absurd (cc)

  start_own : (call : ℕ) (given : List (ℕ × Body)) (start : _) → start_of call given ≡ Some start → AreByAccount setup choice given → IsOwn call start.calling
  start_own call [] start is by = absurd (cc)
  start_own call (item ∷ given) start is by =
      let P : ℕ × Body → Type 0 = λ i. IsByAccount setup choice i.1 in
      by_message (message_of_call call (start_by item.0) item.1) refl (λ later. start_own call given start later (All-tail P item given by)) (All-head P item given by) is
    where
      by_message : (found : _) → message_of_call call (start_by item.0) item.1 ≡ found → (start_of call given ≡ Some start → IsOwn call start.calling) → IsByAccount setup choice item.1
          → option_or found (start_of call given) ≡ Some start → IsOwn call start.calling
      by_message None found rest by is = rest is
      by_message (Some first) found rest by is = own_begun call item.0 item.1 start (found ∙ is) by

  -- ---- the history of an account

  pub chosen_account : (book : Closed) → (chosen_book choice book).account ≡ book.account
  chosen_account book = by_own (choice.accounts book.account)
    where
      other : Closed
      other = record { account = book.account; opening = book.opening; until = book.until; limit = book.limit; history = [] }

      by_own : (b : Bool) → (if b then unnumbered_book book else other).account ≡ book.account
      by_own true = refl
      by_own false = refl

  chosen_history : (book : Closed) → choice.accounts book.account ≡ true → (chosen_book choice book).history ≡ without_numbers book.history
  chosen_history book own = rw own refl

  past_same : (own book : Closed) → without_numbers own.history ≡ without_numbers book.history → without_numbers (reverse own.history) ≡ without_numbers (reverse book.history)
  past_same own book same = reverse_map without_number own.history ∙ ap reverse same ∙ sym (reverse_map without_number book.history)

  history_same : (account : ℕ) (books own_books : List Closed) → choice.accounts account ≡ true → HasBooksOf choice books own_books
      → without_numbers (past_in (book_of account own_books)) ≡ without_numbers (past_in (book_of account books))
  history_same account [] [] chosen_one same = refl
  history_same account [] (own ∷ own_books) chosen_one same = absurd (cc)
  history_same account (book ∷ books) [] chosen_one same = absurd (cc)
  history_same account (book ∷ books) (own ∷ own_books) chosen_one same =
      let first : unnumbered_book own ≡ chosen_book choice book = cc same in
      let number : own.account ≡ book.account = ap (λ (b : Closed). b.account) first ∙ chosen_account book in
      let past : Bool → List EntryData = λ b. without_numbers (past_in (if b then Some own else book_of account own_books)) in
      ap (λ n. past (n == account)) number
      ∙ by_here (book.account == account) refl (ap (λ (b : Closed). b.history) first) (history_same account books own_books chosen_one (cc same))
    where
      by_here : (b : Bool) → (book.account == account) ≡ b → without_numbers own.history ≡ (chosen_book choice book).history
          → without_numbers (past_in (book_of account own_books)) ≡ without_numbers (past_in (book_of account books))
          → without_numbers (past_in (if b then Some own else book_of account own_books)) ≡ without_numbers (past_in (if b then Some book else book_of account books))
      by_here true here history rest =
          let its : book.account ≡ account = grind (arith, nat_tests, here) in
          past_same own book (history ∙ chosen_history book (ap choice.accounts its ∙ chosen_one))
      by_here false here history rest = rest

  -- ---- a record

  pasts_same : (call : ℕ) (account : Option ℕ) (books own_books : List Closed) → choice.calls call ≡ true → ForSome account (λ a. choice.calls call ≡ choice.accounts a) → HasBooksOf choice books own_books
      → without_numbers (past_of account books) ≡ without_numbers (past_of account own_books)
  pasts_same call None books own_books own by same = refl
  pasts_same call (Some account) books own_books own by same = sym (history_same account books own_books (sym (by account refl) ∙ own) same)

  record_too : (given : List (ℕ × Body)) (books own_books : List Closed) (call : CallRecord) → AreByAccount setup choice given → HasBooksOf choice books own_books → choice.calls call.call ≡ true
      → IsRecord (run_given setup given books) call → IsRecord (run_given setup (chosen choice given) own_books) call
  record_too given books own_books call by same own is =
      let own_account = start_own call.call given is.start is.begins by in
      let F : Option ℕ → Type 0 = λ account. ForSome account (λ a. choice.calls call.call ≡ choice.accounts a) in
      let past = pasts_same call.call call.account books own_books own (subst F (sym is.from.account) own_account) same in
      let facts = known_alike call.call (past_of call.account books) (past_of call.account own_books) past in
      let standing = standing_alike call.call (past_of call.account books) (past_of call.account own_books) past in
      let reports : call_reports_of call.call given ≡ call_reports_of call.call (chosen choice given) = sym (reports_same call.call given own) in
      record {
        start = is.start;
        begins = first_same call.call start_by given own ∙ is.begins;
        from = record {
          calling = is.from.calling;
          called = is.from.called;
          start_is = is.from.start_is;
          account = is.from.account;
          prefix = is.from.prefix;
          answer = is.from.answer ∙ sym (first_same call.call (report_by event.Answer) given own);
          end = is.from.end ∙ sym (first_same call.call end_by given own);
          times = is.from.times ∙ ap (λ (k : CallFacts). k.times) facts;
          paid = is.from.paid ∙ ap (λ (k : CallFacts). unwrap_or (paid_if_granted k) 0) facts;
          outcome_is = is.from.outcome_is
              ∙ ap (λ r. outcome_of call.account (is_some call.prefix) r (standing_of call.call (past_of call.account books))) reports
              ∙ ap (outcome_of call.account (is_some call.prefix) (call_reports_of call.call (chosen choice given))) standing;
        };
      }

  -- ---- all records

  abbrev own_calls : List CallRecord → List CallRecord
  own_calls calls = filter (λ call. choice.calls call.call) calls

  abbrev numbers_of : List CallRecord → List ℕ
  numbers_of calls = map (λ call. call.call) calls

  numbers_same : (calls : List CallRecord) → numbers_of (own_calls calls) ≡ filter choice.calls (numbers_of calls)
  numbers_same [] = refl
  numbers_same (call ∷ calls) = by_own (choice.calls call.call) (numbers_same calls)
    where
      by_own : (b : Bool) → numbers_of (own_calls calls) ≡ filter choice.calls (numbers_of calls)
          → numbers_of (if b then call ∷ own_calls calls else own_calls calls) ≡ (if b then call.call ∷ filter choice.calls (numbers_of calls) else filter choice.calls (numbers_of calls))
      by_own true rest = ap (λ l. call.call ∷ l) rest
      by_own false rest = rest

  differs : (call other : ℕ) → (choice.calls call ≡ choice.calls other → ⊥) → (call == other) ≡ false
  differs call other apart = by_call (call == other) refl
    where
      by_call : (b : Bool) → (call == other) ≡ b → b ≡ false
      by_call true here = let its : call ≡ other = grind (arith, nat_tests, here) in absurd (apart (ap choice.calls its))
      by_call false here = refl

  any_same : (call : ℕ) (numbers : List ℕ) → choice.calls call ≡ true → list_any (λ other. call == other) (filter choice.calls numbers) ≡ list_any (λ other. call == other) numbers
  any_same call [] own = refl
  any_same call (number ∷ numbers) own = by_own (choice.calls number) refl (any_same call numbers own)
    where
      by_own : (b : Bool) → choice.calls number ≡ b → list_any (λ other. call == other) (filter choice.calls numbers) ≡ list_any (λ other. call == other) numbers
          → list_any (λ other. call == other) (if b then number ∷ filter choice.calls numbers else filter choice.calls numbers) ≡ (call == number || list_any (λ other. call == other) numbers)
      by_own true is rest = ap (λ b. call == number || b) rest
      by_own false is rest =
          rest ∙ sym (ap (λ b. b || list_any (λ other. call == other) numbers) (differs call number (λ same. true≢false (sym own ∙ same ∙ is))))

  any_none : (call : ℕ) (numbers : List ℕ) → choice.calls call ≡ false → list_any (λ other. call == other) (filter choice.calls numbers) ≡ false
  any_none call [] apart = refl
  any_none call (number ∷ numbers) apart = by_own (choice.calls number) refl (any_none call numbers apart)
    where
      by_own : (b : Bool) → choice.calls number ≡ b → list_any (λ other. call == other) (filter choice.calls numbers) ≡ false
          → list_any (λ other. call == other) (if b then number ∷ filter choice.calls numbers else filter choice.calls numbers) ≡ false
      by_own true is rest =
          ap (λ b. b || list_any (λ other. call == other) (filter choice.calls numbers)) (differs call number (λ same. true≢false (sym is ∙ sym same ∙ apart))) ∙ rest
      by_own false is rest = rest

  started_too : (given : List (ℕ × Body)) (numbers : List ℕ) (call : ℕ) → is_some (start_of call given) ≡ list_any (λ other. call == other) numbers
      → is_some (start_of call (chosen choice given)) ≡ list_any (λ other. call == other) (filter choice.calls numbers)
  started_too given numbers call is = by_own (choice.calls call) refl
    where
      by_own : (b : Bool) → choice.calls call ≡ b → is_some (start_of call (chosen choice given)) ≡ list_any (λ other. call == other) (filter choice.calls numbers)
      by_own true own = ap is_some (first_same call start_by given own) ∙ is ∙ sym (any_same call numbers own)
      by_own false apart = ap is_some (first_none call start_by given apart) ∙ sym (any_none call numbers apart)

  each_too : (given : List (ℕ × Body)) (books own_books : List Closed) (calls : List CallRecord) → AreByAccount setup choice given → HasBooksOf choice books own_books
      → All (IsRecord (run_given setup given books)) calls → All (IsRecord (run_given setup (chosen choice given) own_books)) (own_calls calls)
  each_too given books own_books [] by same all = All-nil (IsRecord (run_given setup (chosen choice given) own_books))
  each_too given books own_books (call ∷ calls) by same all =
      let P = IsRecord (run_given setup given books) in
      by_own (choice.calls call.call) refl (All-head P call calls all) (each_too given books own_books calls by same (All-tail P call calls all))
    where
      by_own : (b : Bool) → choice.calls call.call ≡ b → IsRecord (run_given setup given books) call → All (IsRecord (run_given setup (chosen choice given) own_books)) (own_calls calls)
          → All (IsRecord (run_given setup (chosen choice given) own_books)) (if b then call ∷ own_calls calls else own_calls calls)
      by_own true own is rest =
          All-cons (IsRecord (run_given setup (chosen choice given) own_books)) call (own_calls calls) (record_too given books own_books call by same own is) rest
      by_own false own is rest = rest

pub records_alike : RecordsAreThoseOfAll
records_alike setup choice given books own_books calls by same are =
    let numbers = map (λ (call : CallRecord). call.call) calls in
    let its = sym (numbers_same setup choice calls) in
    let S : List ℕ → Type 0 = IsStrictlySortedBy nat_cmp in
    record {
      ascending = subst S its (IsStrictlySortedBy-filter nat_cmp choice.calls numbers are.ascending);
      started = λ call. started_too setup choice given numbers call (are.started call) ∙ ap (list_any (λ other. call == other)) its;
      each = each_too setup choice given books own_books calls by same are.each;
    }
