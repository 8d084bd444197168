-- The books of a run over an input pass the audit.
use Rattle.std.proofs.Common.{◌≡◌, ◌==◌, ◌≤◌, ◌+◌, ◌*◌, ◌∙◌, ℕ, true, List, length, map, sym, ap, subst, arith, All}
use Rattle.std.specs.Prelude.{slice_index_or}
use Rattle.std.specs.List.{filter}
use Rattle.std.specs.List.Sorted.{IsStrictlySortedBy}
use Rattle.std.specs.Map.{keys_of}
use Rattle.std.specs.Ordering.{nat_cmp}
use Rattle.std.proofs.lemmas.List.{length-map}
use Rattle.std.proofs.lemmas.List.Elements.{All-filter}
use Rattle.run_laws.specs.Printable.{row_count}
use Rattle.book_texts.specs.Typed.{IsTyped}
use Rattle.run_laws.specs.Books.{AuditableBooksHaveFewRows, AuditableBooksPass, IsAuditable, RunBooksAreAuditable, RunBooksHaveTheirAccounts}
use Rattle.run_laws.specs.Runs.{IsTimelyRun}
use Rattle.run_values.specs.Openings.{HasAccounts}
use Rattle.run_laws.proofs.Joining.{all_accounts, all_parts, own_accounts}
use Rattle.run_laws.proofs.Timing.{given_timely, rows_in_time}
use Rattle.run_command.specs.Books.{AreBooksOf}
use Rattle.run_command.specs.InParts.{IsPartOf}
use Rattle.run_outputs.specs.Kept.{PartSaid}
use Rattle.run_laws.specs.Joined.{JoinedBooksHaveAllAccounts, JoinedBooksPass, joined_books}
use Rattle.run_command.specs.Starts.{InputIsInRange}
use Rattle.run_laws.specs.Played.{PassTheirAudits, PlayedBooksPass}
use Rattle.run_command.specs.Plays.{IsGivenBy}
use Rattle.run_values.specs.declared.options.RunAsk.{RunAsk}
use Rattle.run_outputs.specs.Parts.{part_of, part_of_account, part_script, payer_of}
use Rattle.run_texts.specs.Happenings.{RowData, is_in_time}
use Rattle.run_texts.specs.Inputs.{RunInput}
use Rattle.run_values.specs.declared.directory.OpeningCredit.{OpeningCredit}
use Rattle.run_values.specs.declared.post.Answer.{Answer}
use Rattle.run_values.specs.declared.post.Body.{Body}
use Rattle.runs_core.specs.Hearing.{all_heard}
use Rattle.runs_core.specs.Teams.{are_workers}
use Rattle.account_core.specs.Closed.{Closed}
use Rattle.turn_account.specs.Seen.{StoodIn}
use Rattle.ssf_core.specs.Laws.{ReportsAreInRange}

-- 1,000 histories of 1,000,000 entries
fits : (accounts rows : ℕ) → accounts ≤ 1000 → rows ≤ accounts * (1 + 1000000) → rows ≤ 4294967293
fits accounts rows few within =
    let all : rows ≤ accounts * 1000001 = within in omega (arith, all)

-- auditable books of all accounts of an input, in order
audits_of : AuditableBooksPass → AuditableBooksHaveFewRows → (accounts : List (ℕ × OpeningCredit)) (books : List Closed) → HasAccounts accounts → length accounts ≤ 1000
    → map (λ book. book.account) books ≡ keys_of accounts → All (IsAuditable 1000000) books → PassTheirAudits books
audits_of pass few accounts books has small same are =
    let rising : IsStrictlySortedBy nat_cmp (map (λ book. book.account) books) = subst (λ (l : List ℕ). IsStrictlySortedBy nat_cmp l) (sym same) has.ordered in
    let many : length books ≡ length accounts = sym (length-map books (λ (book : Closed). book.account)) ∙ ap length same ∙ length-map accounts (λ (account : ℕ × OpeningCredit). account.0) in
    let rows : row_count books ≤ 4294967293 = fits (length books) (row_count books) (omega (arith, many, small)) (few 1000000 books are) in
    record {
      long = pass 4294967293 1000000 books are rising rows;
      short = λ room. pass 1000000 1000000 books are rising room;
    }

module _ (reports : ReportsAreInRange) (auditable : RunBooksAreAuditable StoodIn) (have : RunBooksHaveTheirAccounts StoodIn) (ask : RunAsk) (said : RunInput) (may_be : are_workers ask.workers ≡ true)
    (range : InputIsInRange said) where
  -- a script of recharges in time, which is played over the accounts of the input
  module _ (script : List RowData) (in_time : All (λ row. is_in_time row.what ≡ true) script) (given : List (ℕ × Body)) (heard : List (List Answer)) (books : List Closed)
      (given_by : IsGivenBy ask script heard given) (are : AreBooksOf ask said given heard books) where
    timely_run : IsTimelyRun StoodIn are.setup ask.workers given (all_heard heard) books
    timely_run = record {
      may_be = may_be;
      run = are.run;
      accounts = subst (λ (a : List (ℕ × OpeningCredit)). HasAccounts a) (sym are.of_input.accounts) range.accounts;
      timely = given_timely reports given_by.config ask.delay given_by.rows heard given given_by.play (rows_in_time given_by.rows script given_by.says in_time);
    }

    its_accounts : map (λ book. book.account) books ≡ keys_of said.setup.accounts
    its_accounts = have are.setup ask.workers given (all_heard heard) books timely_run ∙ ap (λ (a : List (ℕ × OpeningCredit)). keys_of a) are.of_input.accounts

    its_books : All (λ book. IsTyped book → IsAuditable 1000000 book) books
    its_books = λ k d within typed.
        subst (λ (limit : ℕ). IsAuditable limit (slice_index_or books k d)) are.of_input.limit (auditable are.setup ask.workers given (all_heard heard) books timely_run k d within typed)

  -- a part of the input
  module _ (firsts : List ℕ) (part : ℕ) (kept : PartSaid) (is : IsPartOf ask said firsts part kept) where
    abbrev script : List RowData
    script = part_script firsts (payer_of said.setup.subscribers said.script) said.script part

    in_time : All (λ row. is_in_time row.what ≡ true) script
    in_time =
        All-filter (λ row. part_of firsts (payer_of said.setup.subscribers said.script) row.what == part) (λ row. is_in_time row.what ≡ true) said.script range.recharges

    part_accounts : map (λ book. book.account) kept.books ≡ filter (λ a. part_of_account firsts a == part) (keys_of said.setup.accounts)
    part_accounts =
        ap (map (λ (book : Closed). book.account)) is.own ∙ own_accounts firsts part is.books
        ∙ ap (filter (λ a. part_of_account firsts a == part)) (its_accounts script in_time is.given is.heard is.books is.given_by is.are_books)

    part_books : All (λ book. IsTyped book → IsAuditable 1000000 book) kept.books
    part_books =
        let Is : Closed → Type 0 = λ book. IsTyped book → IsAuditable 1000000 book in
        subst (λ (l : List Closed). All Is l) (sym is.own)
        (All-filter (λ (book : Closed). part_of_account firsts book.account == part) Is is.books (its_books script in_time is.given is.heard is.books is.given_by is.are_books))

pub played_pass : ReportsAreInRange → RunBooksAreAuditable StoodIn → RunBooksHaveTheirAccounts StoodIn → AuditableBooksPass → AuditableBooksHaveFewRows → PlayedBooksPass
played_pass reports auditable have pass few ask said given heard books may_be range given_by are typed =
    let each = its_books reports auditable have ask said may_be range said.script range.recharges given heard books given_by are in
    audits_of pass few said.setup.accounts books range.accounts range.few (its_accounts reports auditable have ask said may_be range said.script range.recharges given heard books given_by are)
    (λ k d within. each k d within (typed k d within))

pub joined_accounts : ReportsAreInRange → RunBooksAreAuditable StoodIn → RunBooksHaveTheirAccounts StoodIn → JoinedBooksHaveAllAccounts
joined_accounts reports auditable have ask said firsts parts are =
    all_accounts firsts (keys_of said.setup.accounts) parts are.range.accounts.ordered are.all
    (λ k d within. part_accounts reports auditable have ask said are.workers are.range firsts k (slice_index_or parts k d) (are.each k d within))

pub joined_pass : ReportsAreInRange → RunBooksAreAuditable StoodIn → RunBooksHaveTheirAccounts StoodIn → AuditableBooksPass → AuditableBooksHaveFewRows → JoinedBooksPass
joined_pass reports auditable have pass few ask said firsts parts are typed =
    let each = all_parts (λ (book : Closed). IsTyped book → IsAuditable 1000000 book) parts
    (λ k d within. part_books reports auditable have ask said are.workers are.range firsts k (slice_index_or parts k d) (are.each k d within)) in
    audits_of pass few said.setup.accounts (joined_books parts) are.range.accounts are.range.few (joined_accounts reports auditable have ask said firsts parts are)
    (λ k d within. each k d within (typed k d within))
