-- Runs of one worker over the same items.
use Rattle.std.proofs.Common.{◌≡◌, ◌<◌, ◌++◌, ◌+◌, ◌==◌, ℕ, zero, suc, Bool, true, Option, None, List, [], ◌∷◌, length, map, refl, sym, ap, subst, ◌∙◌, arith, All, append-nil}
use Rattle.std.specs.Prelude.{filter, slice_index_or}
use Rattle.std.proofs.lemmas.List.{length-map}
use Rattle.std.proofs.lemmas.List.Elements.{All-head, All-tail}
use Rattle.runs_core.proofs.HandOuts.{numbered-append}
use Rattle.runs_core.proofs.HearingLemmas.{many_answers}
use Rattle.account_core.specs.Answers.{IsLegal}
use Rattle.account_core.specs.Entries.{EntryData}
use Rattle.live_recovery.proofs.Alike.{GoAlike, goes_itself}
use Rattle.live_recovery.proofs.Chains.{ChainsAreAlike, NoFault, chains_alike}
use Rattle.live_recovery.proofs.Handling.{AreLegal}
use Rattle.live_recovery.specs.Laws.{LongerRunsAnswerAlike, NoneIsRefused, RunsAreAlike, views_of}
use Rattle.tariff_core.specs.Laws.{IsProper}
use Rattle.run_values.specs.Openings.{no_credit}
use Rattle.run_values.specs.Setups.{Setup}
use Rattle.run_values.specs.declared.directory.OpeningCredit.{OpeningCredit}
use Rattle.run_values.specs.declared.post.Answer.{Answer}
use Rattle.run_values.specs.declared.post.Body.{Body}
use Rattle.run_values.specs.declared.post.Body.TheVariants.{Ssf, Recharge}
use Rattle.runs_core.specs.Closing.{lists_of, refuses_in, terms_shown}
use Rattle.runs_core.specs.Hearing.{IsAnsweredBy, answers_to}
use Rattle.runs_core.specs.Runs.{IsRun}
use Rattle.runs_core.specs.Shares.{Item, item_of, numbered, share, worker_of}
use Rattle.runs_core.specs.Teams.{terms_with}
use Rattle.account_core.specs.Closed.{Closed}
use Rattle.account_core.specs.Own.{own}
use Rattle.turn_account.specs.Seen.{StoodIn}
use Rattle.account_core.specs.Terms.{Terms}
use Rattle.runs_core.specs.Chains.{at_first, seat_numbers}
use Rattle.runs_core.specs.Handled.{AnswerView}
use native.Mathlib.Nat.{mod-one}

-- ---- all is the one worker's

is_zero : (n : ℕ) → n ≡ 0 → (n == 0) ≡ true
is_zero n is = rw is refl

goes_there : (body : Body) → (worker_of 1 body == 0) ≡ true
goes_there (Ssf call message) = is_zero (worker_of 1 (Ssf call message)) (mod-one call)
goes_there (Recharge account amount until) = is_zero (worker_of 1 (Recharge account amount until)) (mod-one account)

all_pass : {X : Type 0} (test : X → Bool) (xs : List X) → ((x : X) → test x ≡ true) → filter test xs ≡ xs
all_pass test [] each = refl
all_pass test (x ∷ xs) each = rw (each x) (ap (λ l. x ∷ l) (all_pass test xs each))

pub shares_all : (given : List (ℕ × Body)) → share 1 given 0 ≡ numbered 0 given
shares_all given = all_pass (λ (item : Item). worker_of 1 item.body == 0) (numbered 0 given) (λ item. goes_there item.body)

pub answers_all : (given : List (ℕ × Body)) (answers : List Answer) → length answers ≡ length given → answers_to 1 0 given answers ≡ answers
answers_all [] [] many = refl
answers_all [] (answer ∷ answers) many = absurd (cc)
answers_all (item ∷ given) [] many = absurd (cc)
answers_all (item ∷ given) (answer ∷ answers) many = rw (goes_there item.1) (ap (λ l. answer ∷ l) (answers_all given answers (omega (arith, many))))

-- ---- each history is the one worker's

own_all : (history : List EntryData) → All (λ entry. entry.seat < 1) history → own 0 history ≡ history
own_all [] all = refl
own_all (entry ∷ history) all =
    let first : entry.seat < 1 = All-head (λ (e : EntryData). e.seat < 1) entry history all in
    rw (is_zero entry.seat (omega (arith, first))) (ap (λ l. entry ∷ l) (own_all history (All-tail (λ (e : EntryData). e.seat < 1) entry history all)))

-- the histories of books
abbrev pub histories_of : List Closed → List (List EntryData)
histories_of books = map (λ book. book.history) books

pub own_lists : (books : List Closed) → All (λ book. All (λ entry. entry.seat < 1) book.history) books → lists_of 0 books ≡ histories_of books
own_lists [] all = refl
own_lists (book ∷ books) all =
    let P : Closed → Type 0 = λ b. All (λ entry. entry.seat < 1) b.history in
    let here = own_all book.history (All-head P book books all) in
    let later = own_lists books (All-tail P book books all) in
    ap (λ l. l ∷ lists_of 0 books) here ∙ ap (λ l. book.history ∷ l) later

abbrev pub opening_at : List (ℕ × OpeningCredit) → ℕ → ℕ
opening_at accounts place = (slice_index_or accounts place (0, no_credit)).1.amount

abbrev pub until_at : List (ℕ × OpeningCredit) → ℕ → Option ℕ
until_at accounts place = (slice_index_or accounts place (0, no_credit)).1.until

pub are_legal : (limit : ℕ) (accounts : List (ℕ × OpeningCredit)) (books : List Closed) (place : ℕ) → map (terms_shown 1) books ≡ map (terms_with limit 1) accounts
    → All (λ book. IsLegal book.opening book.until book.history) books → place < length accounts
    → IsLegal (opening_at accounts place) (until_at accounts place) (slice_index_or (histories_of books) place [])
are_legal limit [] books place opened legal within = absurd (omega (arith, within))
are_legal limit (account ∷ accounts) [] place opened legal within = absurd (cc)
are_legal limit (account ∷ accounts) (book ∷ books) zero opened legal within =
    let P : Closed → Type 0 = λ b. IsLegal b.opening b.until b.history in
    let first : terms_shown 1 book ≡ terms_with limit 1 account = cc opened in
    let opening : book.opening ≡ account.1.amount = ap (λ (t : Terms). t.opening) first in
    let until : book.until ≡ account.1.until = ap (λ (t : Terms). t.until) first in
    let O : ℕ → Type 0 = λ o. IsLegal o book.until book.history in
    let U : Option ℕ → Type 0 = λ u. IsLegal account.1.amount u book.history in
    subst U until (subst O opening (All-head P book books legal))
are_legal limit (account ∷ accounts) (book ∷ books) (suc place) opened legal within =
    let P : Closed → Type 0 = λ b. IsLegal b.opening b.until b.history in
    are_legal limit accounts books place (cc opened) (All-tail P book books legal) (omega (arith, within))

-- ---- two runs

pub none_is_fault : (answers : List Answer) → NoneIsRefused answers → NoFault (views_of answers)
none_is_fault [] none = tt
none_is_fault (answer ∷ answers) none =
    let P : Answer → Type 0 = λ a. a.refused ≡ None in (All-head P answer answers none, none_is_fault answers (All-tail P answer answers none))

-- what a run of one worker has answered
pub record IsOfOne (setup : Setup) (given : List (ℕ × Body)) (answers : List Answer) (books : List Closed) : Type 0 where
  pub run : IsRun StoodIn setup 1 given answers books
  pub none : NoneIsRefused answers

pub both_alike : (setup : Setup) (given longer : List (ℕ × Body)) (more : List Item) (answers others : List Answer) (books other : List Closed) → IsProper setup.tariff
    → IsOfOne setup given answers books → IsOfOne setup longer others other → GoAlike (numbered 0 given) (numbered 0 longer) more
    → ChainsAreAlike (views_of answers) (views_of others) more (record { lists = histories_of books; talks = λ call. None }) (record { lists = histories_of other; talks = λ call. None })
both_alike setup given longer more answers others books other one first second numbers =
    let a : IsAnsweredBy StoodIn setup 1 given answers books 0 = first.run.answered 0 (omega arith) in
    let b : IsAnsweredBy StoodIn setup 1 longer others other 0 = second.run.answered 0 (omega arith) in
    let views = ap views_of (answers_all given answers (many_answers 0 given answers first.run.each_heard)) in
    let views_too = ap views_of (answers_all longer others (many_answers 0 longer others second.run.each_heard)) in
    let lists = own_lists books first.run.owned in
    let lists_too = own_lists other second.run.owned in
    let G : List Item → Type 0 = λ items. GoAlike items (map item_of b.posts) more in
    let H : List Item → Type 0 = λ items. GoAlike (numbered 0 given) items more in
    let posts = subst G (sym (a.share ∙ shares_all given)) (subst H (sym (b.share ∙ shares_all longer)) numbers) in
    let o = opening_at setup.accounts in
    let u = until_at setup.accounts in
    let L : List (List EntryData) → Type 0 = AreLegal o u (length setup.accounts) in
    let legal = subst L (sym lists) (λ place within. are_legal setup.limit setup.accounts books place first.run.opened first.run.legal within) in
    let legal_too = subst L (sym lists_too) (λ place within. are_legal setup.limit setup.accounts other place second.run.opened second.run.legal within) in
    let N : List AnswerView → Type 0 = NoFault in
    let chains = chains_alike o u (refuses_in StoodIn books 0) (refuses_in StoodIn other 0) setup (seat_numbers 0 setup) one a.posts b.posts more _ _ (at_first setup) _ (at_first setup) _
    posts (length-map setup.accounts _) (λ call. tt) (record { lists = refl; talks = λ call. refl })
    (subst N (sym views) (none_is_fault answers first.none)) (subst N (sym views_too) (none_is_fault others second.none)) legal legal_too a.answered.chain b.answered.chain in
    record {
      rest = chains.rest;
      answers_are = sym views_too ∙ chains.answers_are ∙ ap (λ l. l ++ chains.rest) views;
      same = λ nothing. let they = chains.same nothing in (they.0, sym lists ∙ they.1 ∙ lists_too);
    }

-- a book with these contents
abbrev closed : ℕ → ℕ → Option ℕ → ℕ → List EntryData → Closed
closed account opening until limit history = record { account = account; opening = opening; until = until; limit = limit; history = history }

same_book : (book other : Closed) → terms_shown 1 book ≡ terms_shown 1 other → book.history ≡ other.history → book ≡ other
same_book book other terms history =
    let account : book.account ≡ other.account = ap (λ (t : Terms). t.number) terms in
    let opening : book.opening ≡ other.opening = ap (λ (t : Terms). t.opening) terms in
    let until : book.until ≡ other.until = ap (λ (t : Terms). t.until) terms in
    let limit : book.limit ≡ other.limit = ap (λ (t : Terms). t.limit) terms in
    let same : closed book.account book.opening book.until book.limit book.history ≡ closed other.account other.opening other.until other.limit other.history =
    rw (account, opening, until, limit, history) refl in
    same

same_books : (books others : List Closed) → map (terms_shown 1) books ≡ map (terms_shown 1) others → histories_of books ≡ histories_of others → books ≡ others
same_books [] [] opened histories = refl
same_books [] (other ∷ others) opened histories = absurd (cc)
same_books (book ∷ books) [] opened histories = absurd (cc)
same_books (book ∷ books) (other ∷ others) opened histories =
    ap (λ b. b ∷ books) (same_book book other (cc opened) (cc histories)) ∙ ap (λ l. other ∷ l) (same_books books others (cc opened) (cc histories))

-- two runs in one setup that have the same histories have the same books
pub books_are : (setup : Setup) (given longer : List (ℕ × Body)) (answers others : List Answer) (books other : List Closed) → IsRun StoodIn setup 1 given answers books
    → IsRun StoodIn setup 1 longer others other → histories_of books ≡ histories_of other → books ≡ other
books_are setup given longer answers others books other run run_other same = same_books books other (run.opened ∙ sym run_other.opened) same

go_on : (items others more : List Item) → others ≡ items ++ more → GoAlike items others more
go_on items others more is = subst (λ l. GoAlike items l more) (sym is) (goes_itself items more)

pub longer_alike : LongerRunsAnswerAlike
longer_alike setup given more answers longer books other one run run_longer none none_longer =
    let alike = both_alike setup given (given ++ more) (numbered (0 + length given) more) answers longer books other one
    (record { run = run; none = none }) (record { run = run_longer; none = none_longer }) (go_on (numbered 0 given) (numbered 0 (given ++ more)) _ (numbered-append 0 given more)) in
    (alike.rest, alike.answers_are)

pub runs_alike : RunsAreAlike
runs_alike setup given answers others books other one run run_other none none_other =
    let alike = both_alike setup given given [] answers others books other one
    (record { run = run; none = none }) (record { run = run_other; none = none_other }) (go_on (numbered 0 given) (numbered 0 given) [] (sym (append-nil (numbered 0 given)))) in
    let same = alike.same refl in
    (sym (alike.answers_are ∙ ap (λ l. views_of answers ++ l) same.0 ∙ append-nil (views_of answers)), books_are setup given given answers others books other run run_other same.1)
