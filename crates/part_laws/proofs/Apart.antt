-- A run that is given the items of some accounts, beside one that is given all.
use Rattle.std.proofs.Common.{◌≡◌, ◌∙◌, ◌++◌, ◌+◌, ℕ, zero, suc, Bool, true, false, Option, List, [], ◌∷◌, length, map, refl, sym, ap, subst, arith, append-nil}
use Rattle.std.specs.Prelude.{filter, if◌then◌else◌, slice_index_or}
use Rattle.std.proofs.lemmas.List.{length-map}
use Rattle.std.proofs.lemmas.List.Elements.{All-head, All-tail}
use Rattle.runs_core.proofs.HearingLemmas.{many_answers}
use Rattle.account_core.specs.Answers.{IsLegal}
use Rattle.account_core.specs.Entries.{EntryData}
use Rattle.live_recovery.proofs.Alike.{GoAlike, goes_itself}
use Rattle.live_recovery.proofs.Alone.{answers_all, are_legal, histories_of, none_is_fault, opening_at, own_lists, shares_all, until_at}
use Rattle.live_recovery.proofs.Chains.{NoFault, chains_alike}
use Rattle.live_recovery.proofs.Handling.{AreLegal}
use Rattle.live_recovery.specs.Laws.{NoneIsRefused, views_of}
use Rattle.part_laws.proofs.Blind.{legal_same}
use Rattle.part_laws.proofs.Choosing.{GoByAccount, HoldsPart, chain_part, chosen_posts, chosen_answers, masked, picks}
use Rattle.part_laws.proofs.Plain.{AllShown, chain_plain, plain, plain_lists, plain_post, plain_answer}
use Rattle.part_laws.specs.Chosen.{AreByAccount, Choice, IsByAccount, answers_for, chosen, chosen_book, is_chosen}
use Rattle.part_laws.specs.Laws.{AccountsDontInterfere}
use Rattle.part_laws.specs.Numbers.{unnumbered_answer, unnumbered_book, without_numbers}
use Rattle.run_values.specs.Openings.{no_credit}
use Rattle.run_values.specs.Setups.{Setup}
use Rattle.run_values.specs.declared.directory.OpeningCredit.{OpeningCredit}
use Rattle.run_values.specs.declared.post.Answer.{Answer}
use Rattle.run_values.specs.declared.post.Body.{Body}
use Rattle.run_values.specs.declared.post.Post.{Post}
use Rattle.runs_core.specs.Closing.{lists_of, refuses_in, terms_shown}
use Rattle.runs_core.specs.Hearing.{IsAnsweredBy}
use Rattle.runs_core.specs.Runs.{IsRun}
use Rattle.runs_core.specs.Shares.{Item, item_at, item_of, numbered}
use Rattle.runs_core.specs.Teams.{terms_with}
use Rattle.account_core.specs.Closed.{Closed}
use Rattle.turn_account.specs.Seen.{StoodIn}
use Rattle.account_core.specs.Terms.{Terms}
use Rattle.runs_core.specs.Chains.{AreAnswered, at_first, seat_numbers}
use Rattle.runs_core.specs.Handled.{AnswerView, Holding, answer_view}

module _ (setup : Setup) (choice : Choice) where
  -- ---- the posts of both

  abbrev plain_item : Item → Item
  plain_item item = record { number = 0; at = item.at; body = item.body }

  abbrev own_items : List Item → List Item
  own_items items = filter (λ item. is_chosen choice item.body) items

  items_plain : (posts : List Post) → map item_of (map plain_post posts) ≡ map plain_item (map item_of posts)
  items_plain [] = refl
  items_plain (post ∷ posts) = ap (λ l. plain_item (item_of post) ∷ l) (items_plain posts)

  items_chosen : (posts : List Post) → map item_of (chosen_posts setup choice posts) ≡ own_items (map item_of posts)
  items_chosen [] = refl
  items_chosen (post ∷ posts) = by_own (is_chosen choice post.body) (items_chosen posts)
    where
      by_own : (b : Bool) → map item_of (chosen_posts setup choice posts) ≡ own_items (map item_of posts)
          → map item_of (if b then post ∷ chosen_posts setup choice posts else chosen_posts setup choice posts)
          ≡ (if b then item_of post ∷ own_items (map item_of posts) else own_items (map item_of posts))
      by_own true rest = ap (λ l. item_of post ∷ l) rest
      by_own false rest = rest

  all_plain : (first : ℕ) (given : List (ℕ × Body)) → map plain_item (numbered first given) ≡ map (item_at 0) given
  all_plain first [] = refl
  all_plain first (item ∷ given) = ap (λ l. item_at 0 item ∷ l) (all_plain (first + 1) given)

  chosen_plain : (first : ℕ) (given : List (ℕ × Body)) → map plain_item (own_items (numbered first given)) ≡ map (item_at 0) (chosen choice given)
  chosen_plain first [] = refl
  chosen_plain first (item ∷ given) = by_own (is_chosen choice item.1) (chosen_plain (first + 1) given)
    where
      by_own : (b : Bool) → map plain_item (own_items (numbered (first + 1) given)) ≡ map (item_at 0) (chosen choice given)
          → map plain_item (if b then item_at first item ∷ own_items (numbered (first + 1) given) else own_items (numbered (first + 1) given))
          ≡ map (item_at 0) (if b then item ∷ chosen choice given else chosen choice given)
      by_own true rest = ap (λ l. item_at 0 item ∷ l) rest
      by_own false rest = rest

  go_by : (first : ℕ) (given : List (ℕ × Body)) (posts : List Post) → map item_of posts ≡ numbered first given → AreByAccount setup choice given → GoByAccount setup choice posts
  go_by first given [] is by = tt
  go_by first [] (post ∷ posts) is by = absurd (cc)
  go_by first (item ∷ given) (post ∷ posts) is by =
      let P : ℕ × Body → Type 0 = λ i. IsByAccount setup choice i.1 in
      let here : item_of post ≡ item_at first item = cc is in
      let later : map item_of posts ≡ numbered (first + 1) given = cc is in
      (subst (λ (b : Body). IsByAccount setup choice b) (sym (ap (λ (i : Item). i.body) here)) (All-head P item given by), go_by (first + 1) given posts later (All-tail P item given by))

  -- ---- the answers of both

  chosen_same : (first : ℕ) (given : List (ℕ × Body)) (posts : List Post) (answers : List Answer) → map item_of posts ≡ numbered first given
      → chosen_answers setup choice posts (map answer_view answers) ≡ map answer_view (answers_for choice given answers)
  chosen_same first [] [] answers is = refl
  chosen_same first [] (post ∷ posts) answers is = absurd (cc)
  chosen_same first (item ∷ given) [] answers is = absurd (cc)
  chosen_same first (item ∷ given) (post ∷ posts) [] is = refl
  chosen_same first (item ∷ given) (post ∷ posts) (answer ∷ answers) is =
      let here : item_of post ≡ item_at first item = cc is in
      let later : map item_of posts ≡ numbered (first + 1) given = cc is in
      let same : post.body ≡ item.1 = ap (λ (i : Item). i.body) here in
      let rest = chosen_answers setup choice posts (map answer_view answers) in
      ap (λ (body : Body). if is_chosen choice body then answer_view answer ∷ rest else rest) same ∙ by_own (is_chosen choice item.1) (chosen_same (first + 1) given posts answers later)
    where
      by_own : (b : Bool) → chosen_answers setup choice posts (map answer_view answers) ≡ map answer_view (answers_for choice given answers)
          → (if b then answer_view answer ∷ chosen_answers setup choice posts (map answer_view answers) else chosen_answers setup choice posts (map answer_view answers))
          ≡ map answer_view (if b then answer ∷ answers_for choice given answers else answers_for choice given answers)
      by_own true rest = ap (λ l. answer_view answer ∷ l) rest
      by_own false rest = rest

  said_same : (answers : List Answer) → map plain_answer (map answer_view answers) ≡ map unnumbered_answer answers
  said_same [] = refl
  said_same (answer ∷ answers) = ap (λ l. unnumbered_answer answer ∷ l) (said_same answers)

  no_fault_plain : (answers : List AnswerView) → NoFault answers → NoFault (map plain_answer answers)
  no_fault_plain [] none = tt
  no_fault_plain (answer ∷ answers) none = (none.0, no_fault_plain answers none.1)

  no_fault_chosen : (posts : List Post) (answers : List AnswerView) → NoFault answers → NoFault (chosen_answers setup choice posts answers)
  no_fault_chosen [] answers none = tt
  no_fault_chosen (post ∷ posts) [] none = tt
  no_fault_chosen (post ∷ posts) (answer ∷ answers) none = by_own (is_chosen choice post.body) (no_fault_chosen posts answers none.1)
    where
      by_own : (b : Bool) → NoFault (chosen_answers setup choice posts answers) → NoFault (if b then answer ∷ chosen_answers setup choice posts answers else chosen_answers setup choice posts answers)
      by_own true rest = (none.0, rest)
      by_own false rest = rest

  -- ---- the lists of both

  if_none : (b : Bool) (none : List EntryData) → none ≡ (if b then none else none)
  if_none true none = refl
  if_none false none = refl

  masked_none : {X : Type 0} (own : ℕ → Bool) (accounts : List X) → map (λ account. []) accounts ≡ masked own (map (λ account. []) accounts)
  masked_none own [] = refl
  masked_none {X} own (account ∷ accounts) =
      let rest : List (List EntryData) = map (λ a. []) accounts in
      ap (λ (l : List EntryData). l ∷ rest) (if_none (own zero) []) ∙ ap (λ l. (if own zero then [] else []) ∷ l) (masked_none (λ place. own (suc place)) accounts)

  first_holds : HoldsPart setup choice (at_first setup) (at_first setup)
  first_holds = record { lists = masked_none (picks setup choice) setup.accounts; talks = λ call own. refl }

  masked_at : (own : ℕ → Bool) (lists : List (List EntryData)) (place : ℕ) → slice_index_or (masked own lists) place [] ≡ (if own place then slice_index_or lists place [] else [])
  masked_at own [] place = if_none (own place) []
  masked_at own (mine ∷ lists) zero = refl
  masked_at own (mine ∷ lists) (suc place) = masked_at (λ p. own (suc p)) lists place

  plain_at : (lists : List (List EntryData)) (place : ℕ) → slice_index_or (plain_lists lists) place [] ≡ without_numbers (slice_index_or lists place [])
  plain_at [] place = refl
  plain_at (mine ∷ lists) zero = refl
  plain_at (mine ∷ lists) (suc place) = plain_at lists place

  module _ (o : ℕ → ℕ) (u : ℕ → Option ℕ) (count : ℕ) where
    legal_plain : (lists : List (List EntryData)) → AreLegal o u count lists → AreLegal o u count (plain_lists lists)
    legal_plain lists legal place within =
        subst (λ (h : List EntryData). IsLegal (o place) (u place) h) (sym (plain_at lists place)) (legal_same (o place) (u place) (slice_index_or lists place []) (legal place within))

    legal_masked : (own : ℕ → Bool) (lists : List (List EntryData)) → AreLegal o u count lists → AreLegal o u count (masked own lists)
    legal_masked own lists legal place within =
        subst (λ (h : List EntryData). IsLegal (o place) (u place) h) (sym (masked_at own lists place)) (by_own (own place) (legal place within))
      where
        by_own : (b : Bool) → IsLegal (o place) (u place) (slice_index_or lists place []) → IsLegal (o place) (u place) (if b then slice_index_or lists place [] else [])
        by_own true legal = legal
        by_own false legal = tt

  -- ---- the books of both

  abbrev closed : Closed → List EntryData → Closed
  closed book history = record { account = book.account; opening = book.opening; until = book.until; limit = book.limit; history = history }

  same_book : (own book : Closed) (mine history : List EntryData) → terms_shown 1 own ≡ terms_shown 1 book → mine ≡ history → closed own mine ≡ closed book history
  same_book own book mine history terms same =
      let account : own.account ≡ book.account = ap (λ (t : Terms). t.number) terms in
      let opening : own.opening ≡ book.opening = ap (λ (t : Terms). t.opening) terms in
      let until : own.until ≡ book.until = ap (λ (t : Terms). t.until) terms in
      let limit : own.limit ≡ book.limit = ap (λ (t : Terms). t.limit) terms in
      rw (account, opening, until, limit, same) refl

  book_same : (own book : Closed) (b : Bool) → terms_shown 1 own ≡ terms_shown 1 book → without_numbers own.history ≡ without_numbers (if b then book.history else [])
      → unnumbered_book own ≡ (if b then unnumbered_book book else closed book [])
  book_same own book true terms same = same_book own book (without_numbers own.history) (without_numbers book.history) terms same
  book_same own book false terms same = same_book own book (without_numbers own.history) [] terms same

  books_same : (limit : ℕ) (accounts : List (ℕ × OpeningCredit)) (books own_books : List Closed) → map (terms_shown 1) books ≡ map (terms_with limit 1) accounts
      → map (terms_shown 1) own_books ≡ map (terms_with limit 1) accounts
      → plain_lists (masked (λ place. choice.accounts (slice_index_or accounts place (0, no_credit)).0) (histories_of books)) ≡ plain_lists (histories_of own_books)
      → map unnumbered_book own_books ≡ map (chosen_book choice) books
  books_same limit accounts [] [] opened own_opened same = refl
  books_same limit [] (book ∷ books) own_books opened own_opened same = absurd (cc)
  books_same limit [] books (own ∷ own_books) opened own_opened same = absurd (cc)
  books_same limit (account ∷ accounts) [] own_books opened own_opened same = absurd (cc)
  books_same limit (account ∷ accounts) books [] opened own_opened same = absurd (cc)
  books_same limit (account ∷ accounts) (book ∷ books) (own ∷ own_books) opened own_opened same =
      let first : terms_shown 1 book ≡ terms_with limit 1 account = cc opened in
      let own_first : terms_shown 1 own ≡ terms_with limit 1 account = cc own_opened in
      let number : book.account ≡ account.0 = ap (λ (t : Terms). t.number) first in
      let here : without_numbers (if choice.accounts account.0 then book.history else []) ≡ without_numbers own.history = cc same in
      let later : plain_lists (masked (λ place. choice.accounts (slice_index_or accounts place (0, no_credit)).0) (histories_of books)) ≡ plain_lists (histories_of own_books) = cc same in
      let history = sym here ∙ ap (λ (n : ℕ). without_numbers (if choice.accounts n then book.history else [])) (sym number) in
      ap (λ (b : Closed). b ∷ map unnumbered_book own_books) (book_same own book (choice.accounts book.account) (own_first ∙ sym first) history)
      ∙ ap (λ l. chosen_book choice book ∷ l) (books_same limit accounts books own_books (cc opened) (cc own_opened) later)

-- ---- both, without the numbers of items

-- what a run of all items answers to those of the part, and what a run of other items answers, as chains of posts without numbers
pub record ArePlainChains (setup : Setup) (choice : Choice) (given its : List (ℕ × Body)) (answers own_answers : List Answer) (books own_books : List Closed) : Type 0 where
  pub posts : List Post
  pub own_posts : List Post
  pub items_are : map item_of posts ≡ map (item_at 0) (chosen choice given)
  pub own_items_are : map item_of own_posts ≡ map (item_at 0) its
  pub last : Holding
  pub own_last : Holding
  pub chain : AreAnswered AllShown setup (seat_numbers 0 setup) posts (map unnumbered_answer (answers_for choice given answers)) (plain (at_first setup)) last
  pub own_chain : AreAnswered AllShown setup (seat_numbers 0 setup) own_posts (map unnumbered_answer own_answers) (plain (at_first setup)) own_last
  pub none : NoFault (map unnumbered_answer (answers_for choice given answers))
  pub own_none : NoFault (map unnumbered_answer own_answers)
  pub legal : AreLegal (opening_at setup.accounts) (until_at setup.accounts) (length setup.accounts) last.lists
  pub own_legal : AreLegal (opening_at setup.accounts) (until_at setup.accounts) (length setup.accounts) own_last.lists
  pub lists_are : last.lists ≡ plain_lists (masked (picks setup choice) (histories_of books))
  pub own_lists_are : own_last.lists ≡ plain_lists (histories_of own_books)

pub plain_chains : (setup : Setup) (choice : Choice) (given its : List (ℕ × Body)) (answers own_answers : List Answer) (books own_books : List Closed) → AreByAccount setup choice given
    → IsRun StoodIn setup 1 given answers books → IsRun StoodIn setup 1 its own_answers own_books → NoneIsRefused answers → NoneIsRefused own_answers
    → ArePlainChains setup choice given its answers own_answers books own_books
plain_chains setup choice given its answers own_answers books own_books by run own_run none own_none =
    let a : IsAnsweredBy StoodIn setup 1 given answers books 0 = run.answered 0 (omega arith) in
    let b : IsAnsweredBy StoodIn setup 1 its own_answers own_books 0 = own_run.answered 0 (omega arith) in
    let views = ap views_of (answers_all given answers (many_answers 0 given answers run.each_heard)) in
    let own_views = ap views_of (answers_all its own_answers (many_answers 0 its own_answers own_run.each_heard)) in
    let lists = own_lists books run.owned in
    let its_lists = own_lists own_books own_run.owned in
    let o = opening_at setup.accounts in
    let u = until_at setup.accounts in
    let count = length setup.accounts in
    let L : List (List EntryData) → Type 0 = AreLegal o u count in
    let legal = subst L (sym lists) (λ place within. are_legal setup.limit setup.accounts books place run.opened run.legal within) in
    let own_legal = subst L (sym its_lists) (λ place within. are_legal setup.limit setup.accounts own_books place own_run.opened own_run.legal within) in
    let N : List AnswerView → Type 0 = NoFault in
    let share = a.share ∙ shares_all given in
    let own_share = b.share ∙ shares_all its in
    let numbers = seat_numbers 0 setup in
    let start = plain (at_first setup) in
    let part = chain_part setup choice (refuses_in StoodIn books 0) numbers a.posts _ (at_first setup) _ (at_first setup) (λ call standing is. absurd (cc)) (go_by setup choice 0 given a.posts share by)
    (first_holds setup choice) a.answered.chain in
    let ours = map plain_post (chosen_posts setup choice a.posts) in
    let its_answers = chosen_answers setup choice a.posts in
    let said = ap (λ l. map plain_answer (its_answers l)) views ∙ ap (map plain_answer) (chosen_same setup choice 0 given a.posts answers share) ∙ said_same setup choice (answers_for choice given answers) in
    let own_said = ap (map plain_answer) own_views ∙ said_same setup choice own_answers in
    let own_new : Holding = record { lists = lists_of 0 own_books; talks = b.answered.talks } in
    let C : List AnswerView → Type 0 = λ l. AreAnswered AllShown setup numbers ours l start (plain part.last) in
    let D : List AnswerView → Type 0 = λ l. AreAnswered AllShown setup numbers (map plain_post b.posts) l start (plain own_new) in
    let masked_legal = legal_masked setup choice o u count (picks setup choice) (lists_of 0 books) legal in
    record {
      posts = ours;
      own_posts = map plain_post b.posts;
      items_are = items_plain setup choice (chosen_posts setup choice a.posts) ∙ ap (map (plain_item setup choice)) (items_chosen setup choice a.posts)
          ∙ ap (λ l. map (plain_item setup choice) (own_items setup choice l)) share ∙ chosen_plain setup choice 0 given;
      own_items_are = items_plain setup choice b.posts ∙ ap (map (plain_item setup choice)) own_share ∙ all_plain setup choice 0 its;
      last = plain part.last;
      own_last = plain own_new;
      chain = subst C said (chain_plain AllShown setup numbers _ _ (at_first setup) part.last part.chain);
      own_chain = subst D own_said (chain_plain (refuses_in StoodIn own_books 0) setup numbers b.posts _ (at_first setup) own_new b.answered.chain);
      none = subst N said (no_fault_plain setup choice _ (no_fault_chosen setup choice a.posts _ (subst N (sym views) (none_is_fault answers none))));
      own_none = subst N own_said (no_fault_plain setup choice _ (subst N (sym own_views) (none_is_fault own_answers own_none)));
      legal = legal_plain setup choice o u count part.last.lists (subst L (sym part.holds.lists) masked_legal);
      own_legal = legal_plain setup choice o u count (lists_of 0 own_books) own_legal;
      lists_are = ap plain_lists part.holds.lists ∙ ap (λ l. plain_lists (masked (picks setup choice) l)) lists;
      own_lists_are = ap plain_lists its_lists;
    }

-- a worker has as many lists at first as the setup has accounts
pub plain_many : (setup : Setup) → length (plain (at_first setup)).lists ≡ length setup.accounts
plain_many setup = length-map (at_first setup).lists without_numbers ∙ length-map setup.accounts _

-- ---- the law

pub accounts_apart : AccountsDontInterfere
accounts_apart setup choice given answers own_answers books own_books proper by run own_run none own_none =
    let p = plain_chains setup choice given (chosen choice given) answers own_answers books own_books by run own_run none own_none in
    let G : List Item → Type 0 = λ items. GoAlike (map item_of p.posts) items [] in
    let alike_posts : GoAlike (map item_of p.posts) (map item_of p.own_posts) [] =
    subst G (append-nil (map item_of p.posts) ∙ p.items_are ∙ sym p.own_items_are) (goes_itself (map item_of p.posts) []) in
    let start = plain (at_first setup) in
    let chains = chains_alike (opening_at setup.accounts) (until_at setup.accounts) AllShown AllShown setup (seat_numbers 0 setup) proper p.posts p.own_posts [] _ _ start p.last start p.own_last
    alike_posts (plain_many setup) (λ call. tt) (record { lists = refl; talks = λ call. refl }) p.none p.own_none p.legal p.own_legal p.chain p.own_chain in
    let same = chains.same refl in
    let theirs = map unnumbered_answer (answers_for choice given answers) in
    record {
      answers_are = chains.answers_are ∙ ap (λ l. theirs ++ l) same.0 ∙ append-nil theirs;
      books_are = books_same setup choice setup.limit setup.accounts books own_books run.opened own_run.opened (sym p.lists_are ∙ same.1 ∙ p.own_lists_are);
    }
