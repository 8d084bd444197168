-- The books of all parts, one part's after another's.
use Rattle.std.proofs.Common.{◌≡◌, ◌<◌, ◌≤◌, ◌∙◌, ◌++◌, ◌+◌, ℕ, zero, suc, Bool, true, false, Option, List, [], ◌∷◌, length, map, refl, sym, ap, subst, arith, append-nil, append_assoc}
use Rattle.std.specs.Prelude.{◌==◌, if◌then◌else◌, nat_le, slice_index_or}
use Rattle.std.specs.List.{filter, flat_map}
use Rattle.std.proofs.lemmas.Bool.Decides.{nat_tests}
use Rattle.std.proofs.lemmas.List.{map-append}
use Rattle.std.proofs.lemmas.List.Elements.{All-cons, All-head, All-nil, All-tail}
use Rattle.run_laws.proofs.Joining.{is_a_part}
use Rattle.cap_values.specs.declared.message.SsfMsg.TheVariants.{InitialDp, EventReport, ChargingReport, Ended}
use Rattle.part_laws.proofs.Apart.{accounts_apart}
use Rattle.part_laws.proofs.InOrder.{ComesInOrder, rise}
use Rattle.part_laws.proofs.Lines.{lines_alike}
use Rattle.part_laws.proofs.Records.{chosen_account}
use Rattle.part_laws.specs.Chosen.{AreByAccount, HasBooksOf, IsByAccount, chosen_book}
use Rattle.part_laws.specs.Numbers.{unnumbered_book}
use Rattle.part_laws.specs.OneText.{BooksHaveOneText}
use Rattle.part_laws.specs.Parts.{ArePaidBy, IsPaidBy, IsPlayedAlone, PartsAreAsOneRun, choice_of}
use Rattle.run_outputs.specs.Kept.{own_books}
use Rattle.run_outputs.specs.Parts.{part_by, part_of_account}
use Rattle.run_values.proofs.Placing.{never_fall}
use Rattle.run_values.specs.Setups.{Setup}
use Rattle.run_values.specs.declared.directory.OpeningCredit.{OpeningCredit}
use Rattle.run_values.specs.declared.post.Body.{Body}
use Rattle.run_values.specs.declared.post.Body.TheVariants.{Ssf, Recharge}
use Rattle.runs_core.specs.Closing.{terms_shown}
use Rattle.runs_core.specs.Teams.{terms_with}
use Rattle.account_core.specs.Closed.{Closed}
use Rattle.account_core.specs.Terms.{Terms}

-- ---- what rises is the pieces of its parts, one after another

module _ {X : Type 0} (n : X → ℕ) where
  -- those of one part, and those of this part and all later ones
  abbrev pub piece : ℕ → List X → List X
  piece part xs = filter (λ x. n x == part) xs

  abbrev behind : ℕ → List X → List X
  behind part xs = filter (λ x. nat_le part (n x)) xs

  pub no_piece : (part low : ℕ) (xs : List X) → part < low → ComesInOrder n low xs → piece part xs ≡ []
  no_piece part low [] below from = refl
  no_piece part low (x ∷ xs) below from =
      let here : (n x == part) ≡ false = grind (arith, nat_tests, below, from.0) in rw here (no_piece part (n x) xs (omega (arith, below, from.0)) from.1)

  all_behind : (part low : ℕ) (xs : List X) → part ≤ low → ComesInOrder n low xs → behind part xs ≡ xs
  all_behind part low [] below from = refl
  all_behind part low (x ∷ xs) below from =
      let here : nat_le part (n x) ≡ true = grind (arith, nat_tests, below, from.0) in rw here (ap (λ l. x ∷ l) (all_behind part (n x) xs (omega (arith, below, from.0)) from.1))

  next_piece : (part low : ℕ) (xs : List X) → ComesInOrder n low xs → behind part xs ≡ piece part xs ++ behind (suc part) xs
  next_piece part low [] rises = refl
  next_piece part low (x ∷ xs) rises = by_piece (next_piece part (n x) xs rises.1) (n x == part) refl (nat_le part (n x)) refl
    where
      by_piece : behind part xs ≡ piece part xs ++ behind (suc part) xs → (here : Bool) → (n x == part) ≡ here → (from : Bool) → nat_le part (n x) ≡ from
          → (if nat_le part (n x) then x ∷ behind part xs else behind part xs)
          ≡ (if n x == part then x ∷ piece part xs else piece part xs) ++ (if nat_le (suc part) (n x) then x ∷ behind (suc part) xs else behind (suc part) xs)
      by_piece rest true here from is =
          let now : nat_le part (n x) ≡ true = grind (arith, nat_tests, here) in
          let later : nat_le (suc part) (n x) ≡ false = grind (arith, nat_tests, here) in
          rw (here, now, later) (ap (λ l. x ∷ l) rest)
      by_piece rest false here true is =
          let later : nat_le (suc part) (n x) ≡ true = grind (arith, nat_tests, here, is) in
          let below : part < n x = grind (arith, nat_tests, here, is) in
          let none = no_piece part (n x) xs below rises.1 in
          let all = all_behind part (n x) xs (omega (arith, below)) rises.1 in
          let all_later = all_behind (suc part) (n x) xs (omega (arith, below)) rises.1 in
          rw (here, is, later) (ap (λ l. x ∷ l) (all ∙ sym all_later) ∙ ap (λ l. l ++ (x ∷ behind (suc part) xs)) (sym none))
      by_piece rest false here false is =
          let later : nat_le (suc part) (n x) ≡ false = grind (arith, nat_tests, here, is) in
          rw (here, is, later) rest

-- ---- the part of an account

part_rises : (firsts : List ℕ) (one other : ℕ) → one ≤ other → part_of_account firsts one ≤ part_of_account firsts other
part_rises [] one other below = omega arith
part_rises (first ∷ firsts) one other below = by_both (nat_le first one) refl (nat_le first other) refl (part_rises firsts one other below)
  where
    by_both : (b : Bool) → nat_le first one ≡ b → (c : Bool) → nat_le first other ≡ c → part_of_account firsts one ≤ part_of_account firsts other
        → part_of_account (first ∷ firsts) one ≤ part_of_account (first ∷ firsts) other
    by_both true b true c rest = rw (b, c) (omega (arith, rest))
    by_both false b true c rest = rw (b, c) (omega (arith, rest))
    by_both false b false c rest = rw (b, c) rest
    by_both true b false c rest = absurd (grind (arith, nat_tests, b, c, below))

module _ (firsts : List ℕ) where
  -- the part of a book
  abbrev part_in : Closed → ℕ
  part_in book = part_of_account firsts book.account

  abbrev plain_books : List Closed → List Closed
  plain_books books = map unnumbered_book books

  -- ---- the books of a run rise by their parts

  books_rise : (limit low : ℕ) (accounts : List (ℕ × OpeningCredit)) (books : List Closed) → map (terms_shown 1) books ≡ map (terms_with limit 1) accounts
      → ComesInOrder (λ (e : ℕ × OpeningCredit). e.0) low accounts → ComesInOrder part_in (part_of_account firsts low) (plain_books books)
  books_rise limit low accounts [] opened rises = tt
  books_rise limit low [] (book ∷ books) opened rises = absurd (cc)
  books_rise limit low (account ∷ accounts) (book ∷ books) opened rises =
      let first : terms_shown 1 book ≡ terms_with limit 1 account = cc opened in
      let number : account.0 ≡ book.account = sym (ap (λ (t : Terms). t.number) first) in (
        part_rises firsts low book.account (subst (λ (a : ℕ). low ≤ a) number rises.0),
        subst (λ (a : ℕ). ComesInOrder part_in (part_of_account firsts a) (plain_books books)) number (books_rise limit account.0 accounts books (cc opened) rises.1),
      )

  nothing_behind : (books : List Closed) → behind part_in (suc (length firsts)) books ≡ []
  nothing_behind [] = refl
  nothing_behind (book ∷ books) =
      let here : nat_le (suc (length firsts)) (part_in book) ≡ false = grind (arith, nat_tests, is_a_part firsts book.account) in rw here (nothing_behind books)

  everything : (books : List Closed) → behind part_in 0 books ≡ books
  everything [] = refl
  everything (book ∷ books) = let here : nat_le 0 (part_in book) ≡ true = grind (arith, nat_tests) in rw here (ap (λ l. book ∷ l) (everything books))

  -- ---- the own books of a part

  module _ (setup : Setup) (payer : ℕ → Option ℕ) (part : ℕ) where
    own_same : (books all : List Closed) → HasBooksOf (choice_of firsts payer part) books all → plain_books (own_books firsts part all) ≡ piece part_in part (plain_books books)
    own_same [] [] same = refl
    own_same [] (one ∷ all) same = absurd (cc)
    own_same (book ∷ books) [] same = absurd (cc)
    own_same (book ∷ books) (one ∷ all) same =
        let choice = choice_of firsts payer part in
        let first : unnumbered_book one ≡ chosen_book choice book = cc same in
        let number : one.account ≡ book.account = ap (λ (b : Closed). b.account) first ∙ chosen_account setup choice book in
        let its : ℕ → List Closed = λ account. plain_books (if part_of_account firsts account == part then one ∷ own_books firsts part all else own_books firsts part all) in
        ap its number ∙ by_own (part_in book == part) refl first (own_same books all (cc same))
      where
        by_own : (b : Bool) → (part_in book == part) ≡ b → unnumbered_book one ≡ chosen_book (choice_of firsts payer part) book
            → plain_books (own_books firsts part all) ≡ piece part_in part (plain_books books)
            → plain_books (if b then one ∷ own_books firsts part all else own_books firsts part all)
            ≡ (if b then unnumbered_book book ∷ piece part_in part (plain_books books) else piece part_in part (plain_books books))
        by_own true own first rest =
            let chosen_one : chosen_book (choice_of firsts payer part) book ≡ unnumbered_book book = rw own refl in
            ap (λ b. b ∷ plain_books (own_books firsts part all)) (first ∙ chosen_one) ∙ ap (λ l. unnumbered_book book ∷ l) rest
        by_own false own first rest = rest

    by_account : (body : Body) → IsPaidBy setup payer body → IsByAccount setup (choice_of firsts payer part) body
    by_account (Ssf call (InitialDp other calling called)) paid = λ account is. ap (λ (p : Option ℕ). part_by firsts p call == part) (paid account is)
    by_account (Ssf call (EventReport event leg mode)) paid = tt
    by_account (Ssf call (ChargingReport active info)) paid = tt
    by_account (Ssf call Ended) paid = tt
    by_account (Recharge account amount until) paid = tt

    pub all_by_account : (given : List (ℕ × Body)) → ArePaidBy setup payer given → AreByAccount setup (choice_of firsts payer part) given
    all_by_account [] paid = All-nil (λ (item : ℕ × Body). IsByAccount setup (choice_of firsts payer part) item.1)
    all_by_account (item ∷ given) paid =
        let P : ℕ × Body → Type 0 = λ i. IsPaidBy setup payer i.1 in
        All-cons (λ (i : ℕ × Body). IsByAccount setup (choice_of firsts payer part) i.1) item given (by_account item.1 (All-head P item given paid))
        (all_by_account given (All-tail P item given paid))

  -- ---- all of them

  pieces_joined : (low : ℕ) (books : List Closed) (parts : List (List Closed)) (from : ℕ) → ComesInOrder part_in low books
      → ((i : ℕ) (d : List Closed) → i < length parts → plain_books (slice_index_or parts i d) ≡ piece part_in (i + from) books)
      → behind part_in from books ≡ plain_books (flat_map (λ own. own) parts) ++ behind part_in (length parts + from) books
  pieces_joined low books [] from rises each = let same : from ≡ 0 + from = omega arith in ap (λ k. behind part_in k books) same
  pieces_joined low books (own ∷ parts) from rises each =
      let none : 0 + from ≡ from = omega arith in
      let count : length parts + suc from ≡ suc (length parts) + from = omega arith in
      let first : plain_books own ≡ piece part_in from books = each zero own (omega arith) ∙ ap (λ k. piece part_in k books) none in
      let later = pieces_joined low books parts (suc from) rises
      (λ i d within. let next : suc i + from ≡ i + suc from = omega arith in each (suc i) d (omega (arith, within)) ∙ ap (λ k. piece part_in k books) next) in
      let all = flat_map (λ (its : List Closed). its) parts in
      next_piece part_in from low books rises ∙ ap (λ l. l ++ behind part_in (suc from) books) (sym first) ∙ ap (λ l. plain_books own ++ l) later
      ∙ sym (append_assoc (plain_books own) (plain_books all) (behind part_in (length parts + suc from) books))
      ∙ ap (λ l. l ++ behind part_in (length parts + suc from) books) (sym (map-append unnumbered_book own all))
      ∙ ap (λ k. plain_books (own ++ all) ++ behind part_in k books) count

pub parts_joined : BooksHaveOneText → PartsAreAsOneRun
parts_joined one_text setup firsts payer given answers books parts proper sorted paid run none played =
    let rises = books_rise firsts setup.limit 0 setup.accounts books run.opened (rise (λ (e : ℕ × OpeningCredit). e.0) setup.accounts (never_fall setup.accounts sorted)) in
    let plain = plain_books firsts books in
    let each : (i : ℕ) (d : List Closed) → i < length parts → plain_books firsts (slice_index_or parts i d) ≡ piece (part_in firsts) (i + 0) plain =
    λ i d within.
    let its : IsPlayedAlone setup firsts payer given i (slice_index_or parts i d) = played.each i d within in
    let apart = accounts_apart setup (choice_of firsts payer i) given answers its.answers books its.books proper (all_by_account firsts setup payer i given paid) run its.run none its.none in
    let same : i ≡ i + 0 = omega arith in
    ap (plain_books firsts) its.own ∙ own_same firsts setup payer i books its.books apart.books_are ∙ ap (λ k. piece (part_in firsts) k plain) same in
    let all = flat_map (λ (own : List Closed). own) parts in
    let count : length parts + 0 ≡ suc (length firsts) = omega (arith, played.count) in
    let joined = sym (everything firsts plain) ∙ pieces_joined firsts (part_of_account firsts 0) plain parts 0 rises each ∙ ap (λ k. plain_books firsts all ++ behind (part_in firsts) k plain) count
    ∙ ap (λ l. plain_books firsts all ++ l) (nothing_behind firsts plain) ∙ append-nil (plain_books firsts all) in
    record { same = sym joined; lines = λ one other is too. lines_alike one_text all books one other (sym joined) is too }
