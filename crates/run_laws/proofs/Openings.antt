-- The accounts of the books of a run are those of its setup.
use Rattle.std.proofs.Common.{◌≡◌, ◌<◌, ◌≤◌, ◌∙◌, ℕ, true, Option, Some, None, List, [], ◌∷◌, length, map, refl, sym, ap, subst, arith, All}
use Rattle.std.specs.Prelude.{nat_le, slice_index_or, IfSome}
use Rattle.std.specs.List.Sorted.{IsStrictlySortedBy}
use Rattle.std.specs.Map.{keys_of}
use Rattle.std.specs.Ordering.{nat_cmp}
use Rattle.std.proofs.lemmas.List.{get_or-map, get_or_default, length-map}
use Rattle.std.proofs.lemmas.List.Elements.{All-map, All-same}
use Rattle.std.proofs.lemmas.Bool.{and_parts, leb-true}
use Rattle.book_texts.specs.Fits.{IsMoment, IsMoney}
use Rattle.held_calls.proofs.Listed.{all_unmapped}
use Rattle.run_values.specs.Openings.{HasAccounts}
use Rattle.run_values.proofs.Placing.{first_at}
use Rattle.run_values.specs.Openings.{expires_in_time, opening_is_in_range}
use Rattle.run_values.specs.Setups.{Setup}
use Rattle.run_values.specs.declared.directory.OpeningCredit.{OpeningCredit}
use Rattle.runs_core.specs.Closing.{terms_shown}
use Rattle.held_calls.specs.Entered.{IsBookAt}
use Rattle.runs_core.specs.Teams.{are_workers, terms_of, terms_with}
use Rattle.account_core.specs.Closed.{Closed}
use Rattle.account_core.specs.Terms.{Terms}

-- ---- the ranges of an opening

pub until_in_range : (until : Option ℕ) → expires_in_time until ≡ true → IfSome until IsMoment
until_in_range None is = tt
until_in_range (Some until) is = let within = leb-true until 1000000000000 is in omega (arith, within)

-- what an account is opened with is in range, and it has 16 seats at most
record AreWithin (terms : Terms) : Type 0 where
  opening : IsMoney terms.opening
  until : IfSome terms.until IsMoment
  seats : terms.seats ≤ 16

terms_within : (limit workers : ℕ) (account : ℕ × OpeningCredit) → are_workers workers ≡ true → opening_is_in_range account.1 ≡ true → AreWithin (terms_with limit workers account)
terms_within limit workers account may_be range =
    let (some, few) = and_parts (nat_le 1 workers) (nat_le workers 16) may_be in
    let (amount, until) = and_parts (nat_le account.1.amount 1000000000000000) (expires_in_time account.1.until) range in
    record { opening = leb-true account.1.amount 1000000000000000 amount; until = until_in_range account.1.until until; seats = leb-true workers 16 few }

pub record IsOpenedWithin (workers : ℕ) (book : Closed) : Type 0 where
  pub opening : IsMoney book.opening
  pub until : IfSome book.until IsMoment
  pub seats : workers ≤ 16

module _ (setup : Setup) (workers : ℕ) (books : List Closed) (may_be : are_workers workers ≡ true) (opened : map (terms_shown workers) books ≡ terms_of setup.limit workers setup.accounts)
    (accounts : HasAccounts setup.accounts) where
  shown_within : All (λ book. AreWithin (terms_shown workers book)) books
  shown_within =
      let made : All AreWithin (terms_of setup.limit workers setup.accounts) =
      All-map AreWithin (terms_with setup.limit workers) setup.accounts (λ k d within. terms_within setup.limit workers (slice_index_or setup.accounts k d) may_be (accounts.range k d within)) in
      all_unmapped AreWithin (terms_shown workers) books (All-same AreWithin (map (terms_shown workers) books) (terms_of setup.limit workers setup.accounts) opened made)

  pub opened_within : All (IsOpenedWithin workers) books
  opened_within = λ k d within. let is : AreWithin (terms_shown workers (slice_index_or books k d)) = shown_within k d within in record { opening = is.opening; until = is.until; seats = is.seats }

  -- ---- the accounts rise

  numbers_shown : (rest : List Closed) → map (λ (terms : Terms). terms.number) (map (terms_shown workers) rest) ≡ map (λ (book : Closed). book.account) rest
  numbers_shown [] = refl
  numbers_shown (book ∷ rest) = ap (λ (l : List ℕ). book.account ∷ l) (numbers_shown rest)

  numbers_made : (rest : List (ℕ × OpeningCredit)) → map (λ (terms : Terms). terms.number) (terms_of setup.limit workers rest) ≡ keys_of rest
  numbers_made [] = refl
  numbers_made (account ∷ rest) = ap (λ (l : List ℕ). account.0 ∷ l) (numbers_made rest)

  pub accounts_are : map (λ (book : Closed). book.account) books ≡ keys_of setup.accounts
  accounts_are = sym (numbers_shown books) ∙ ap (map (λ (terms : Terms). terms.number)) opened ∙ numbers_made setup.accounts

  pub accounts_rise : IsStrictlySortedBy nat_cmp (map (λ (book : Closed). book.account) books)
  accounts_rise = let P : List ℕ → Type 0 = λ l. IsStrictlySortedBy nat_cmp l in subst P (sym accounts_are) accounts.ordered

  -- ---- each book is at the place of its account

  pub as_many : length books ≡ length setup.accounts
  as_many =
      sym (length-map books (λ (book : Closed). book.account)) ∙ ap length accounts_are ∙ length-map setup.accounts (λ (account : ℕ × OpeningCredit). account.0)

  pub book_of : (place : ℕ) (d : Closed) → place < length books → IsBookAt setup books (slice_index_or books place d).account place (slice_index_or books place d)
  book_of place d within =
      let there : place < length setup.accounts = omega (arith, within, as_many) in
      let named = λ (other : ℕ × OpeningCredit).
      sym (get_or-map (λ (account : ℕ × OpeningCredit). account.0) setup.accounts place other 0 there)
      ∙ ap (λ (l : List ℕ). slice_index_or l place 0) (sym accounts_are)
      ∙ get_or-map (λ (book : Closed). book.account) books place d 0 within in
      record {
        place_is = first_at setup.accounts (slice_index_or books place d).account place accounts.ordered there named;
        within = within;
        book_is = get_or_default books place (slice_index_or books place d) d within;
      }
