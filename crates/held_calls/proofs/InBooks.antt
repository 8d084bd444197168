-- What holds of each worker holds of its lists in the books.
use Rattle.std.proofs.Common.{◌≡◌, ◌<◌, ◌∙◌, ℕ, zero, suc, List, [], ◌∷◌, length, ap, arith, subst, All}
use Rattle.std.specs.Map.{keys_of}
use Rattle.std.specs.Prelude.{slice_index_or}
use Rattle.std.proofs.lemmas.List.{get_or-map}
use Rattle.account_core.specs.Entries.{EntryData}
use Rattle.runs_core.specs.Closing.{lists_of}
use Rattle.held_calls.specs.Entered.{IsBookAt, RechargesAreInTheBooks, ReservesAreInTheBooks, RunEntriesAreServed, RunListsAreWorked}
use Rattle.account_core.specs.Closed.{Closed}
use Rattle.account_core.specs.Own.{own}
use Rattle.account_core.specs.Refusals.{Knowing}
use Rattle.held_calls.proofs.Chaining.{worked_so}
use Rattle.runs_core.proofs.Handling.{at_place, same_number}
use Rattle.held_calls.proofs.Sound.{many_keys}
use Rattle.held_calls.specs.Workers.{EntriesComeFromPosts, IsOnTerms, RechargesAreEntered, ReservesAreOnTerms}
use Rattle.runs_core.specs.Served.{AreServed, IsServed}
use Rattle.run_values.specs.Openings.{no_credit}
use Rattle.run_values.specs.Setups.{Setup}
use Rattle.run_values.specs.declared.directory.OpeningCredit.{OpeningCredit}
use Rattle.run_values.specs.declared.post.Post.{Post}

-- its list in a book
list_in : (setup : Setup) (books : List Closed) (worker account place : ℕ) (book : Closed) → IsBookAt setup books account place book
    → slice_index_or (lists_of worker books) place [] ≡ own worker book.history
list_in setup books worker account place book is =
    get_or-map (λ (b : Closed). own worker b.history) books place book [] is.within ∙ ap (λ (b : Closed). own worker b.history) is.book_is

served_there : (accounts : List ℕ) (posts : List Post) (lists : List (List EntryData)) (place : ℕ) → AreServed accounts posts lists → place < length accounts
    → IsServed (slice_index_or accounts place 0) posts (slice_index_or lists place [])
served_there [] posts lists place are within = absurd (omega (arith, within))
served_there (account ∷ accounts) posts [] place are within = absurd are
served_there (account ∷ accounts) posts (mine ∷ lists) zero are within = are.0
served_there (account ∷ accounts) posts (mine ∷ lists) (suc place) are within = served_there accounts posts lists place are.1 (omega (arith, within))

module _ (Stood : Closed → ℕ → Knowing) where
  pub lists_worked : RunListsAreWorked Stood
  lists_worked setup workers given answers books worker is = worked_so _ setup worker is.posts _ _ is.answered

  pub recharges_in_books : RechargesAreEntered → RechargesAreInTheBooks Stood
  recharges_in_books entered setup workers given answers books worker account place book is at =
      rw (← list_in setup books worker account place book at)
      (entered setup worker account place is.posts _ (lists_of worker books) (lists_worked setup workers given answers books worker is) at.place_is)

  pub reserves_in_books : ReservesAreOnTerms → ReservesAreInTheBooks Stood
  reserves_in_books terms setup workers given answers books worker account place book is at =
      subst (λ (mine : List EntryData). All (λ entry. IsOnTerms setup place is.posts entry.asked) mine) (list_in setup books worker account place book at)
      (terms setup worker place is.posts _ (lists_of worker books) (lists_worked setup workers given answers books worker is))

  pub entries_served : EntriesComeFromPosts → RunEntriesAreServed Stood
  entries_served come setup workers given answers books worker account place book is at =
      let there = at_place setup account place at.place_is in
      let within : place < length (keys_of setup.accounts) = rw (many_keys setup) there.0 in
      let its : slice_index_or (keys_of setup.accounts) place 0 ≡ account =
      get_or-map (λ (e : ℕ × OpeningCredit). e.0) setup.accounts place (0, no_credit) 0 there.0 ∙ same_number (slice_index_or setup.accounts place (0, no_credit)).0 account there.1 in
      let served = served_there (keys_of setup.accounts) is.posts (lists_of worker books) place
      (come setup worker is.posts _ (lists_of worker books) (lists_worked setup workers given answers books worker is)) within in
      let Its : ℕ → List EntryData → Type 0 = λ n mine. IsServed n is.posts mine in
      subst (Its account) (list_in setup books worker account place book at)
      (subst (λ n. Its n (slice_index_or (lists_of worker books) place [])) its served)
