-- The rule of a turn account: what holds between any two steps.
use Rattle.std.specs.Prelude.{◌≡◌, ◌≢◌, ◌+◌, ◌%◌, ◌^◌, ◌≤◌, ◌<◌, ℕ, Option, Some, None, List, [], ◌∷◌, length, slice_index}
use mathlib.Core.Option.{none, some}
use mathlib.Core.Option as maybe
use lib.ListN.{get_elem?}
use Rattle.atomic_table.specs.Table.{State}
use Rattle.account_core.specs.Answers.{IsLegal}
use Rattle.account_core.specs.Ledger.{Ledger}
use Rattle.turn_account.specs.Ended.{HaveEnded}
use Rattle.account_core.specs.Own.{own}
use Rattle.account_core.specs.Prefixes.{IsPrefix}
use Rattle.turn_account.specs.Views.{IsSeat, seats_at, ticket_of, tickets_at, total}
use Rattle.turn_account.specs.declared.board.Stage.TheVariants.{Serves}
use Rattle.turn_account.specs.declared.board.Start.{Start}
use Rattle.turn_account.specs.declared.board.View.{View}

-- the account with its history so far; how many seats were made, and how many of them, the first ones, have ended; how many tickets were served, and how many are out; and who has the turn, by its place among the views
pub record BoardState : Type 0 where
  pub account : Ledger
  pub made : ℕ
  pub gone : ℕ
  pub served : ℕ
  pub out : ℕ
  pub holder : Option ℕ

-- the words: the ticket that is issued next, the one that is served, and the number of entries
pub record AreWords (now : BoardState) (words : List ℕ) : Type 0 where
  pub wide : length words ≡ 3
  pub ticket : slice_index words 0 ≡ (now.served + now.out) % 2 ^ 64
  pub serving : slice_index words 1 ≡ now.served % 2 ^ 64
  pub count : slice_index words 2 ≡ length now.account.history

-- the account was opened as was asked, its history is legal and within its limit, no more seats were made than it is to have, and a number that no seat has yet has no entry
pub record IsPast (start : Start) (account : Ledger) (made : ℕ) : Type 0 where
  pub opening : account.opening ≡ start.opening
  pub until : account.until ≡ start.until
  pub limit : account.limit ≡ start.limit
  pub bounded : account.limit < 2 ^ 32
  pub legal : IsLegal account.opening account.until account.history
  pub short : length account.history ≤ account.limit
  pub few : made ≤ start.seats
  pub sixteen : start.seats ≤ 16
  pub unmade : (number : ℕ) → made ≤ number → own number account.history ≡ []

-- each seat that was made and hasn't ended has a view, and each ticket that is out is with a view
pub record AreTotals (now : BoardState) (views : List View) : Type 0 where
  pub seats : total seats_at views + now.gone ≡ now.made
  pub tickets : total tickets_at views ≡ now.out

-- a seat hasn't ended, and has seen all entries of its own
pub record IsNumbered (now : BoardState) (view : View) : Type 0 where
  pub opening : view.seen.opening ≡ now.account.opening
  pub until : view.seen.until ≡ now.account.until
  pub limit : view.seen.limit ≡ now.account.limit
  pub number : view.number < now.made
  pub gone : now.gone ≤ view.number
  pub first : view.number ≡ 0 → view.made ≡ now.made
  pub own : own view.number view.seen.history ≡ own view.number now.account.history

-- a ticket was issued, and isn't served yet
pub record IsOut (now : BoardState) (ticket : ℕ) : Type 0 where
  pub issued : now.served ≤ ticket
  pub unserved : ticket < now.served + now.out

-- who has the turn has the ticket that is served, and has seen the whole history
pub record HasTurn (now : BoardState) (at : ℕ) (view : View) (ticket : ℕ) : Type 0 where
  pub served : ticket ≡ now.served
  pub holder : now.holder ≡ Some at
  pub seen : view.seen ≡ now.account

-- what a view says is so. What was seen and what was heard begin the history, and so does what was seen by the seats that were taken in
pub record Knows (now : BoardState) (at : ℕ) (view : View) : Type 0 where
  pub seen : IsPrefix view.seen.history now.account.history
  pub heard : IsPrefix view.heard.history now.account.history
  pub ended : HaveEnded now.account 0 view.ended
  pub gone : length view.ended ≤ now.gone
  pub seated : IsSeat view.stage → IsNumbered now view
  pub ticket : (ticket : ℕ) → ticket_of view.stage ≡ Some ticket → IsOut now ticket
  pub turn : (ticket : ℕ) → view.stage ≡ Serves ticket → HasTurn now at view ticket

-- no two seats have one number, nor one ticket
pub record AreApart (view other : View) : Type 0 where
  pub numbers : IsSeat view.stage → IsSeat other.stage → view.number ≢ other.number
  pub tickets : (ticket : ℕ) → ticket_of view.stage ≡ Some ticket → ticket_of other.stage ≡ Some ticket → ⊥

-- each view agrees with what the board says
abbrev pub AllKnow : BoardState → List View → Type 0
AllKnow now views = (at : ℕ) (view : View) → get_elem? views at ≡ some view → Knows now at view

-- no two views have one number or one ticket
abbrev pub AllApart : List View → Type 0
AllApart views = (at by : ℕ) (view other : View) → at ≢ by → get_elem? views at ≡ some view → get_elem? views by ≡ some other → AreApart view other

-- the account is with the view that has the turn
pub record IsTakenUp (homes : List (maybe.Option (Option Ledger))) (views : List View) (at : ℕ) : Type 0 where
  pub empty : homes ≡ none ∷ []
  pub view : View
  pub ticket : ℕ
  pub there : get_elem? views at ≡ some view
  pub serves : view.stage ≡ Serves ticket

-- the account is in its slot where nobody has the turn, else with the view that has it
abbrev pub AccountLiesAt : Ledger → List (maybe.Option (Option Ledger)) → List View → Option ℕ → Type 0
AccountLiesAt account homes views None = homes ≡ some (Some account) ∷ []
AccountLiesAt account homes views (Some at) = IsTakenUp homes views at

-- the rule of a board: its words, its slot and its views agree with one legal history
pub record Kept (start : Start) (s : State (Option Ledger) View) : Type 0 where
  pub now : BoardState
  pub words : AreWords now s.words
  pub past : IsPast start now.account now.made
  pub totals : AreTotals now s.views
  pub each : AllKnow now s.views
  pub apart : AllApart s.views
  pub lies : AccountLiesAt now.account s.homes s.views now.holder
