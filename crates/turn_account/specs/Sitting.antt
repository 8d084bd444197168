-- What a turn account and its seats keep.
use Rattle.std.specs.Prelude.{◌≡◌, ◌≤◌, ℕ, []}
use Rattle.atomic_table.specs.Seated.{TableId}
use Rattle.account_core.specs.Answers.{IsLegal}
use Rattle.turn_account.specs.Plays.{Sitter}
use Rattle.turn_account.specs.declared.board.Stage.TheVariants.{Idles}
use Rattle.turn_account.specs.declared.board.Start.{Start}

-- between two calls the chair of a seat with this number rests and has nothing in hand, and has taken in no other. What it has seen is a legal history
pub record IsSitting (chair : Sitter) (seat : ℕ) : Type 0 where
  pub idle : chair.0.stage ≡ Idles
  pub hands : chair.1 ≡ []
  pub number : chair.0.number ≡ seat
  pub ended : chair.0.ended ≡ []
  pub legal : IsLegal chair.0.seen.opening chair.0.seen.until chair.0.seen.history

-- a board has three words and a slot, and is for these seats, of which there is one at least
pub record IsBoard (table : TableId) (start : Start) (count : ℕ) : Type 0 where
  pub words : table.words ≡ 3
  pub slots : table.slots ≡ 1
  pub seats : start.seats ≡ count
  pub some_seats : 1 ≤ count
