-- A board, and a chair at it.
use Rattle.std.specs.Prelude.{◌≡◌}
use Rattle.atomic_table.specs.Seated.{TableId}

-- a chair is at a board, which has three words
abbrev pub IsAt : TableId → TableId → Type 0
IsAt board chair = (chair ≡ board) × (board.words ≡ 3)
