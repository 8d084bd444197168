-- The log that the live service is asked to keep.
use Rattle.std.specs.Prelude.{ℕ, List, Option}
use Rattle.run_values.specs.declared.log.LogAsk.{LogAsk}

-- the path of its file, and the number of the first message in it whose rows are printed again
pub record LogWish : Type 0 where
  pub path : List ℕ
  pub again : Option ℕ

-- what was asked for
abbrev pub log_wish_of : LogAsk → LogWish
log_wish_of log = record { path = log.path.now; again = log.again }
