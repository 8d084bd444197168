-- What a shared account was made with.
use Rattle.std.specs.Prelude.{ℕ, Option}

-- its number, the credit that it was opened with, the last moment of that, if it has one, how many entries it may have, and how many seats it has
pub record Terms : Type 0 where
  pub number : ℕ
  pub opening : ℕ
  pub until : Option ℕ
  pub limit : ℕ
  pub seats : ℕ
