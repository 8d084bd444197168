-- What the text of a log is, by the head that it has to have.
use Rattle.std.specs.Prelude.{◌≡◌, ◌≢◌, ◌<◌, ◌++◌, ℕ, List, All, length}
use Rattle.std.specs.Io.{IsEmptyOrEndsWith}
use Rattle.live_answers.specs.declared.finding.Found.{Found}
use Rattle.live_answers.specs.declared.finding.Found.TheVariants as found

-- a text is whole lines, each ended by LF, and what is behind the last LF, which is torn
pub record HasLines (text lines : List ℕ) : Type 0 where
  pub torn : List ℕ
  pub parts : text ≡ lines ++ torn
  pub whole : IsEmptyOrEndsWith lines 10
  pub no_line : All (λ byte. byte ≢ 10) torn

-- a text is another and then whole lines, and what is torn
pub record HasLinesBehind (head text lines : List ℕ) : Type 0 where
  pub behind : List ℕ
  pub begins : text ≡ head ++ behind
  pub lines_are : HasLines behind lines

-- a text begins another, and isn't all of it
pub record IsProperFront (text whole : List ℕ) : Type 0 where
  pub rest : List ℕ
  pub begins : whole ≡ text ++ rest
  pub some : 0 < length rest

-- neither of two texts begins the other
pub record Differ (text other : List ℕ) : Type 0 where
  pub not_first : (rest : List ℕ) → text ≢ other ++ rest
  pub not_second : (rest : List ℕ) → other ≢ text ++ rest

-- what the text of a log is
abbrev pub IsFound : List ℕ → List ℕ → Found → Type 0
IsFound head text (found.Lines lines) = HasLinesBehind head text lines.now
IsFound head text found.Begun = IsProperFront text head
IsFound head text found.Other = Differ text head
