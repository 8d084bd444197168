-- The sections of an input, and where they begin.
use Rattle.std.specs.Prelude.{◌≡◌, ◌-◌, ℕ, List, length}
use Rattle.run_texts.specs.Sections.{IsDivided}
use Rattle.table_commands.specs.declared.explanations.sections.Section.{Section}
use Rattle.table_commands.specs.declared.explanations.sections.Section.TheVariants as section

-- a text is what is in front of the first line `%%`
pub record IsFirstSection (input text : List ℕ) : Type 0 where
  pub rest : List ℕ
  pub divided : IsDivided input text rest

-- a text is what is between the first two such lines
pub record IsSecond (input : List ℕ) (start : ℕ) (text : List ℕ) : Type 0 where
  pub before : List ℕ
  pub behind : List ℕ
  pub divided : IsDivided input before behind
  pub begins : start ≡ length input - length behind
  pub first : IsFirstSection behind text

-- a text is what is behind the second one
pub record IsThird (input : List ℕ) (start : ℕ) (text : List ℕ) : Type 0 where
  pub before : List ℕ
  pub between : List ℕ
  pub behind : List ℕ
  pub divided : IsDivided input before behind
  pub again : IsDivided behind between text
  pub begins : start ≡ length input - length text

-- a section of an input: the byte at which it begins, and its text
abbrev pub IsSection : Section → List ℕ → ℕ → List ℕ → Type 0
IsSection section.Whole input start text = (start ≡ 0) × (text ≡ input)
IsSection section.First input start text = (start ≡ 0) × IsFirstSection input text
IsSection section.Second input start text = IsSecond input start text
IsSection section.Third input start text = IsThird input start text
