-- The three sections of the input of a run.
use Rattle.std.specs.Prelude.{◌≡◌, ◌==◌, ◌||◌, ◌∷◌, ◌++◌, ℕ, Bool, true, List, [], Option, None, Some, codes, if◌then◌else◌}
use Rattle.std.specs.Str.{bytes_eq}

-- the lines with c put before the first of them
abbrev pub with_first_byte : ℕ → List (List ℕ) → List (List ℕ)
with_first_byte c [] = (c ∷ []) ∷ []
with_first_byte c (line ∷ lines) = (c ∷ line) ∷ lines

-- the lines of a text, each with the LF that ends it; only the last may have none
unfoldable pub lines_in_text : List ℕ → List (List ℕ)
lines_in_text [] = []
lines_in_text (c ∷ text) = if c == 10 then (c ∷ []) ∷ lines_in_text text else with_first_byte c (lines_in_text text)

-- whether a line divides two sections: `%%` alone, ended by LF, CR LF or the end of the text
abbrev pub is_divider : List ℕ → Bool
is_divider line = bytes_eq line (codes "%%\n") || bytes_eq line (codes "%%\r\n") || bytes_eq line (codes "%%")

-- the sections with a line put before the first of them
abbrev pub after_line : List ℕ → List (List ℕ) → List (List ℕ)
after_line line [] = line ∷ []
after_line line (section ∷ sections) = (line ++ section) ∷ sections

-- what is between the dividers of some lines, which is one section more than there are dividers
unfoldable pub sections_of : List (List ℕ) → List (List ℕ)
sections_of [] = [] ∷ []
sections_of (line ∷ lines) = if is_divider line then [] ∷ sections_of lines else after_line line (sections_of lines)

-- a text is divided at the first of its dividers: what is in front of that, its first section, and what is behind it
pub record IsDivided (text front behind : List ℕ) : Type 0 where
  pub divider : List ℕ
  pub divides : is_divider divider ≡ true
  pub text_is : text ≡ front ++ (divider ++ behind)
  pub sections : sections_of (lines_in_text text) ≡ front ∷ sections_of (lines_in_text behind)

-- the texts of a run
pub record Texts : Type 0 where
  pub tariff : List ℕ
  pub setup : List ℕ
  pub script : List ℕ

-- three sections, no less and no more
abbrev pub texts_in : List (List ℕ) → Option Texts
texts_in (tariff ∷ setup ∷ script ∷ []) = Some (record { tariff = tariff; setup = setup; script = script })
texts_in sections = None

-- the texts that an input has
abbrev pub texts_of : List ℕ → Option Texts
texts_of input = texts_in (sections_of (lines_in_text input))
