-- The lines of an input, as they are read.
use Rattle.std.specs.Prelude.{◌+◌, ℕ, List, [], ◌∷◌, ◌++◌, map, take, if◌then◌else◌}
use Rattle.std.specs.Io.BufRead.{ends_with_byte}
use Rattle.run_texts.specs.Sections.{lines_in_text}
use Rattle.live_answers.specs.declared.line.TheConstants.{MAX_LINE}

-- a line with its LF, also where the input ended before it
abbrev pub with_line_end : List ℕ → List ℕ
with_line_end line = if ends_with_byte 10 line then line else line ++ 10 ∷ []

-- what is read of a line: all of it, or so much that it is seen to be too long
abbrev pub kept : List ℕ → List ℕ
kept line = take (MAX_LINE + 1) (with_line_end line)

-- the lines of an input
abbrev pub live_lines : List ℕ → List (List ℕ)
live_lines text = map kept (lines_in_text text)
