-- What a live run gives, prints and logs of the lines of its input.
use Rattle.std.specs.Prelude.{◌+◌, ℕ, Some, None, List, [], ◌∷◌, ◌++◌, Ok, Err, flat_map, slice_get}
use Rattle.live_answers.specs.Lines.{live_lines}
use Rattle.live_answers.specs.Rows.{line_behind_log, put_down, rows_of_line}
use Rattle.live_answers.specs.Standing.{LineView, said_after}
use Rattle.live_answers.specs.declared.replay.Replay.{Replay}
use Rattle.run_texts.specs.Messages.{Speech, speech_of}
use Rattle.run_values.specs.declared.post.Answer.{Answer}
use Rattle.run_values.specs.declared.post.Body.{Body}

-- a line, and what it says
pub record Heard : Type 0 where
  pub line : List ℕ
  pub said : LineView

-- how many messages were accepted, after a line
abbrev pub next_after : ℕ → LineView → ℕ
next_after next None = next
next_after next (Some (Ok message)) = next + 1
next_after next (Some (Err kind)) = next

-- the moment of the last message that was accepted, after a line
abbrev pub last_after : ℕ → LineView → ℕ
last_after last None = last
last_after last (Some (Ok message)) = message.at
last_after last (Some (Err kind)) = last

-- what lines say one after the other, where so many messages were accepted before them, the last at this moment
abbrev pub heard_after : ℕ → ℕ → List (List ℕ) → List Heard
heard_after next last [] = []
heard_after next last (line ∷ lines) =
    record { line = line; said = said_after next last line }
    ∷ heard_after (next_after next (said_after next last line)) (last_after last (said_after next last line)) lines

-- what the lines of an input say
abbrev pub heard_in : List ℕ → List Heard
heard_in text = heard_after 0 0 (live_lines text)

-- what is given of a line: its message, where it is accepted
abbrev pub given_by : LineView → List (ℕ × Speech)
given_by None = []
given_by (Some (Ok message)) = (message.at, message.speech) ∷ []
given_by (Some (Err kind)) = []

-- what is given of lines
abbrev pub given_of : List Heard → List (ℕ × Speech)
given_of heard = flat_map (λ (one : Heard). given_by one.said) heard

-- an item, as a trace prints it
abbrev pub item_view : ℕ × Body → ℕ × Speech
item_view item = (item.0, speech_of item.1)

-- what is logged of lines
abbrev pub logged_of : List Heard → List ℕ
logged_of heard = flat_map (λ (one : Heard). put_down one.line one.said) heard

-- what is printed of lines behind a line of a number, where so many messages were accepted before, and these are the answers to all
abbrev pub text_after : Replay → List Answer → ℕ → ℕ → List Heard → List ℕ
text_after replay answers line next [] = []
text_after replay answers line next (one ∷ heard) =
    rows_of_line replay.quiet (line_behind_log replay next line) next (slice_get answers next) one.said
    ++ text_after replay answers (line_behind_log replay next line) (next_after next one.said) heard

-- what a live run prints of its lines behind the header, which is the line 1, where some of them were heard before
abbrev pub replayed_text : Replay → List Answer → List Heard → List ℕ
replayed_text replay answers heard = text_after replay answers 1 0 heard

-- what a live run prints of its lines behind the header, where none was heard before
abbrev pub live_text : List Answer → List Heard → List ℕ
live_text answers heard = replayed_text (record { messages = 0; quiet = 0 }) answers heard
