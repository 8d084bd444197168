-- What a log says when it is read again.
use Rattle.std.specs.Prelude.{◌≡◌, ℕ, Some, None, Ok, Err, List, [], ◌∷◌, ◌++◌, flat_map}
use Rattle.live_answers.specs.Lines.{live_lines}
use Rattle.live_answers.specs.Live.{Heard, heard_after, heard_in, last_after, logged_of, next_after, replayed_text, text_after}
use Rattle.live_answers.specs.Standing.{LineView}
use Rattle.live_answers.specs.declared.replay.Replay.{Replay}
use Rattle.run_values.specs.declared.post.Answer.{Answer}

-- a line, where it is accepted
abbrev pub if_accepted : LineView → Heard → List Heard
if_accepted None one = []
if_accepted (Some (Ok message)) one = one ∷ []
if_accepted (Some (Err kind)) one = []

-- those of some lines that are accepted
abbrev pub accepted : List Heard → List Heard
accepted heard = flat_map (λ (one : Heard). if_accepted one.said one) heard

-- how many messages were accepted, after some lines
abbrev pub next_behind : ℕ → List Heard → ℕ
next_behind next [] = next
next_behind next (one ∷ heard) = next_behind (next_after next one.said) heard

-- the moment of the last message that was accepted, after some lines
abbrev pub last_behind : ℕ → List Heard → ℕ
last_behind last [] = last
last_behind last (one ∷ heard) = last_behind (last_after last one.said) heard

-- a log with more lines behind it: its lines are the accepted ones and say the same again, and the lines behind it say what they say behind all lines
abbrev pub LogsAreHeardAgain : Type 0
LogsAreHeardAgain = (text rest : List ℕ) → heard_in (logged_of (heard_in text) ++ rest)
    ≡ accepted (heard_in text) ++ heard_after (next_behind 0 (heard_in text)) (last_behind 0 (heard_in text)) (live_lines rest)

-- the lines of a log are heard in silence
abbrev pub silence : List Heard → Replay
silence heard = record { messages = next_behind 0 heard; quiet = next_behind 0 heard }

-- where a log is heard again in silence, just that is printed which the lines behind it come to
abbrev pub ReplaysAreSilent : Type 0
ReplaysAreSilent = (text rest : List ℕ) (answers : List Answer) → replayed_text (silence (heard_in text)) answers (heard_in (logged_of (heard_in text) ++ rest))
    ≡ text_after (silence (heard_in text)) answers 1 (next_behind 0 (heard_in text))
    (heard_after (next_behind 0 (heard_in text)) (last_behind 0 (heard_in text)) (live_lines rest))
