-- The rows that a live run prints of a line, and what it logs of it.
use Rattle.std.specs.Prelude.{◌+◌, ℕ, Option, Some, None, List, [], ◌++◌, Ok, Err, codes, min, if◌then◌else◌, nat_lt}
use Rattle.std.specs.Fmt.{decimal}
use Rattle.run_texts.specs.Kinds.{line_kind_name}
use Rattle.live_answers.specs.Standing.{LineView}
use Rattle.run_texts.specs.declared.kind.LineKind.{LineKind}
use Rattle.live_answers.specs.declared.replay.Replay.{Replay}
use Rattle.run_texts.specs.Messages.{MessageView}
use Rattle.tariff_core.specs.declared.clock.Clock.TheVariants as clock
use Rattle.run_texts.specs.Tables.{answer_rows, head_text, trace_row}
use Rattle.run_values.specs.declared.post.Answer.{Answer}

-- the row of the message of a number, and those of its answer, as in a trace
abbrev pub message_rows : ℕ → MessageView → Option Answer → List ℕ
message_rows number message answer =
    trace_row (head_text clock.Digits message.at number message.speech.call) message.speech.from message.speech.said
    ++ answer_rows (head_text clock.Digits message.at number message.speech.call) answer

-- the row of what is wrong with the line of a number
abbrev pub fault_row : ℕ → LineKind → List ℕ
fault_row line kind = codes ",,,service,fault," ++ (line_kind_name kind ++ (codes "," ++ (decimal line ++ codes ",,\n")))

-- the rows of the line of a number, whose message has its own number and this answer: the first so many messages are quiet
abbrev pub rows_of_line : ℕ → ℕ → ℕ → Option Answer → LineView → List ℕ
rows_of_line quiet line number answer None = []
rows_of_line quiet line number answer (Some (Ok message)) = if nat_lt number quiet then [] else message_rows number message answer
rows_of_line quiet line number answer (Some (Err kind)) = fault_row line kind

-- what is logged of a line: the line, where it is accepted
abbrev pub put_down : List ℕ → LineView → List ℕ
put_down line None = []
put_down line (Some (Ok message)) = line
put_down line (Some (Err kind)) = []

-- the number of the line behind one, which stays at the largest number of 64 bits
abbrev pub next_line : ℕ → ℕ
next_line line = min (line + 1) 18446744073709551615

-- the same where so many messages were accepted: the lines of a replay aren't counted
abbrev pub line_behind_log : Replay → ℕ → ℕ → ℕ
line_behind_log replay next line = if nat_lt next replay.messages then line else next_line line
