-- The table of what was said in a run.
use Rattle.std.specs.Prelude.{◌+◌, ℕ, Option, Some, None, List, [], ◌∷◌, ◌++◌, codes, slice_get}
use Rattle.std.specs.Fmt.{decimal}
use Rattle.std.specs.List.{flat_map}
use Rattle.tariff_core.specs.Printing.{moment_text}
use Rattle.tariff_core.specs.declared.clock.Clock.{Clock}
use Rattle.run_values.specs.declared.post.Answer.{Answer}
use Rattle.run_values.specs.declared.post.Body.{Body}
use Rattle.run_values.specs.declared.post.Body.TheVariants as body
use Rattle.run_texts.specs.Said.{Said, answer_said, post_said}
use Rattle.table_core.specs.Fields.{field_then, number_or_empty}

-- the call of a post; a recharge has none
abbrev pub call_of_post : Body → Option ℕ
call_of_post (body.Ssf call msg) = Some call
call_of_post (body.Recharge account amount until) = None

-- who sends a post
abbrev pub sender_of : Body → List ℕ
sender_of (body.Ssf call msg) = codes "switch"
sender_of (body.Recharge account amount until) = codes "operator"

-- what is said, to the end of its row
abbrev pub said_text : Said → List ℕ
said_text said = field_then said.what (field_then said.x1 (field_then said.x2 (field_then said.x3 (said.x4 ++ codes "\n"))))

-- a row: what it begins with, who speaks, and what is said
abbrev pub trace_row : List ℕ → List ℕ → Said → List ℕ
trace_row head from said = field_then head (field_then from (said_text said))

-- what the rows of a post begin with: its moment, as a clock prints it, its number and its call
abbrev pub head_text : Clock → ℕ → ℕ → Option ℕ → List ℕ
head_text clock at number call = field_then (moment_text clock at) (field_then (decimal number) (number_or_empty call))

-- the head of the rows of a post of this number
abbrev pub head_of : Clock → ℕ → ℕ × Body → List ℕ
head_of clock number post = head_text clock post.0 number (call_of_post post.1)

-- the rows of what the service says to a post, each with the same head
abbrev pub service_rows : List ℕ → List Said → List ℕ
service_rows head said = flat_map (trace_row head (codes "service")) said

-- the rows of an answer, if there is one
abbrev pub answer_rows : List ℕ → Option Answer → List ℕ
answer_rows head None = []
answer_rows head (Some answer) = service_rows head (answer_said answer)

-- the row of a post, and those of its answer
abbrev pub post_rows : Clock → ℕ → ℕ × Body → Option Answer → List ℕ
post_rows clock number post answer =
    trace_row (head_of clock number post) (sender_of post.1) (post_said clock post.1) ++ answer_rows (head_of clock number post) answer

-- the rows of posts whose numbers go on from this one, where the answer to each is at the place of its number
abbrev pub trace_rows_from : Clock → List Answer → ℕ → List (ℕ × Body) → List ℕ
trace_rows_from clock answers number [] = []
trace_rows_from clock answers number (post ∷ posts) = post_rows clock number post (slice_get answers number) ++ trace_rows_from clock answers (number + 1) posts

-- the header of the table
abbrev pub trace_header : List ℕ
trace_header = codes "moment,number,call,from,what,x1,x2,x3,x4\n"

-- the table of a trace: a header, and the rows of each post, in order
abbrev pub trace_text : Clock → List (ℕ × Body) → List Answer → List ℕ
trace_text clock given answers = trace_header ++ trace_rows_from clock answers 0 given
