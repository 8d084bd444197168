-- What is printed of answers is in what they say.
use Rattle.std.proofs.Common.{◌≡◌, ◌<◌, ◌≤◌, ◌++◌, ◌∙◌, ℕ, Option, Some, None, List, [], ◌∷◌, Ok, Err, map, refl, sym, ap, arith}
use Rattle.std.proofs.lemmas.Option.{slice_get-map}
use Rattle.std.specs.Fmt.{decimal}
use Rattle.std.specs.Prelude.{codes, if◌then◌else◌, nat_lt, option_map, slice_get}
use Rattle.live_answers.proofs.Silence.{none_less}
use Rattle.cap_values.specs.Orders.{GoOn, Order, Pay, Release, Watch, operations_in, order_of, orders_of}
use Rattle.cap_values.specs.declared.operation.ScfOp.{ScfOp}
use Rattle.cap_values.specs.declared.operation.ScfOp.TheVariants as operation
use Rattle.live_answers.specs.Laws.{ReplaysAreSilent, last_behind, next_behind, silence}
use Rattle.live_answers.specs.Lines.{live_lines}
use Rattle.live_answers.specs.Live.{Heard, heard_after, heard_in, next_after, text_after}
use Rattle.live_answers.specs.Rows.{line_behind_log, rows_of_line}
use Rattle.live_answers.specs.Standing.{LineView}
use Rattle.live_answers.specs.declared.replay.Replay.{Replay}
use Rattle.live_recovery.proofs.Alone.{runs_alike}
use Rattle.live_recovery.specs.Laws.{RestartsPrintTheRest, views_of}
use Rattle.run_texts.specs.Messages.{MessageView}
use Rattle.run_texts.specs.Said.{Said, alone, answer_said, operation_said, refused_said, release_word, stray_said}
use Rattle.tariff_core.specs.declared.clock.Clock.TheVariants as clock
use Rattle.run_texts.specs.Tables.{answer_rows, head_text, trace_row, service_rows}
use Rattle.run_values.specs.declared.post.Answer.{Answer}
use Rattle.runs_core.specs.Handled.{AnswerView, answer_view}
use Rattle.table_core.specs.Fields.{number_or_empty}

-- what an order says
abbrev order_said : Order → Said
order_said (Watch arms) = alone (codes "RequestReportBCSMEvent")
order_said (Pay period switch release) = record (alone (codes "ApplyCharging")) { x1 = decimal period; x2 = number_or_empty switch; x3 = release_word release }
order_said GoOn = alone (codes "Continue")
order_said (Release cause) = record (alone (codes "ReleaseCall")) { x1 = decimal cause }

one_said : (op : ScfOp) → operation_said op ≡ order_said (order_of op)
one_said (operation.RequestReport arms) = refl
one_said (operation.ApplyCharging charge) = refl
one_said operation.Continue = refl
one_said (operation.ReleaseCall cause) = refl

all_said : (ops : List ScfOp) → map operation_said ops ≡ map order_said (orders_of ops)
all_said [] = refl
all_said (op ∷ ops) = ap (λ s. s ∷ map operation_said ops) (one_said op) ∙ ap (λ l. order_said (order_of op) ∷ l) (all_said ops)

-- what an answer says is in its view
abbrev view_said : AnswerView → List Said
view_said view = map order_said view.orders ++ (stray_said view.stray ++ refused_said view.refused)

answer_is : (answer : Answer) → answer_said answer ≡ view_said (answer_view answer)
answer_is answer = ap (λ l. l ++ (stray_said answer.stray ++ refused_said answer.refused)) (all_said (operations_in answer.instructions))

abbrev view_rows : List ℕ → Option AnswerView → List ℕ
view_rows head None = []
view_rows head (Some view) = service_rows head (view_said view)

rows_are : (head : List ℕ) (answer : Option Answer) → answer_rows head answer ≡ view_rows head (option_map answer_view answer)
rows_are head None = refl
rows_are head (Some answer) = ap (service_rows head) (answer_is answer)

-- the answers to the first so many messages say the same
abbrev pub Agree : List Answer → List Answer → ℕ → Type 0
Agree answers others count = (number : ℕ) → number < count → option_map answer_view (slice_get answers number) ≡ option_map answer_view (slice_get others number)

same_rows : (answer other : Option Answer) (head : List ℕ) → option_map answer_view answer ≡ option_map answer_view other → answer_rows head answer ≡ answer_rows head other
same_rows answer other head same = rows_are head answer ∙ ap (view_rows head) same ∙ sym (rows_are head other)

abbrev head_of_message : ℕ → MessageView → List ℕ
head_of_message number message = head_text clock.Digits message.at number message.speech.call

abbrev row_of : ℕ → MessageView → List ℕ
row_of number message = trace_row (head_of_message number message) message.speech.from message.speech.said

same_line : (answers others : List Answer) (quiet line number count : ℕ) (said : LineView) → next_after number said ≤ count → Agree answers others count
    → rows_of_line quiet line number (slice_get answers number) said ≡ rows_of_line quiet line number (slice_get others number) said
same_line answers others quiet line number count None most agree = refl
same_line answers others quiet line number count (Some (Err why)) most agree = refl
same_line answers others quiet line number count (Some (Ok message)) most agree =
    ap (λ rows. if nat_lt number quiet then [] else row_of number message ++ rows)
    (same_rows (slice_get answers number) (slice_get others number) (head_of_message number message) (agree number (omega (arith, most))))

-- what is printed of lines where the answers to their messages say the same
pub same_text : (replay : Replay) (answers others : List Answer) (line next : ℕ) (heard : List Heard) (count : ℕ) → next_behind next heard ≤ count → Agree answers others count
    → text_after replay answers line next heard ≡ text_after replay others line next heard
same_text replay answers others line next [] count most agree = refl
same_text replay answers others line next (one ∷ heard) count most agree =
    let here = line_behind_log replay next line in
    let behind = next_after next one.said in
    ap (λ rows. rows ++ text_after replay answers here behind heard)
    (same_line answers others replay.quiet here next count one.said (omega (arith, most, none_less heard behind)) agree)
    ∙ ap (λ rows. rows_of_line replay.quiet here next (slice_get others next) one.said ++ rows) (same_text replay answers others here behind heard count most agree)

all_agree : (answers others : List Answer) (count : ℕ) → views_of answers ≡ views_of others → Agree answers others count
all_agree answers others count same number less =
    sym (slice_get-map answer_view answers number) ∙ ap (λ views. slice_get views number) same ∙ slice_get-map answer_view others number

pub restarts_print : ReplaysAreSilent → RestartsPrintTheRest
restarts_print silent setup text rest given answers others books other one run run_other none none_other =
    let later = heard_after (next_behind 0 (heard_in text)) (last_behind 0 (heard_in text)) (live_lines rest) in
    let alike = runs_alike setup given answers others books other one run run_other none none_other in
    silent text rest others ∙ sym (same_text (silence (heard_in text)) answers others 1 (next_behind 0 (heard_in text)) later
    (next_behind (next_behind 0 (heard_in text)) later) (omega arith) (all_agree answers others _ alike.0))
