-- What is printed of lines that were heard before, and by answers that begin as others do.
use Rattle.std.proofs.Common.{◌≡◌, ◌<◌, ◌≤◌, ◌+◌, ◌++◌, ◌∙◌, ℕ, true, false, Option, Some, None, List, [], ◌∷◌, Ok, Err, length, refl, sym, ap, arith, append_assoc}
use Rattle.std.proofs.lemmas.Bool.Decides.{nat_tests}
use Rattle.std.proofs.lemmas.List.{length-map}
use Rattle.std.proofs.lemmas.Option.{slice_get-map}
use Rattle.std.specs.Prelude.{if◌then◌else◌, nat_lt, slice_get}
use Rattle.live_answers.proofs.GroupLemmas.{got_first}
use Rattle.live_answers.proofs.Silence.{none_less, no_fewer}
use Rattle.live_answers.specs.Laws.{accepted, if_accepted, next_behind}
use Rattle.live_answers.specs.Live.{Heard, next_after, text_after}
use Rattle.live_answers.specs.Rows.{line_behind_log, message_rows, rows_of_line}
use Rattle.live_answers.specs.Standing.{LineView}
use Rattle.live_answers.specs.declared.replay.Replay.{Replay}
use Rattle.live_recovery.proofs.Printing.{Agree, same_text}
use Rattle.live_recovery.specs.Laws.{views_of}
use Rattle.live_recovery.specs.Recovery.{rows_again, text_again}
use Rattle.run_values.specs.declared.post.Answer.{Answer}
use Rattle.runs_core.specs.Handled.{AnswerView, answer_view}

-- nothing was heard before
abbrev pub nothing : Replay
nothing = record { messages = 0; quiet = 0 }

pub is_less : (a b : ℕ) → a < b → nat_lt a b ≡ true
is_less a b less = grind (arith, nat_tests, less)

not_less : (a b : ℕ) → b ≤ a → nat_lt a b ≡ false
not_less a b more = grind (arith, nat_tests, more)

-- ---- lines of a log, and those behind them

-- the lines of a log are printed again, and then those behind them are
abbrev PrintsAgain : Replay → List Answer → ℕ → ℕ → List Heard → List Heard → Type 0
PrintsAgain replay answers line next heard later =
    text_after replay answers line next (accepted heard ++ later)
    ≡ text_again replay.quiet answers next heard ++ text_after replay answers line (next_behind next heard) later

one_again : (replay : Replay) (answers : List Answer) (line next : ℕ) (text : List ℕ) (said : LineView) (heard later : List Heard) → next_behind (next_after next said) heard ≤ replay.messages
    → PrintsAgain replay answers line (next_after next said) heard later
    → text_after replay answers line next ((if_accepted said (record { line = text; said = said }) ++ accepted heard) ++ later)
    ≡ (rows_again replay.quiet next (slice_get answers next) said ++ text_again replay.quiet answers (next_after next said) heard)
    ++ text_after replay answers line (next_behind (next_after next said) heard) later
one_again replay answers line next text None heard later most is = is
one_again replay answers line next text (Some (Err why)) heard later most is = is
one_again replay answers line next text (Some (Ok message)) heard later most is =
    let less : nat_lt next replay.messages ≡ true = is_less next replay.messages (omega (arith, most, none_less heard (next + 1))) in
    let rows = if nat_lt next replay.quiet then [] else message_rows next message (slice_get answers next) in
    let same : line_behind_log replay next line ≡ line = rw less refl in
    ap (λ l. rows ++ text_after replay answers l (next + 1) (accepted heard ++ later)) same ∙ ap (λ l. rows ++ l) is
    ∙ sym (append_assoc rows (text_again replay.quiet answers (next + 1) heard) (text_after replay answers line (next_behind (next + 1) heard) later))

are_again : (replay : Replay) (answers : List Answer) (line next : ℕ) (heard later : List Heard) → next_behind next heard ≤ replay.messages → PrintsAgain replay answers line next heard later
are_again replay answers line next [] later most = refl
are_again replay answers line next (one ∷ heard) later most =
    one_again replay answers line next one.line one.said heard later most (are_again replay answers line (next_after next one.said) heard later most)

row_anew : (quiet line next : ℕ) (answer : Option Answer) (said : LineView) → quiet ≤ next → rows_of_line quiet line next answer said ≡ rows_of_line 0 line next answer said
row_anew quiet line next answer None less = refl
row_anew quiet line next answer (Some (Err why)) less = refl
row_anew quiet line next answer (Some (Ok message)) less = rw (not_less next quiet less, not_less next 0 (omega arith)) refl

line_anew : (replay : Replay) (next line : ℕ) → replay.messages ≤ next → line_behind_log replay next line ≡ line_behind_log nothing next line
line_anew replay next line less = rw (not_less next replay.messages less, not_less next 0 (omega arith)) refl

-- lines behind all that was heard before are printed as they come
are_anew : (replay : Replay) (answers : List Answer) (line next : ℕ) (heard : List Heard) → replay.messages ≤ next → replay.quiet ≤ next
    → text_after replay answers line next heard ≡ text_after nothing answers line next heard
are_anew replay answers line next [] less quiet = refl
are_anew replay answers line next (one ∷ heard) less quiet =
    let behind = next_after next one.said in
    let here = line_behind_log replay next line in
    let more = no_fewer one.said next in
    ap (λ rows. rows ++ text_after replay answers here behind heard) (row_anew replay.quiet here next (slice_get answers next) one.said quiet)
    ∙ ap (λ l. rows_of_line 0 here next (slice_get answers next) one.said ++ l) (are_anew replay answers here behind heard (omega (arith, less, more)) (omega (arith, quiet, more)))
    ∙ ap (λ l. rows_of_line 0 l next (slice_get answers next) one.said ++ text_after nothing answers l behind heard) (line_anew replay next line less)

-- where all lines of a log were heard before, they are printed again from the one that is not quiet, and the lines behind them as they come
pub printed_again : (replay : Replay) (answers : List Answer) (heard later : List Heard) → replay.messages ≡ next_behind 0 heard → replay.quiet ≤ replay.messages
    → text_after replay answers 1 0 (accepted heard ++ later) ≡ text_again replay.quiet answers 0 heard ++ text_after nothing answers 1 (next_behind 0 heard) later
printed_again replay answers heard later many quiet =
    are_again replay answers 1 0 heard later (omega (arith, many))
    ∙ ap (λ l. text_again replay.quiet answers 0 heard ++ l) (are_anew replay answers 1 (next_behind 0 heard) later (omega (arith, many)) (omega (arith, many, quiet)))

-- ---- answers that begin others

begin_agree : (early answers : List Answer) (more : List AnswerView) → views_of answers ≡ views_of early ++ more → Agree early answers (length early)
begin_agree early answers more is number less =
    sym (slice_get-map answer_view early number) ∙ sym (got_first (views_of early) more number (omega (arith, less, length-map early answer_view)))
    ∙ ap (λ views. slice_get views number) (sym is) ∙ slice_get-map answer_view answers number

-- of lines whose messages have answers all answers print the same that begin with these
pub begun_text : (replay : Replay) (early answers : List Answer) (more : List AnswerView) (heard : List Heard) → views_of answers ≡ views_of early ++ more → next_behind 0 heard ≤ length early
    → text_after replay early 1 0 heard ≡ text_after replay answers 1 0 heard
begun_text replay early answers more heard is many = same_text replay early answers 1 0 heard (length early) many (begin_agree early answers more is)
