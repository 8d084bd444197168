-- The first lines of an input, and the log of their messages.
use Rattle.std.proofs.Common.{◌≡◌, ◌+◌, ◌++◌, ◌∙◌, ℕ, zero, suc, Bool, true, false, Some, None, List, [], ◌∷◌, Ok, Err, length, length-append, map, take, drop, refl, sym, ap, subst, arith, append_assoc, append-nil}
use Rattle.std.proofs.lemmas.List.{take-map}
use Rattle.std.specs.Prelude.{◌==◌, if◌then◌else◌}
use Rattle.live_answers.proofs.GroupLemmas.{logged_on}
use Rattle.live_answers.specs.Checks.{first_wrong}
use Rattle.live_answers.specs.Laws.{LogsAreHeardAgain, accepted, if_accepted, last_behind, next_behind}
use Rattle.live_answers.specs.Lines.{kept, live_lines}
use Rattle.live_answers.specs.Live.{Heard, given_by, given_of, heard_after, heard_in, last_after, logged_of, next_after}
use Rattle.live_answers.specs.Rows.{put_down}
use Rattle.live_answers.specs.Standing.{LineView, said_after}
use Rattle.live_recovery.specs.Recovery.{rest_heard_behind}
use Rattle.run_texts.specs.Messages.{Speech}
use Rattle.run_texts.specs.Sections.{with_first_byte, lines_in_text}

-- ---- the first lines of a text are a text

abbrev front : ℕ → List ℕ → List ℕ
front zero text = []
front (suc count) [] = []
front (suc count) (c ∷ text) = if c == 10 then c ∷ front count text else c ∷ front (suc count) text

begun_front : (count c : ℕ) (lines : List (List ℕ)) → with_first_byte c (take (suc count) lines) ≡ take (suc count) (with_first_byte c lines)
begun_front zero c [] = refl
begun_front (suc count) c [] = refl
begun_front count c (line ∷ lines) = refl

front_lines : (count : ℕ) (text : List ℕ) → lines_in_text (front count text) ≡ take count (lines_in_text text)
unfolding lines_in_text
front_lines zero text = refl
front_lines (suc count) [] = refl
front_lines (suc count) (c ∷ text) = by_end (c == 10) refl (front_lines count text) (front_lines (suc count) text)
  where
    by_end : (ends : Bool) → (c == 10) ≡ ends → lines_in_text (front count text) ≡ take count (lines_in_text text) → lines_in_text (front (suc count) text) ≡ take (suc count) (lines_in_text text)
        → lines_in_text (if ends then c ∷ front count text else c ∷ front (suc count) text) ≡ take (suc count) (if ends then (c ∷ []) ∷ lines_in_text text else with_first_byte c (lines_in_text text))
    by_end true is next here = rw is (ap (λ l. (c ∷ []) ∷ l) next)
    by_end false is next here = rw is (ap (with_first_byte c) here ∙ begun_front count c (lines_in_text text))

heard_take : (count next last : ℕ) (lines : List (List ℕ)) → heard_after next last (take count lines) ≡ take count (heard_after next last lines)
heard_take zero next last lines = refl
heard_take (suc count) next last [] = refl
heard_take (suc count) next last (line ∷ lines) =
    let said = said_after next last line in
    ap (λ l. record { line = line; said = said } ∷ l) (heard_take count (next_after next said) (last_after last said) lines)

heard_front : (count : ℕ) (text : List ℕ) → heard_in (front count text) ≡ take count (heard_in text)
heard_front count text =
    ap (λ lines. heard_after 0 0 (map kept lines)) (front_lines count text) ∙ ap (heard_after 0 0) (sym (take-map kept count (lines_in_text text))) ∙ heard_take count 0 0 (live_lines text)

-- the messages of the first lines are heard again, and then further lines
pub fronts_again : LogsAreHeardAgain → (count : ℕ) (text rest : List ℕ)
    → heard_in (logged_of (take count (heard_in text)) ++ rest) ≡ accepted (take count (heard_in text)) ++ rest_heard_behind (take count (heard_in text)) rest
fronts_again again count text rest =
    subst (λ h. heard_in (logged_of h ++ rest) ≡ accepted h ++ rest_heard_behind h rest) (heard_front count text) (again (front count text) rest)

-- an empty text has no lines
no_line : live_lines [] ≡ []
unfolding lines_in_text
no_line = refl

-- and without further lines these alone
pub front_alone : LogsAreHeardAgain → (count : ℕ) (text : List ℕ) → heard_in (logged_of (take count (heard_in text))) ≡ accepted (take count (heard_in text))
front_alone again count text =
    let heard = take count (heard_in text) in
    ap heard_in (sym (append-nil (logged_of heard))) ∙ fronts_again again count text []
    ∙ ap (λ lines. accepted heard ++ heard_after (next_behind 0 heard) (last_behind 0 heard) lines) no_line ∙ append-nil (accepted heard)

-- ---- accepted lines are right

one_right : (said : LineView) (line : List ℕ) (number : ℕ) (heard : List Heard) → ((n : ℕ) → first_wrong n heard ≡ None)
    → first_wrong number (if_accepted said (record { line = line; said = said }) ++ heard) ≡ None
one_right None line number heard later = later number
one_right (Some (Ok message)) line number heard later = later (number + 1)
one_right (Some (Err why)) line number heard later = later number

pub none_wrong : (heard : List Heard) (number : ℕ) → first_wrong number (accepted heard) ≡ None
none_wrong [] number = refl
none_wrong (one ∷ heard) number = one_right one.said one.line number (accepted heard) (none_wrong heard)

-- ---- how many messages lines have

one_accepted : (said : LineView) (one : Heard) (next : ℕ) → next + length (if_accepted said one) ≡ next_after next said
one_accepted None one next = omega arith
one_accepted (Some (Ok message)) one next = omega arith
one_accepted (Some (Err why)) one next = omega arith

pub accepted_many : (next : ℕ) (heard : List Heard) → next + length (accepted heard) ≡ next_behind next heard
accepted_many next [] = omega arith
accepted_many next (one ∷ heard) =
    omega (arith, accepted_many (next_after next one.said) heard, one_accepted one.said one next, length-append (if_accepted one.said one) (accepted heard))

-- ---- what is given of lines

pub given_split : (count : ℕ) (heard : List Heard) → given_of heard ≡ given_of (take count heard) ++ given_of (drop count heard)
given_split zero heard = refl
given_split (suc count) [] = refl
given_split (suc count) (one ∷ heard) =
    ap (λ l. given_by one.said ++ l) (given_split count heard) ∙ sym (append_assoc (given_by one.said) (given_of (take count heard)) (given_of (drop count heard)))

one_again : (said : LineView) (line : List ℕ) (items : List (ℕ × Speech)) (heard : List Heard) → given_of heard ≡ items
    → given_of (if_accepted said (record { line = line; said = said }) ++ heard) ≡ given_by said ++ items
one_again None line items heard is = is
one_again (Some (Ok message)) line items heard is = ap (λ l. (message.at, message.speech) ∷ l) is
one_again (Some (Err why)) line items heard is = is

-- just the accepted lines give as much
pub given_accepted : (heard : List Heard) → given_of (accepted heard) ≡ given_of heard
given_accepted [] = refl
given_accepted (one ∷ heard) = one_again one.said one.line (given_of heard) (accepted heard) (given_accepted heard)

-- ---- what is logged of lines

one_logged : (said : LineView) (line log : List ℕ) (heard : List Heard) → logged_of heard ≡ log → logged_of (if_accepted said (record { line = line; said = said }) ++ heard) ≡ put_down line said ++ log
one_logged None line log heard is = is
one_logged (Some (Ok message)) line log heard is = ap (λ l. line ++ l) is
one_logged (Some (Err why)) line log heard is = is

logged_accepted : (heard : List Heard) → logged_of (accepted heard) ≡ logged_of heard
logged_accepted [] = refl
logged_accepted (one ∷ heard) = one_logged one.said one.line (logged_of heard) (accepted heard) (logged_accepted heard)

-- of the lines of a log, and those behind them, as much is logged as of all lines
pub logged_again : (heard later : List Heard) → logged_of (accepted heard ++ later) ≡ logged_of (heard ++ later)
logged_again heard later = logged_on (accepted heard) later ∙ ap (λ l. l ++ logged_of later) (logged_accepted heard) ∙ sym (logged_on heard later)
