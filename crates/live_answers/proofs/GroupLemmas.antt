-- Lines that are taken at once.
use Rattle.std.proofs.Common.{◌≡◌, ◌+◌, ◌-◌, ◌<◌, ◌≤◌, ℕ, zero, suc, Option, Some, None, List, [], ◌∷◌, ◌++◌, Ok, Err, get_or, drop, length, length-append, map, refl, sym, ap, ◌∙◌, arith, append_assoc, append-nil}
use Rattle.std.proofs.lemmas.List.{drop_more, map-append}
use Rattle.std.specs.Prelude.{IfSome, flat_map, slice_get}
use Rattle.std.specs.Io.BufRead.{drop_through, take_through}
use Rattle.std.specs.Io.KnownBytes.{IsAtEnd}
use Rattle.live_answers.proofs.LineLemmas.{line_first}
use Rattle.live_answers.proofs.Silence.{none_less}
use Rattle.live_answers.specs.Groups.{TakesOf, group_rows, line_behind, views_in}
use Rattle.live_answers.specs.Laws.{last_behind, next_behind}
use Rattle.live_answers.specs.Lines.{kept, live_lines}
use Rattle.live_answers.specs.Live.{Heard, given_by, given_of, heard_after, last_after, logged_of, next_after, text_after}
use Rattle.live_answers.specs.Rows.{line_behind_log, put_down, rows_of_line}
use Rattle.live_answers.specs.Said.{line_view_of}
use Rattle.live_answers.specs.Standing.{LineView, said_after}
use Rattle.live_answers.specs.declared.judging.Said.{Said}
use Rattle.live_answers.specs.declared.replay.Replay.{Replay}
use Rattle.live_answers.specs.declared.stage.Left.TheVariants as left
use Rattle.run_values.specs.declared.post.Answer.{Answer}

-- what is left of a list from a place on
pub next_left : {X : Type 0} (xs : List X) (i : ℕ) (x : X) → i < length xs → x ≡ get_or xs i x → drop i xs ≡ x ∷ drop (i + 1) xs
next_left xs i x within is = drop_more xs i x within ∙ ap (λ y. y ∷ drop (i + 1) xs) (sym is)

-- a line accepts one message, or none
pub at_least : (said : LineView) (next : ℕ) → next ≤ next_after next said
at_least None next = omega arith
at_least (Some (Ok message)) next = omega arith
at_least (Some (Err why)) next = omega arith

pub no_more : (said : LineView) (next : ℕ) → next_after next said ≤ next + 1
no_more None next = omega arith
no_more (Some (Ok message)) next = omega arith
no_more (Some (Err why)) next = omega arith

-- ---- what is printed

-- the number of one line more
pub line_more : (replay : Replay) (line next : ℕ) (one : Said) (said later : List Said) (here behind : ℕ) → here ≡ line_behind_log replay next line → behind ≡ next_after next (line_view_of one)
    → said ≡ one ∷ later → line_behind replay here behind (map line_view_of later) ≡ line_behind replay line next (map line_view_of said)
line_more replay line next one said later here behind here_is behind_is is =
    ap (λ h. line_behind replay h behind (map line_view_of later)) here_is
    ∙ ap (λ b. line_behind replay (line_behind_log replay next line) b (map line_view_of later)) behind_is ∙ ap (λ l. line_behind replay line next (map line_view_of l)) (sym is)

-- the rows of one line more
pub rows_more : (replay : Replay) (first : ℕ) (answers : List Answer) (line next : ℕ) (one : Said) (later : List Said) (text new : List ℕ) (here behind : ℕ) (answer : Option Answer)
    → here ≡ line_behind_log replay next line → behind ≡ next_after next (line_view_of one) → answer ≡ slice_get answers (next - first)
    → new ≡ text ++ rows_of_line replay.quiet here next answer (line_view_of one)
    → new ++ group_rows replay first answers here behind (map line_view_of later) ≡ text ++ group_rows replay first answers line next (map line_view_of (one ∷ later))
rows_more replay first answers line next one later text new here behind answer here_is behind_is answer_is new_is =
    let rows = rows_of_line replay.quiet here next answer (line_view_of one) in
    ap (λ l. l ++ group_rows replay first answers here behind (map line_view_of later)) new_is
    ∙ append_assoc text rows (group_rows replay first answers here behind (map line_view_of later))
    ∙ ap (λ b. text ++ (rows ++ group_rows replay first answers here b (map line_view_of later))) behind_is
    ∙ ap (λ a. text ++ (rows_of_line replay.quiet here next a (line_view_of one) ++ group_rows replay first answers here (next_after next (line_view_of one)) (map line_view_of later))) answer_is
    ∙ ap (λ h. text ++ (rows_of_line replay.quiet h next (slice_get answers (next - first)) (line_view_of one) ++ group_rows replay first answers h (next_after next (line_view_of one)) (map line_view_of later))) here_is

-- ---- what is taken

-- lines that were taken, and what they say behind those before them
pub record HasTaken (old new : Option (List ℕ)) (next last : ℕ) (said : List LineView) (logged : List ℕ) (next_now last_now count : ℕ) : Type 0 where
  pub lines : List (List ℕ)
  pub few : length lines ≤ count
  pub takes : TakesOf old new left.Lines lines
  pub said_is : said ≡ views_in (heard_after next last lines)
  pub logged_is : logged ≡ logged_of (heard_after next last lines)
  pub next_is : next_now ≡ next_behind next (heard_after next last lines)
  pub last_is : last_now ≡ last_behind last (heard_after next last lines)
  pub room : next_now ≤ next + count

-- a line was taken of what is left
abbrev pub TakesOne : Option (List ℕ) → Option (List ℕ) → List ℕ → Type 0
TakesOne old new line = IfSome old (λ text. (0 < length text) × (line ≡ kept (take_through 10 text)) × (new ≡ Some (drop_through 10 text)))

nothing_of : (old : Option (List ℕ)) → TakesOf old old left.Lines []
nothing_of None = tt
nothing_of (Some text) = (text, refl, refl)

pub none_taken : (old : Option (List ℕ)) (next last : ℕ) (said : List LineView) (logged : List ℕ) → said ≡ [] → logged ≡ [] → HasTaken old old next last said logged next last 0
none_taken old next last said logged said_is logged_is = record {
  lines = [];
  few = omega arith;
  takes = nothing_of old;
  said_is = said_is;
  logged_is = logged_is;
  next_is = refl;
  last_is = refl;
  room = omega arith;
}

pub heard_on : (next last : ℕ) (lines more : List (List ℕ)) → heard_after next last (lines ++ more)
    ≡ heard_after next last lines ++ heard_after (next_behind next (heard_after next last lines)) (last_behind last (heard_after next last lines)) more
heard_on next last [] more = refl
heard_on next last (line ∷ lines) more =
    let said = said_after next last line in
    ap (λ h. record { line = line; said = said } ∷ h) (heard_on (next_after next said) (last_after last said) lines more)

next_on : (next : ℕ) (heard more : List Heard) → next_behind next (heard ++ more) ≡ next_behind (next_behind next heard) more
next_on next [] more = refl
next_on next (one ∷ heard) more = next_on (next_after next one.said) heard more

last_on : (last : ℕ) (heard more : List Heard) → last_behind last (heard ++ more) ≡ last_behind (last_behind last heard) more
last_on last [] more = refl
last_on last (one ∷ heard) more = last_on (last_after last one.said) heard more

pub logged_on : (heard more : List Heard) → logged_of (heard ++ more) ≡ logged_of heard ++ logged_of more
logged_on [] more = refl
logged_on (one ∷ heard) more =
    ap (λ l. put_down one.line one.said ++ l) (logged_on heard more) ∙ sym (append_assoc (put_down one.line one.said) (logged_of heard) (logged_of more))

pub given_on : (heard more : List Heard) → given_of (heard ++ more) ≡ given_of heard ++ given_of more
given_on [] more = refl
given_on (one ∷ heard) more =
    ap (λ l. given_by one.said ++ l) (given_on heard more) ∙ sym (append_assoc (given_by one.said) (given_of heard) (given_of more))

takes_more : (old mid new : Option (List ℕ)) (lines : List (List ℕ)) (line : List ℕ) → TakesOf old mid left.Lines lines → TakesOne mid new line → TakesOf old new left.Lines (lines ++ line ∷ [])
takes_more None mid new lines line takes one = tt
takes_more (Some text) mid new lines line (rest, split, is) one =
    let (some, line_is, left_is) = rw is at one in
    let behind = live_lines (drop_through 10 rest) in (
      drop_through 10 rest,
      split ∙ ap (λ l. lines ++ l) (line_first rest some ∙ ap (λ l. l ∷ behind) (sym line_is)) ∙ sym (append_assoc lines (line ∷ []) behind),
      left_is,
    )

pub one_taken : (old mid new : Option (List ℕ)) (next last : ℕ) (said more : List LineView) (logged put : List ℕ) (next_now last_now next_then last_then count : ℕ) (line : List ℕ)
    → HasTaken old mid next last said logged next_now last_now count → TakesOne mid new line
    → more ≡ said ++ said_after next_now last_now line ∷ [] → put ≡ logged ++ put_down line (said_after next_now last_now line)
    → next_then ≡ next_after next_now (said_after next_now last_now line) → last_then ≡ last_after last_now (said_after next_now last_now line)
    → HasTaken old new next last more put next_then last_then (count + 1)
one_taken old mid new next last said more logged put next_now last_now next_then last_then count line has takes more_is put_is next_is last_is =
    let heard = heard_after next last has.lines in
    let says = said_after next_now last_now line in
    let one : Heard = record { line = line; said = says } in
    let behind : heard_after next last (has.lines ++ line ∷ []) ≡ heard ++ one ∷ [] =
    heard_on next last has.lines (line ∷ [])
    ∙ ap (λ n. heard ++ heard_after n (last_behind last heard) (line ∷ [])) (sym has.next_is) ∙ ap (λ m. heard ++ heard_after next_now m (line ∷ [])) (sym has.last_is) in
    record {
      lines = has.lines ++ line ∷ [];
      few = omega (arith, has.few, length-append has.lines (line ∷ []));
      takes = takes_more old mid new has.lines line has.takes takes;
      said_is = more_is ∙ ap (λ l. l ++ says ∷ []) has.said_is ∙ sym (map-append (λ (it : Heard). it.said) heard (one ∷ [])) ∙ sym (ap views_in behind);
      logged_is = put_is ∙ ap (λ l. l ++ put_down line says) has.logged_is ∙ ap (λ l. logged_of heard ++ l) (sym (append-nil (put_down line says)))
          ∙ sym (logged_on heard (one ∷ [])) ∙ sym (ap logged_of behind);
      next_is = next_is ∙ ap (λ n. next_after n says) has.next_is ∙ sym (next_on next heard (one ∷ [])) ∙ sym (ap (next_behind next) behind);
      last_is = last_is ∙ ap (λ m. last_after m says) has.last_is ∙ sym (last_on last heard (one ∷ [])) ∙ sym (ap (last_behind last) behind);
      room = omega (arith, has.room, next_is, no_more says next_now);
    }

-- behind them no line is left
pub at_end : (old mid new : Option (List ℕ)) (lines : List (List ℕ)) → TakesOf old mid left.Lines lines → IsAtEnd mid → TakesOf old new left.Nothing lines
at_end None mid new lines takes ends = tt
at_end (Some text) mid new lines (rest, split, is) ends = (rest, split, rw is at ends)

-- or none that can be read
pub cut_off : (old mid new : Option (List ℕ)) (lines : List (List ℕ)) → TakesOf old mid left.Lines lines → TakesOf old new left.Unread lines
cut_off None mid new lines takes = tt
cut_off (Some text) mid new lines (rest, split, is) = (rest, split, tt)

-- ---- what lines come to, and those behind them

pub given_each : (heard : List Heard) → flat_map given_by (views_in heard) ≡ given_of heard
given_each [] = refl
given_each (one ∷ heard) = ap (λ l. given_by one.said ++ l) (given_each heard)

-- so many messages are given
pub given_many : (next : ℕ) (heard : List Heard) → next + length (given_of heard) ≡ next_behind next heard
given_many next [] = omega arith
given_many next (one ∷ heard) = by_said one.said (λ n. given_many n heard)
  where
    by_said : (said : LineView) → ((n : ℕ) → n + length (given_of heard) ≡ next_behind n heard) → next + length (given_by said ++ given_of heard) ≡ next_behind (next_after next said) heard
    by_said None many = many next
    by_said (Some (Err why)) many = many next
    by_said (Some (Ok message)) many =
        let one_more : next + suc (length (given_of heard)) ≡ next + 1 + length (given_of heard) = omega arith in
        one_more ∙ many (next + 1)

pub text_on : (replay : Replay) (all : List Answer) (line next : ℕ) (heard more : List Heard)
    → text_after replay all line next (heard ++ more)
    ≡ text_after replay all line next heard ++ text_after replay all (line_behind replay line next (views_in heard)) (next_behind next heard) more
text_on replay all line next [] more = refl
text_on replay all line next (one ∷ heard) more =
    let here = line_behind_log replay next line in
    let behind = next_after next one.said in
    let rows = rows_of_line replay.quiet here next (slice_get all next) one.said in
    ap (λ l. rows ++ l) (text_on replay all here behind heard more)
    ∙ sym (append_assoc rows (text_after replay all here behind heard) (text_after replay all (line_behind replay here behind (views_in heard)) (next_behind behind heard) more))

-- ---- the answers to their messages, among the answers to all

pub got_first : {X : Type 0} (answers more : List X) (k : ℕ) → k < length answers → slice_get (answers ++ more) k ≡ slice_get answers k
got_first [] more k within = absurd (omega (arith, within))
got_first (answer ∷ answers) more zero within = refl
got_first (answer ∷ answers) more (suc k) within = got_first answers more k (omega (arith, within))

got_behind : (before behind : List Answer) (k : ℕ) → slice_get (before ++ behind) (length before + k) ≡ slice_get behind k
got_behind [] behind k =
    let none : 0 + k ≡ k = omega arith in
    ap (slice_get behind) none
got_behind (answer ∷ before) behind k =
    let one : suc (length before) + k ≡ suc (length before + k) = omega arith in
    ap (slice_get (answer ∷ (before ++ behind))) one ∙ got_behind before behind k

got_there : (before answers more : List Answer) (n : ℕ) → length before ≤ n → n < length before + length answers → slice_get answers (n - length before) ≡ slice_get (before ++ (answers ++ more)) n
got_there before answers more n least most =
    let k = n - length before in
    let there : length before + k ≡ n = omega (arith, least) in
    sym (ap (slice_get (before ++ (answers ++ more))) (sym there) ∙ got_behind before (answers ++ more) k ∙ got_first answers more k (omega (arith, least, most)))

same_row : (quiet line next : ℕ) (one other : Option Answer) (said : LineView) → (next_after next said ≡ next + 1 → one ≡ other) → rows_of_line quiet line next one said ≡ rows_of_line quiet line next other said
same_row quiet line next one other None same = refl
same_row quiet line next one other (Some (Err why)) same = refl
same_row quiet line next one other (Some (Ok message)) same = ap (λ a. rows_of_line quiet line next a (Some (Ok message))) (same refl)

-- their rows are those that all the answers come to
pub rows_are : (replay : Replay) (before answers more : List Answer) (line next : ℕ) (heard : List Heard) → length before ≤ next → next_behind next heard ≤ length before + length answers
    → group_rows replay (length before) answers line next (views_in heard) ≡ text_after replay (before ++ (answers ++ more)) line next heard
rows_are replay before answers more line next [] least most = refl
rows_are replay before answers more line next (one ∷ heard) least most =
    let here = line_behind_log replay next line in
    let behind = next_after next one.said in
    let row = same_row replay.quiet here next (slice_get answers (next - length before)) (slice_get (before ++ (answers ++ more)) next) one.said
    (λ longer. got_there before answers more next least (omega (arith, most, longer, none_less heard behind))) in
    ap (λ l. l ++ group_rows replay (length before) answers here behind (views_in heard)) row
    ∙ ap (λ l. rows_of_line replay.quiet here next (slice_get (before ++ (answers ++ more)) next) one.said ++ l)
    (rows_are replay before answers more here behind heard (omega (arith, least, at_least one.said next)) most)
