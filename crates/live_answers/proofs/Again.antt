-- A log is heard again.
use Rattle.std.proofs.Common.{◌≡◌, ◌==◌, ◌+◌, ◌-◌, ◌<◌, ◌≤◌, ℕ, suc, Bool, true, false, Some, None, List, [], ◌∷◌, ◌++◌, Ok, Err, length, length-append, map, take, refl, sym, ap, subst, ◌∙◌, arith, append_assoc, take_all}
use Rattle.std.proofs.lemmas.Bool.{ltb-false}
use Rattle.std.proofs.lemmas.Bool.Decides.{nat_tests}
use Rattle.std.specs.Prelude.{if◌then◌else◌, nat_lt, ⊤}
use Rattle.std.specs.Io.BufRead.{drop_through, ends_with_byte, take_through}
use Rattle.live_answers.proofs.LineLemmas.{is_whole, line_first}
use Rattle.live_answers.specs.Laws.{LogsAreHeardAgain, accepted, last_behind, next_behind}
use Rattle.live_answers.specs.Lines.{with_line_end, kept, live_lines}
use Rattle.live_answers.specs.Live.{Heard, heard_after, last_after, logged_of, next_after}
use Rattle.live_answers.specs.Standing.{LineView, said_after, standing}
use Rattle.run_texts.specs.declared.kind.LineKind.TheVariants as kind
use Rattle.run_texts.specs.Lines.{line_message}
use Rattle.run_texts.specs.Messages.{MessageView}
use Rattle.run_texts.specs.Sections.{with_first_byte, lines_in_text}

-- ---- the lines of a text

-- a line that was taken of a text
abbrev pub IsTaken : List ℕ → Type 0
IsTaken line = (text : List ℕ) × (line ≡ take_through 10 text)

abbrev pub AreTaken : List (List ℕ) → Type 0
AreTaken [] = ⊤
AreTaken (line ∷ lines) = IsTaken line × AreTaken lines

begins_taken : (c : ℕ) (lines : List (List ℕ)) → (c == 10) ≡ false → AreTaken lines → AreTaken (with_first_byte c lines)
begins_taken c [] is taken = ((c ∷ [], rw is refl), tt)
begins_taken c (line ∷ lines) is taken = ((c ∷ taken.0.0, ap (λ l. c ∷ l) taken.0.1 ∙ rw is refl), taken.1)

by_first : (ends : Bool) (c : ℕ) (text : List ℕ) → (c == 10) ≡ ends → AreTaken (lines_in_text text) → AreTaken (if ends then (c ∷ []) ∷ lines_in_text text else with_first_byte c (lines_in_text text))
by_first true c text is taken = ((c ∷ [], rw is refl), taken)
by_first false c text is taken = begins_taken c (lines_in_text text) is taken

all_taken : (text : List ℕ) → AreTaken (lines_in_text text)
unfolding lines_in_text
all_taken [] = tt
all_taken (c ∷ text) = by_first (c == 10) c text refl (all_taken text)

-- ---- a line with its LF is taken again

has_bytes : (x : ℕ) (line : List ℕ) → nat_lt 0 (length (x ∷ line)) ≡ true
has_bytes x line = grind (arith, nat_tests)

ends_later : (x y : ℕ) (line : List ℕ) → ends_with_byte 10 (x ∷ y ∷ line) ≡ ends_with_byte 10 (y ∷ line)
ends_later x y line =
    let one : length (x ∷ y ∷ line) - 1 ≡ suc (length (y ∷ line) - 1) = omega arith in
    rw (one, has_bytes x (y ∷ line), has_bytes y line) refl

ended_later : (x : ℕ) (line : List ℕ) → (x == 10) ≡ false → with_line_end (x ∷ line) ≡ x ∷ with_line_end line
ended_later x [] is = rw is refl
ended_later x (y ∷ line) is = ap (λ b. if b then x ∷ y ∷ line else x ∷ y ∷ (line ++ 10 ∷ [])) (ends_later x y line) ∙ either (ends_with_byte 10 (y ∷ line))
  where
    either : (b : Bool) → (if b then x ∷ y ∷ line else x ∷ y ∷ (line ++ 10 ∷ [])) ≡ x ∷ (if b then y ∷ line else y ∷ (line ++ 10 ∷ []))
    either true = refl
    either false = refl

-- what follows a line with its LF is left of it
record Parts (line rest : List ℕ) : Type 0 where
  taken : take_through 10 (line ++ rest) ≡ line
  left : drop_through 10 (line ++ rest) ≡ rest
  whole : with_line_end line ≡ line
  some : 0 < length line

parts_by : (ends : Bool) (x : ℕ) (text rest : List ℕ) → (x == 10) ≡ ends → Parts (with_line_end (take_through 10 text)) rest
    → Parts (with_line_end (if ends then x ∷ [] else x ∷ take_through 10 text)) rest
parts_by true x text rest is parts =
    let alone : with_line_end (x ∷ []) ≡ x ∷ [] = rw is refl in
    subst (λ l. Parts l rest) (sym alone) (record { taken = rw is refl; left = rw is refl; whole = alone; some = omega arith })
parts_by false x text rest is parts =
    let line = take_through 10 text in
    subst (λ l. Parts l rest) (sym (ended_later x line is)) (record {
      taken = rw is (ap (λ l. x ∷ l) parts.taken);
      left = rw is parts.left;
      whole = ended_later x (with_line_end line) is ∙ ap (λ l. x ∷ l) parts.whole;
      some = omega arith;
    })

parts_of : (text rest : List ℕ) → Parts (with_line_end (take_through 10 text)) rest
parts_of [] rest = record { taken = refl; left = refl; whole = refl; some = omega arith }
parts_of (x ∷ text) rest = parts_by (x == 10) x text rest refl (parts_of text rest)

-- ---- an accepted line

not_long : (long : Bool) (said : LineView) (message : MessageView) → (if long then Some (Err kind.TooLong) else said) ≡ Some (Ok message) → long ≡ false
not_long true said message is = absurd (cc)
not_long false said message is = refl

short_enough : (next last : ℕ) (line : List ℕ) (message : MessageView) → said_after next last line ≡ Some (Ok message) → length line ≤ 4096
short_enough next last line message is = ltb-false 4096 (length line) (not_long (nat_lt 4096 (length line)) (standing next last (line_message line)) message is)

-- a line of a log is read again as it is
line_again : (raw rest : List ℕ) → IsTaken raw → length (kept raw) ≤ 4096 → live_lines (kept raw ++ rest) ≡ kept raw ∷ live_lines rest
line_again raw rest taken short =
    let line = kept raw in
    let all : line ≡ with_line_end raw = is_whole line (with_line_end raw) refl short in
    let parts : Parts line rest = subst (λ l. Parts l rest) (sym all) (subst (λ r. Parts (with_line_end r) rest) (sym taken.1) (parts_of taken.0 rest)) in
    let same : kept (take_through 10 (line ++ rest)) ≡ line =
    ap kept parts.taken ∙ ap (take 4097) parts.whole ∙ take_all 4097 line (omega (arith, short)) in
    line_first (line ++ rest) (omega (arith, parts.some, length-append line rest))
    ∙ ap (λ l. l ∷ live_lines (drop_through 10 (line ++ rest))) same ∙ ap (λ r. line ∷ live_lines r) parts.left

-- ---- all lines

-- a line, and what it says
abbrev this_line : List ℕ → LineView → Heard
this_line line said = record { line = line; said = said }

-- a log and what is behind it
abbrev IsHeardAgain : ℕ → ℕ → List (List ℕ) → List ℕ → Type 0
IsHeardAgain next last lines rest =
    heard_after next last (live_lines (logged_of (heard_after next last lines) ++ rest))
    ≡ accepted (heard_after next last lines)
    ++ heard_after (next_behind next (heard_after next last lines)) (last_behind last (heard_after next last lines)) (live_lines rest)

-- the same of a first line that says this
abbrev SaysAgain : ℕ → ℕ → List ℕ → List (List ℕ) → List ℕ → LineView → Type 0
SaysAgain next last line lines rest said =
    heard_after next last (live_lines (logged_of (this_line line said ∷ heard_after (next_after next said) (last_after last said) lines) ++ rest))
    ≡ accepted (this_line line said ∷ heard_after (next_after next said) (last_after last said) lines)
    ++ heard_after (next_behind (next_after next said) (heard_after (next_after next said) (last_after last said) lines))
    (last_behind (last_after last said) (heard_after (next_after next said) (last_after last said) lines)) (live_lines rest)

says_again : (said : LineView) (next last : ℕ) (raw : List ℕ) (lines : List (List ℕ)) (rest : List ℕ) → IsTaken raw → said_after next last (kept raw) ≡ said
    → IsHeardAgain (next_after next said) (last_after last said) lines rest → SaysAgain next last (kept raw) lines rest said
says_again None next last raw lines rest taken is again = again
says_again (Some (Err why)) next last raw lines rest taken is again = again
says_again (Some (Ok message)) next last raw lines rest taken is again =
    let line = kept raw in
    let later = heard_after (next + 1) message.at lines in
    let behind = logged_of later ++ rest in
    let short = short_enough next last line message is in
    let first : live_lines ((line ++ logged_of later) ++ rest) ≡ line ∷ live_lines behind =
    ap live_lines (append_assoc line (logged_of later) rest) ∙ line_again raw behind taken short in
    ap (heard_after next last) first
    ∙ ap (λ s. this_line line s ∷ heard_after (next_after next s) (last_after last s) (live_lines behind)) is
    ∙ ap (λ h. this_line line (Some (Ok message)) ∷ h) again

all_again : (next last : ℕ) (raws : List (List ℕ)) (rest : List ℕ) → AreTaken raws → IsHeardAgain next last (map kept raws) rest
all_again next last [] rest taken = refl
all_again next last (raw ∷ raws) rest taken =
    let said = said_after next last (kept raw) in
    says_again said next last raw (map kept raws) rest taken.0 refl (all_again (next_after next said) (last_after last said) raws rest taken.1)

pub heard_again : LogsAreHeardAgain
heard_again text rest = all_again 0 0 (lines_in_text text) rest (all_taken text)
