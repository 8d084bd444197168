-- What is heard in silence.
use Rattle.std.proofs.Common.{◌≡◌, ◌≤◌, ◌<◌, ◌+◌, ◌++◌, ◌∙◌, ℕ, true, Some, None, List, [], ◌∷◌, Ok, Err, refl, ap, arith}
use Rattle.std.proofs.lemmas.Bool.Decides.{nat_tests}
use Rattle.std.specs.Prelude.{nat_lt}
use Rattle.live_answers.proofs.Again.{heard_again}
use Rattle.live_answers.specs.Laws.{ReplaysAreSilent, accepted, if_accepted, last_behind, next_behind}
use Rattle.live_answers.specs.Lines.{live_lines}
use Rattle.live_answers.specs.Live.{Heard, heard_after, heard_in, next_after, text_after}
use Rattle.live_answers.specs.Standing.{LineView}
use Rattle.live_answers.specs.declared.replay.Replay.{Replay}
use Rattle.run_values.specs.declared.post.Answer.{Answer}

pub no_fewer : (said : LineView) (next : ℕ) → next ≤ next_after next said
no_fewer None next = omega arith
no_fewer (Some (Ok message)) next = omega arith
no_fewer (Some (Err why)) next = omega arith

-- no fewer are accepted behind more lines
pub none_less : (heard : List Heard) (next : ℕ) → next ≤ next_behind next heard
none_less [] next = omega arith
none_less (one ∷ heard) next = omega (arith, none_less heard (next_after next one.said), no_fewer one.said next)

is_less : (a b : ℕ) → a < b → nat_lt a b ≡ true
is_less a b less = grind (arith, nat_tests, less)

-- so many messages are heard in silence, and their lines aren't counted
abbrev pub silent : ℕ → Replay
silent count = record { messages = count; quiet = count }

-- accepted lines of which nothing is printed
abbrev IsSilent : ℕ → List Answer → ℕ → ℕ → List Heard → List Heard → Type 0
IsSilent count answers line next heard later =
    text_after (silent count) answers line next (accepted heard ++ later) ≡ text_after (silent count) answers line (next_behind next heard) later

one_silent : (count : ℕ) (answers : List Answer) (line next : ℕ) (text : List ℕ) (said : LineView) (heard later : List Heard) → next_behind (next_after next said) heard ≤ count
    → IsSilent count answers line (next_after next said) heard later
    → text_after (silent count) answers line next ((if_accepted said (record { line = text; said = said }) ++ accepted heard) ++ later)
    ≡ text_after (silent count) answers line (next_behind (next_after next said) heard) later
one_silent count answers line next text None heard later most is = is
one_silent count answers line next text (Some (Err why)) heard later most is = is
one_silent count answers line next text (Some (Ok message)) heard later most is =
    let less : nat_lt next count ≡ true = is_less next count (omega (arith, most, none_less heard (next + 1))) in
    rw less is

pub are_silent : (count : ℕ) (answers : List Answer) (line next : ℕ) (heard later : List Heard) → next_behind next heard ≤ count → IsSilent count answers line next heard later
are_silent count answers line next [] later most = refl
are_silent count answers line next (one ∷ heard) later most =
    one_silent count answers line next one.line one.said heard later most (are_silent count answers line (next_after next one.said) heard later most)

pub replays_silent : ReplaysAreSilent
replays_silent text rest answers =
    let heard = heard_in text in
    let count = next_behind 0 heard in
    let later = heard_after count (last_behind 0 heard) (live_lines rest) in
    ap (text_after (silent count) answers 1 0) (heard_again text rest) ∙ are_silent count answers 1 0 heard later (omega arith)
