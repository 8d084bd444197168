-- Lines that are taken at once.
use Rattle.std.specs.Prelude.{◌≡◌, ◌-◌, ◌++◌, ℕ, Option, Some, List, [], ◌∷◌, IfSome, length, map, slice_get, ⊤}
use Rattle.live_answers.specs.Lines.{live_lines}
use Rattle.live_answers.specs.Live.{Heard, heard_after, next_after}
use Rattle.live_answers.specs.Rows.{line_behind_log, rows_of_line}
use Rattle.live_answers.specs.Standing.{LineView, last_item_moment}
use Rattle.live_answers.specs.declared.replay.Replay.{Replay}
use Rattle.live_answers.specs.declared.stage.Left.{Left}
use Rattle.live_answers.specs.declared.stage.Left.TheVariants as left
use Rattle.live_answers.specs.declared.stage.Stage.{Stage}
use Rattle.live_answers.specs.declared.stage.Stage.TheVariants as stage
use Rattle.run_values.specs.declared.post.Answer.{Answer}
use Rattle.run_values.specs.declared.post.Body.{Body}

-- what is printed of lines that say this, behind the line of a number, where so many messages were accepted before them, and the first of these answers is to
-- the message of the first number
abbrev pub group_rows : Replay → ℕ → List Answer → ℕ → ℕ → List LineView → List ℕ
group_rows replay first answers line next [] = []
group_rows replay first answers line next (said ∷ more) =
    rows_of_line replay.quiet (line_behind_log replay next line) next (slice_get answers (next - first)) said
    ++ group_rows replay first answers (line_behind_log replay next line) (next_after next said) more

-- the number of the last of some lines behind the line of a number
abbrev pub line_behind : Replay → ℕ → ℕ → List LineView → ℕ
line_behind replay line next [] = line
line_behind replay line next (said ∷ more) = line_behind replay (line_behind_log replay next line) (next_after next said) more

-- what is left of an input is this text, as far as it can be read
abbrev pub LeftIn : Left → Option (List ℕ) → List ℕ → Type 0
LeftIn left.Lines known text = known ≡ Some text
LeftIn left.Nothing known text = text ≡ []
LeftIn left.Unread known text = ⊤

-- the same of a run, which has nothing left where it has ended
abbrev pub LeftAt : Stage → Option (List ℕ) → List ℕ → Type 0
LeftAt (stage.Open left) known text = LeftIn left known text
LeftAt stage.Ended known text = ⊥
LeftAt (stage.Failed why) known text = ⊥

-- a text begins with these lines
abbrev pub BeginsWithLines : List (List ℕ) → List ℕ → Type 0
BeginsWithLines lines text = (rest : List ℕ) × (live_lines text ≡ lines ++ live_lines rest)

-- these lines were taken of an input
abbrev pub TakesOf : Option (List ℕ) → Option (List ℕ) → Left → List (List ℕ) → Type 0
TakesOf old new left lines = IfSome old (λ text. (rest : List ℕ) × (live_lines text ≡ lines ++ live_lines rest) × LeftIn left new rest)

-- what lines say behind all that was given
abbrev pub heard_behind : List (ℕ × Body) → List (List ℕ) → List Heard
heard_behind given lines = heard_after (length given) (last_item_moment given) lines

-- what each of them says
abbrev pub views_in : List Heard → List LineView
views_in heard = map (λ (one : Heard). one.said) heard
