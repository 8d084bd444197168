-- Two runs of one worker that are given the same.
use Rattle.std.specs.Prelude.{◌≡◌, ◌++◌, ℕ, None, List, All, map}
use Rattle.live_answers.specs.Laws.{last_behind, next_behind, silence}
use Rattle.live_answers.specs.Lines.{live_lines}
use Rattle.live_answers.specs.Live.{heard_after, heard_in, logged_of, replayed_text, text_after}
use Rattle.run_values.specs.Setups.{Setup}
use Rattle.run_values.specs.declared.post.Answer.{Answer}
use Rattle.run_values.specs.declared.post.Body.{Body}
use Rattle.runs_core.specs.Runs.{IsRun}
use Rattle.account_core.specs.Closed.{Closed}
use Rattle.turn_account.specs.Seen.{StoodIn}
use Rattle.tariff_core.specs.Laws.{IsProper}
use Rattle.runs_core.specs.Handled.{AnswerView, answer_view}

-- no account has refused an ask for any of these answers
abbrev pub NoneIsRefused : List Answer → Type 0
NoneIsRefused answers = All (λ answer. answer.refused ≡ None) answers

-- what the answers say
abbrev pub views_of : List Answer → List AnswerView
views_of answers = map answer_view answers

-- where a run is given what another was given, and then perhaps more, its answers begin with those of the other
abbrev pub LongerRunsAnswerAlike : Type 0
LongerRunsAnswerAlike =
    (setup : Setup) (given more : List (ℕ × Body)) (answers longer : List Answer) (books other : List Closed) → IsProper setup.tariff
    → IsRun StoodIn setup 1 given answers books → IsRun StoodIn setup 1 (given ++ more) longer other → NoneIsRefused answers → NoneIsRefused longer
    → (rest : List AnswerView) × (views_of longer ≡ views_of answers ++ rest)

-- where two runs are given the same, they answer the same, and come to the same books
abbrev pub RunsAreAlike : Type 0
RunsAreAlike =
    (setup : Setup) (given : List (ℕ × Body)) (answers others : List Answer) (books other : List Closed) → IsProper setup.tariff
    → IsRun StoodIn setup 1 given answers books → IsRun StoodIn setup 1 given others other → NoneIsRefused answers → NoneIsRefused others
    → (views_of answers ≡ views_of others) × (books ≡ other)

-- what a restart prints, which hears the log of lines in silence and then takes further lines: just what a run that was never cut off, and that was given the same, answers to these further lines
abbrev pub RestartsPrintTheRest : Type 0
RestartsPrintTheRest =
    (setup : Setup) (text rest : List ℕ) (given : List (ℕ × Body)) (answers others : List Answer) (books other : List Closed) → IsProper setup.tariff
    → IsRun StoodIn setup 1 given answers books → IsRun StoodIn setup 1 given others other → NoneIsRefused answers → NoneIsRefused others
    → replayed_text (silence (heard_in text)) others (heard_in (logged_of (heard_in text) ++ rest))
    ≡ text_after (silence (heard_in text)) answers 1 (next_behind 0 (heard_in text))
    (heard_after (next_behind 0 (heard_in text)) (last_behind 0 (heard_in text)) (live_lines rest))
