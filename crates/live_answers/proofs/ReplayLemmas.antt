-- The lines of a log are judged one by one.
use Rattle.std.proofs.Common.{◌≡◌, ◌<◌, ◌+◌, ◌∙◌, ℕ, suc, Some, None, List, ◌∷◌, Ok, Err, length, refl, sym, ap, arith}
use Rattle.std.specs.Io.BufRead.{drop_through, take_through}
use Rattle.live_answers.proofs.LineLemmas.{line_first}
use Rattle.live_answers.specs.Checks.{IsChecked, first_wrong, logged_moment, wrong_or}
use Rattle.live_answers.specs.Cuts.{replay_fault_of}
use Rattle.live_answers.specs.Lines.{kept, live_lines}
use Rattle.live_answers.specs.Live.{Heard, heard_after, last_after, next_after}
use Rattle.live_answers.specs.Standing.{LineView, said_after}
use Rattle.live_answers.specs.declared.fault.Stop.{Stop}
use Rattle.live_answers.specs.declared.fault.Stop.TheVariants as stop
use Rattle.run_texts.specs.declared.kind.LineKind.{LineKind}

pub stopped : (heard : List Heard) (why : Stop) → IsChecked heard (Err (replay_fault_of why))
stopped heard (stop.Failed why) = tt
stopped heard stop.OutOfMemory = tt

-- a line that is left, and those behind it
abbrev left_with : ℕ → ℕ → List ℕ → List ℕ → LineView → List Heard
left_with next last line rest said = record { line = line; said = said } ∷ heard_after (next_after next said) (last_after last said) (live_lines rest)

one_left : (next last : ℕ) (text line : List ℕ) (said : LineView) → 0 < length text → line ≡ kept (take_through 10 text) → said ≡ said_after next last line
    → heard_after next last (live_lines text) ≡ left_with next last line (drop_through 10 text) said
one_left next last text line said some is says =
    ap (heard_after next last) (line_first text some ∙ ap (λ l. l ∷ live_lines (drop_through 10 text)) (sym is))
    ∙ ap (left_with next last line (drop_through 10 text)) (sym says)

pub first_is_wrong : (next last : ℕ) (text line : List ℕ) (said : LineView) (why : LineKind) → 0 < length text → line ≡ kept (take_through 10 text) → said ≡ said_after next last line
    → logged_moment said ≡ Err why → first_wrong (next + 1) (heard_after next last (live_lines text)) ≡ Some (next + 2, why)
first_is_wrong next last text line said why some is says wrong =
    let later = heard_after (next_after next said) (last_after last said) (live_lines (drop_through 10 text)) in
    let two : next + 1 + 1 ≡ next + 2 = omega arith in
    ap (first_wrong (next + 1)) (one_left next last text line said some is says)
    ∙ ap (λ m. wrong_or (next + 1 + 1) m (first_wrong (next + 1 + 1) later)) wrong ∙ ap (λ n. Some (n, why)) two

right_said : (next last : ℕ) (said : LineView) (at : ℕ) → logged_moment said ≡ Ok at → (next_after next said ≡ next + 1) × (last_after last said ≡ at)
right_said next last None at right = absurd (cc)
right_said next last (Some (Ok message)) at right = (refl, cc)
right_said next last (Some (Err why)) at right = absurd (cc)

-- what the lines that are left come to, by those behind the first of them
pub record GoesOn (next last : ℕ) (text : List ℕ) (at : ℕ) (rest : List ℕ) : Type 0 where
  pub wrong : first_wrong (next + 1) (heard_after next last (live_lines text)) ≡ first_wrong (next + 1 + 1) (heard_after (next + 1) at (live_lines rest))
  pub many : length (heard_after next last (live_lines text)) ≡ suc (length (heard_after (next + 1) at (live_lines rest)))

pub goes_on : (next last at : ℕ) (text line rest : List ℕ) (said : LineView) → 0 < length text → line ≡ kept (take_through 10 text) → said ≡ said_after next last line
    → logged_moment said ≡ Ok at → Some rest ≡ Some (drop_through 10 text) → GoesOn next last text at rest
goes_on next last at text line rest said some is says right left =
    let same : rest ≡ drop_through 10 text = cc in
    let left = one_left next last text line said some is says in
    let (count, moment) = right_said next last said at right in
    let later : heard_after (next_after next said) (last_after last said) (live_lines (drop_through 10 text)) ≡ heard_after (next + 1) at (live_lines rest) =
    ap (λ n. heard_after n (last_after last said) (live_lines (drop_through 10 text))) count
    ∙ ap (λ m. heard_after (next + 1) m (live_lines (drop_through 10 text))) moment ∙ ap (λ t. heard_after (next + 1) at (live_lines t)) (sym same) in
    let these = heard_after (next_after next said) (last_after last said) (live_lines (drop_through 10 text)) in
    record {
      wrong = ap (first_wrong (next + 1)) left ∙ ap (λ m. wrong_or (next + 1 + 1) m (first_wrong (next + 1 + 1) these)) right ∙ ap (first_wrong (next + 1 + 1)) later;
      many = ap length left ∙ ap (λ h. suc (length h)) later;
    }
