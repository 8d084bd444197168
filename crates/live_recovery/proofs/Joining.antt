-- The outputs of two runs, put together.
use Rattle.std.proofs.Common.{◌≡◌, ◌≢◌, ◌≤◌, ◌++◌, ◌⊎◌, ◌∙◌, inl, inr, ℕ, Option, Some, None, List, [], ◌∷◌, Ok, Err, length, All, refl, sym, ap, subst, arith, append_assoc}
use Rattle.std.proofs.lemmas.List.Elements.{All-head, All-tail}
use Rattle.std.specs.Prelude.{slice_get}
use Rattle.std.specs.Io.KnownBytes.{Appends}
use Rattle.live_answers.proofs.Silence.{none_less}
use Rattle.live_answers.specs.Laws.{LogsAreHeardAgain, next_behind}
use Rattle.live_answers.specs.Live.{Heard, heard_in, live_text, logged_of, next_after, replayed_text, text_after}
use Rattle.live_answers.specs.Rows.{line_behind_log, rows_of_line}
use Rattle.live_answers.specs.Runs.{PrintsText}
use Rattle.live_answers.specs.Standing.{LineView}
use Rattle.live_answers.specs.declared.replay.Replay.{Replay}
use Rattle.live_answers.specs.declared.stage.LiveFault.{LiveFault}
use Rattle.live_answers.specs.declared.stage.LiveFault.TheVariants as fault
use Rattle.live_recovery.proofs.Fronts.{accepted_many, front_alone}
use Rattle.live_recovery.proofs.Recovering.{recovered}
use Rattle.live_recovery.proofs.Texts.{is_less, nothing}
use Rattle.live_recovery.specs.Recovery.{IsFine, IsUncut, OutputsAreJoined, front_of, rest_heard_behind, rows_again, text_again, text_anew, with_further}
use Rattle.run_values.specs.declared.post.Answer.{Answer}

-- lines, and lines behind them
text_both : (answers : List Answer) (line next : ℕ) (heard later : List Heard)
    → (there : ℕ) × (text_after nothing answers line next (heard ++ later) ≡ text_after nothing answers line next heard ++ text_after nothing answers there (next_behind next heard) later)
text_both answers line next [] later = (line, refl)
text_both answers line next (one ∷ heard) later =
    let here = line_behind_log nothing next line in
    let rows = rows_of_line 0 here next (slice_get answers next) one.said in
    let (there, is) = text_both answers here (next_after next one.said) heard later in
    (there, ap (λ l. rows ++ l) is ∙ sym (append_assoc rows (text_after nothing answers here (next_after next one.said) heard) _))

-- a line that isn't wrong is printed without its own number
any_row : (line other next : ℕ) (answer : Option Answer) (said : LineView) → IsFine said → rows_of_line 0 line next answer said ≡ rows_of_line 0 other next answer said
any_row line other next answer None fine = refl
any_row line other next answer (Some (Ok message)) fine = refl
any_row line other next answer (Some (Err why)) fine = absurd fine

any_line : (answers : List Answer) (line other next : ℕ) (heard : List Heard) → All (λ (one : Heard). IsFine one.said) heard
    → text_after nothing answers line next heard ≡ text_after nothing answers other next heard
any_line answers line other next [] fine = refl
any_line answers line other next (one ∷ heard) fine =
    let P : Heard → Type 0 = λ h. IsFine h.said in
    let behind = next_after next one.said in
    let here = line_behind_log nothing next line in
    let there = line_behind_log nothing next other in
    ap (λ rows. rows ++ text_after nothing answers here behind heard) (any_row here there next (slice_get answers next) one.said (All-head P one heard fine))
    ∙ ap (λ l. rows_of_line 0 there next (slice_get answers next) one.said ++ l) (any_line answers here there behind heard (All-tail P one heard fine))

silent_row : (quiet next : ℕ) (answer : Option Answer) (said : LineView) → next_after next said ≤ quiet → rows_again quiet next answer said ≡ []
silent_row quiet next answer None most = refl
silent_row quiet next answer (Some (Err why)) most = refl
silent_row quiet next answer (Some (Ok message)) most = rw (is_less next quiet (omega (arith, most))) refl

silent_text : (quiet : ℕ) (answers : List Answer) (next : ℕ) (heard : List Heard) → next_behind next heard ≤ quiet → text_again quiet answers next heard ≡ []
silent_text quiet answers next [] most = refl
silent_text quiet answers next (one ∷ heard) most =
    let behind = next_after next one.said in
    ap (λ rows. rows ++ text_again quiet answers behind heard) (silent_row quiet next (slice_get answers next) one.said (omega (arith, most, none_less heard behind)))
    ∙ silent_text quiet answers behind heard most

-- a run that wasn't cut off in its output or its log
no_log : (why : Option LiveFault) → (why ≡ None) ⊎ (why ≡ Some fault.Input) → why ≢ Some fault.Log
no_log why (inl none) is = absurd (cc)
no_log why (inr input) is = absurd (cc)

prints_all : (why : Option LiveFault) (old new : Option (List ℕ)) (text : List ℕ) → (why ≡ None) ⊎ (why ≡ Some fault.Input) → PrintsText why old new text → Appends old new text
prints_all why old new text (inl is) prints = subst (λ w. PrintsText w old new text) is prints
prints_all why old new text (inr is) prints = subst (λ w. PrintsText w old new text) is prints

pub outputs_joined : LogsAreHeardAgain → OutputsAreJoined
outputs_joined again setup first second head log lines rest tariff early was written has late begins_so replay quiet none over ended fine answers books uncut =
    let whole = recovered again setup first second head log lines rest tariff early was written has late begins_so replay in
    let taken = early.answered.lines.count in
    let heard = front_of first taken in
    let same = whole.log.same (no_log first.fault over) in
    let L : ℕ → Type 0 = λ n. lines ≡ logged_of (front_of first n) in
    let lines_are = subst L same whole.log.lines_are in
    let U : ℕ → Type 0 = λ n. IsUncut setup (with_further (front_of first n) rest) answers books in
    let there = subst U (sym same) uncut in
    let begun = whole.begun answers books there in
    let T : ℕ → Type 0 = λ n. Appends second.output_old second.output_new
    (text_again second.replay.quiet answers 0 (front_of first n) ++ text_anew answers (next_behind 0 (front_of first n)) (rest_heard_behind (front_of first n) rest)) in
    let second_prints = subst T same ((whole.resumed.goes_on answers books there).goes_on ended) in
    let many = ap (λ l. length (heard_in l)) lines_are ∙ ap length (front_alone again taken first.input) in
    let all_quiet : next_behind 0 heard ≤ second.replay.quiet = omega (arith, quiet, replay.messages, many, accepted_many 0 heard) in
    let further = text_anew answers (next_behind 0 heard) (rest_heard_behind heard rest) in
    let (line, both) = text_both answers 1 0 heard (rest_heard_behind heard rest) in
    record {
      one = live_text answers heard;
      two = further;
      first_prints = prints_all first.fault first.output_old first.output_new (live_text answers heard) over
          (subst (λ (r : Replay). PrintsText first.fault first.output_old first.output_new (replayed_text r answers heard)) none begun.prints);
      second_prints = subst (λ l. Appends second.output_old second.output_new (l ++ further)) (silent_text second.replay.quiet answers 0 heard all_quiet) second_prints;
      joined = ap (λ l. live_text answers heard ++ l) (any_line answers 1 line (next_behind 0 heard) (rest_heard_behind heard rest) fine) ∙ sym both;
    }
