-- What is printed is printed piece by piece: the header, the rows and the end.
use Rattle.std.proofs.Common.{◌≡◌, ℕ, true, false, List, ◌++◌, take, Option, Some, None, Result, Ok, Err, refl, sym, ap, subst, ◌∙◌, inl, inr}
use Rattle.std.proofs.KnownBytes.{Keeps-refl, Appends-trans}
use Rattle.std.specs.Prelude.{IfErr, IsErrAnd, IsSome, OnOk}
use Rattle.std.specs.Io.KnownBytes.{Appends}
use Rattle.table_core.proofs.FrontLemmas.{front_before, front_behind}
use Rattle.run_outputs.specs.Records.{Run}
use Rattle.live_answers.specs.Live.{heard_in, replayed_text}
use Rattle.live_answers.specs.Runs.{AnswersLines, IsLiveRunTo, PrintsText}
use Rattle.live_answers.specs.declared.replay.Replay.{Replay}
use Rattle.live_answers.specs.declared.stage.LiveFault.{LiveFault}
use Rattle.live_answers.specs.declared.stage.LiveFault.TheVariants as fault
use Rattle.run_values.specs.Logs.{LogWish}
use Rattle.run_values.specs.declared.live.LiveAsk.{LiveAsk}
use Rattle.run_values.specs.declared.live.LiveOutput.{LiveOutput}
use Rattle.run_texts.specs.declared.input_fault.InputFault.TheVariants as input
use Rattle.run_texts.specs.Tables.{trace_header}
use Rattle.run_values.specs.Setups.{Setup}
use Rattle.run_values.specs.declared.post.Body.{Body}
use Rattle.run_values.specs.declared.run_fault.RunFault.TheVariants as run
use Rattle.account_core.specs.Closed.{Closed}
use Rattle.live_answers.specs.Ends.{IsCutAt, IsCutEnd, IsEndOf, is_cut_off}
use Rattle.live_answers.specs.Heads.{IsOfHead, IsOfLog, IsOfRun, RefusesService}
use Rattle.live_answers.specs.Inputs.{LiveInput}
use Rattle.live_answers.specs.Replays.{IsReplayOf}
use Rattle.live_answers.specs.Serves.{EndsServing, IsServedWhole, AreRowsServed, IsLiveSetupOf, LosesLog, ServesBy, ServesInput}
use Rattle.live_answers.specs.declared.error.ServeError.{ServeError}
use Rattle.live_answers.specs.declared.error.ServeError.TheVariants as error

-- ---- the rows

module _ (setup : Setup) (replay : Replay) (rows : List ℕ) where
  -- a run of the rows has come to this, and was printed so far
  pub record HasServed (why : Option LiveFault) (old new : Option (List ℕ)) (given : List (ℕ × Body)) (books : List Closed) : Type 0 where
    pub served : AreRowsServed setup rows why
    pub given_is : served.given ≡ given
    pub books_are : served.books ≡ books
    pub prints : PrintsText why old new (replayed_text replay served.answers (take served.count (heard_in rows)))

  -- what a run of the rows has come to
  pub served_by : (known : Option (List ℕ)) (why : Option LiveFault) (b c lo ln : Option (List ℕ)) (given : List (ℕ × Body)) (books : List Closed)
      → known ≡ Some rows → IsLiveRunTo setup replay known b c lo ln given books why → HasServed why b c given books
  served_by known why b c lo ln given books known_is is =
      let lines : AnswersLines replay why (heard_in rows) is.answers given b c lo ln = rw known_is at is.lines in
      record {
        served = record {
          count = lines.count;
          whole = lines.whole;
          given = given;
          takes = lines.takes;
          answers = is.answers;
          books = books;
          run = is.run;
        };
        given_is = refl;
        books_are = refl;
        prints = lines.prints;
      }

  -- all of them was printed
  pub rows_whole : (why : Option LiveFault) (a b : Option (List ℕ)) (text : List ℕ) → is_cut_off why ≡ false → PrintsText why a b text → Appends a b text
  rows_whole None a b text isnt prints = prints
  rows_whole (Some fault.Input) a b text isnt prints = prints
  rows_whole (Some fault.Output) a b text isnt prints = cc
  rows_whole (Some fault.Log) a b text isnt prints = prints

-- ---- the errors of each step

module _ (output : LiveOutput) (setup : Setup) (replay : Replay) (rows : List ℕ) where
  -- the output failed in the header
  pub header_cut : (a b : Option (List ℕ)) (answer : Result (Unit {0}) ServeError) (why : ServeError) → IsErrAnd answer (λ met. met ≡ why) → IsCutAt a b trace_header why
      → EndsServing output setup replay rows a b answer
  header_cut a b (Ok done) why met cut = absurd met
  header_cut a b (Err answered) why met cut = rw (met, cut.0) (inl cut.1)

  -- or in the rows
  pub rows_cut : (why : Option LiveFault) (a b c : Option (List ℕ)) (given : List (ℕ × Body)) (books : List Closed) → is_cut_off why ≡ true → Appends a b trace_header
      → HasServed setup replay rows why b c given books → EndsServing output setup replay rows a c (Err (error.Live fault.Output))
  rows_cut None a b c given books is first has = cc
  rows_cut (Some fault.Input) a b c given books is first has = cc
  rows_cut (Some fault.Log) a b c given books is first has = cc
  rows_cut (Some fault.Output) a b c given books is first has = inr (inl (record { served = has.served; front = front_behind a b c trace_header _ first has.prints }))

  module _ (why : Option LiveFault) (a b c d : Option (List ℕ)) (given : List (ℕ × Body)) (books : List Closed) (isnt : is_cut_off why ≡ false) (first : Appends a b trace_header) (has : HasServed setup replay rows why b c given books) where
    -- or in the end
    end_part : (met : ServeError) → IsCutEnd output (record { setup = setup; given = given; books = books }) c d met → EndsServing output setup replay rows a d (Err met)
    end_part (error.Live fault.Output) (end, is_end, front) = inr (inr (record {
      fault = why;
      served = has.served;
      end = end;
      is_end = rw (has.given_is, has.books_are) is_end;
      front = front_behind a c d _ end (Appends-trans a b c trace_header _ first (rows_whole setup replay rows why b c _ isnt has.prints)) front;
    }))
    end_part (error.Live fault.Input) cut = absurd cut
    end_part (error.Live fault.Log) cut = absurd cut
    end_part (error.Run run.OutOfMemory) cut = tt
    end_part (error.Run run.Workers) cut = absurd cut
    end_part (error.Run run.GateClosed) cut = absurd cut
    end_part (error.Run run.Mismatch) cut = absurd cut
    end_part (error.Run run.Channel) cut = absurd cut
    end_part (error.Run run.Thread) cut = absurd cut
    end_part (error.Input refused) cut = absurd cut
    end_part error.Header cut = absurd cut
    end_part (error.Log refused) cut = absurd cut
    end_part (error.LogRow row kind) cut = absurd cut

    pub end_cut : (answer : Result (Unit {0}) ServeError) (met : ServeError) → IsErrAnd answer (λ answered. answered ≡ met)
        → IsCutEnd output (record { setup = setup; given = given; books = books }) c d met → EndsServing output setup replay rows a d answer
    end_cut (Ok done) met answered cut = absurd answered
    end_cut (Err same) met answered cut = rw answered (end_part met cut)

    -- all was printed
    pub all_printed : (end : List ℕ) × IsEndOf output (record { setup = setup; given = given; books = books }) end × Appends c d end → IsServedWhole output setup replay rows why a d
    all_printed (end, is_end, last) = record {
      served = has.served;
      end = end;
      is_end = rw (has.given_is, has.books_are) is_end;
      whole = Appends-trans a c d _ end (Appends-trans a b c trace_header _ first (rows_whole setup replay rows why b c _ isnt has.prints)) last;
    }

  pub ends_whole : (why : Option LiveFault) (a d : Option (List ℕ)) (done : Unit {0}) → why ≡ None → IsServedWhole output setup replay rows why a d → EndsServing output setup replay rows a d (Ok done)
  ends_whole None a d done is printed = printed
  ends_whole (Some why) a d done is printed = cc

  pub ends_at : (why : Option LiveFault) (met : LiveFault) (a d : Option (List ℕ)) → why ≡ Some met → is_cut_off why ≡ false → IsServedWhole output setup replay rows why a d
      → EndsServing output setup replay rows a d (Err (error.Live met))
  ends_at why fault.Input a d is isnt printed = subst (λ w. IsServedWhole output setup replay rows w a d) is printed
  ends_at why fault.Log a d is isnt printed = subst (λ w. IsServedWhole output setup replay rows w a d) is printed
  ends_at why fault.Output a d is isnt printed = let no : is_cut_off (Some fault.Output) ≡ false = ap is_cut_off (sym is) ∙ isnt in cc

-- ---- the end

-- what stops it is of the run
pub cut_of_run : (output : LiveOutput) (ran : Run) (a b : Option (List ℕ)) (answer : Result (Unit {0}) ServeError) (met : ServeError) → IsErrAnd answer (λ answered. answered ≡ met) → IsCutEnd output ran a b met → IfErr answer IsOfRun
cut_of_run output ran a b (Ok done) met answered cut = tt
cut_of_run output ran a b (Err same) met answered cut = rw answered (of_run met cut)
  where
    of_run : (why : ServeError) → IsCutEnd output ran a b why → IsOfRun why
    of_run (error.Live why) is = tt
    of_run (error.Run run.OutOfMemory) is = tt
    of_run (error.Run run.Workers) is = absurd is
    of_run (error.Run run.GateClosed) is = absurd is
    of_run (error.Run run.Mismatch) is = absurd is
    of_run (error.Run run.Channel) is = absurd is
    of_run (error.Run run.Thread) is = absurd is
    of_run (error.Input why) is = absurd is
    of_run error.Header is = absurd is
    of_run (error.Log why) is = absurd is
    of_run (error.LogRow row kind) is = absurd is

-- the output failed in its first line
pub divider_cut : (output : LiveOutput) (ran : Run) (a b : Option (List ℕ)) (divider table : List ℕ) (answer : Result (Unit {0}) ServeError) (why : ServeError) → IsErrAnd answer (λ met. met ≡ why)
    → IsCutAt a b divider why → IsEndOf output ran (divider ++ table) → IfErr answer (IsCutEnd output ran a b)
divider_cut output ran a b divider table (Ok done) why met cut is_end = tt
divider_cut output ran a b divider table (Err answered) why met cut is_end = rw (met, cut.0) (divider ++ table, is_end, front_before a b divider table cut.1)

-- or behind it
pub table_cut : (output : LiveOutput) (ran : Run) (a b c : Option (List ℕ)) (divider table : List ℕ) (answer : Result (Unit {0}) ServeError) → Appends a b divider
    → IfErr answer (IsCutAt b c table) → IsEndOf output ran (divider ++ table) → IfErr answer (IsCutEnd output ran a c)
table_cut output ran a b c divider table (Ok done) first cut is_end = tt
table_cut output ran a b c divider table (Err why) first cut is_end = rw cut.0 (divider ++ table, is_end, front_behind a b c divider table first cut.1)

-- or not at all: both are printed
pub both_printed : (output : LiveOutput) (ran : Run) (a b c : Option (List ℕ)) (divider table : List ℕ) (answer : Result (Unit {0}) ServeError) → Appends a b divider
    → OnOk answer (Appends b c table) → IsEndOf output ran (divider ++ table) → OnOk answer ((text : List ℕ) × IsEndOf output ran text × Appends a c text)
both_printed output ran a b c divider table (Ok done) first then is_end = (divider ++ table, is_end, Appends-trans a b c divider table first then)
both_printed output ran a b c divider table (Err why) first then is_end = tt

-- ---- an input

module _ (ask : LiveAsk) (log : Option LogWish) (meaning : Result LiveInput ServeError) where
  -- its head is refused
  pub refused : (known : Option (List ℕ)) (why : ServeError) → IsOfHead why → RefusesService why meaning → ServesBy ask log meaning known known (Err why)
  refused known (error.Input input.Parts) of is = (is, Keeps-refl known)
  refused known (error.Input input.TooLong) of is = (is, Keeps-refl known)
  refused known (error.Input (input.Tariff row)) of is = (is, Keeps-refl known)
  refused known (error.Input (input.Setup row)) of is = (is, Keeps-refl known)
  refused known (error.Input (input.Script row)) of is = (is, Keeps-refl known)
  refused known (error.Input input.Device) of is = Keeps-refl known
  refused known (error.Input input.OutOfMemory) of is = Keeps-refl known
  refused known error.Header of is = (is, Keeps-refl known)
  refused known (error.Log why) of is = absurd of
  refused known (error.LogRow row kind) of is = absurd of
  refused known (error.Live why) of is = absurd of
  refused known (error.Run run.OutOfMemory) of is = tt
  refused known (error.Run run.Workers) of is = absurd of
  refused known (error.Run run.GateClosed) of is = absurd of
  refused known (error.Run run.Mismatch) of is = absurd of
  refused known (error.Run run.Channel) of is = absurd of
  refused known (error.Run run.Thread) of is = absurd of

  -- its log can't be used
  pub loses_log : (known : Option (List ℕ)) (said : LiveInput) → meaning ≡ Ok said → IsSome log → LosesLog log meaning known known
  loses_log known said is asked = record { asked = asked; input = said; is_input = is; silent = Keeps-refl known }

  pub log_refused : (known : Option (List ℕ)) (said : LiveInput) (answer : Result (Unit {0}) ServeError) (met : ServeError) → IsErrAnd answer (λ answered. answered ≡ met) → IsOfLog met
      → meaning ≡ Ok said → IsSome log → ServesBy ask log meaning known known answer
  log_refused known said (Ok done) met answered of is asked = absurd answered
  log_refused known said (Err why) (error.Log fault) answered of is asked = rw answered (loses_log known said is asked)
  log_refused known said (Err why) (error.LogRow row kind) answered of is asked = rw answered (loses_log known said is asked)
  log_refused known said (Err why) (error.Input fault) answered of is asked = absurd of
  log_refused known said (Err why) error.Header answered of is asked = absurd of
  log_refused known said (Err why) (error.Live fault) answered of is asked = absurd of
  log_refused known said (Err why) (error.Run fault) answered of is asked = absurd of

  -- its rows are served
  pub serves : (said : LiveInput) (setup : Setup) (lines : List ℕ) (replay : Replay) (old new : Option (List ℕ)) (result : Result (Unit {0}) ServeError)
      → meaning ≡ Ok said → IsLiveSetupOf ask said setup → IsReplayOf log lines replay → EndsServing ask.output setup replay (lines ++ said.rows) old new result
      → ServesBy ask log meaning old new result
  serves said setup lines replay old new result is of hears ends = by_result result ends
    where
      served : (result : Result (Unit {0}) ServeError) → EndsServing ask.output setup replay (lines ++ said.rows) old new result → ServesInput ask log meaning old new result
      served result ends = record { input = said; is_input = is; setup = setup; of_input = of; lines = lines; replay = replay; hears = hears; ends = ends }

      by_result : (result : Result (Unit {0}) ServeError) → EndsServing ask.output setup replay (lines ++ said.rows) old new result → ServesBy ask log meaning old new result
      by_result (Ok done) ends = served (Ok done) ends
      by_result (Err (error.Live why)) ends = served (Err (error.Live why)) ends
      by_result (Err (error.Run run.OutOfMemory)) ends = tt
      by_result (Err (error.Run run.Workers)) ends = served (Err (error.Run run.Workers)) ends
      by_result (Err (error.Run run.GateClosed)) ends = served (Err (error.Run run.GateClosed)) ends
      by_result (Err (error.Run run.Mismatch)) ends = served (Err (error.Run run.Mismatch)) ends
      by_result (Err (error.Run run.Channel)) ends = served (Err (error.Run run.Channel)) ends
      by_result (Err (error.Run run.Thread)) ends = served (Err (error.Run run.Thread)) ends
      by_result (Err (error.Input why)) ends = absurd ends
      by_result (Err error.Header) ends = absurd ends
      by_result (Err (error.Log why)) ends = absurd ends
      by_result (Err (error.LogRow row kind)) ends = absurd ends
