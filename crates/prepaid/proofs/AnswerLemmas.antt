-- An answer to a wish is an answer to the words that ask for it.
use Rattle.std.proofs.Common.{◌≡◌, ℕ, Bool, true, false, List, Option, Some, None, Result, Ok, Err, ap, refl, ◌∙◌, subst, subst₂, sym, inl, inr}
use Rattle.std.specs.Prelude.{◌⊎◌, ⊤, IfErr, IfOk, IfSome, MatchResult, option_map, if◌then◌else◌, length, nat_lt}
use Rattle.std.specs.Result.{result_map_both}
use Rattle.book_texts.specs.Books.{Books, books_of}
use Rattle.book_texts.specs.Sizes.{most_rows}
use Rattle.book_texts.specs.declared.size.AuditAsk.{AuditAsk}
use Rattle.book_texts.specs.declared.size.BookSize.{BookSize}
use Rattle.book_texts.specs.declared.size.BookSize.TheVariants as size
use Rattle.table_commands.specs.Arguments.{AsksFor, AsksHelp, AsksVersion, IsRead, explains}
use Rattle.table_commands.specs.QuoteWishes.{QuoteWish}
use Rattle.table_commands.specs.Wishes.{Wish, Audits, Prices, Quotes, Replays, Runs, RunsInto}
use Rattle.table_commands.specs.declared.words_fault.WordsFault.{WordsFault}
use Rattle.table_commands.specs.declared.words_fault.WordsFault.TheVariants as words_fault
use Rattle.run_outputs.specs.Texts.{RunSaid, TablesSaid}
use Rattle.run_command.specs.declared.error.RunError.{RunError}
use Rattle.run_command.specs.declared.error.RunError.TheVariants as error
use Rattle.run_values.specs.declared.options.RunAsk.{RunAsk}
use Rattle.run_texts.specs.Inputs.{tariff_in}
use Rattle.run_texts.specs.declared.input_fault.InputFault.{InputFault}
use Rattle.run_texts.specs.declared.input_fault.InputFault.TheVariants as input_fault
use Rattle.run_values.specs.declared.run_fault.RunFault.TheVariants as run
use Rattle.table_core.specs.Judging.{and_then}
use Rattle.table_core.specs.Rows.{rows_of}
use Rattle.table_core.specs.declared.fault.RowFault.{RowFault}
use Rattle.tariff_core.specs.Bands.{Band}
use Rattle.price_core.specs.Rates.{Rates}
use Rattle.price_core.specs.Times.{Elapsed}
use Rattle.table_commands.specs.Answers.{IsAuditOfTable, IsAuditPrinted, IsQuoteOfTariff, IsQuotePrinted, price_of_input, price_of_table, replay_of_input, replay_of_table}
use Rattle.table_commands.specs.Explanations.{IsOfWords, IsSaidOfAnswer, IsSaidOfFault}
use Rattle.table_commands.specs.Faults.{GivesAnswer, GivesOne, meaning_in, meaning_of_section, of_run_input, of_words}
use Rattle.table_commands.specs.Input.{sized, sized_as}
use Rattle.table_commands.specs.PriceLines.{price_lines}
use Rattle.table_commands.specs.Printouts.{Printout, plain}
use Rattle.book_texts.specs.Replays.{replayed}
use Rattle.table_commands.specs.Reports.{table_reports_of}
use Rattle.table_commands.specs.Writers.{Written}
use Rattle.table_commands.specs.declared.fault.Fault.{Fault}
use Rattle.table_commands.specs.declared.fault.Fault.TheVariants as fault
use Rattle.table_commands.specs.declared.fault.TableName.TheVariants as table_name
use Rattle.prepaid.specs.Answers.{Answers, IsAnswer, IsAnswerTo, IsFiledRun, IsRunPrinted, IsSaidOrReported}
use Rattle.prepaid.specs.Explanations.{IsAdded, IsSaidBehind, IsSaidBy, has_sections}
use Rattle.prepaid.specs.Faults.{of_run}
use Rattle.prepaid.specs.Printouts.{printout_of_files, printout_of_run}

-- ---- no input has a fault of the words

-- a fault that isn't one of the words
abbrev pub IsOfInput : Fault → Type 0
IsOfInput fault.Arguments = ⊥
IsOfInput fault.Config = ⊥
IsOfInput why = ⊤

after_of : {X Y : Type 0} (read : Result X Fault) (next : X → Result Y Fault) → IfErr read IsOfInput → ((x : X) → IfErr (next x) IsOfInput) → IfErr (and_then read next) IsOfInput
after_of (Ok x) next of_read of_next = of_next x
after_of (Err why) next of_read of_next = of_read

sized_by : (long : Bool) (text : List ℕ) → IfErr (if long then Err fault.TooLong else Ok text) IsOfInput
sized_by true text = tt
sized_by false text = tt

sized_of : (text : List ℕ) → IfErr (sized text) IsOfInput
sized_of text = sized_by (nat_lt 16777216 (length text)) text

reports_by : (plan : Rates) (reports : Result (List Elapsed) RowFault) → IfErr (and_then (meaning_in table_name.Reports reports) (λ all. Ok (plain (price_lines plan 0 all)))) IsOfInput
reports_by plan (Ok reports) = tt
reports_by plan (Err why) = tt

price_of : (plan : Rates) (input : List ℕ) → IfErr (price_of_input plan input) IsOfInput
price_of plan input = after_of (sized input) (price_of_table plan) (sized_of input) (λ text. reports_by plan (table_reports_of plan (rows_of text)))

run_input_of : (why : InputFault) → IsOfInput (of_run_input why)
run_input_of input_fault.Parts = tt
run_input_of input_fault.TooLong = tt
run_input_of (input_fault.Tariff row) = tt
run_input_of (input_fault.Setup row) = tt
run_input_of (input_fault.Script row) = tt
run_input_of input_fault.Device = tt
run_input_of input_fault.OutOfMemory = tt

section_of : (meaning : Result (List Band) InputFault) → IfErr (meaning_of_section meaning) IsOfInput
section_of (Ok bands) = tt
section_of (Err why) = run_input_of why

quote_by : (wish : QuoteWish) (meaning : Result (List Band) Fault) (answer : Result Printout Fault) → IfErr meaning IsOfInput
    → MatchResult meaning (λ bands. IsQuotePrinted bands wish answer) (λ why. answer ≡ Err why) → IfErr answer IsOfInput
quote_by wish (Ok bands) answer of_meaning ending = rw ending.printed tt
quote_by wish (Err why) answer of_meaning is = rw is of_meaning

quote_in : (wish : QuoteWish) (text : Result (List ℕ) Fault) (answer : Result Printout Fault) → IfErr text IsOfInput
    → MatchResult text (λ tariff. IsQuoteOfTariff wish tariff answer) (λ why. answer ≡ Err why) → IfErr answer IsOfInput
quote_in wish (Ok tariff) answer of_text is = quote_by wish (meaning_of_section (tariff_in tariff)) answer (section_of (tariff_in tariff)) is
quote_in wish (Err why) answer of_text is = rw is of_text

pub quote_of : (wish : QuoteWish) (input : List ℕ) (answer : Result Printout Fault) → IsAnswerTo (Quotes wish) input answer → IfErr answer IsOfInput
quote_of wish input answer is = quote_in wish (sized input) answer (sized_of input) is

books_of_table : {X : Type 0} (read : Result X RowFault) → IfErr (meaning_in table_name.Book read) IsOfInput
books_of_table (Ok x) = tt
books_of_table (Err why) = tt

audit_by : (ask : AuditAsk) (text : List ℕ) (meaning : Result Books Fault) (answer : Result Printout Fault) → IfErr meaning IsOfInput
    → MatchResult meaning (λ books. IsAuditPrinted ask text books answer) (λ why. answer ≡ Err why) → IfErr answer IsOfInput
audit_by ask text (Ok books) answer of_meaning ending = rw ending.printed tt
audit_by ask text (Err why) answer of_meaning is = rw is of_meaning

audit_in : (ask : AuditAsk) (text : Result (List ℕ) Fault) (answer : Result Printout Fault) → IfErr text IsOfInput
    → MatchResult text (λ table. IsAuditOfTable ask table answer) (λ why. answer ≡ Err why) → IfErr answer IsOfInput
audit_in ask (Ok table) answer of_text is =
    let meaning = books_of (most_rows ask.size) (rows_of table) in audit_by ask table (meaning_in table_name.Book meaning) answer (books_of_table meaning) is
audit_in ask (Err why) answer of_text is = rw is of_text

sized_as_of : (size : BookSize) (input : List ℕ) → IfErr (sized_as size input) IsOfInput
sized_as_of size.Short input = sized_of input
sized_as_of size.Long input = tt

pub audit_of : (ask : AuditAsk) (input : List ℕ) (answer : Result Printout Fault) → IsAnswerTo (Audits ask) input answer → IfErr answer IsOfInput
audit_of ask input answer is = audit_in ask (sized_as ask.size input) answer (sized_as_of ask.size input) is

-- ---- what is asked for

-- an answer to what the words ask for
answers : (words : List (List ℕ)) (wish : Wish) (input : List ℕ) → ((answer : Result Printout Fault) → IsAnswerTo wish input answer → IfErr answer IsOfInput)
    → (answer : Result Printout Fault) → AsksFor words wish → GivesOne (IsAnswerTo wish input) answer → IsAnswer words input answer
answers words wish input of_input (Ok printout) asked is = inr (record { wish = wish; asked = asked; answered = is })
answers words wish input of_input (Err fault.Arguments) asked is = absurd (of_input (Err fault.Arguments) is)
answers words wish input of_input (Err fault.Config) asked is = absurd (of_input (Err fault.Config) is)
answers words wish input of_input (Err fault.TooLong) asked is = record { wish = wish; asked = asked; answered = is }
answers words wish input of_input (Err fault.Parts) asked is = record { wish = wish; asked = asked; answered = is }
answers words wish input of_input (Err (fault.Tariff row)) asked is = record { wish = wish; asked = asked; answered = is }
answers words wish input of_input (Err (fault.Table name row)) asked is = record { wish = wish; asked = asked; answered = is }
answers words wish input of_input (Err (fault.Log why)) asked is = record { wish = wish; asked = asked; answered = is }
answers words wish input of_input (Err (fault.LogRow row kind)) asked is = record { wish = wish; asked = asked; answered = is }
answers words wish input of_input (Err fault.Into) asked is = record { wish = wish; asked = asked; answered = is }
answers words wish input of_input (Err fault.Device) asked is = tt
answers words wish input of_input (Err (fault.Run run.OutOfMemory)) asked is = tt
answers words wish input of_input (Err (fault.Run run.Workers)) asked is = record { wish = wish; asked = asked; answered = is }
answers words wish input of_input (Err (fault.Run run.GateClosed)) asked is = record { wish = wish; asked = asked; answered = is }
answers words wish input of_input (Err (fault.Run run.Mismatch)) asked is = record { wish = wish; asked = asked; answered = is }
answers words wish input of_input (Err (fault.Run run.Channel)) asked is = record { wish = wish; asked = asked; answered = is }
answers words wish input of_input (Err (fault.Run run.Thread)) asked is = record { wish = wish; asked = asked; answered = is }

-- an answer that is a function of its input is one that is meant
gives_one : {X : Type 0} (view : X → Printout) (result : Result X Fault) (meaning : Result Printout Fault) → GivesAnswer view result meaning
    → GivesOne (λ answer. meaning ≡ answer) (result_map_both view (λ why. why) result)
gives_one view (Ok x) meaning gives = gives
gives_one view (Err why) meaning gives = gives

refused_words : (words : List (List ℕ)) (input : List ℕ) (why : WordsFault) → IsRead words (Err why) → IsAnswer words input (Err (of_words why))
refused_words words input words_fault.Arguments is = is
refused_words words input words_fault.Config is = is
refused_words words input words_fault.OutOfMemory is = tt

-- ---- replays and runs

lines_by : (lines : Result (List ℕ) RowFault) → IfErr (and_then (meaning_in table_name.Ops lines) (λ text. Ok (plain text))) IsOfInput
lines_by (Ok lines) = tt
lines_by (Err why) = tt

replay_of : (opening limit : ℕ) (input : List ℕ) → IfErr (replay_of_input opening limit input) IsOfInput
replay_of opening limit input =
    after_of (sized input) (replay_of_table opening limit) (sized_of input) (λ text. lines_by (replayed opening limit (rows_of text)))

ending_run : (made : Result RunSaid RunError) → IfErr (result_map_both printout_of_run of_run made) IsOfInput
ending_run (Ok said) = tt
ending_run (Err (error.Input why)) = run_input_of why
ending_run (Err (error.Run why)) = tt

run_by : (ask : RunAsk) (text : Result (List ℕ) Fault) (answer : Result Printout Fault) → IfErr text IsOfInput
    → MatchResult text (λ read. IsRunPrinted ask read answer) (λ why. answer ≡ Err why) → IfErr answer IsOfInput
run_by ask (Ok text) answer of_text is = rw is.printed (ending_run is.made)
run_by ask (Err why) answer of_text is = rw is of_text

pub run_of : (ask : RunAsk) (input : List ℕ) (answer : Result Printout Fault) → IsAnswerTo (Runs ask) input answer → IfErr answer IsOfInput
run_of ask input answer is = run_by ask (sized input) answer (sized_of input) is

filed_run_by : (made : Result TablesSaid RunError) (answer : Result Printout Fault)
    → MatchResult made (λ tables. (answer ≡ Ok (printout_of_files tables)) ⊎ (answer ≡ Err fault.Into)) (λ why. answer ≡ Err (of_run why)) → IfErr answer IsOfInput
filed_run_by (Ok tables) answer (inl is) = rw is tt
filed_run_by (Ok tables) answer (inr is) = rw is tt
filed_run_by (Err (error.Input why)) answer is = rw is (run_input_of why)
filed_run_by (Err (error.Run why)) answer is = rw is tt

filed_by : (ask : RunAsk) (text : Result (List ℕ) Fault) (answer : Result Printout Fault) → IfErr text IsOfInput
    → MatchResult text (λ read. IsFiledRun ask read answer) (λ why. answer ≡ Err why) → IfErr answer IsOfInput
filed_by ask (Ok text) answer of_text is = filed_run_by is.made answer is.printed
filed_by ask (Err why) answer of_text is = rw is of_text

pub filed_of : (ask : RunAsk) (folder input : List ℕ) (answer : Result Printout Fault) → IsAnswerTo (RunsInto ask folder) input answer → IfErr answer IsOfInput
filed_of ask folder input answer is = filed_by ask (sized input) answer (sized_of input) is

-- ---- and is printed

-- what is said of a fault over an input is said by the words
said_by : {X : Type 0} (words : List (List ℕ)) (view : X → Printout) (known more : Option (List ℕ)) (answer : Result X Fault) (wish : Wish) → AsksFor words wish
    → IfSome known (λ text. IfErr answer (λ why. IfSome more (λ said. IsSaidOfFault (has_sections wish) text why said)))
    → IfSome known (λ text. IfErr (result_map_both view (λ why. why) answer) (λ why. IfSome more (λ said. IsSaidBy words text why said)))
said_by words view None more answer wish asked said = tt
said_by words view (Some text) more (Ok x) wish asked said = tt
said_by words view (Some text) None (Err why) wish asked said = tt
said_by words view (Some text) (Some m) (Err why) wish asked said = inl (record { wish = wish; asked = asked; said = said })

-- nothing is said behind an answer of another command
pub none_added : {W X : Type 0} (words : List (List ℕ)) (text_of : W → List ℕ) (view : X → Printout) (known : Option (List ℕ)) (more : Option W) (answer : Result X Fault)
    → IfOk answer (λ x. more ≡ None) → IfSome known (λ text. IfOk (result_map_both view (λ why. why) answer) (λ printout. IfSome (option_map text_of more) (λ said. IsAdded words text printout said)))
none_added words text_of view None more answer none = tt
none_added words text_of view (Some text) more (Ok x) none = rw none tt
none_added words text_of view (Some text) more (Err why) none = tt

-- what is said behind an answer of a run, over its input
pub run_added : {W X : Type 0} (words : List (List ℕ)) (text_of : W → List ℕ) (view : X → Printout) (known : Option (List ℕ)) (more : Option W) (answer : Result X Fault) (wish : Wish)
    → AsksFor words wish → has_sections wish ≡ true → IfSome known (λ text. IfOk answer (λ x. IfSome more (λ m. IsSaidBehind text (view x).unplaced (text_of m))))
    → IfSome known (λ text. IfOk (result_map_both view (λ why. why) answer) (λ printout. IfSome (option_map text_of more) (λ said. IsAdded words text printout said)))
run_added words text_of view None more answer wish asked run said = tt
run_added words text_of view (Some text) more (Err why) wish asked run said = tt
run_added words text_of view (Some text) None (Ok x) wish asked run said = tt
run_added words text_of view (Some text) (Some m) (Ok x) wish asked run said = record { wish = wish; asked = asked; run = run; said = said }

pub none_said : {W : Type 0} (text_of : W → List ℕ) (more : Option W) → more ≡ None → option_map text_of more ≡ None
none_said text_of more is = rw is refl

answered_known : (words : List (List ℕ)) (known : Option (List ℕ)) (wish : Wish) → ((input : List ℕ) (answer : Result Printout Fault) → IsAnswerTo wish input answer → IfErr answer IsOfInput)
    → (answer : Result Printout Fault) → AsksFor words wish → IfSome known (λ input. GivesOne (IsAnswerTo wish input) answer) → IfSome known (λ input. IsAnswer words input answer)
answered_known words None wish of_input answer asked is = tt
answered_known words (Some input) wish of_input answer asked is = answers words wish input (of_input input) answer asked is

pub gives_known : {X : Type 0} (view : X → Printout) (known : Option (List ℕ)) (result : Result X Fault) (meaning : List ℕ → Result Printout Fault)
    → IfSome known (λ input. GivesAnswer view result (meaning input)) → IfSome known (λ input. GivesOne (λ answer. meaning input ≡ answer) (result_map_both view (λ why. why) result))
gives_known view None result meaning gives = tt
gives_known view (Some input) result meaning gives = gives_one view result (meaning input) gives

said_of_words : (words : List (List ℕ)) (input : List ℕ) (fault : Fault) (more : Option (List ℕ)) → IfSome more (λ said. IsOfWords fault)
    → IfSome more (λ said. IsSaidBy words input fault said)
said_of_words words input fault None is = tt
said_of_words words input fault (Some text) is = inr is

module _ {X : Type 0} (view : X → Printout) (words : List (List ℕ)) (status : ℕ) (old new : Written) (known more : Option (List ℕ)) (answer : Result X Fault) (explaining : Bool) where
  -- an answer to a wish, or its fault and what is said of that
  pub wished : (wish : Wish) → ((input : List ℕ) (answer : Result Printout Fault) → IsAnswerTo wish input answer → IfErr answer IsOfInput) → AsksFor words wish
      → IfSome known (λ input. GivesOne (IsAnswerTo wish input) (result_map_both view (λ why. why) answer)) → explaining ≡ explains words
      → IsSaidOfAnswer explaining (has_sections wish) known answer more
      → IfSome known (λ text. IfOk (result_map_both view (λ why. why) answer) (λ printout. IfSome more (λ said. IsAdded words text printout said)))
      → IsSaidOrReported explaining more (result_map_both view (λ why. why) answer) status old new → Answers words known status old new
  wished wish of_input asked is explains_is said added ending = record {
    answer = result_map_both view (λ why. why) answer;
    answered = answered_known words known wish of_input (result_map_both view (λ why. why) answer) asked is;
    more = more;
    only = λ off. said.only (explains_is ∙ off);
    said = said_by words view known more answer wish asked said.said;
    added = added;
    printed = subst (λ (on : Bool). IsSaidOrReported on more (result_map_both view (λ why. why) answer) status old new) explains_is ending;
  }

pub price_wished : (plan : Rates) (input : List ℕ) (answer : Result Printout Fault) → IsAnswerTo (Prices plan) input answer → IfErr answer IsOfInput
price_wished plan input answer is = rw (← is) (price_of plan input)

pub replay_wished : (opening limit : ℕ) (input : List ℕ) (answer : Result Printout Fault) → IsAnswerTo (Replays opening limit) input answer → IfErr answer IsOfInput
replay_wished opening limit input answer is = rw (← is) (replay_of opening limit input)

about_texts : {W : Type 0} (text_of : W → List ℕ) (P : Type 0) (more : Option W) → IfSome more (λ said. P) → IfSome (option_map text_of more) (λ said. P)
about_texts text_of P None is = tt
about_texts text_of P (Some m) is = is

module _ (words : List (List ℕ)) (status : ℕ) (old new : Written) where
  -- the help or the version
  pub helped : (known : Option (List ℕ)) (printout : Printout) (text : List ℕ) → AsksHelp words ⊎ AsksVersion words → printout ≡ plain text
      → IsSaidOrReported (explains words) None (Ok printout) status old new
      → Answers words known status old new
  helped None printout text asked is ending = record { answer = Ok printout; answered = tt; more = None; only = λ off. refl; said = tt; added = tt; printed = ending }
  helped (Some input) printout text asked is ending =
      record { answer = Ok printout; answered = inl (asked, ap (λ t. t.passes) is); more = None; only = λ off. refl; said = tt; added = tt; printed = ending }

  -- words that are refused, and what is said of them
  pub refused : (known more : Option (List ℕ)) (why : WordsFault) (fault : Fault) → IsRead words (Err why) → fault ≡ of_words why → (explains words ≡ false → more ≡ None)
      → (IfSome more (λ said. IsOfWords fault)) → IsSaidOrReported (explains words) more (Err fault) status old new → Answers words known status old new
  refused None more why fault read is only of_words ending = record { answer = Err fault; answered = tt; more = more; only = only; said = tt; added = tt; printed = ending }
  refused (Some input) more why fault read is only of_words ending = record {
    answer = Err fault;
    answered = subst (λ (w : Fault). IsAnswer words input (Err w)) (sym is) (refused_words words input why read);
    more = more;
    only = only;
    said = said_of_words words input fault more of_words;
    added = tt;
    printed = ending;
  }

module _ {W X : Type 0} (text_of : W → List ℕ) (view : X → Printout) (words : List (List ℕ)) (status : ℕ) (old new : Written) (known : Option (List ℕ)) (more : Option W)
    (ending_answer : Result X Fault) where
  -- the same, as the code says it
  pub helped_plainly : (explaining : Bool) (answer : X) (text : List ℕ) → AsksHelp words ⊎ AsksVersion words → view answer ≡ plain text → explaining ≡ explains words
      → ending_answer ≡ Ok answer → more ≡ None
      → IsSaidOrReported explaining (option_map text_of more) (result_map_both view (λ why. why) ending_answer) status old new → Answers words known status old new
  helped_plainly explaining answer text asked is explains_is answer_is none ending =
      let said : IsSaidOrReported (explains words) (option_map text_of more) (Ok (view answer)) status old new =
      subst₂ (λ (on : Bool) (a : Result X Fault). IsSaidOrReported on (option_map text_of more) (result_map_both view (λ why. why) a) status old new) explains_is answer_is ending in
      helped words status old new known (view answer) text asked is (subst (λ (m : Option W). IsSaidOrReported (explains words) (option_map text_of m) (Ok (view answer)) status old new) none said)

  pub refused_words_printed : (explaining : Bool) (why : WordsFault) → IsRead words (Err why) → ending_answer ≡ Err (of_words why) → explaining ≡ explains words
      → (explaining ≡ false → more ≡ None) → IfSome more (λ said. IsOfWords (of_words why))
      → IsSaidOrReported explaining (option_map text_of more) (result_map_both view (λ why. why) ending_answer) status old new → Answers words known status old new
  refused_words_printed explaining why read answer_is explains_is only about ending =
      refused words status old new known (option_map text_of more) why (of_words why) read refl (λ off. none_said text_of more (only (explains_is ∙ off)))
      (about_texts text_of (IsOfWords (of_words why)) more about)
      (subst₂ (λ (on : Bool) (a : Result X Fault). IsSaidOrReported on (option_map text_of more) (result_map_both view (λ why. why) a) status old new) explains_is answer_is ending)
