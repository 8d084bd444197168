-- All texts of a play whose answers were kept.
use Rattle.std.proofs.Common.{◌≡◌, ◌∙◌, true, List, None, refl, sym, subst}
use Rattle.std.specs.List.{All}
use Rattle.book_texts.specs.Typed.{IsTyped}
use Rattle.tariff_core.specs.declared.clock.Clock.{Clock}
use Rattle.run_command.specs.Played.{AreWhole, IsPlayedRun}
use Rattle.run_outputs.specs.Texts.{AreTextsOf, TablesSaid, clock_of, run_of}
use Rattle.run_outputs.specs.Unplaced.{AreByCall, events_in_rows}
use Rattle.run_outputs.specs.declared.played.Played.{Played}
use Rattle.run_values.specs.declared.options.RunAsk.{RunAsk}
use Rattle.run_values.specs.declared.options.RunOutput.TheVariants as output
use Rattle.run_texts.specs.declared.script.ScriptRow.{ScriptRow}
use Rattle.run_values.specs.Setups.{Setup}
use Rattle.run_values.specs.declared.post.Answer.{Answer}
use Rattle.runs_core.specs.Hearing.{all_heard}
use Rattle.runs_core.specs.Teams.{are_workers}

-- the same run, where its answers are kept as for a trace
abbrev pub traced : RunAsk → Clock → RunAsk
traced ask clock = record ask { output = output.Trace clock; parts = None }

whole_of : (ask : RunAsk) (clock : Clock) (setup : Setup) (rows : List ScriptRow) (played : Played) (tables : TablesSaid) → clock ≡ clock_of ask.output → are_workers ask.workers ≡ true
    → IsPlayedRun (traced ask clock) setup rows played → AreTextsOf clock (run_of setup played) played.heard.items tables → tables.refusals ≡ played.refusals
    → AreByCall (events_in_rows played.unplaced.items) tables.unplaced → All IsTyped played.books.items → AreWhole ask setup rows tables
whole_of ask clock setup rows played tables clock_is workers is texts refusals events typed =
    let heard : AreTextsOf clock (run_of setup played) (all_heard is.heard) tables = subst (λ (h : List Answer). AreTextsOf clock (run_of setup played) h tables) (is.kept refl) texts in
    record {
      workers = workers;
      given = (run_of setup played).given;
      heard = is.heard;
      given_by = record {
        config = is.given_by.config;
        asked_for = record { tssf = is.given_by.asked_for.tssf; tccd = is.given_by.asked_for.tccd; default_handling = is.given_by.asked_for.default_handling };
        rows = is.given_by.rows;
        says = is.given_by.says;
        play = is.given_by.play;
      };
      books = (run_of setup played).books;
      run = is.run;
      printed = subst (λ (c : Clock). AreTextsOf c (run_of setup played) (all_heard is.heard) tables) clock_is heard;
      refused = refusals ∙ is.counted;
      unplaced = subst (λ (rows_without : List ScriptRow). AreByCall (events_in_rows rows_without) tables.unplaced) (sym is.unplaced) events;
      typed = typed;
    }

pub tables_of_play : (ask asked : RunAsk) (clock : Clock) (setup : Setup) (rows : List ScriptRow) (played : Played) (tables : TablesSaid) → asked ≡ traced ask clock → clock ≡ clock_of ask.output
    → are_workers asked.workers ≡ true → IsPlayedRun asked setup rows played → AreTextsOf clock (run_of setup played) played.heard.items tables → tables.refusals ≡ played.refusals
    → AreByCall (events_in_rows played.unplaced.items) tables.unplaced → All IsTyped played.books.items → AreWhole ask setup rows tables
tables_of_play ask asked clock setup rows played tables same clock_is workers is texts refusals events typed =
    whole_of ask clock setup rows played tables clock_is (subst (λ (a : RunAsk). are_workers a.workers ≡ true) same workers) (subst (λ (a : RunAsk). IsPlayedRun a setup rows played) same is) texts
    refusals events typed
