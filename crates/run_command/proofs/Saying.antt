-- What a run of an input says, from what its rows came to over its setup.
use Rattle.std.proofs.Common.{◌≡◌, ◌<◌, ◌∙◌, ℕ, List, [], map, length, refl, sym, ap, subst, arith}
use Rattle.std.specs.List.{flat_map}
use Rattle.std.specs.Prelude.{slice_index_or}
use Rattle.run_command.proofs.Resaid.{part_said_alike}
use Rattle.run_command.specs.Answers.{IsRunOf}
use Rattle.run_outputs.specs.Texts.{RunSaid, TablesSaid}
use Rattle.run_command.specs.Books.{AreBooksOf, IsSetupOf}
use Rattle.run_command.specs.InParts.{IsInParts, IsPartOf, IsPlayedPart, IsRunInParts}
use Rattle.run_outputs.specs.Kept.{IsPartsText, PartSaid}
use Rattle.run_command.specs.Played.{AreWhole, IsWhole}
use Rattle.run_command.specs.Plays.{IsGivenBy, IsGivenWithout}
use Rattle.run_outputs.specs.Refused.{none_refused}
use Rattle.run_command.specs.Starts.{IsStartOf}
use Rattle.run_command.specs.Tables.{AreTablesOf}
use Rattle.run_outputs.specs.Unplaced.{AreByCall, events_in_rows}
use Rattle.run_outputs.specs.declared.refusals.Refusals.{Refusals}
use Rattle.run_outputs.specs.declared.unplaced.UnplacedEvent.{UnplacedEvent}
use Rattle.run_values.specs.declared.options.RunAsk.{RunAsk}
use Rattle.run_outputs.specs.Parts.{part_count, part_rows, part_script, payer_of}
use Rattle.run_texts.specs.Happenings.{RowData}
use Rattle.run_texts.specs.Inputs.{RunInput}
use Rattle.run_texts.specs.Views.{row_data, with_digits}
use Rattle.run_texts.specs.declared.script.ScriptRow.{ScriptRow}
use Rattle.run_values.specs.Setups.{Setup}
use Rattle.run_values.specs.declared.post.Answer.{Answer}
use Rattle.run_values.specs.declared.post.Body.{Body}
use Rattle.tariff_core.specs.Bands.{Band}

-- a script that says the same is given alike, and the same rows have no place in it
said_alike : (ask : RunAsk) (script other : List RowData) (heard : List (List Answer)) (given : List (ℕ × Body)) → script ≡ other → (given_by : IsGivenBy ask script heard given)
    → IsGivenWithout ask other heard given given_by.play.play.unplaced
said_alike ask script other heard given same given_by =
    let P : List RowData → Type 0 = λ s. IsGivenWithout ask s heard given given_by.play.play.unplaced in
    subst P same (record { given_by = given_by; unplaced = refl })

pub events_moved : (without now : List ScriptRow) (events : List UnplacedEvent) → now ≡ without → AreByCall (events_in_rows without) events → AreByCall (events_in_rows now) events
events_moved without now events same are = subst (λ (rows : List ScriptRow). AreByCall (events_in_rows rows) events) (sym same) are

pub whole_said : (ask : RunAsk) (input : List ℕ) (setup : Setup) (rows : List ScriptRow) (ran : RunSaid) → IsStartOf ask input setup rows
    → IsWhole ask setup rows ran → IsRunOf ask input ran
whole_said ask input setup rows ran start is =
    let said = start.said in
    let moved = said_alike ask (map row_data rows) said.script is.heard is.given start.says is.given_by in
    let given_by : IsGivenBy ask said.script is.heard is.given = moved.given_by in
    let are : AreBooksOf ask said is.given is.heard is.books = record { setup = setup; of_input = start.of_input; run = is.run } in
    record {
      said = said;
      read = start.read;
      range = start.range;
      workers = is.workers;
      given = is.given;
      heard = is.heard;
      given_by = given_by;
      books = is.books;
      are_books = are;
      printed = is.printed;
      refused = is.refused;
      unplaced = events_moved is.given_by.play.play.unplaced given_by.play.play.unplaced ran.unplaced moved.unplaced is.unplaced;
      typed = is.typed;
    }

-- the same of all texts of one play
pub tables_are_said : (ask : RunAsk) (input : List ℕ) (setup : Setup) (rows : List ScriptRow) (tables : TablesSaid) → IsStartOf ask input setup rows
    → AreWhole ask setup rows tables → AreTablesOf ask input tables
tables_are_said ask input setup rows tables start is =
    let said = start.said in
    let moved = said_alike ask (map row_data rows) said.script is.heard is.given start.says is.given_by in
    let given_by : IsGivenBy ask said.script is.heard is.given = moved.given_by in
    let are : AreBooksOf ask said is.given is.heard is.books = record { setup = setup; of_input = start.of_input; run = is.run } in
    record {
      said = said;
      read = start.read;
      range = start.range;
      workers = is.workers;
      given = is.given;
      heard = is.heard;
      given_by = given_by;
      books = is.books;
      are_books = are;
      printed = is.printed;
      refused = is.refused;
      unplaced = events_moved is.given_by.play.play.unplaced given_by.play.play.unplaced tables.unplaced moved.unplaced is.unplaced;
      typed = is.typed;
    }

module _ (ask : RunAsk) (said : RunInput) (setup : Setup) (rows : List ScriptRow) (of_input : IsSetupOf ask said setup)
    (says : map row_data rows ≡ said.script) (firsts : List ℕ) where
  its_script : (part : ℕ) → map row_data (part_rows firsts (payer_of (with_digits setup.subscribers) (map row_data rows)) rows part)
      ≡ part_script firsts (payer_of said.setup.subscribers said.script) said.script part
  its_script part =
      part_said_alike firsts (payer_of (with_digits setup.subscribers) (map row_data rows)) rows part
      ∙ ap (λ s. part_script firsts (payer_of (with_digits setup.subscribers) s) s part) says
      ∙ ap (λ b. part_script firsts (payer_of b said.script) said.script part) of_input.subscribers

  part_of_input : (part : ℕ) (kept : PartSaid) → IsPlayedPart ask setup firsts part (part_rows firsts (payer_of (with_digits setup.subscribers) (map row_data rows)) rows part) kept
      → IsPartOf ask said firsts part kept
  part_of_input part kept is =
      let script : List RowData = part_script firsts (payer_of said.setup.subscribers said.script) said.script part in
      let moved = said_alike ask (map row_data (part_rows firsts (payer_of (with_digits setup.subscribers) (map row_data rows)) rows part)) script is.heard is.given (its_script part) is.given_by in
      let given_by : IsGivenBy ask script is.heard is.given = moved.given_by in
      record {
        given = is.given;
        heard = is.heard;
        given_by = given_by;
        books = is.books;
        are_books = record { setup = setup; of_input = of_input; run = is.run };
        own = is.own;
        calls = is.calls;
        refused = is.refused;
        unplaced = is.unplaced ∙ ap events_in_rows (sym moved.unplaced);
      }

some_said : PartSaid
some_said = record { books = []; calls = []; refusals = none_refused; unplaced = [] }

pub parts_said : (asked : ℕ) (ask : RunAsk) (input : List ℕ) (setup : Setup) (rows : List ScriptRow) (text : List ℕ) (refusals : Refusals)
    (events : List UnplacedEvent) → IsStartOf ask input setup rows → IsInParts asked ask setup rows text refusals events → IsRunInParts asked ask input text refusals events
parts_said asked ask input setup rows text refusals events start is =
    let workers = (is.each 0 some_said (let all = is.all in omega (arith, all))).workers in
    let each : (part : ℕ) (d : PartSaid) → part < length is.parts → IsPartOf ask start.said is.firsts part (slice_index_or is.parts part d) =
    λ part d within. part_of_input ask start.said setup rows start.of_input start.says is.firsts part _ (is.each part d within) in
    record {
      said = start.said;
      read = start.read;
      range = start.range;
      workers = workers;
      firsts = is.firsts;
      count = is.count ∙ ap (λ a. part_count asked (length a)) start.of_input.accounts;
      parts = is.parts;
      all = is.all;
      each = each;
      printed = subst (λ (t : List Band). IsPartsText ask.output t (flat_map (λ part. part.books) is.parts) (flat_map (λ part. part.calls) is.parts) text) start.of_input.tariff is.printed;
      refused = is.refused;
      unplaced = is.unplaced;
      typed = is.typed;
    }
