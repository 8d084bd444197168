-- What a run in parts prints, beside what one run prints.
use Rattle.std.proofs.Common.{◌≡◌, ◌<◌, ◌+◌, ◌∙◌, ◌++◌, ℕ, true, List, [], ◌∷◌, length, map, refl, sym, ap, subst, arith}
use Rattle.std.specs.Prelude.{slice_index_or}
use Rattle.std.specs.List.{flat_map}
use Rattle.std.specs.List.Sorted.{IsStrictlySortedBy}
use Rattle.std.specs.Map.{keys_of}
use Rattle.std.specs.Ordering.{nat_cmp}
use Rattle.std.proofs.lemmas.List.{get_or-map, length-map, map-id}
use Rattle.book_texts.specs.RunTexts.{IsRunText}
use Rattle.run_outputs.specs.Records.{AreRecords}
use Rattle.run_outputs.specs.declared.call_record.CallRecord.{CallRecord}
use Rattle.live_recovery.specs.Laws.{NoneIsRefused}
use Rattle.part_laws.proofs.InOrder.{ComesInOrder, rise}
use Rattle.part_laws.proofs.Joined.{all_by_account}
use Rattle.part_laws.proofs.Merged.{all_joined, at_home, at_number, one_order}
use Rattle.part_laws.proofs.MergedTables.{home_within}
use Rattle.part_laws.proofs.NoRefusals.{unrefused, unrefused_in}
use Rattle.part_laws.proofs.PartEvents.{chosen_events}
use Rattle.part_laws.proofs.Payers.{are_paid}
use Rattle.part_laws.proofs.ReadInputs.{IsReadInput, of_event, read_input, rows_ordered}
use Rattle.part_laws.proofs.ScriptParts.{rows_same, scripts_joined, tables_joined}
use Rattle.part_laws.specs.OneInput.{HasValuesOf, PartsPrintAsOneRun, PrintsAlike}
use Rattle.part_laws.specs.OneText.{BooksHaveOneText}
use Rattle.part_laws.specs.Parts.{AreAsOfOneRun, choice_of}
use Rattle.part_laws.specs.Printed.{run_given}
use Rattle.part_laws.specs.Rows.{SomeRowsGiveTheirItems, chosen_rows}
use Rattle.run_laws.proofs.Starts.{played_starts}
use Rattle.part_laws.specs.ScriptParts.{IsPlayedByItsRows, PlaysItsRows, RecordsItsRows, payer_in_rows}
use Rattle.run_command.specs.Answers.{IsRunOf}
use Rattle.run_outputs.specs.Texts.{IsTextOf, RunSaid}
use Rattle.run_command.specs.InParts.{IsPartOf}
use Rattle.run_outputs.specs.Kept.{IsMergedText, IsPartsText, KeepsCalls, PartSaid}
use Rattle.run_command.specs.Plays.{IsPlayOf}
use Rattle.run_outputs.specs.Refused.{none_refused}
use Rattle.run_outputs.specs.Unplaced.{events_in_rows}
use Rattle.run_outputs.specs.declared.unplaced.UnplacedEvent.{UnplacedEvent}
use Rattle.run_values.specs.declared.options.RunAsk.{RunAsk}
use Rattle.run_values.specs.declared.options.RunOutput.{RunOutput}
use Rattle.run_values.specs.declared.options.RunOutput.TheVariants as output
use Rattle.run_outputs.specs.Parts.{part_by, part_rows}
use Rattle.run_texts.specs.Views.{rows_are_in_order}
use Rattle.run_texts.specs.declared.script.ScriptRow.{ScriptRow}
use Rattle.run_values.specs.Setups.{Setup}
use Rattle.run_values.specs.declared.directory.OpeningCredit.{OpeningCredit}
use Rattle.runs_core.specs.Hearing.{all_heard}
use Rattle.runs_core.specs.Runs.{IsRun}
use Rattle.account_core.specs.Closed.{Closed}
use Rattle.turn_account.specs.Seen.{StoodIn}
use Rattle.ssf_core.specs.Laws.{InitialDpIsFirst}
use Rattle.ssf_core.specs.declared.config.SsfConfig.{SsfConfig}
use Rattle.tariff_core.specs.Laws.{IsProper, OnePrefixCounts, ReadTariffsAreProper}

joined_lists : {X Y : Type 0} (f : X → List Y) (xs : List X) → flat_map (λ own. own) (map f xs) ≡ flat_map f xs
joined_lists f [] = refl
joined_lists f (x ∷ xs) = ap (λ l. f x ++ l) (joined_lists f xs)

module _ (ask : RunAsk) (input : List ℕ) (ran : RunSaid) (whole : IsRunOf ask input ran) (one : ask.workers ≡ 1) where
  abbrev setup : Setup
  setup = whole.are_books.setup

  abbrev rows : List ScriptRow
  rows = whole.given_by.rows

  one_run : IsRun StoodIn setup 1 whole.given (all_heard whole.heard) whole.books
  one_run = subst (λ (n : ℕ). IsRun StoodIn setup n whole.given (all_heard whole.heard) whole.books) one whole.are_books.run

  module _ {said : _} {firsts : List ℕ} {part : ℕ} {kept : PartSaid} (is : IsPartOf ask said firsts part kept) (values : HasValuesOf is whole) where
    own_run : IsRun StoodIn setup 1 is.given (all_heard is.heard) is.books
    own_run =
        subst (λ (s : Setup). IsRun StoodIn s 1 is.given (all_heard is.heard) is.books) values.setup
        (subst (λ (n : ℕ). IsRun StoodIn is.are_books.setup n is.given (all_heard is.heard) is.books) one is.are_books.run)

    own_play : IsPlayOf whole.given_by.config ask.delay (part_rows firsts (payer_in_rows setup rows) rows part) is.heard is.given
    own_play =
        subst (λ (r : List ScriptRow). IsPlayOf whole.given_by.config ask.delay r is.heard is.given) values.rows
        (subst (λ (c : SsfConfig). IsPlayOf c ask.delay is.given_by.rows is.heard is.given) values.config is.given_by.play)

    -- the rows that had no place are the part's of those of the one run
    its_unplaced : SomeRowsGiveTheirItems → InitialDpIsFirst → IsProper setup.tariff → rows_are_in_order 0 rows ≡ true → NoneIsRefused (all_heard whole.heard) → NoneIsRefused (all_heard is.heard)
        → is.given_by.play.play.unplaced ≡ chosen_rows (choice_of firsts (payer_in_rows setup rows) part) whole.given_by.play.play.unplaced
    its_unplaced own_items first proper ordered none own_none =
        let config = whole.given_by.config in
        let payer = payer_in_rows setup rows in
        let choice = choice_of firsts payer part in
        let unplaced = is.given_by.play.play.unplaced in
        let of_part : (p : IsPlayOf config ask.delay (part_rows firsts payer rows part) is.heard is.given) × (p.play.unplaced ≡ unplaced) =
        subst (λ (r : List ScriptRow). (p : IsPlayOf config ask.delay r is.heard is.given) × (p.play.unplaced ≡ unplaced)) values.rows
        (subst (λ (c : SsfConfig). (p : IsPlayOf c ask.delay is.given_by.rows is.heard is.given) × (p.play.unplaced ≡ unplaced)) values.config (is.given_by.play, refl)) in
        let own : (p : IsPlayOf config ask.delay (chosen_rows choice rows) is.heard is.given) × (p.play.unplaced ≡ unplaced) =
        subst (λ (r : List ScriptRow). (p : IsPlayOf config ask.delay r is.heard is.given) × (p.play.unplaced ≡ unplaced)) (rows_same firsts payer part rows) of_part in
        let play = whole.given_by.play in
        let paid = are_paid setup rows whole.given play.begins (played_starts first config whole.given play.calls) in
        let gives = own_items setup choice config ask.delay rows whole.heard is.heard whole.given is.given whole.books is.books proper ordered (all_by_account firsts setup payer part whole.given paid)
        play own.0 one_run own_run none own_none in
        sym own.1 ∙ gives.unplaced_are

    abbrev its_plays : NoneIsRefused (all_heard is.heard) → IsPlayedByItsRows setup whole.given_by.config ask.delay firsts rows part
    its_plays none = record { heard = is.heard; given = is.given; play = own_play; books = is.books; run = own_run; none = none }

    its_rows : NoneIsRefused (all_heard is.heard) → PlaysItsRows setup whole.given_by.config ask.delay firsts rows part kept.books
    its_rows none = record { plays = its_plays none; own = is.own }

    its_records : NoneIsRefused (all_heard is.heard) → AreRecords (run_given is.are_books.setup is.given is.books) kept.calls
        → RecordsItsRows setup whole.given_by.config ask.delay firsts rows part kept.calls
    its_records none are = record {
      plays = its_plays none;
      records = subst (λ (s : Setup). AreRecords (run_given s is.given is.books) kept.calls) values.setup are;
    }

pub parts_print : SomeRowsGiveTheirItems → BooksHaveOneText → InitialDpIsFirst → OnePrefixCounts → ReadTariffsAreProper → PartsPrintAsOneRun
parts_print own_items one_text first single read_proper asked ask input text refusals events ran parts whole one values none none_too =
    record { text_is = by_output ask.output parts.printed whole.printed (λ part d within. (parts.each part d within).calls); events_are = same_events }
  where
    read : IsReadInput whole.said
    read = read_input input whole.said whole.read

    proper : IsProper whole.are_books.setup.tariff
    proper = subst IsProper (sym whole.are_books.of_input.tariff) (read_proper whole.said.tariff read.tariff)

    sorted : IsStrictlySortedBy nat_cmp (keys_of whole.are_books.setup.accounts)
    sorted = subst (λ (a : List (ℕ × OpeningCredit)). IsStrictlySortedBy nat_cmp (keys_of a)) (sym whole.are_books.of_input.accounts) read.accounts

    ordered : rows_are_in_order 0 whole.given_by.rows ≡ true
    ordered = rows_ordered 0 whole.given_by.rows (subst (ComesInOrder of_event 0) (sym whole.given_by.says) read.script)

    none_of : NoneIsRefused (all_heard whole.heard)
    none_of = unrefused (all_heard whole.heard) ran.refusals whole.refused none_too

    none_in : (part : ℕ) (d : PartSaid) (within : part < length parts.parts) → NoneIsRefused (all_heard (parts.each part d within).heard)
    none_in part d within =
        unrefused_in (map (λ (p : PartSaid). p.refusals) parts.parts) part d.refusals (all_heard (parts.each part d within).heard) (sym parts.refused ∙ none)
        (rw (length-map parts.parts (λ (p : PartSaid). p.refusals)) within) (get_or-map (λ (p : PartSaid). p.refusals) parts.parts part d d.refusals within ∙ (parts.each part d within).refused)

    same_events : events ≡ ran.unplaced
    same_events =
        let setup = whole.are_books.setup in
        let firsts = parts.firsts in
        let payer = payer_in_rows setup whole.given_by.rows in
        let home : ℕ → ℕ = λ call. part_by firsts (payer call) call in
        let call_of : UnplacedEvent → ℕ = λ event. event.call in
        let itself : UnplacedEvent → UnplacedEvent = λ event. event in
        let events_of : PartSaid → List UnplacedEvent = λ part. part.unplaced in
        let all = events_in_rows whole.given_by.play.play.unplaced in
        let lists = map events_of parts.parts in
        let each : (part : ℕ) (d : List UnplacedEvent) → part < length lists → map itself (slice_index_or lists part d) ≡ at_home call_of itself home all (part + 0) =
        λ part d within.
        let e : PartSaid = record { books = []; calls = []; refusals = none_refused; unplaced = d } in
        let inside : part < length parts.parts = omega (arith, within, length-map parts.parts events_of) in
        let is = parts.each part e inside in
        let choice = choice_of firsts payer part in
        let unplaced = its_unplaced ask input ran whole one is (values part e inside) own_items first proper ordered none_of (none_in part e inside) in
        let place : part ≡ part + 0 = omega arith in
        map-id (slice_index_or lists part d) ∙ get_or-map events_of parts.parts part e d inside ∙ is.unplaced ∙ ap events_in_rows unplaced ∙ chosen_events choice whole.given_by.play.play.unplaced
        ∙ ap (at_home call_of itself home all) place in
        let count : 1 + length firsts ≡ length lists + 0 = omega (arith, parts.all, length-map parts.parts events_of) in
        one_order call_of 0 0 events ran.unplaced (rise call_of events parts.unplaced.rising) (rise call_of ran.unplaced whole.unplaced.rising) (λ number.
        parts.unplaced.same number ∙ ap (at_number call_of number) (sym (joined_lists events_of parts.parts) ∙ sym (map-id (flat_map (λ (kept : List UnplacedEvent). kept) lists)))
        ∙ all_joined call_of itself home all number 0 lists (omega arith) (omega (arith, home_within firsts (payer number) number, count)) each ∙ sym (whole.unplaced.same number))

    by_output : (o : RunOutput) → IsPartsText o parts.said.tariff (flat_map (λ part. part.books) parts.parts) (flat_map (λ part. part.calls) parts.parts) text
        → IsTextOf o (record { setup = whole.are_books.setup; given = whole.given; books = whole.books }) (all_heard whole.heard) ran.text
        → ((part : ℕ) (d : PartSaid) (within : part < length parts.parts)
        → KeepsCalls o (record { setup = (parts.each part d within).are_books.setup; given = (parts.each part d within).given; books = (parts.each part d within).books }) (slice_index_or parts.parts part d).calls)
        → PrintsAlike o text ran.text
    by_output output.Lines printed whole_printed calls =
        let lines_of : PartSaid → List Closed = λ p. p.books in
        let each : (part : ℕ) (d : List Closed) → part < length (map lines_of parts.parts)
        → PlaysItsRows whole.are_books.setup whole.given_by.config ask.delay parts.firsts whole.given_by.rows part (slice_index_or (map lines_of parts.parts) part d) =
        λ part d within.
        let e : PartSaid = record { books = d; calls = []; refusals = none_refused; unplaced = [] } in
        let inside : part < length parts.parts = omega (arith, within, length-map parts.parts lines_of) in
        subst (λ (b : List Closed). PlaysItsRows whole.are_books.setup whole.given_by.config ask.delay parts.firsts whole.given_by.rows part b) (sym (get_or-map lines_of parts.parts part e d inside))
        (its_rows ask input ran whole one (parts.each part e inside) (values part e inside) (none_in part e inside)) in
        let same : AreAsOfOneRun whole.books (flat_map (λ own. own) (map lines_of parts.parts)) =
        scripts_joined own_items one_text first whole.are_books.setup whole.given_by.config ask.delay parts.firsts whole.given_by.rows whole.heard whole.given whole.books (map lines_of parts.parts)
        proper sorted ordered whole.given_by.play (one_run ask input ran whole one) none_of (record { count = length-map parts.parts lines_of ∙ parts.all; each = each }) in
        same.lines text ran.text (subst (λ (b : List Closed). IsRunText b text) (sym (joined_lists lines_of parts.parts)) printed) whole_printed
    by_output (output.Calls clock) printed whole_printed calls =
        let calls_of : PartSaid → List CallRecord = λ p. p.calls in
        let each : (part : ℕ) (d : List CallRecord) → part < length (map calls_of parts.parts)
        → RecordsItsRows whole.are_books.setup whole.given_by.config ask.delay parts.firsts whole.given_by.rows part (slice_index_or (map calls_of parts.parts) part d) =
        λ part d within.
        let e : PartSaid = record { books = []; calls = d; refusals = none_refused; unplaced = [] } in
        let inside : part < length parts.parts = omega (arith, within, length-map parts.parts calls_of) in
        subst (λ (c : List CallRecord). RecordsItsRows whole.are_books.setup whole.given_by.config ask.delay parts.firsts whole.given_by.rows part c) (sym (get_or-map calls_of parts.parts part e d inside))
        (its_records ask input ran whole one (parts.each part e inside) (values part e inside) (none_in part e inside) (calls part e inside)) in
        let merged = subst (λ (c : List CallRecord). IsMergedText clock c text) (sym (joined_lists calls_of parts.parts)) printed in
        tables_joined own_items first single whole.are_books.setup whole.given_by.config ask.delay parts.firsts whole.given_by.rows whole.heard whole.given whole.books (map calls_of parts.parts)
        proper ordered whole.given_by.play (one_run ask input ran whole one) none_of (record { count = length-map parts.parts calls_of ∙ parts.all; each = each }) clock text ran.text merged whole_printed
    by_output output.Book printed whole_printed calls = tt
    by_output (output.Trace clock) printed whole_printed calls = tt
