-- The parts of a script, each played by its own rows.
use Rattle.std.proofs.Common.{◌≡◌, ◌==◌, ◌<◌, ◌+◌, ◌∙◌, ℕ, Bool, true, false, Option, List, [], ◌∷◌, length, map, refl, sym, ap, subst, arith}
use Rattle.std.specs.Prelude.{if◌then◌else◌, slice_index_or}
use Rattle.std.specs.List.{filter, flat_map}
use Rattle.run_outputs.specs.Records.{AreRecords}
use Rattle.run_outputs.specs.declared.call_record.CallRecord.{CallRecord}
use Rattle.part_laws.proofs.Apart.{accounts_apart}
use Rattle.part_laws.proofs.InOrder.{rise}
use Rattle.part_laws.proofs.Joined.{all_by_account, parts_joined}
use Rattle.part_laws.proofs.Merged.{all_joined, at_home, one_order}
use Rattle.part_laws.proofs.MergedTables.{ascending_rise, home_within, number_of, numbered_rows, row_of, rows_rise, same_table}
use Rattle.part_laws.proofs.OneRecord.{records_one}
use Rattle.part_laws.proofs.Payers.{are_paid}
use Rattle.part_laws.proofs.Records.{records_alike}
use Rattle.part_laws.specs.Chosen.{AreByAccount, chosen}
use Rattle.part_laws.specs.OneText.{BooksHaveOneText}
use Rattle.part_laws.specs.ScriptParts.{PlaysItsRows, RecordsItsRows, ScriptsInPartsHaveOneRun, ScriptsInPartsHaveOneTable, payer_in_rows}
use Rattle.part_laws.specs.Parts.{IsPlayedAlone, choice_of}
use Rattle.part_laws.specs.Printed.{run_given}
use Rattle.part_laws.specs.Rows.{SomeRowsGiveTheirItems, chosen_rows, is_chosen_happening}
use Rattle.run_laws.proofs.Starts.{played_starts}
use Rattle.run_command.specs.Plays.{IsPlayOf}
use Rattle.run_outputs.specs.Parts.{part_by, part_of, part_rows}
use Rattle.run_texts.specs.Views.{happens_of}
use Rattle.run_texts.specs.declared.script.Happening.{Happening}
use Rattle.run_texts.specs.declared.script.Happening.TheVariants.{Start, Meets, Recharge}
use Rattle.run_texts.specs.declared.script.ScriptRow.{ScriptRow}
use Rattle.run_values.specs.declared.post.Body.{Body}
use Rattle.runs_core.specs.Hearing.{all_heard}
use Rattle.runs_core.specs.Runs.{IsRun}
use Rattle.account_core.specs.Closed.{Closed}
use Rattle.turn_account.specs.Seen.{StoodIn}
use Rattle.ssf_core.specs.Laws.{InitialDpIsFirst}
use Rattle.tariff_core.specs.Laws.{OnePrefixCounts}

module _ (firsts : List ℕ) (payer : ℕ → Option ℕ) (part : ℕ) where
  happening_same : (what : Happening) → is_chosen_happening (choice_of firsts payer part) what ≡ (part_of firsts payer (happens_of what) == part)
  happening_same (Start call calling called) = refl
  happening_same (Meets call event) = refl
  happening_same (Recharge account amount until) = refl

  pub rows_same : (rows : List ScriptRow) → part_rows firsts payer rows part ≡ chosen_rows (choice_of firsts payer part) rows
  rows_same [] = refl
  rows_same (row ∷ rows) =
      ap (λ (b : Bool). if b then row ∷ part_rows firsts payer rows part else part_rows firsts payer rows part) (sym (happening_same row.what))
      ∙ ap (λ (l : List ScriptRow). if is_chosen_happening (choice_of firsts payer part) row.what then row ∷ l else l) (rows_same rows)

  own_play : (config : _) (delay : ℕ) (rows : List ScriptRow) (heard : _) (given : List (ℕ × Body)) → IsPlayOf config delay (part_rows firsts payer rows part) heard given
      → IsPlayOf config delay (chosen_rows (choice_of firsts payer part) rows) heard given
  own_play config delay rows heard given play = subst (λ (r : List ScriptRow). IsPlayOf config delay r heard given) (rows_same rows) play

pub scripts_joined : SomeRowsGiveTheirItems → BooksHaveOneText → InitialDpIsFirst → ScriptsInPartsHaveOneRun
scripts_joined own_items one_text first setup config delay firsts rows heard given books parts proper sorted ordered play run none played =
    let payer = payer_in_rows setup rows in
    let paid = are_paid setup rows given play.begins (played_starts first config given play.calls) in
    let alone : (part : ℕ) (d : List Closed) → part < length parts → IsPlayedAlone setup firsts payer given part (slice_index_or parts part d) =
    λ part d within.
    let kept : PlaysItsRows setup config delay firsts rows part (slice_index_or parts part d) = played.each part d within in
    let its = kept.plays in
    let choice = choice_of firsts payer part in
    let gives = own_items setup choice config delay rows heard its.heard given its.given books its.books proper ordered
    (all_by_account firsts setup payer part given paid) play (own_play firsts payer part config delay rows its.heard its.given its.play) run its.run none its.none in
    let same : its.given ≡ chosen choice given = gives.items in
    record {
      answers = all_heard its.heard;
      books = its.books;
      run = subst (λ (g : List (ℕ × Body)). IsRun StoodIn setup 1 g (all_heard its.heard) its.books) same its.run;
      none = its.none;
      own = kept.own;
    } in
    parts_joined one_text setup firsts payer given (all_heard heard) books parts proper sorted paid run none (record { count = played.count; each = alone })

-- the rows that are printed of the calls of a part
own_shown : (clock : _) (firsts : List ℕ) (payer : ℕ → Option ℕ) (part : ℕ) (calls : List CallRecord)
    → map (row_of clock) (filter (λ call. part_by firsts (payer call.call) call.call == part) calls) ≡ at_home number_of (row_of clock) (λ call. part_by firsts (payer call) call) (map (row_of clock) calls) part
own_shown clock firsts payer part [] = refl
own_shown clock firsts payer part (call ∷ calls) = by_own (part_by firsts (payer call.call) call.call == part) (own_shown clock firsts payer part calls)
  where
    by_own : (b : Bool)
        → map (row_of clock) (filter (λ call. part_by firsts (payer call.call) call.call == part) calls) ≡ at_home number_of (row_of clock) (λ call. part_by firsts (payer call) call) (map (row_of clock) calls) part
        → map (row_of clock) (if b then call ∷ filter (λ call. part_by firsts (payer call.call) call.call == part) calls else filter (λ call. part_by firsts (payer call.call) call.call == part) calls)
        ≡ (if b then row_of clock call ∷ at_home number_of (row_of clock) (λ call. part_by firsts (payer call) call) (map (row_of clock) calls) part else at_home number_of (row_of clock) (λ call. part_by firsts (payer call) call) (map (row_of clock) calls) part)
    by_own true rest = ap (λ l. row_of clock call ∷ l) rest
    by_own false rest = rest

pub tables_joined : SomeRowsGiveTheirItems → InitialDpIsFirst → OnePrefixCounts → ScriptsInPartsHaveOneTable
tables_joined own_items first single setup config delay firsts rows heard given books parts proper ordered play run none played clock text other merged whole =
    let payer = payer_in_rows setup rows in
    let paid = are_paid setup rows given play.begins (played_starts first config given play.calls) in
    let home : ℕ → ℕ = λ call. part_by firsts (payer call) call in
    let all = map (row_of clock) whole.calls in
    let each : (part : ℕ) (d : List CallRecord) → part < length parts → map (row_of clock) (slice_index_or parts part d) ≡ at_home number_of (row_of clock) home all (part + 0) =
    λ part d within.
    let recorded : RecordsItsRows setup config delay firsts rows part (slice_index_or parts part d) = played.each part d within in
    let its = recorded.plays in
    let choice = choice_of firsts payer part in
    let by : AreByAccount setup choice given = all_by_account firsts setup payer part given paid in
    let gives = own_items setup choice config delay rows heard its.heard given its.given books its.books proper ordered by play
    (own_play firsts payer part config delay rows its.heard its.given its.play) run its.run none its.none in
    let same : its.given ≡ chosen choice given = gives.items in
    let own_run = subst (λ (g : List (ℕ × Body)). IsRun StoodIn setup 1 g (all_heard its.heard) its.books) same its.run in
    let apart = accounts_apart setup choice given (all_heard heard) (all_heard its.heard) books its.books proper by run own_run none its.none in
    let records = records_alike setup choice given books its.books whole.calls by apart.books_are whole.are in
    let kept = subst (λ (g : List (ℕ × Body)). AreRecords (run_given setup g its.books) (slice_index_or parts part d)) same recorded.records in
    let place : part ≡ part + 0 = omega arith in
    records_one single (run_given setup (chosen choice given) its.books) clock (slice_index_or parts part d) (filter (λ (call : CallRecord). choice.calls call.call) whole.calls) kept records
    ∙ own_shown clock firsts payer part whole.calls ∙ ap (at_home number_of (row_of clock) home all) place in
    let joined : map (row_of clock) merged.calls ≡ all = one_order number_of 0 0 (map (row_of clock) merged.calls) all
    (rows_rise clock 0 merged.calls (rise (λ (call : CallRecord). call.call) merged.calls merged.merged.rising))
    (rows_rise clock 0 whole.calls (ascending_rise clock whole.calls whole.are.ascending))
    (λ number.
    numbered_rows clock number merged.calls ∙ ap (map (row_of clock)) (merged.merged.same number) ∙ sym (numbered_rows clock number (flat_map (λ (kept : List CallRecord). kept) parts))
    ∙ all_joined number_of (row_of clock) home all number 0 parts (omega arith) (omega (arith, home_within firsts (payer number) number, played.count)) each) in
    merged.is ∙ same_table clock merged.calls whole.calls joined ∙ sym whole.is
