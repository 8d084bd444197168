-- A script that is played in parts, each by its own rows.
use Rattle.std.specs.Prelude.{◌≡◌, ◌<◌, ◌+◌, ℕ, true, Option, List, length, map, slice_index_or}
use Rattle.std.specs.List.{flat_map}
use Rattle.std.specs.List.Sorted.{IsStrictlySortedBy}
use Rattle.std.specs.Map.{keys_of}
use Rattle.std.specs.Ordering.{nat_cmp}
use Rattle.run_outputs.specs.Records.{AreRecords}
use Rattle.run_outputs.specs.Tables.{IsCallText}
use Rattle.run_outputs.specs.declared.call_record.CallRecord.{CallRecord}
use Rattle.live_recovery.specs.Laws.{NoneIsRefused}
use Rattle.tariff_core.specs.declared.clock.Clock.{Clock}
use Rattle.part_laws.specs.Parts.{AreAsOfOneRun}
use Rattle.part_laws.specs.Printed.{run_given}
use Rattle.run_outputs.specs.Kept.{IsMergedText, own_books}
use Rattle.run_command.specs.Plays.{IsPlayOf}
use Rattle.run_outputs.specs.Parts.{part_rows, payer_of}
use Rattle.run_texts.specs.Views.{rows_are_in_order, row_data, with_digits}
use Rattle.run_texts.specs.declared.script.ScriptRow.{ScriptRow}
use Rattle.run_values.specs.Setups.{Setup}
use Rattle.run_values.specs.declared.post.Answer.{Answer}
use Rattle.run_values.specs.declared.post.Body.{Body}
use Rattle.runs_core.specs.Hearing.{all_heard}
use Rattle.runs_core.specs.Runs.{IsRun}
use Rattle.account_core.specs.Closed.{Closed}
use Rattle.turn_account.specs.Seen.{StoodIn}
use Rattle.ssf_core.specs.declared.config.SsfConfig.{SsfConfig}
use Rattle.tariff_core.specs.Laws.{IsProper}

-- the account of each call in a script: that of the subscriber who starts it
abbrev pub payer_in_rows : Setup → List ScriptRow → ℕ → Option ℕ
payer_in_rows setup rows = payer_of (with_digits setup.subscribers) (map row_data rows)

-- one worker has played the rows of a part alone, and none of its asks was refused
pub record IsPlayedByItsRows (setup : Setup) (config : SsfConfig) (delay : ℕ) (firsts : List ℕ) (rows : List ScriptRow) (part : ℕ) : Type 0 where
  pub heard : List (List Answer)
  pub given : List (ℕ × Body)
  pub play : IsPlayOf config delay (part_rows firsts (payer_in_rows setup rows) rows part) heard given
  pub books : List Closed
  pub run : IsRun StoodIn setup 1 given (all_heard heard) books
  pub none : NoneIsRefused (all_heard heard)

-- and these are the books of the part's own accounts
pub record PlaysItsRows (setup : Setup) (config : SsfConfig) (delay : ℕ) (firsts : List ℕ) (rows : List ScriptRow) (part : ℕ) (kept : List Closed) : Type 0 where
  pub plays : IsPlayedByItsRows setup config delay firsts rows part
  pub own : kept ≡ own_books firsts part plays.books

-- so it is of each part
pub record ArePlayedByTheirRows (setup : Setup) (config : SsfConfig) (delay : ℕ) (firsts : List ℕ) (rows : List ScriptRow) (parts : List (List Closed)) : Type 0 where
  pub count : length parts ≡ 1 + length firsts
  pub each : (part : ℕ) (d : List Closed) → part < length parts → PlaysItsRows setup config delay firsts rows part (slice_index_or parts part d)

-- the books of all parts are those of one worker that plays all rows over the same setup, with gsmSSFs of the same configuration and the same delay, but for the numbers of settles, and have its lines
abbrev pub ScriptsInPartsHaveOneRun : Type 0
ScriptsInPartsHaveOneRun =
    (setup : Setup) (config : SsfConfig) (delay : ℕ) (firsts : List ℕ) (rows : List ScriptRow) (heard : List (List Answer)) (given : List (ℕ × Body)) (books : List Closed) (parts : List (List Closed))
    → IsProper setup.tariff → IsStrictlySortedBy nat_cmp (keys_of setup.accounts) → rows_are_in_order 0 rows ≡ true
    → IsPlayOf config delay rows heard given → IsRun StoodIn setup 1 given (all_heard heard) books → NoneIsRefused (all_heard heard)
    → ArePlayedByTheirRows setup config delay firsts rows parts → AreAsOfOneRun books (flat_map (λ own. own) parts)

-- ---- the records of calls

-- a part was played so, and these are the records of its calls
pub record RecordsItsRows (setup : Setup) (config : SsfConfig) (delay : ℕ) (firsts : List ℕ) (rows : List ScriptRow) (part : ℕ) (kept : List CallRecord) : Type 0 where
  pub plays : IsPlayedByItsRows setup config delay firsts rows part
  pub records : AreRecords (run_given setup plays.given plays.books) kept

-- so it is of each part
pub record AreRecordedByTheirRows (setup : Setup) (config : SsfConfig) (delay : ℕ) (firsts : List ℕ) (rows : List ScriptRow) (parts : List (List CallRecord)) : Type 0 where
  pub count : length parts ≡ 1 + length firsts
  pub each : (part : ℕ) (d : List CallRecord) → part < length parts → RecordsItsRows setup config delay firsts rows part (slice_index_or parts part d)

-- the table of the calls of all parts is the table of the calls of one worker that plays all rows so, byte for byte
abbrev pub ScriptsInPartsHaveOneTable : Type 0
ScriptsInPartsHaveOneTable =
    (setup : Setup) (config : SsfConfig) (delay : ℕ) (firsts : List ℕ) (rows : List ScriptRow) (heard : List (List Answer)) (given : List (ℕ × Body)) (books : List Closed) (parts : List (List CallRecord))
    → IsProper setup.tariff → rows_are_in_order 0 rows ≡ true
    → IsPlayOf config delay rows heard given → IsRun StoodIn setup 1 given (all_heard heard) books → NoneIsRefused (all_heard heard)
    → AreRecordedByTheirRows setup config delay firsts rows parts
    → (clock : Clock) (text other : List ℕ) → IsMergedText clock (flat_map (λ kept. kept) parts) text → IsCallText clock (run_given setup given books) other → text ≡ other
