-- The meaning of a script: what happens in a run, or the first fault.
use Rattle.std.specs.Prelude.{◌==◌, ◌&&◌, ◌||◌, ℕ, Bool, false, List, [], ◌∷◌, reverse, Result, Ok, Err, if◌then◌else◌, nat_lt, codes}
use Rattle.cap_values.specs.declared.leg.Leg.TheVariants as leg
use Rattle.ssf_core.specs.declared.item.BcsmEvent.{BcsmEvent}
use Rattle.ssf_core.specs.declared.item.BcsmEvent.TheVariants as bcsm
use Rattle.table_core.specs.Fields.{has_word, is_blank, number_in, when_blank}
use Rattle.table_core.specs.Judging.{and_then}
use Rattle.table_core.specs.Rows.{Fields}
use Rattle.table_core.specs.Tables.{TableForm, table_form, table_of}
use Rattle.table_core.specs.declared.fault.RowFault.{RowFault}
use Rattle.table_core.specs.declared.fault.RowKind.{RowKind}
use Rattle.table_core.specs.declared.fault.RowKind.TheVariants as kind
use Rattle.tariff_core.specs.Fields.{moment_in}
use Rattle.run_texts.specs.Happenings.{RowData, Happens, Meets, Recharges, Starts}
use Rattle.run_texts.specs.Setups.{account_in, amount_in, party_in, until_in}
use Rattle.run_texts.specs.declared.script.Word.{Word}
use Rattle.run_texts.specs.declared.script.Word.TheVariants as word
use Rattle.run_values.specs.Setups.{has_account}
use Rattle.run_values.specs.declared.directory.OpeningCredit.{OpeningCredit}
use Rattle.price_core.specs.declared.times.TheConstants.{MAX_MOMENT}

-- ---- words

-- the word in a row
abbrev pub row_word_in : List (List ℕ) → Result Word RowKind
row_word_in fields =
    if has_word fields 2 (codes "start") then Ok word.Start else
    if has_word fields 2 (codes "answer") then Ok (word.Event bcsm.Answer) else
    if has_word fields 2 (codes "busy") then Ok (word.Event bcsm.Busy) else
    if has_word fields 2 (codes "noanswer") then Ok (word.Event bcsm.NoAnswer) else
    if has_word fields 2 (codes "routefail") then Ok (word.Event bcsm.RouteSelectFailure) else
    if has_word fields 2 (codes "abandon") then Ok (word.Event bcsm.Abandon) else
    if has_word fields 2 (codes "disconnect") then Ok word.Disconnect else
    if has_word fields 2 (codes "recharge") then Ok word.Recharge else Err kind.What

-- ---- fields; the last, z, is there under the second header alone, and empty elsewhere

-- a call: any number of 64 bits
abbrev pub call_in : List (List ℕ) → Result ℕ RowKind
call_in fields = number_in fields 1 18446744073709551615

-- a call starts: x is the calling and y the called party
abbrev pub start_row_in : List (List ℕ) → Result Happens RowKind
start_row_in fields = and_then (call_in fields) (λ call. and_then (party_in fields 3) (λ calling. and_then (party_in fields 4) (λ called. when_blank (is_blank fields 5) (Starts call calling called))))

-- an event of a call that has no more to say
abbrev pub event_row_in : List (List ℕ) → BcsmEvent → Result Happens RowKind
event_row_in fields event = and_then (call_in fields) (λ call. when_blank (is_blank fields 3 && is_blank fields 4 && is_blank fields 5) (Meets call event))

-- the party that hangs up: the calling one at leg 1, the called one at leg 2
abbrev pub leg_of : ℕ → Result BcsmEvent RowKind
leg_of number = if number == 1 then Ok (bcsm.Disconnect leg.One) else if number == 2 then Ok (bcsm.Disconnect leg.Two) else Err kind.Number

-- a party of a call hangs up: x is its leg
abbrev pub disconnect_in : List (List ℕ) → Result Happens RowKind
disconnect_in fields = and_then (call_in fields) (λ call. and_then (number_in fields 3 2) (λ number. and_then (leg_of number) (λ event. when_blank (is_blank fields 4 && is_blank fields 5) (Meets call event))))

-- without a call, the account x is recharged by the amount y, and z is its last moment from then on, or empty
abbrev pub recharge_row_in : List (List ℕ) → Result Happens RowKind
recharge_row_in fields =
    and_then (account_in fields 3) (λ account. and_then (amount_in fields 4) (λ amount. and_then (until_in fields 5) (λ until.
    when_blank (is_blank fields 1) (Recharges account amount until))))

-- what happens in a row with this word
abbrev pub happens_in : List (List ℕ) → Word → Result Happens RowKind
happens_in fields word.Start = start_row_in fields
happens_in fields (word.Event event) = event_row_in fields event
happens_in fields word.Disconnect = disconnect_in fields
happens_in fields word.Recharge = recharge_row_in fields

-- what happens in a row, and its moment of 0 to 10^12
abbrev pub read_in : List (List ℕ) → Result RowData RowKind
read_in fields = and_then (row_word_in fields) (λ word. and_then (moment_in fields 0 MAX_MOMENT) (λ at. and_then (happens_in fields word) (λ what. Ok (record { at = at; what = what }))))

-- ---- rows; the earlier ones newest first

-- the rows from the first on
abbrev pub first_to_last : {E : Type 0} → Result (List RowData) E → Result (List RowData) E
first_to_last rows = and_then rows (λ newest_first. Ok (reverse newest_first))

-- the moment of the row before, 0 at the first
abbrev pub last_row_moment : List RowData → ℕ
last_row_moment [] = 0
last_row_moment (row ∷ earlier) = row.at

-- whether a call starts
abbrev pub starts : ℕ → Happens → Bool
starts call (Starts other calling called) = other == call
starts call (Meets other event) = false
starts call (Recharges account amount until) = false

-- whether a call has started
abbrev pub is_started : ℕ → List RowData → Bool
is_started call [] = false
is_started call (row ∷ earlier) = is_started call earlier || starts call row.what

-- a call starts once; only a call that has started meets anything, and only an account of the setup is recharged
abbrev pub judged_by : List (ℕ × OpeningCredit) → List RowData → RowData → Happens → Result RowData RowKind
judged_by accounts earlier row (Starts call calling called) = if is_started call earlier then Err kind.Repeated else Ok row
judged_by accounts earlier row (Meets call met) = if is_started call earlier then Ok row else Err kind.Unknown
judged_by accounts earlier row (Recharges account amount until) = if has_account account accounts then Ok row else Err kind.Unknown

-- a row may come after the earlier ones; no moment lies below the one before
abbrev pub judged_row : List (ℕ × OpeningCredit) → List RowData → RowData → Result RowData RowKind
judged_row accounts earlier row = if nat_lt row.at (last_row_moment earlier) then Err kind.Order else judged_by accounts earlier row row.what

-- what a row says, after the earlier rows
unfoldable pub script_row_at : List (ℕ × OpeningCredit) → List RowData → List (List ℕ) → Result RowData RowKind
script_row_at accounts earlier fields = and_then (read_in fields) (judged_row accounts earlier)

-- the headers of a script, the older one first
abbrev pub script_headers : List Fields
script_headers =
    (codes "moment" ∷ codes "call" ∷ codes "what" ∷ codes "x" ∷ codes "y" ∷ [])
    ∷ (codes "moment" ∷ codes "call" ∷ codes "what" ∷ codes "x" ∷ codes "y" ∷ codes "z" ∷ []) ∷ []

-- one of these headers, and 1,000,000 rows at most; each says what happens after the earlier ones
abbrev pub script_form : List (ℕ × OpeningCredit) → TableForm (List RowData) RowKind RowFault
script_form accounts =
    table_form script_headers 1000000 []
    (λ header earlier fields. and_then (script_row_at accounts earlier fields) (λ row. Ok (row ∷ earlier)))

-- what a script says, where these are the accounts of the setup
abbrev pub script_of : List (ℕ × OpeningCredit) → List (List (List ℕ)) → Result (List RowData) RowFault
script_of accounts rows = first_to_last (table_of (script_form accounts) rows)
