-- What a line says has its numbers in few digits.
use Rattle.std.proofs.Common.{◌≡◌, ◌≤◌, ◌&&◌, ℕ, Bool, true, false, Option, Some, None, List, [], ◌∷◌, ◌++◌, Ok, Err, length, take, zero, suc, refl, ap, subst, arith}
use Rattle.std.specs.Option.{option_or}
use Rattle.std.specs.Prelude.{Result, codes, if◌then◌else◌, nat_le, nat_lt, ok_or, option_and_then, ⊤}
use Rattle.std.specs.Result.{result_map_both}
use Rattle.std.proofs.lemmas.Bool.Decides.{nat_tests}
use Rattle.std.specs.Fmt.{decimal}
use Rattle.cap_values.specs.declared.event.Event.{Event}
use Rattle.cap_values.specs.declared.mode.Mode.{Mode}
use Rattle.live_answers.specs.Live.{Heard, given_by, given_of, heard_after, last_after, next_after}
use Rattle.live_answers.specs.Standing.{LineView, in_time, numbered_message, placed, said_after, standing}
use Rattle.run_texts.specs.declared.kind.LineKind.TheVariants as kind
use Rattle.live_recovery.proofs.Decimals.{IsShort, is_short}
use Rattle.run_texts.specs.Lines.{line_message, message_of, nine}
use Rattle.run_texts.specs.Messages.{MessageView, Speech, message_call_in, charging_report_in, ended_message_in, event_message_in, event_report_in, initial_in, interval_in, leg_in, message_in, mode_in, report_without_switch, of_switch, recharge_message_in, report_state_in, report_with_switch, switched_in}
use Rattle.tariff_core.specs.Fields.{moment_in}
use Rattle.tariff_core.specs.Reading.{at_most, date_and_time_of, moment_of}
use Rattle.run_texts.specs.Setups.{account_in, amount_in, party_in, until_in}
use Rattle.run_texts.specs.Said.{Said, report_said}
use Rattle.table_core.specs.Decimals.{decimal_of}
use Rattle.table_core.specs.Fields.{counted_if_any, field_in, has_word, number_in, number_or_empty, optional_in, present, when_blank}
use Rattle.table_core.specs.Judging.{and_then}
use Rattle.table_core.specs.Rows.{Fields, rows_of}
use Rattle.table_core.specs.declared.fault.RowKind.{RowKind}
use Rattle.table_core.specs.declared.fault.RowKind.TheVariants as row
use Rattle.price_core.specs.declared.times.TimeInfo.{TimeInfo}
use Rattle.price_core.specs.declared.times.TimeInfo.TheVariants as info
use Rattle.tariff_core.proofs.Proper.{decimal_within}
use Rattle.tariff_core.proofs.TableLemmas.{after_is}

-- ---- the numbers of what was read are short

-- what is said has its numbers in few digits
pub record IsReadable (said : Said) : Type 0 where
  pub report : said.what ≡ codes "ApplyChargingReport" → IsShort said.x3 × IsShort said.x4
  pub recharge : said.what ≡ codes "Recharge" → IsShort said.x1 × IsShort said.x2 × IsShort said.x3

-- what is said has no number
no_number : (said : Said) → length said.what ≤ 18 → (length said.what ≡ 8 → ⊥) → IsReadable said
no_number said short other = record {
  report = λ is. absurd (omega (arith, short, ap length is));
  recharge = λ is. absurd (other (ap length is));
}

-- the same of what is said of a call
abbrev pub Reads : Speech → Type 0
Reads speech = IsReadable speech.said

blank_is : (blank : Bool) (speech read : Speech) → when_blank blank speech ≡ Ok read → speech ≡ read
blank_is true speech read is = cc is
blank_is false speech read is = absurd (cc)

reads_blank : (blank : Bool) (speech read : Speech) → when_blank blank speech ≡ Ok read → Reads speech → Reads read
reads_blank blank speech read is reads = subst Reads (blank_is blank speech read is) reads

-- ---- numbers that were read

some_number : (found : Option ℕ) (number : ℕ) → ok_or found row.Number ≡ Ok number → found ≡ Some number
some_number None number is = absurd (cc)
some_number (Some n) number is = let same : n ≡ number = cc is in ap (λ m. Some m) same

number_short : (fields : Fields) (place most number : ℕ) → most ≤ 18446744073709551615 → number_in fields place most ≡ Ok number → IsShort (decimal number)
number_short fields place most number wide is =
    is_short number (omega (arith, wide, decimal_within most (field_in fields place) number (some_number (decimal_of most (field_in fields place)) number is)))

-- a number that may not be there
abbrev IsFew : Option ℕ → Type 0
IsFew number = IsShort (number_or_empty number)

none_few : IsFew None
none_few = omega arith

present_few : (blank : Bool) (read : Result ℕ RowKind) (number : Option ℕ) → ((n : ℕ) → read ≡ Ok n → IsShort (decimal n))
    → (if blank then Ok None else present read) ≡ Ok number → IsFew number
present_few true read number few is = let same : None ≡ number = cc is in subst IsFew same none_few
present_few false (Err why) number few is = absurd (cc)
present_few false (Ok n) number few is = let same : Some n ≡ number = cc is in subst IsFew same (few n refl)

interval_few : (fields : Fields) (interval : Option ℕ) → interval_in fields ≡ Ok interval → IsFew interval
interval_few fields interval is =
    let (found, read, counted) = after_is (optional_in fields 8 864000) counted_if_any interval is in
    subst IsFew (counted_is found interval counted) (present_few _ (number_in fields 8 864000) found (λ n. number_short fields 8 864000 n (omega arith)) read)
  where
    some_counted : (none : Bool) (n : ℕ) (interval : Option ℕ) → (if none then Err row.Number else Ok (Some n)) ≡ Ok interval → Some n ≡ interval
    some_counted true n interval is = absurd (cc)
    some_counted false n interval is = cc is

    counted_is : (found interval : Option ℕ) → counted_if_any found ≡ Ok interval → found ≡ interval
    counted_is None interval is = cc is
    counted_is (Some n) interval is = some_counted _ n interval is

moment_few : (fields : Fields) (until : Option ℕ) → until_in fields 7 ≡ Ok until → IsFew until
moment_few fields until is = present_few _ (moment_in fields 7 1000000000000) until (λ n read. is_short n (omega (arith, moment_within _ n (some_number _ n read)))) is
  where
    by_test : (within : Bool) (at n : ℕ) → nat_le at 1000000000000 ≡ within → (if within then Some at else None) ≡ Some n → n ≤ 1000000000000
    by_test true at n le is = let same : at ≡ n = cc is in grind (arith, nat_tests, le, same)
    by_test false at n le is = absurd (cc)

    by_parts : (number dated : Option ℕ) (n : ℕ) → ((m : ℕ) → number ≡ Some m → m ≤ 1000000000000) → option_or number (option_and_then (at_most 1000000000000) dated) ≡ Some n → n ≤ 1000000000000
    by_parts (Some m) dated n within is = let same : m ≡ n = cc is in subst (λ k. k ≤ 1000000000000) same (within m refl)
    by_parts None None n within is = absurd (cc)
    by_parts None (Some at) n within is = by_test _ at n refl is

    moment_within : (text : List ℕ) (n : ℕ) → moment_of 1000000000000 text ≡ Some n → n ≤ 1000000000000
    moment_within text n is = by_parts (decimal_of 1000000000000 text) (date_and_time_of text) n (decimal_within 1000000000000 text) is

-- ---- each kind of message

initial_reads : (fields : Fields) (speech : Speech) → initial_in fields ≡ Ok speech → Reads speech
initial_reads fields speech is =
    let one = after_is (message_call_in fields) _ speech is in
    let two = after_is (party_in fields 5) _ speech one.2 in
    let three = after_is (party_in fields 6) _ speech two.2 in
    reads_blank _ _ speech three.2 (no_number _ (omega arith) (λ is. omega (arith, is)))

event_reads : (fields : Fields) (e : Event) (m : Mode) (speech : Speech) → event_report_in fields e m ≡ Ok speech → Reads speech
event_reads fields e m speech is =
    let one = after_is (message_call_in fields) _ speech is in
    let two = after_is (leg_in fields) _ speech one.2 in
    reads_blank _ _ speech two.2 (no_number _ (omega arith) (λ is. omega (arith, is)))

ended_reads : (fields : Fields) (speech : Speech) → ended_message_in fields ≡ Ok speech → Reads speech
ended_reads fields speech is =
    let one = after_is (message_call_in fields) _ speech is in
    reads_blank _ _ speech one.2 (no_number _ (omega arith) (λ is. omega (arith, is)))

report_reads : (active : Bool) (times : TimeInfo) → IsShort (report_said active times).x3 → IsShort (report_said active times).x4 → IsReadable (report_said active times)
report_reads active (info.NoSwitch time) third fourth = record { report = λ is. (third, fourth); recharge = λ is. absurd (omega (arith, ap length is)) }
report_reads active (info.Switch since interval) third fourth = record { report = λ is. (third, fourth); recharge = λ is. absurd (omega (arith, ap length is)) }

charging_reads : (fields : Fields) (active switched : Bool) (speech : Speech) → charging_report_in fields active switched ≡ Ok speech → Reads speech
charging_reads fields active false speech is =
    let one = after_is (message_call_in fields) _ speech is in
    let two = after_is (report_without_switch fields) _ speech one.2 in
    let (time, read, times) = after_is (number_in fields 7 864000) _ two.0 two.1 in
    let same : info.NoSwitch time ≡ two.0 = cc times in
    reads_blank _ _ speech two.2 (subst (λ t. IsReadable (report_said active t)) same
    (report_reads active (info.NoSwitch time) (number_short fields 7 864000 time (omega arith) read) none_few))
charging_reads fields active true speech is =
    let one = after_is (message_call_in fields) _ speech is in
    let two = after_is (report_with_switch fields) _ speech one.2 in
    let (since, read, later) = after_is (number_in fields 7 864000) _ two.0 two.1 in
    let (interval, read_too, times) = after_is (interval_in fields) _ two.0 later in
    let same : info.Switch since interval ≡ two.0 = cc times in
    let said : of_switch one.0 (report_said active two.0) ≡ speech = cc two.2 in
    subst Reads said (subst (λ t. IsReadable (report_said active t)) same
    (report_reads active (info.Switch since interval) (number_short fields 7 864000 since (omega arith) read) (interval_few fields interval read_too)))

recharge_reads : (fields : Fields) (speech : Speech) → recharge_message_in fields ≡ Ok speech → Reads speech
recharge_reads fields speech is =
    let (account, of_account, one) = after_is (account_in fields 5) _ speech is in
    let (amount, of_amount, two) = after_is (amount_in fields 6) _ speech one in
    let (until, of_until, three) = after_is (until_in fields 7) _ speech two in
    reads_blank _ _ speech three (record {
      report = λ is. absurd (omega (arith, ap length is));
      recharge = λ is. (number_short fields 5 4294967295 account (omega arith) of_account, number_short fields 6 1000000000000000 amount (omega arith) of_amount, moment_few fields until of_until);
    })

-- ---- a message

-- the word of a row, whatever words are
module _ {W : Type 0} (initial ended recharge : W) (event : Event → Mode → W) (report : Bool → Bool → W) (fields : Fields) where
  abbrev ended_word : Result W RowKind
  ended_word = if has_word fields 4 (codes "Ended") then Ok ended else Err row.What

  abbrev reports : Result W RowKind
  reports = and_then (report_state_in fields) (λ active. and_then (switched_in fields) (λ switched. Ok (report active switched)))

  abbrev report_word : Result W RowKind
  report_word = if has_word fields 4 (codes "ApplyChargingReport") then reports else ended_word

  abbrev events : Result W RowKind
  events = and_then (event_message_in fields) (λ e. and_then (mode_in fields) (λ m. Ok (event e m)))

  abbrev event_word : Result W RowKind
  event_word = if has_word fields 4 (codes "EventReportBCSM") then events else report_word

  abbrev switch_word : Result W RowKind
  switch_word = if has_word fields 4 (codes "InitialDP") then Ok initial else event_word

  abbrev a_word : Result W RowKind
  a_word =
      if has_word fields 3 (codes "switch") then switch_word else if has_word fields 3 (codes "operator") && has_word fields 4 (codes "Recharge") then Ok recharge else Err row.What

  module _ (P : W → Type 0) where
    pick : (test : Bool) (this that : Result W RowKind) (w : W) → (this ≡ Ok w → P w) → (that ≡ Ok w → P w) → (if test then this else that) ≡ Ok w → P w
    pick true this that w one other is = one is
    pick false this that w one other is = other is

    no_word : (w : W) → Err row.What ≡ Ok w → P w
    no_word w is = absurd (cc)

    abbrev found : W → Result W RowKind
    found w = Ok w

    this_word : (one w : W) → P one → found one ≡ Ok w → P w
    this_word one w holds is = let same : one ≡ w = cc is in subst P same holds

    an_event : (w : W) → ((e : Event) (m : Mode) → P (event e m)) → events ≡ Ok w → P w
    an_event w holds is =
        let (e, of_event, one) = after_is (event_message_in fields) (λ e. and_then (mode_in fields) (λ m. Ok (event e m))) w is in
        let (m, of_mode, two) = after_is (mode_in fields) (λ m. Ok (event e m)) w one in
        this_word (event e m) w (holds e m) two

    a_report : (w : W) → ((active switched : Bool) → P (report active switched)) → reports ≡ Ok w → P w
    a_report w holds is =
        let (active, of_state, one) = after_is (report_state_in fields) (λ active. and_then (switched_in fields) (λ switched. Ok (report active switched))) w is in
        let (switched, of_switched, two) = after_is (switched_in fields) (λ switched. Ok (report active switched)) w one in
        this_word (report active switched) w (holds active switched) two

    -- what holds of each word holds of that of a row
    each_word : P initial → P ended → P recharge → ((e : Event) (m : Mode) → P (event e m)) → ((active switched : Bool) → P (report active switched)) → (w : W) → a_word ≡ Ok w → P w
    each_word of_initial of_ended of_recharge of_event of_report w =
        pick _ switch_word _ w
        (pick (has_word fields 4 (codes "InitialDP")) (Ok initial) event_word w (this_word initial w of_initial)
        (pick (has_word fields 4 (codes "EventReportBCSM")) events report_word w (an_event w of_event)
        (pick (has_word fields 4 (codes "ApplyChargingReport")) reports ended_word w (a_report w of_report)
        (pick (has_word fields 4 (codes "Ended")) (Ok ended) (Err row.What) w (this_word ended w of_ended) (no_word w)))))
        (pick (has_word fields 3 (codes "operator") && has_word fields 4 (codes "Recharge")) (Ok recharge) (Err row.What) w (this_word recharge w of_recharge) (no_word w))

  a_message : (said : W → Result Speech RowKind) (message : MessageView)
      → and_then a_word (λ w. and_then (moment_in fields 0 2000000000000) (λ at. and_then (optional_in fields 1 18446744073709551615) (λ number.
      and_then (said w) (λ speech. Ok (record { at = at; number = number; speech = speech }))))) ≡ Ok message
      → ((w : W) → a_word ≡ Ok w → (speech : Speech) → said w ≡ Ok speech → Reads speech) → Reads message.speech
  a_message said message is reads =
      let (w, of_word, one) = after_is a_word _ message is in
      let two = after_is (moment_in fields 0 2000000000000) _ message one in
      let three = after_is (optional_in fields 1 18446744073709551615) _ message two.2 in
      let (speech, read, four) = after_is (said w) _ message three.2 in
      let same : speech ≡ message.speech = ap (said_of speech) four in
      subst Reads same (reads w of_word speech read)
    where
      said_of : Speech → Result MessageView RowKind → Speech
      said_of none (Ok message) = message.speech
      said_of none (Err why) = none

  pub any_message : (said : W → Result Speech RowKind) (message : MessageView)
      → and_then a_word (λ w. and_then (moment_in fields 0 2000000000000) (λ at. and_then (optional_in fields 1 18446744073709551615) (λ number.
      and_then (said w) (λ speech. Ok (record { at = at; number = number; speech = speech }))))) ≡ Ok message
      → ((speech : Speech) → said initial ≡ Ok speech → Reads speech) → ((speech : Speech) → said ended ≡ Ok speech → Reads speech) → ((speech : Speech) → said recharge ≡ Ok speech → Reads speech)
      → ((e : Event) (m : Mode) (speech : Speech) → said (event e m) ≡ Ok speech → Reads speech) → ((active switched : Bool) (speech : Speech) → said (report active switched) ≡ Ok speech → Reads speech)
      → Reads message.speech
  any_message said message is of_initial of_ended of_recharge of_event of_report =
      a_message said message is (each_word (λ w. (speech : Speech) → said w ≡ Ok speech → Reads speech) of_initial of_ended of_recharge of_event of_report)

message_reads : (fields : Fields) (message : MessageView) → message_in fields ≡ Ok message → Reads message.speech
message_reads fields message is =
    any_message _ _ _ _ _ fields _ message is (initial_reads fields) (ended_reads fields) (recharge_reads fields) (event_reads fields) (charging_reads fields)

-- ---- lines

-- what a line says
abbrev pub LineReads : LineView → Type 0
LineReads None = ⊤
LineReads (Some (Ok message)) = Reads message.speech
LineReads (Some (Err why)) = ⊤

in_time_is : (late : Bool) (message read : MessageView) → (if late then Err row.Order else Ok message) ≡ Ok read → message ≡ read
in_time_is true message read is = absurd (cc)
in_time_is false message read is = cc is

numbered_is : (below above : Bool) (message read : MessageView) (rest : Result MessageView RowKind) → (rest ≡ Ok read → message ≡ read)
    → (if below then Err row.Repeated else if above then Err row.Order else rest) ≡ Ok read → message ≡ read
numbered_is true above message read rest later is = absurd (cc)
numbered_is false true message read rest later is = absurd (cc)
numbered_is false false message read rest later is = later is

placed_is : (next last : ℕ) (message read : MessageView) (number : Option ℕ) → numbered_message next last message number ≡ Ok read → message ≡ read
placed_is next last message read None is = in_time_is (nat_lt message.at last) message read is
placed_is next last message read (Some number) is =
    numbered_is (nat_lt number next) (nat_lt next number) message read (in_time last message) (in_time_is (nat_lt message.at last) message read) is

stands_reads : (next last : ℕ) (read : Result MessageView RowKind) → ((message : MessageView) → read ≡ Ok message → Reads message.speech) → LineReads (standing next last (Some read))
stands_reads next last (Err why) reads = tt
stands_reads next last (Ok message) reads = by_place (placed next last message) refl
  where
    by_place : (place : Result MessageView RowKind) → placed next last message ≡ place → LineReads (Some (result_map_both (λ m. m) kind.Row place))
    by_place (Err why) is = tt
    by_place (Ok other) is = subst (λ (m : MessageView). Reads m.speech) (placed_is next last message other message.number is) (reads message refl)

row_reads : (fields : Fields) (message : MessageView) → and_then (nine fields) message_in ≡ Ok message → Reads message.speech
row_reads fields message is =
    let (same, wide, read) = after_is (nine fields) message_in message is in
    message_reads same message read

rows_read : (next last : ℕ) (rows : List Fields) → LineReads (standing next last (message_of rows))
rows_read next last [] = tt
rows_read next last (fields ∷ []) = stands_reads next last (and_then (nine fields) message_in) (row_reads fields)
rows_read next last (fields ∷ other ∷ others) = tt

line_reads : (next last : ℕ) (line : List ℕ) → LineReads (said_after next last line)
line_reads next last line = by_length (nat_lt 4096 (length line))
  where
    by_length : (long : Bool) → LineReads (if long then Some (Err kind.TooLong) else standing next last (line_message line))
    by_length true = tt
    by_length false = rows_read next last (rows_of line)

-- what some lines say
abbrev pub AreReadable : List Heard → Type 0
AreReadable [] = ⊤
AreReadable (one ∷ heard) = LineReads one.said × AreReadable heard

pub all_read : (next last : ℕ) (lines : List (List ℕ)) → AreReadable (heard_after next last lines)
all_read next last [] = tt
all_read next last (line ∷ lines) =
    let said = said_after next last line in
    (line_reads next last line, all_read (next_after next said) (last_after last said) lines)

pub take_read : (count : ℕ) (heard : List Heard) → AreReadable heard → AreReadable (take count heard)
take_read zero heard read = tt
take_read (suc count) [] read = tt
take_read (suc count) (one ∷ heard) read = (read.0, take_read count heard read.1)

-- items that a trace prints in few digits
abbrev pub ItemsRead : List (ℕ × Speech) → Type 0
ItemsRead [] = ⊤
ItemsRead (item ∷ items) = Reads item.1 × ItemsRead items

one_given : (said : LineView) (items : List (ℕ × Speech)) → LineReads said → ItemsRead items → ItemsRead (given_by said ++ items)
one_given None items read later = later
one_given (Some (Ok message)) items read later = (read, later)
one_given (Some (Err why)) items read later = later

pub given_read : (heard : List Heard) → AreReadable heard → ItemsRead (given_of heard)
given_read [] read = tt
given_read (one ∷ heard) read = one_given one.said (given_of heard) read.0 (given_read heard read.1)
