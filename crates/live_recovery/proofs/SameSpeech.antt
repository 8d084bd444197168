-- Posts that are printed alike, in numbers of few digits, say the same.
use Rattle.std.proofs.Common.{◌≡◌, ◌+◌, ◌∙◌, ℕ, Bool, true, false, Option, Some, None, List, [], ◌∷◌, ◌++◌, Ok, length, map, refl, sym, ap, subst, arith}
use Rattle.std.specs.Prelude.{codes, slice_index}
use Rattle.live_recovery.proofs.PostColumns.{mode_read}
use Rattle.cap_values.specs.declared.event.Event.{Event}
use Rattle.cap_values.specs.declared.event.Event.TheVariants as event
use Rattle.cap_values.specs.declared.message.SsfMsg.{SsfMsg}
use Rattle.cap_values.specs.declared.message.SsfMsg.TheVariants.{InitialDp, EventReport, ChargingReport, Ended}
use Rattle.cap_values.specs.declared.mode.Mode.{Mode}
use Rattle.live_answers.specs.Live.{item_view}
use Rattle.live_recovery.proofs.Alike.{GoAlike, SaysAlike, SpeakAlike}
use Rattle.live_recovery.proofs.Decimals.{IsShort, same_number, same_option}
use Rattle.run_texts.specs.Messages.{Speech, event_message_in, speech_of}
use Rattle.tariff_core.specs.Printing.{moment_or_empty}
use Rattle.tariff_core.specs.declared.clock.Clock.TheVariants as clock
use Rattle.run_texts.specs.Said.{Said, event_word as word_of, message_said, mode_word, report_said, state_word}
use Rattle.run_values.specs.declared.post.Body.{Body}
use Rattle.run_values.specs.declared.post.Body.TheVariants.{Ssf, Recharge}
use Rattle.runs_core.specs.Shares.{Item, numbered as items_from}
use Rattle.table_core.specs.Fields.{field_in, number_or_empty}
use Rattle.table_core.specs.Rows.{Fields}
use Rattle.price_core.specs.declared.times.TimeInfo.{TimeInfo}
use Rattle.price_core.specs.declared.times.TimeInfo.TheVariants as info
use Rattle.live_recovery.proofs.Readable.{IsReadable, ItemsRead, Reads}

-- ---- words

event_back : (fields : Fields) (e : Event) → field_in fields 5 ≡ word_of e → event_message_in fields ≡ Ok e
event_back fields event.CollectedInfo is = rw is refl
event_back fields event.RouteSelectFailure is = rw is refl
event_back fields event.CalledPartyBusy is = rw is refl
event_back fields event.NoAnswer is = rw is refl
event_back fields event.Answer is = rw is refl
event_back fields event.Disconnect is = rw is refl
event_back fields event.Abandon is = rw is refl

-- a row with a word in its sixth column, or in its eighth
abbrev with_word : List ℕ → Fields
with_word text = [] ∷ [] ∷ [] ∷ [] ∷ [] ∷ text ∷ [] ∷ text ∷ []

same_event : (e other : Event) → word_of e ≡ word_of other → e ≡ other
same_event e other same =
    cc (sym (event_back (with_word (word_of e)) e refl) ∙ event_back (with_word (word_of e)) other same)

same_mode : (m other : Mode) → mode_word m ≡ mode_word other → m ≡ other
same_mode m other same =
    cc (sym (mode_read (with_word (mode_word m)) m refl) ∙ mode_read (with_word (mode_word m)) other same)

same_state : (active other : Bool) → state_word active ≡ state_word other → active ≡ other
same_state true true same = refl
same_state true false same = absurd (omega (arith, ap length same))
same_state false true same = absurd (omega (arith, ap length same))
same_state false false same = refl

-- the texts of what is said
abbrev what_of : Said → List ℕ
what_of said = said.what

same_times : (active other : Bool) (one times : TimeInfo) → report_said active one ≡ report_said other times → IsShort (report_said active one).x3 → IsShort (report_said active one).x4 → one ≡ times
same_times active other (info.NoSwitch time) (info.NoSwitch units) same third fourth =
    ap (λ t. info.NoSwitch t) (same_number time units (ap (λ (s : Said). s.x3) same) third)
same_times active other (info.NoSwitch time) (info.Switch since interval) same third fourth = absurd (let word : 110 ≡ 115 = ap (λ (s : Said). slice_index s.x2 0) same in omega (arith, word))
same_times active other (info.Switch since interval) (info.NoSwitch time) same third fourth = absurd (let word : 115 ≡ 110 = ap (λ (s : Said). slice_index s.x2 0) same in omega (arith, word))
same_times active other (info.Switch since interval) (info.Switch units part) same third fourth =
    ap (λ t. info.Switch t interval) (same_number since units (ap (λ (s : Said). s.x3) same) third)
    ∙ ap (λ i. info.Switch units i) (same_option interval part (ap (λ (s : Said). s.x4) same) fourth)

same_active : (active other : Bool) (one times : TimeInfo) → report_said active one ≡ report_said other times → active ≡ other
same_active active other (info.NoSwitch time) (info.NoSwitch units) same = same_state active other (ap (λ (s : Said). s.x1) same)
same_active active other (info.NoSwitch time) (info.Switch since interval) same = same_state active other (ap (λ (s : Said). s.x1) same)
same_active active other (info.Switch since interval) (info.NoSwitch time) same = same_state active other (ap (λ (s : Said). s.x1) same)
same_active active other (info.Switch since interval) (info.Switch units part) same = same_state active other (ap (λ (s : Said). s.x1) same)

report_what : (active : Bool) (times : TimeInfo) → what_of (report_said active times) ≡ codes "ApplyChargingReport"
report_what active (info.NoSwitch time) = refl
report_what active (info.Switch since interval) = refl

same_message : (one other : SsfMsg) → message_said one ≡ message_said other → IsReadable (message_said one) → SaysAlike one other
same_message (InitialDp call calling called) (InitialDp its caller dialled) same read = (ap (λ (s : Said). s.x1) same, ap (λ (s : Said). s.x2) same)
same_message (InitialDp call calling called) (EventReport e l m) same read = absurd (omega (arith, ap (λ (s : Said). length s.what) same))
same_message (InitialDp call calling called) (ChargingReport active times) same read = absurd (omega (arith, ap (λ (s : Said). length s.what) same, ap length (report_what active times)))
same_message (InitialDp call calling called) Ended same read = absurd (omega (arith, ap (λ (s : Said). length s.what) same))
same_message (EventReport e l m) (EventReport other its_leg its_mode) same read = (same_event e other (ap (λ (s : Said). s.x1) same), same_mode m its_mode (ap (λ (s : Said). s.x3) same))
same_message (EventReport e l m) (InitialDp call calling called) same read = absurd (omega (arith, ap (λ (s : Said). length s.what) same))
same_message (EventReport e l m) (ChargingReport active times) same read = absurd (omega (arith, ap (λ (s : Said). length s.what) same, ap length (report_what active times)))
same_message (EventReport e l m) Ended same read = absurd (omega (arith, ap (λ (s : Said). length s.what) same))
same_message (ChargingReport active times) (ChargingReport other its) same read =
    let (third, fourth) = read.report (report_what active times) in
    (same_active active other times its same, same_times active other times its same third fourth)
same_message (ChargingReport active times) (InitialDp call calling called) same read = absurd (omega (arith, ap (λ (s : Said). length s.what) same, ap length (report_what active times)))
same_message (ChargingReport active times) (EventReport e l m) same read = absurd (omega (arith, ap (λ (s : Said). length s.what) same, ap length (report_what active times)))
same_message (ChargingReport active times) Ended same read = absurd (omega (arith, ap (λ (s : Said). length s.what) same, ap length (report_what active times)))
same_message Ended Ended same read = tt
same_message Ended (InitialDp call calling called) same read = absurd (omega (arith, ap (λ (s : Said). length s.what) same))
same_message Ended (EventReport e l m) same read = absurd (omega (arith, ap (λ (s : Said). length s.what) same))
same_message Ended (ChargingReport active times) same read = absurd (omega (arith, ap (λ (s : Said). length s.what) same, ap length (report_what active times)))

pub same_speech : (one other : Body) → speech_of one ≡ speech_of other → Reads (speech_of one) → SpeakAlike one other
same_speech (Ssf call message) (Ssf its said) same read =
    let calls : Some call ≡ Some its = ap (λ (s : Speech). s.call) same in
    (cc calls, same_message message said (ap (λ (s : Speech). s.said) same) read)
same_speech (Ssf call message) (Recharge account amount until) same read = absurd (omega (arith, ap (λ (s : Speech). length s.from) same))
same_speech (Recharge account amount until) (Ssf its said) same read = absurd (omega (arith, ap (λ (s : Speech). length s.from) same))
same_speech (Recharge account amount until) (Recharge other money last) same read =
    let (first, second, third) = read.recharge refl in (
      same_number account other (ap (λ (s : Speech). s.said.x1) same) first,
      same_number amount money (ap (λ (s : Speech). s.said.x2) same) second,
      same_last until last (ap (λ (s : Speech). s.said.x3) same) third,
    )
  where
    plain : (until : Option ℕ) → moment_or_empty clock.Digits until ≡ number_or_empty until
    plain None = refl
    plain (Some at) = refl

    same_last : (until last : Option ℕ) → moment_or_empty clock.Digits until ≡ moment_or_empty clock.Digits last → IsShort (moment_or_empty clock.Digits until) → until ≡ last
    same_last until last same short = same_option until last (sym (plain until) ∙ same ∙ plain last) (subst IsShort (plain until) short)

-- ---- items that are printed alike

-- items that are printed as others are, and then perhaps more
pub record Follow (first : ℕ) (given longer : List (ℕ × Body)) (more : List (ℕ × Speech)) : Type 0 where
  pub rest : List Item
  pub alike : GoAlike (items_from first given) (items_from first longer) rest
  pub all : more ≡ [] → rest ≡ []

pub follow : (first : ℕ) (given longer : List (ℕ × Body)) (more : List (ℕ × Speech)) → map item_view longer ≡ map item_view given ++ more → ItemsRead (map item_view given)
    → Follow first given longer more
follow first [] longer more is read = record { rest = items_from first longer; alike = refl; all = λ none. nothing longer (is ∙ none) }
  where
    nothing : (items : List (ℕ × Body)) → map item_view items ≡ [] → items_from first items ≡ []
    nothing [] is = refl
    nothing (item ∷ items) is = absurd (cc)
follow first (item ∷ given) [] more is read = absurd (cc)
follow first (item ∷ given) (other ∷ longer) more is read =
    let here : item_view other ≡ item_view item = cc is in
    let later : map item_view longer ≡ map item_view given ++ more = cc is in
    let rest = follow (first + 1) given longer more later read.1 in
    let moment : item.0 ≡ other.0 = ap (λ (i : ℕ × Speech). i.0) (sym here) in
    let said : speech_of item.1 ≡ speech_of other.1 = ap (λ (i : ℕ × Speech). i.1) (sym here) in
    record {
      rest = rest.rest;
      alike = (record { number = refl; at = moment; body = same_speech item.1 other.1 said read.0 }, rest.alike);
      all = rest.all;
    }
