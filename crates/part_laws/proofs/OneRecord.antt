-- A run has one record of each call, by what is printed of it.
use Rattle.std.proofs.Common.{◌≡◌, ◌∙◌, ℕ, Option, Some, None, List, [], ◌∷◌, map, refl, sym, ap, subst, All}
use Rattle.std.specs.BTreeSet.{BTreeSet}
use Rattle.std.specs.Option.{option_map}
use Rattle.std.specs.Prelude.{is_some}
use Rattle.std.proofs.lemmas.Cmp.{nat_cmp_total}
use Rattle.std.proofs.lemmas.List.Elements.{All-contains, All-head, All-tail}
use Rattle.std.proofs.lemmas.Map.Lookups.{btree_set_from_contains, exact_unsigned}
use Rattle.run_outputs.proofs.RecordLemmas.{same_calls}
use Rattle.run_outputs.specs.Calls.{call_reports_of, start_of}
use Rattle.run_outputs.specs.Records.{AreRecords, IsPrefixOf, IsRecord, Run, outcome_of, prefix_of}
use Rattle.run_outputs.specs.Standings.{past_of, standing_of}
use Rattle.run_outputs.specs.Tables.{record_row}
use Rattle.run_outputs.specs.declared.call_record.CallRecord.{CallRecord}
use Rattle.cap_values.specs.NumberDigits.{digits_of_number}
use Rattle.cap_values.specs.declared.number.Number.{Number}
use Rattle.tariff_core.specs.declared.clock.Clock.{Clock}
use Rattle.part_laws.proofs.MergedTables.{row_of}
use Rattle.tariff_core.specs.Bands.{Band}
use Rattle.tariff_core.specs.Laws.{OnePrefixCounts}
use Rattle.tariff_core.specs.Routes.{BeginsWith, IsPrefixFor}

some_mapped : {X Y : Type 0} (f : X → Y) (found : Option X) → is_some (option_map f found) ≡ is_some found
some_mapped f None = refl
some_mapped f (Some x) = refl

prefix_shown : (call : CallRecord) → is_some (prefix_of call) ≡ is_some call.prefix
prefix_shown call = some_mapped _ call.prefix

no_prefix : (bands : List Band) (called prefix : List ℕ) → All (λ band. BeginsWith called band.prefix → ⊥) bands → IsPrefixFor bands called prefix → ⊥
no_prefix bands called prefix none is =
    let (place, band, within, at, own) = is.listed in
    All-contains (λ (b : Band). BeginsWith called b.prefix → ⊥) bands band none (place, within, at) (subst (BeginsWith called) (sym own) is.begins)

same_prefix : OnePrefixCounts → (bands : List Band) (called : List ℕ) (one other : Option (List ℕ)) → IsPrefixOf bands called one → IsPrefixOf bands called other → one ≡ other
same_prefix single bands called None None is too = refl
same_prefix single bands called None (Some other) is too = absurd (no_prefix bands called other is too)
same_prefix single bands called (Some one) None is too = absurd (no_prefix bands called one too is)
same_prefix single bands called (Some one) (Some other) is too = ap Some (single bands called one other is too)

module _ (single : OnePrefixCounts) (run : Run) (clock : Clock) where
  row_same : (one other : CallRecord) → IsRecord run one → IsRecord run other → one.call ≡ other.call → record_row clock one ≡ record_row clock other
  row_same one other is too same =
      let some : Some is.start ≡ Some too.start = sym is.begins ∙ ap (λ c. start_of c run.given) same ∙ too.begins in
      let start : is.start ≡ too.start = cc some in
      let calling : one.calling ≡ other.calling = cc (is.from.calling, start, too.from.calling) in
      let called : one.called ≡ other.called = cc (is.from.called, start, too.from.called) in
      let at : one.start ≡ other.start = cc (is.from.start_is, start, too.from.start_is) in
      let account : one.account ≡ other.account = cc (is.from.account, start, too.from.account) in
      let reports : call_reports_of one.call run.given ≡ call_reports_of other.call run.given = ap (λ c. call_reports_of c run.given) same in
      let standing : standing_of one.call (past_of one.account run.books) ≡ standing_of other.call (past_of other.account run.books) =
      ap (λ c. standing_of c (past_of one.account run.books)) same ∙ ap (λ a. standing_of other.call (past_of a run.books)) account in
      let party : too.start.called ≡ is.start.called = cc start in
      let prefix : prefix_of one ≡ prefix_of other = same_prefix single run.setup.tariff (digits_of_number is.start.called) (prefix_of one) (prefix_of other) is.from.prefix
      (subst (λ (n : Number). IsPrefixOf run.setup.tariff (digits_of_number n) (prefix_of other)) party too.from.prefix) in
      let routed : is_some one.prefix ≡ is_some other.prefix =
      sym (prefix_shown one) ∙ ap is_some prefix ∙ prefix_shown other in
      let answer : one.answer ≡ other.answer = is.from.answer ∙ ap (λ (c : ℕ). (call_reports_of c run.given).answer) same ∙ sym too.from.answer in
      let end : one.end ≡ other.end = is.from.end ∙ ap (λ (c : ℕ). (call_reports_of c run.given).end) same ∙ sym too.from.end in
      let times : one.times ≡ other.times = is.from.times ∙ ap (λ (c : ℕ). (standing_of c (past_of one.account run.books)).times) same ∙ ap (λ (a : Option ℕ). (standing_of other.call (past_of a run.books)).times) account ∙ sym too.from.times in
      let paid : one.paid ≡ other.paid = is.from.paid ∙ ap (λ (c : ℕ). (standing_of c (past_of one.account run.books)).paid) same ∙ ap (λ (a : Option ℕ). (standing_of other.call (past_of a run.books)).paid) account ∙ sym too.from.paid in
      let outcome : one.outcome ≡ other.outcome = is.from.outcome_is
      ∙ ap (λ a. outcome_of a (is_some one.prefix) (call_reports_of one.call run.given) (standing_of one.call (past_of one.account run.books))) account
      ∙ ap (λ b. outcome_of other.account b (call_reports_of one.call run.given) (standing_of one.call (past_of one.account run.books))) routed
      ∙ ap (λ r. outcome_of other.account (is_some other.prefix) r (standing_of one.call (past_of one.account run.books))) reports
      ∙ ap (λ s. outcome_of other.account (is_some other.prefix) (call_reports_of other.call run.given) s) standing ∙ sym too.from.outcome_is in
      rw (same, calling, called, account, prefix, at, answer, end, times, paid, outcome) refl

  -- ---- all of them

  abbrev call_numbers : List CallRecord → List ℕ
  call_numbers calls = map (λ (call : CallRecord). call.call) calls

  numbers_one : (calls others : List CallRecord) → AreRecords run calls → AreRecords run others → call_numbers calls ≡ call_numbers others
  numbers_one calls others are too =
      let first : BTreeSet ℕ = record { keys = call_numbers calls } in
      let second : BTreeSet ℕ = record { keys = call_numbers others } in
      btree_set_from_contains nat_cmp_total first second are.ascending too.ascending
      (λ number. same_calls number (call_numbers calls) ∙ sym (are.started number) ∙ too.started number ∙ sym (same_calls number (call_numbers others))) exact_unsigned

  shown_same : (calls others : List CallRecord) → call_numbers calls ≡ call_numbers others → All (IsRecord run) calls → All (IsRecord run) others → map (row_of clock) calls ≡ map (row_of clock) others
  shown_same [] [] same are too = refl
  shown_same [] (other ∷ others) same are too = absurd (cc)
  shown_same (call ∷ calls) [] same are too = absurd (cc)
  shown_same (call ∷ calls) (other ∷ others) same are too =
      let number : call.call ≡ other.call = cc same in
      let rest : call_numbers calls ≡ call_numbers others = cc same in
      let P = IsRecord run in
      let row = row_same call other (All-head P call calls are) (All-head P other others too) number in
      ap (λ (n : ℕ). (n, record_row clock call) ∷ map (row_of clock) calls) number ∙ ap (λ r. (other.call, r) ∷ map (row_of clock) calls) row
      ∙ ap (λ l. row_of clock other ∷ l) (shown_same calls others rest (All-tail P call calls are) (All-tail P other others too))

  pub records_one : (calls others : List CallRecord) → AreRecords run calls → AreRecords run others → map (row_of clock) calls ≡ map (row_of clock) others
  records_one calls others are too = shown_same calls others (numbers_one calls others are too) are.each too.each
