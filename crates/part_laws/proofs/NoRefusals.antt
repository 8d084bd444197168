-- Where no refusal is counted, no ask was refused.
use Rattle.std.proofs.Common.{◌≡◌, ◌==◌, ◌<◌, ◌∙◌, ℕ, Bool, true, false, Option, Some, None, List, [], ◌∷◌, length, refl, sym, ap, arith}
use Rattle.std.specs.Prelude.{if◌then◌else◌, slice_index_or, sum_by}
use Rattle.std.specs.List.{filter}
use Rattle.std.proofs.lemmas.Bool.{eq-eqb}
use Rattle.std.proofs.lemmas.List.Elements.{All-cons, All-nil}
use Rattle.std.proofs.lemmas.List.Sums.{get_or-le-sum_by}
use Rattle.account_core.specs.declared.fault.AccountFault.{AccountFault}
use Rattle.account_core.specs.declared.fault.AccountFault.TheVariants as fault
use Rattle.live_recovery.specs.Laws.{NoneIsRefused}
use Rattle.run_outputs.specs.Refused.{added_up, how_many, is_by, none_refused, rank_of, refusals_counted, refusals_counted_in}
use Rattle.run_outputs.specs.declared.refusals.Refusals.{Refusals}
use Rattle.run_values.specs.declared.post.Answer.{Answer}

abbrev count_of : AccountFault → Refusals → ℕ
count_of fault.GateClosed refusals = refusals.gate_closed
count_of fault.OutOfRange refusals = refusals.out_of_range
count_of fault.NotOpen refusals = refusals.not_open
count_of fault.CallUsed refusals = refusals.call_used
count_of fault.HistoryFull refusals = refusals.history_full
count_of fault.OutOfMemory refusals = refusals.out_of_memory

none_counted : (count : ℕ) → refusals_counted count ≡ 0 → count ≡ 0
none_counted count is = omega (arith, is)

-- ---- of answers

none_many : (why : AccountFault) (answers : List Answer) → count_of why (refusals_counted_in answers) ≡ 0 → how_many why answers ≡ 0
none_many fault.GateClosed answers is = none_counted (how_many fault.GateClosed answers) is
none_many fault.OutOfRange answers is = none_counted (how_many fault.OutOfRange answers) is
none_many fault.NotOpen answers is = none_counted (how_many fault.NotOpen answers) is
none_many fault.CallUsed answers is = none_counted (how_many fault.CallUsed answers) is
none_many fault.HistoryFull answers is = none_counted (how_many fault.HistoryFull answers) is
none_many fault.OutOfMemory answers is = none_counted (how_many fault.OutOfMemory answers) is

not_by : (why : AccountFault) (answer : Answer) (answers : List Answer) → how_many why (answer ∷ answers) ≡ 0 → is_by why answer.refused ≡ false
not_by why answer answers none = by_it (is_by why answer.refused) refl none
  where
    by_it : (b : Bool) → is_by why answer.refused ≡ b → length (if b then answer ∷ filter (λ a. is_by why a.refused) answers else filter (λ a. is_by why a.refused) answers) ≡ 0
        → is_by why answer.refused ≡ false
    by_it true is some = absurd (cc some)
    by_it false is some = is

none_behind : (why : AccountFault) (answer : Answer) (answers : List Answer) → how_many why (answer ∷ answers) ≡ 0 → how_many why answers ≡ 0
none_behind why answer answers none = by_it (is_by why answer.refused) none
  where
    by_it : (b : Bool) → length (if b then answer ∷ filter (λ a. is_by why a.refused) answers else filter (λ a. is_by why a.refused) answers) ≡ 0 → how_many why answers ≡ 0
    by_it true some = absurd (cc some)
    by_it false some = some

not_refused : (refused : Option AccountFault) → ((why : AccountFault) → is_by why refused ≡ false) → refused ≡ None
not_refused None not = refl
not_refused (Some why) not =
    let its : (rank_of why == rank_of why) ≡ true = eq-eqb (rank_of why) (rank_of why) refl in
    let clash : true ≡ false = sym its ∙ not why in absurd (cc clash)

none_of_all : (answers : List Answer) → ((why : AccountFault) → how_many why answers ≡ 0) → NoneIsRefused answers
none_of_all [] none = All-nil (λ (answer : Answer). answer.refused ≡ None)
none_of_all (answer ∷ answers) none =
    All-cons (λ (a : Answer). a.refused ≡ None) answer answers (not_refused answer.refused (λ why. not_by why answer answers (none why)))
    (none_of_all answers (λ why. none_behind why answer answers (none why)))

no_count : (why : AccountFault) → count_of why none_refused ≡ 0
no_count fault.GateClosed = refl
no_count fault.OutOfRange = refl
no_count fault.NotOpen = refl
no_count fault.CallUsed = refl
no_count fault.HistoryFull = refl
no_count fault.OutOfMemory = refl

pub unrefused : (answers : List Answer) (refusals : Refusals) → refusals ≡ refusals_counted_in answers → refusals ≡ none_refused → NoneIsRefused answers
unrefused answers refusals are none = none_of_all answers (λ why. none_many why answers (ap (count_of why) (sym are ∙ none) ∙ no_count why))

-- ---- of parts

zero_each : {X : Type 0} (f : X → ℕ) (xs : List X) (i : ℕ) (d : X) → sum_by f xs ≡ 0 → i < length xs → f (slice_index_or xs i d) ≡ 0
zero_each f xs i d none within = omega (arith, get_or-le-sum_by f xs i d within, none)

none_summed : (why : AccountFault) (all : List Refusals) → count_of why (added_up all) ≡ 0 → sum_by (count_of why) all ≡ 0
none_summed fault.GateClosed all is = none_counted (sum_by (λ (one : Refusals). one.gate_closed) all) is
none_summed fault.OutOfRange all is = none_counted (sum_by (λ (one : Refusals). one.out_of_range) all) is
none_summed fault.NotOpen all is = none_counted (sum_by (λ (one : Refusals). one.not_open) all) is
none_summed fault.CallUsed all is = none_counted (sum_by (λ (one : Refusals). one.call_used) all) is
none_summed fault.HistoryFull all is = none_counted (sum_by (λ (one : Refusals). one.history_full) all) is
none_summed fault.OutOfMemory all is = none_counted (sum_by (λ (one : Refusals). one.out_of_memory) all) is

pub unrefused_in : (all : List Refusals) (i : ℕ) (d : Refusals) (answers : List Answer) → added_up all ≡ none_refused → i < length all → slice_index_or all i d ≡ refusals_counted_in answers
    → NoneIsRefused answers
unrefused_in all i d answers none within are =
    none_of_all answers (λ why.
    let summed = none_summed why all (ap (count_of why) none ∙ no_count why) in
    none_many why answers (ap (count_of why) (sym are) ∙ zero_each (count_of why) all i d summed within))
