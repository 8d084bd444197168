-- The table of the calls of all parts, by rising number.
use Rattle.std.proofs.Common.{◌≡◌, ◌==◌, ◌<◌, ◌+◌, ◌++◌, ◌∙◌, ℕ, Bool, true, false, Option, Some, None, List, [], ◌∷◌, length, map, refl, sym, ap, arith}
use Rattle.std.specs.List.{filter, flat_map}
use Rattle.std.specs.List.Sorted.{IsStrictlySortedBy}
use Rattle.std.specs.Ordering.{nat_cmp}
use Rattle.std.specs.Prelude.{◌%◌, if◌then◌else◌}
use Rattle.std.proofs.lemmas.List.{get_or-map, length-map}
use Rattle.std.proofs.lemmas.Map.Keys.{non_decreasing_from_sorted}
use Rattle.run_laws.proofs.Joining.{is_a_part}
use Rattle.run_outputs.specs.Tables.{call_header, call_text, record_row}
use Rattle.run_outputs.specs.declared.call_record.CallRecord.{CallRecord}
use Rattle.tariff_core.specs.declared.clock.Clock.{Clock}
use Rattle.part_laws.proofs.InOrder.{ComesInOrder, rise}
use Rattle.part_laws.proofs.Merged.{at_number}
use Rattle.run_outputs.specs.Parts.{part_by}
use native.Mathlib.Nat.{mod-lt}

-- ---- what is printed of calls

abbrev pub Shown : Type 0
Shown = ℕ × List ℕ

abbrev pub number_of : Shown → ℕ
number_of shown = shown.0

module _ (clock : Clock) where
  abbrev pub row_of : CallRecord → Shown
  row_of call = (call.call, record_row clock call)

  abbrev of_number : ℕ → List CallRecord → List CallRecord
  of_number number calls = filter (λ call. call.call == number) calls

  pub numbered_rows : (number : ℕ) (calls : List CallRecord) → at_number number_of number (map row_of calls) ≡ map row_of (of_number number calls)
  numbered_rows number [] = refl
  numbered_rows number (call ∷ calls) = by_here (call.call == number) (numbered_rows number calls)
    where
      by_here : (b : Bool) → at_number number_of number (map row_of calls) ≡ map row_of (of_number number calls)
          → (if b then row_of call ∷ at_number number_of number (map row_of calls) else at_number number_of number (map row_of calls))
          ≡ map row_of (if b then call ∷ of_number number calls else of_number number calls)
      by_here true rest = ap (λ l. row_of call ∷ l) rest
      by_here false rest = rest

  pub rows_rise : (low : ℕ) (calls : List CallRecord) → ComesInOrder (λ (call : CallRecord). call.call) low calls → ComesInOrder number_of low (map row_of calls)
  rows_rise low [] rises = tt
  rows_rise low (call ∷ calls) rises = (rises.0, rows_rise call.call calls rises.1)

  rows_printed : (calls : List CallRecord) → flat_map (record_row clock) calls ≡ flat_map (λ (shown : Shown). shown.1) (map row_of calls)
  rows_printed [] = refl
  rows_printed (call ∷ calls) = ap (λ l. record_row clock call ++ l) (rows_printed calls)

  pub same_table : (calls others : List CallRecord) → map row_of calls ≡ map row_of others → call_text clock calls ≡ call_text clock others
  same_table calls others same =
      ap (λ l. call_header ++ l) (rows_printed calls ∙ ap (λ l. flat_map (λ (shown : Shown). shown.1) l) same ∙ sym (rows_printed others))

  pub ascending_rise : (calls : List CallRecord) → IsStrictlySortedBy nat_cmp (map (λ (call : CallRecord). call.call) calls) → ComesInOrder (λ (call : CallRecord). call.call) 0 calls
  ascending_rise calls sorted = rise (λ (call : CallRecord). call.call) calls (λ i j d le within.
      let small : i < length calls = omega (arith, le, within) in
      let numbers = non_decreasing_from_sorted (map (λ (call : CallRecord). call.call) calls) sorted i j d.call le (rw (length-map calls (λ (call : CallRecord). call.call)) within) in
      rw (get_or-map (λ (call : CallRecord). call.call) calls i d, get_or-map (λ (call : CallRecord). call.call) calls j d, small, within) at numbers)

-- ---- the part of a call is one of them

pub home_within : (firsts : List ℕ) (account : Option ℕ) (call : ℕ) → part_by firsts account call < 1 + length firsts
home_within firsts (Some account) call = omega (arith, is_a_part firsts account)
home_within firsts None call = let small : call % (1 + length firsts) < 1 + length firsts = mod-lt call (omega arith) in small
