-- The account of a call, row by row.
use Rattle.std.proofs.Common.{◌≡◌, ◌==◌, ◌<◌, ◌+◌, ◌∙◌, ℕ, Bool, true, false, cond, subst, Option, Some, None, List, [], ◌∷◌, ◌++◌, length, map, refl, sym, ap, get_or, take}
use Rattle.std.proofs.lemmas.List.{map-append, take_more}
use Rattle.std.proofs.lemmas.Bool.{eqb-true}
use Rattle.std.specs.BTreeMap.{insert_entry}
use Rattle.std.specs.Option.{option_or}
use Rattle.std.specs.Ordering.{nat_cmp}
use Rattle.std.specs.Prelude.{if◌then◌else◌}
use Rattle.std.specs.Str.{bytes_eq}
use Rattle.run_outputs.proofs.CallLemmas.{or_none, either}
use Rattle.cap_values.specs.NumberDigits.{digits_of_number}
use Rattle.cap_values.specs.declared.number.Number.{Number}
use Rattle.account_core.proofs.RisingLemmas.{looked_up}
use Rattle.run_outputs.specs.Parts.{account_of_digits, payer_by, payer_in, payer_of}
use Rattle.run_texts.specs.Happenings.{RowData}
use Rattle.run_texts.specs.Views.{row_data, with_digits}
use Rattle.run_texts.specs.declared.script.ScriptRow.{ScriptRow}
use Rattle.run_values.specs.Setups as setups

payer_more : (subscribers : List (List ℕ × ℕ)) (script : List RowData) (row : RowData) (call : ℕ)
    → payer_of subscribers (script ++ row ∷ []) call ≡ option_or (payer_of subscribers script call) (payer_by subscribers call row.what)
payer_more subscribers [] row call = or_none (payer_by subscribers call row.what)
payer_more subscribers (first ∷ script) row call =
    ap (λ later. option_or (payer_by subscribers call first.what) later) (payer_more subscribers script row call)
    ∙ either (payer_by subscribers call first.what) (payer_of subscribers script call) (payer_by subscribers call row.what)

-- the payer of a call, with one row more
pub payer_next : (subscribers : List (List ℕ × ℕ)) (rows : List ScriptRow) (i : ℕ) (row : ScriptRow) (call : ℕ) → i < length rows → row ≡ get_or rows i row
    → payer_of subscribers (map row_data (take (i + 1) rows)) call
    ≡ option_or (payer_of subscribers (map row_data (take i rows)) call) (payer_by subscribers call (row_data row).what)
payer_next subscribers rows i row call within is =
    ap (λ done. payer_of subscribers (map row_data done) call) (take_more rows i row within ∙ ap (λ r. take i rows ++ r ∷ []) (sym is))
    ∙ ap (λ script. payer_of subscribers script call) (map-append row_data (take i rows) (row ∷ []))
    ∙ payer_more subscribers (map row_data (take i rows)) (row_data row) call

-- the account of a number is that of its digits
pub by_its_digits : (number : Number) (subscribers : List (Number × ℕ)) → setups.account_of number subscribers ≡ account_of_digits (digits_of_number number) (with_digits subscribers)
by_its_digits number [] = refl
by_its_digits number (subscriber ∷ subscribers) =
    ap (λ (rest : Option ℕ). cond (bytes_eq (digits_of_number subscriber.0) (digits_of_number number)) (Some subscriber.1) rest) (by_its_digits number subscribers)

-- ---- a map keeps the first account of a call

kept_by : (here : Bool) (call other account : ℕ) (payers : List (ℕ × ℕ)) → (call == other) ≡ here → payer_in payers call ≡ None
    → cond here (Some account) (payer_in payers other) ≡ option_or (payer_in payers other) (cond here (Some account) None)
kept_by true call other account payers is none = rw (subst (λ (n : ℕ). payer_in payers n ≡ None) (eqb-true call other is) none) refl
kept_by false call other account payers is none = sym (or_none (payer_in payers other))

pub keeps : (payers new : List (ℕ × ℕ)) (call account other : ℕ) → new ≡ insert_entry nat_cmp payers call account → payer_in payers call ≡ None
    → payer_in new other ≡ option_or (payer_in payers other) (if call == other then Some account else None)
keeps payers new call account other inserted none =
    ap (λ p. payer_in p other) inserted ∙ looked_up call account other payers ∙ kept_by (call == other) call other account payers refl none
