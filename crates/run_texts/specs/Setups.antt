-- The meaning of a setup: its accounts and subscribers, or the first fault.
use Rattle.std.specs.Prelude.{ℕ, Bool, List, [], ◌∷◌, length, Option, Result, Ok, Err, if◌then◌else◌, nat_le, codes}
use Rattle.std.specs.BTreeMap.{insert_entry}
use Rattle.std.specs.Cmp.Lexicographic.{slice_cmp}
use Rattle.std.specs.List.{list_any}
use Rattle.std.specs.Ordering.{nat_cmp}
use Rattle.std.specs.Str.{bytes_eq}
use Rattle.cap_values.specs.Numbers.{is_number}
use Rattle.table_core.specs.Fields.{field_in, has_word, is_blank, number_in_field}
use Rattle.table_core.specs.Judging.{and_then}
use Rattle.table_core.specs.Rows.{Fields}
use Rattle.table_core.specs.Tables.{TableForm, table_form, table_of}
use Rattle.table_core.specs.declared.fault.RowFault.{RowFault}
use Rattle.table_core.specs.declared.fault.RowKind.{RowKind}
use Rattle.table_core.specs.declared.fault.RowKind.TheVariants as kind
use Rattle.tariff_core.specs.Fields.{optional_moment_in_field}
use Rattle.run_values.specs.Setups.{has_account}
use Rattle.run_values.specs.declared.directory.OpeningCredit.{OpeningCredit}
use Rattle.price_core.specs.declared.plan.TheConstants.{MAX_MONEY}
use Rattle.price_core.specs.declared.times.TheConstants.{MAX_MOMENT}

-- accounts in ascending order, each a number and its opening credit, and subscribers in the order of their digits, each with its account
pub record TableSetup : Type 0 where
  pub accounts : List (ℕ × OpeningCredit)
  pub subscribers : List (List ℕ × ℕ)

-- whether a subscriber of these digits is among these
abbrev pub has_subscriber : List ℕ → List (List ℕ × ℕ) → Bool
has_subscriber digits subscribers = list_any (λ other. bytes_eq other.0 digits) subscribers

-- ---- fields

-- the number of a party: 1 to 15 digits
abbrev pub party_in_field : List ℕ → Result (List ℕ) RowKind
party_in_field field = if is_number field then Ok field else Err kind.Number

-- the number of an account
abbrev pub account_in_field : List ℕ → Result ℕ RowKind
account_in_field field = number_in_field 4294967295 field

-- money: 0 to 10^15
abbrev pub amount_in_field : List ℕ → Result ℕ RowKind
amount_in_field field = number_in_field MAX_MONEY field

-- a last moment, 0 to 10^12; none where the field is empty, or isn't there under the table's header
abbrev pub until_in_field : List ℕ → Result (Option ℕ) RowKind
until_in_field field = optional_moment_in_field MAX_MOMENT field

-- the number of a party in the field at a place
abbrev pub party_in : List (List ℕ) → ℕ → Result (List ℕ) RowKind
party_in fields place = party_in_field (field_in fields place)

-- the number of an account in the field at a place
abbrev pub account_in : List (List ℕ) → ℕ → Result ℕ RowKind
account_in fields place = account_in_field (field_in fields place)

-- money in the field at a place
abbrev pub amount_in : List (List ℕ) → ℕ → Result ℕ RowKind
amount_in fields place = amount_in_field (field_in fields place)

-- a last moment in the field at a place, if there is one
abbrev pub until_in : List (List ℕ) → ℕ → Result (Option ℕ) RowKind
until_in fields place = until_in_field (field_in fields place)

-- ---- rows; the fourth field is there under the second header alone, and empty elsewhere

-- an account more, at its place in the order: its number isn't named before
abbrev pub name_account : TableSetup → ℕ → OpeningCredit → Result TableSetup RowKind
name_account earlier account opening =
    if has_account account earlier.accounts then Err kind.Repeated else Ok (record earlier { accounts = insert_entry nat_cmp earlier.accounts account opening })

-- a subscriber more, at its place in the order: its digits aren't named before, and its account is
abbrev pub name_subscriber : TableSetup → List ℕ → ℕ → Result TableSetup RowKind
name_subscriber earlier digits account =
    if has_subscriber digits earlier.subscribers then Err kind.Repeated else
    if has_account account earlier.accounts then Ok (record earlier { subscribers = insert_entry (slice_cmp nat_cmp) earlier.subscribers digits account })
    else Err kind.Unknown

-- `account,NUMBER,OPENING,UNTIL`, one of the 1,000 that a run may have
abbrev pub account_row : TableSetup → List (List ℕ) → Result TableSetup RowKind
account_row earlier fields =
    if nat_le 1000 (length earlier.accounts) then Err kind.TooManyRows else
    and_then (account_in fields 1) (λ account. and_then (amount_in fields 2) (λ amount. and_then (until_in fields 3) (λ until.
    name_account earlier account (record { amount = amount; until = until }))))

-- `subscriber,DIGITS,ACCOUNT,`
abbrev pub subscriber_row : TableSetup → List (List ℕ) → Result TableSetup RowKind
subscriber_row earlier fields =
    and_then (party_in fields 1) (λ digits. and_then (account_in fields 2) (λ account.
    if is_blank fields 3 then name_subscriber earlier digits account else Err kind.Empty))

-- what was named before a row, and what the row names
unfoldable pub setup_row_at : TableSetup → List (List ℕ) → Result TableSetup RowKind
setup_row_at earlier fields =
    if has_word fields 0 (codes "account") then account_row earlier fields else
    if has_word fields 0 (codes "subscriber") then subscriber_row earlier fields else Err kind.What

-- the headers of a setup, the older one first
abbrev pub setup_headers : List Fields
setup_headers =
    (codes "kind" ∷ codes "key" ∷ codes "value" ∷ []) ∷ (codes "kind" ∷ codes "key" ∷ codes "value" ∷ codes "until" ∷ []) ∷ []

-- one of these headers, and 10,000 rows at most; each names what comes to the earlier ones
abbrev pub setup_form : TableForm TableSetup RowKind RowFault
setup_form =
    table_form setup_headers 10000 (record { accounts = []; subscribers = [] })
    (λ header earlier fields. setup_row_at earlier fields)

-- the setup of a table
abbrev pub table_setup_of : List (List (List ℕ)) → Result TableSetup RowFault
table_setup_of rows = table_of setup_form rows
