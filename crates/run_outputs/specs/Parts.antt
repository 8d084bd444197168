-- Which part of a run each row of its script goes to.
use Rattle.std.specs.Prelude.{◌≡◌, ◌<◌, ◌==◌, ◌+◌, ◌%◌, ℕ, Option, Some, None, List, [], ◌∷◌, length, min, max, if◌then◌else◌, nat_le, slice_index_or}
use Rattle.std.specs.BTreeMap.{is_at}
use Rattle.std.specs.List.{filter}
use Rattle.std.specs.Map.{lookup}
use Rattle.std.specs.Option.{option_or}
use Rattle.std.specs.Ordering.{nat_cmp}
use Rattle.std.specs.Str.{bytes_eq}
use Rattle.run_texts.specs.Happenings.{Happens, Meets, Recharges, RowData, Starts}
use Rattle.run_texts.specs.Views.{happens_of}
use Rattle.run_texts.specs.declared.script.ScriptRow.{ScriptRow}

-- the part of an account, by the accounts with which the second part and each further one begins: as many of these as aren't above it
abbrev pub part_of_account : List ℕ → ℕ → ℕ
part_of_account firsts account = length (filter (λ first. nat_le first account) firsts)

-- the part of a call: that of its account, or by its number where it has none
abbrev pub part_by : List ℕ → Option ℕ → ℕ → ℕ
part_by firsts (Some account) call = part_of_account firsts account
part_by firsts None call = call % (1 + length firsts)

-- the part of what happens: that of its call, whose account is so found, or that of the account that is recharged
abbrev pub part_of : List ℕ → (ℕ → Option ℕ) → Happens → ℕ
part_of firsts payer (Starts call calling called) = part_by firsts (payer call) call
part_of firsts payer (Meets call event) = part_by firsts (payer call) call
part_of firsts payer (Recharges account amount until) = part_of_account firsts account

-- the account of a subscriber, among the digits of all with their accounts
abbrev pub account_of_digits : List ℕ → List (List ℕ × ℕ) → Option ℕ
account_of_digits digits = lookup (λ other. bytes_eq other digits)

-- the account of a call, where this starts it
abbrev pub payer_by : List (List ℕ × ℕ) → ℕ → Happens → Option ℕ
payer_by subscribers call (Starts other calling called) = if other == call then account_of_digits calling subscribers else None
payer_by subscribers call (Meets other event) = None
payer_by subscribers call (Recharges account amount until) = None

-- the account of a call: that of the subscriber who starts it
abbrev pub payer_of : List (List ℕ × ℕ) → List RowData → ℕ → Option ℕ
payer_of subscribers [] call = None
payer_of subscribers (row ∷ script) call = option_or (payer_by subscribers call row.what) (payer_of subscribers script call)

-- what happens in a part of a script, in order
abbrev pub part_script : List ℕ → (ℕ → Option ℕ) → List RowData → ℕ → List RowData
part_script firsts payer script part = filter (λ row. part_of firsts payer row.what == part) script

-- the rows of a part of a script, in order
abbrev pub part_rows : List ℕ → (ℕ → Option ℕ) → List ScriptRow → ℕ → List ScriptRow
part_rows firsts payer rows part = filter (λ row. part_of firsts payer (happens_of row.what) == part) rows

-- how many parts there are, where so many are asked for: at most as many as accounts, and at least one
abbrev pub part_count : ℕ → ℕ → ℕ
part_count asked accounts = max 1 (min asked accounts)

-- rows are divided among the parts, each part's in their order
pub record AreParts (firsts : List ℕ) (payer : ℕ → Option ℕ) (rows : List ScriptRow) (parts : List (List ScriptRow)) : Type 0 where
  pub count : length parts ≡ 1 + length firsts
  pub each : (part : ℕ) → part < 1 + length firsts → slice_index_or parts part [] ≡ part_rows firsts payer rows part

-- the account of a call in a map, by number
abbrev pub payer_in : List (ℕ × ℕ) → ℕ → Option ℕ
payer_in payers call = lookup (is_at (nat_cmp call)) payers

-- a map has the account of each call
abbrev pub HavePayers : (ℕ → Option ℕ) → List (ℕ × ℕ) → Type 0
HavePayers payer payers = (call : ℕ) → payer_in payers call ≡ payer call
