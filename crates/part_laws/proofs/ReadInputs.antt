-- What is read of an input has its order.
use Rattle.std.proofs.Common.{◌≡◌, ◌<◌, ◌≤◌, ◌++◌, ◌∙◌, ℕ, Bool, true, false, Option, Result, Ok, Err, List, [], ◌∷◌, length, map, reverse, refl, sym, ap, subst, arith}
use Rattle.std.specs.BTreeMap.{insert_entry}
use Rattle.std.specs.Cmp.Lexicographic.{slice_cmp}
use Rattle.std.specs.List.{AllByRecursion}
use Rattle.std.specs.List.Sorted.{IsStrictlySortedBy}
use Rattle.std.specs.Map.{keys_of}
use Rattle.std.specs.Ordering.{match_ordering, nat_cmp}
use Rattle.std.specs.declared.cmp.Ordering.{Ordering}
use Rattle.std.specs.declared.cmp.Ordering.TheVariants.{Less, Equal, Greater}
use Rattle.std.specs.Prelude.{codes, if◌then◌else◌, nat_le, nat_lt, ok_or}
use Rattle.std.proofs.lemmas.Bool.Decides.{nat_tests}
use Rattle.std.proofs.lemmas.List.{reverse-append}
use Rattle.table_core.proofs.TableLemmas.{table_keeps}
use Rattle.part_laws.proofs.InOrder.{ComesInOrder}
use Rattle.run_texts.specs.Happenings.{Happens, Meets, Recharges, RowData, Starts}
use Rattle.run_texts.specs.Inputs.{RunInput, as_input_fault, input_of, tariff_in}
use Rattle.run_texts.specs.Sections.{Texts, texts_of}
use Rattle.run_texts.specs.Scripts.{is_started, judged_by, judged_row, last_row_moment, read_in, script_form, script_of, script_row_at}
use Rattle.run_texts.specs.Setups.{TableSetup, account_in, account_row, amount_in, has_subscriber, name_account, name_subscriber, party_in, setup_form, setup_row_at, subscriber_row, table_setup_of, until_in}
use Rattle.run_texts.specs.Views.{rows_are_in_order, row_data}
use Rattle.run_texts.specs.declared.input_fault.InputFault.{InputFault}
use Rattle.run_texts.specs.declared.input_fault.InputFault.TheVariants as input
use Rattle.run_texts.specs.declared.script.ScriptRow.{ScriptRow}
use Rattle.run_values.specs.Setups.{has_account}
use Rattle.run_values.specs.declared.directory.OpeningCredit.{OpeningCredit}
use Rattle.table_core.specs.Fields.{has_word, is_blank}
use Rattle.table_core.specs.Judging.{and_then}
use Rattle.table_core.specs.Rows.{Fields, rows_of}
use Rattle.table_core.specs.Tables.{below, table_of}
use Rattle.table_core.specs.declared.fault.RowKind.{RowKind}
use Rattle.table_core.specs.declared.fault.RowKind.TheVariants as kind
use Rattle.tariff_core.specs.Bands.{Band}
use Rattle.tariff_core.specs.Laws.{IsReadTariff}
use Rattle.tariff_core.specs.TariffTable.{tariff_of}

-- ---- steps that may fail

and_kept : {X Y K Q : Type 0} (read : Result X K) (next : X → Result Y K) (last : Y) → ((x : X) → next x ≡ Ok last → Q) → and_then read next ≡ Ok last → Q
and_kept (Ok x) next last keeps is = keeps x is
and_kept (Err why) next last keeps is = absurd (cc is)

if_kept : {Y K Q : Type 0} (b : Bool) (one other : Result Y K) (last : Y) → (one ≡ Ok last → Q) → (other ≡ Ok last → Q) → (if b then one else other) ≡ Ok last → Q
if_kept true one other last first second is = first is
if_kept false one other last first second is = second is

refused : {Y K Q : Type 0} (why : K) (last : Y) → Err why ≡ Ok last → Q
refused why last is = absurd (cc is)

-- ---- the rows of a script

-- newest first, no moment lies below the one before it
abbrev Fall : List RowData → Type 0
Fall [] = Unit {0}
Fall (row ∷ earlier) = (last_row_moment earlier ≤ row.at) × Fall earlier

module _ (accounts : List (ℕ × OpeningCredit)) where
  judged_kept : (earlier : List RowData) (row : RowData) (what : Happens) (judged : RowData) → judged_by accounts earlier row what ≡ Ok judged → row ≡ judged
  judged_kept earlier row (Starts call calling called) judged is = if_kept (is_started call earlier) _ _ judged (refused _ judged) (λ same. cc same) is
  judged_kept earlier row (Meets call met) judged is = if_kept (is_started call earlier) _ _ judged (λ same. cc same) (refused _ judged) is
  judged_kept earlier row (Recharges account amount until) judged is = if_kept (has_account account accounts) _ _ judged (λ same. cc same) (refused _ judged) is

  row_kept : (earlier : List RowData) (row judged : RowData) → judged_row accounts earlier row ≡ Ok judged → last_row_moment earlier ≤ judged.at
  row_kept earlier row judged is = by_order (nat_lt row.at (last_row_moment earlier)) refl is
    where
      by_order : (b : Bool) → nat_lt row.at (last_row_moment earlier) ≡ b → (if b then Err kind.Order else judged_by accounts earlier row row.what) ≡ Ok judged → last_row_moment earlier ≤ judged.at
      by_order true at is = absurd (cc is)
      by_order false at is =
          let same = judged_kept earlier row row.what judged is in
          let after : last_row_moment earlier ≤ row.at = grind (arith, nat_tests, at) in subst (λ (e : RowData). last_row_moment earlier ≤ e.at) same after

  script_falls : (header : ℕ) (earlier next : List RowData) (fields : Fields) → (script_form accounts).judge header earlier fields ≡ Ok next → Fall earlier → Fall next
  unfolding script_row_at
  script_falls header earlier next fields is falls = by_read (read_in fields) is
    where
      by_judged : (judged : Result RowData RowKind) → ((row : RowData) → judged ≡ Ok row → last_row_moment earlier ≤ row.at)
          → and_then judged (λ row. Ok (row ∷ earlier)) ≡ Ok next → Fall next
      by_judged (Err why) after is = absurd (cc is)
      by_judged (Ok row) after is = let same : row ∷ earlier ≡ next = cc is in subst Fall same (after row refl, falls)

      by_read : (read : Result RowData RowKind) → and_then (and_then read (judged_row accounts earlier)) (λ row. Ok (row ∷ earlier)) ≡ Ok next → Fall next
      by_read (Err why) is = absurd (cc is)
      by_read (Ok row) is = by_judged (judged_row accounts earlier row) (λ judged at. row_kept earlier row judged at) is

abbrev pub of_event : RowData → ℕ
of_event row = row.at

-- where a list ends that begins at a moment
abbrev end_from : ℕ → List RowData → ℕ
end_from start [] = start
end_from start (row ∷ rows) = end_from row.at rows

order_more : (start : ℕ) (rows : List RowData) (row : RowData) → ComesInOrder of_event start rows → end_from start rows ≤ row.at → ComesInOrder of_event start (rows ++ row ∷ [])
order_more start [] row order above = (above, tt)
order_more start (first ∷ rows) row order above = (order.0, order_more first.at rows row order.1 above)

end_more : (start : ℕ) (rows : List RowData) (row : RowData) → end_from start (rows ++ row ∷ []) ≡ row.at
end_more start [] row = refl
end_more start (first ∷ rows) row = end_more first.at rows row

turned : (newest : List RowData) → Fall newest → ComesInOrder of_event 0 (reverse newest) × (end_from 0 (reverse newest) ≡ last_row_moment newest)
turned [] falls = (tt, refl)
turned (row ∷ earlier) falls =
    let rest = turned earlier falls.1 in
    let last = reverse-append (row ∷ []) earlier in (
      subst (ComesInOrder of_event 0) (sym last) (order_more 0 (reverse earlier) row rest.0 (subst (λ (n : ℕ). n ≤ row.at) (sym rest.1) falls.0)),
      ap (end_from 0) last ∙ end_more 0 (reverse earlier) row,
    )

script_ordered : (accounts : List (ℕ × OpeningCredit)) (rows : List Fields) (script : List RowData) → script_of accounts rows ≡ Ok script → ComesInOrder of_event 0 script
script_ordered accounts rows script is = by_table (table_of (script_form accounts) rows) refl is
  where
    by_table : (read : Result (List RowData) _) → table_of (script_form accounts) rows ≡ read → and_then read (λ newest. Ok (reverse newest)) ≡ Ok script → ComesInOrder of_event 0 script
    by_table (Err why) at is = absurd (cc is)
    by_table (Ok newest) at is =
        let same : reverse newest ≡ script = cc is in
        subst (ComesInOrder of_event 0) same (turned newest (table_keeps (script_form accounts) Fall (script_falls accounts) rows newest tt at)).0

pub rows_ordered : (start : ℕ) (rows : List ScriptRow) → ComesInOrder of_event start (map row_data rows) → rows_are_in_order start rows ≡ true
rows_ordered start [] order = refl
rows_ordered start (row ∷ rows) order = let first : nat_le start row.at ≡ true = grind (arith, nat_tests, order.0) in rw first (rows_ordered row.at rows order.1)

-- ---- the accounts of a setup

lower : (one other : ℕ) → nat_cmp one other ≡ Less → one < other
lower one other less = grind (arith, nat_tests)

is_lower : (one other : ℕ) → one < other → nat_cmp one other ≡ Less
is_lower one other below = grind (arith, nat_tests)

higher : (one other : ℕ) → nat_cmp one other ≡ Greater → other < one
higher one other more = grind (arith, nat_tests)

abbrev AreAbove : ℕ → List ℕ → Type 0
AreAbove low keys = AllByRecursion (λ key. nat_cmp low key ≡ Less) keys

all_above : (low key : ℕ) (keys : List ℕ) → low < key → AreAbove key keys → AreAbove low keys
all_above low key [] below all = tt
all_above low key (next ∷ keys) below all = (is_lower low next (omega (arith, below, lower key next all.0)), all_above low key keys below all.1)

module _ {X : Type 0} (key : ℕ) (value : X) where
  all_more : (low : ℕ) (entries : List (ℕ × X)) → nat_cmp low key ≡ Less → AreAbove low (keys_of entries) → AreAbove low (keys_of (insert_entry nat_cmp entries key value))
  all_more low [] below all = (below, tt)
  all_more low (entry ∷ entries) below all = by_order (nat_cmp key entry.0) (all_more low entries below all.1)
    where
      by_order : (order : Ordering) → AreAbove low (keys_of (insert_entry nat_cmp entries key value))
          → AreAbove low (keys_of (match_ordering order ((key, value) ∷ entry ∷ entries) ((entry.0, value) ∷ entries) (entry ∷ insert_entry nat_cmp entries key value)))
      by_order Less rest = (below, all)
      by_order Equal rest = all
      by_order Greater rest = (all.0, rest)

  sorted_more : (entries : List (ℕ × X)) → IsStrictlySortedBy nat_cmp (keys_of entries) → IsStrictlySortedBy nat_cmp (keys_of (insert_entry nat_cmp entries key value))
  unfolding IsStrictlySortedBy
  sorted_more [] sorted = (tt, tt)
  sorted_more (entry ∷ entries) sorted = by_order (nat_cmp key entry.0) refl (sorted_more entries sorted.1)
    where
      by_order : (order : Ordering) → nat_cmp key entry.0 ≡ order → IsStrictlySortedBy nat_cmp (keys_of (insert_entry nat_cmp entries key value))
          → IsStrictlySortedBy nat_cmp (keys_of (match_ordering order ((key, value) ∷ entry ∷ entries) ((entry.0, value) ∷ entries) (entry ∷ insert_entry nat_cmp entries key value)))
      by_order Less is rest = ((is, all_above key entry.0 (keys_of entries) (lower key entry.0 is) sorted.0), sorted)
      by_order Equal is rest = sorted
      by_order Greater is rest = (all_more entry.0 entries (is_lower entry.0 key (higher key entry.0 is)) sorted.0, rest)

AreSorted : TableSetup → Type 0
AreSorted setup = IsStrictlySortedBy nat_cmp (keys_of setup.accounts)

account_sorted : (earlier : TableSetup) (account : ℕ) (opening : OpeningCredit) (next : TableSetup) → AreSorted earlier → name_account earlier account opening ≡ Ok next → AreSorted next
unfolding AreSorted
account_sorted earlier account opening next sorted is =
    if_kept (has_account account earlier.accounts) _ _ next (refused _ next) (λ named.
    let same : record earlier { accounts = insert_entry nat_cmp earlier.accounts account opening } ≡ next = cc named in
    subst (λ (s : TableSetup). IsStrictlySortedBy nat_cmp (keys_of s.accounts)) same (sorted_more account opening earlier.accounts sorted)) is

subscriber_sorted : (earlier : TableSetup) (digits : List ℕ) (account : ℕ) (next : TableSetup) → AreSorted earlier → name_subscriber earlier digits account ≡ Ok next → AreSorted next
unfolding AreSorted
subscriber_sorted earlier digits account next sorted is =
    let named : TableSetup = record earlier { subscribers = insert_entry (slice_cmp nat_cmp) earlier.subscribers digits account } in
    if_kept (has_subscriber digits earlier.subscribers) (Err kind.Repeated) (if has_account account earlier.accounts then Ok named else Err kind.Unknown) next (refused kind.Repeated next) (λ fresh.
    if_kept (has_account account earlier.accounts) (Ok named) (Err kind.Unknown) next (λ known.
    let same : named ≡ next = cc known in
    subst (λ (s : TableSetup). IsStrictlySortedBy nat_cmp (keys_of s.accounts)) same sorted) (refused kind.Unknown next) fresh) is

account_row_sorted : (earlier : TableSetup) (fields : Fields) (next : TableSetup) → AreSorted earlier → account_row earlier fields ≡ Ok next → AreSorted next
account_row_sorted earlier fields next sorted is =
    let opened : ℕ → ℕ → Option ℕ → Result TableSetup RowKind = λ account amount until. name_account earlier account (record { amount = amount; until = until }) in
    let with_amount : ℕ → ℕ → Result TableSetup RowKind = λ account amount. and_then (until_in fields 3) (opened account amount) in
    let with_account : ℕ → Result TableSetup RowKind = λ account. and_then (amount_in fields 2) (with_amount account) in
    if_kept (nat_le 1000 (length earlier.accounts)) (Err kind.TooManyRows) (and_then (account_in fields 1) with_account) next (refused kind.TooManyRows next) (λ few.
    and_kept (account_in fields 1) with_account next (λ account named.
    and_kept (amount_in fields 2) (with_amount account) next (λ amount priced.
    and_kept (until_in fields 3) (opened account amount) next (λ until at. account_sorted earlier account (record { amount = amount; until = until }) next sorted at) priced) named) few) is

subscriber_row_sorted : (earlier : TableSetup) (fields : Fields) (next : TableSetup) → AreSorted earlier → subscriber_row earlier fields ≡ Ok next → AreSorted next
subscriber_row_sorted earlier fields next sorted is =
    let of_account : List ℕ → ℕ → Result TableSetup RowKind = λ digits account. if is_blank fields 3 then name_subscriber earlier digits account else Err kind.Empty in
    let with_digits : List ℕ → Result TableSetup RowKind = λ digits. and_then (account_in fields 2) (of_account digits) in
    and_kept (party_in fields 1) with_digits next (λ digits named.
    and_kept (account_in fields 2) (of_account digits) next (λ account known.
    if_kept (is_blank fields 3) (name_subscriber earlier digits account) (Err kind.Empty) next (subscriber_sorted earlier digits account next sorted) (refused kind.Empty next) known) named) is

setup_sorted : (header : ℕ) (earlier next : TableSetup) (fields : Fields) → setup_form.judge header earlier fields ≡ Ok next → AreSorted earlier → AreSorted next
unfolding setup_row_at
setup_sorted header earlier next fields is sorted =
    let other : Result TableSetup RowKind = if has_word fields 0 (codes "subscriber") then subscriber_row earlier fields else Err kind.What in
    if_kept (has_word fields 0 (codes "account")) (account_row earlier fields) other next (account_row_sorted earlier fields next sorted)
    (if_kept (has_word fields 0 (codes "subscriber")) (subscriber_row earlier fields) (Err kind.What) next (subscriber_row_sorted earlier fields next sorted) (refused kind.What next)) is

no_accounts_sorted : AreSorted (record { accounts = []; subscribers = [] })
unfolding AreSorted IsStrictlySortedBy
no_accounts_sorted = tt

pub accounts_sorted : (rows : List Fields) (setup : TableSetup) → table_setup_of rows ≡ Ok setup → IsStrictlySortedBy nat_cmp (keys_of setup.accounts)
unfolding AreSorted
accounts_sorted rows setup is = table_keeps setup_form AreSorted setup_sorted rows setup no_accounts_sorted is

-- ---- an input

-- what was read of an input: a tariff, accounts by rising number, and a script in order
pub record IsReadInput (said : RunInput) : Type 0 where
  pub tariff : IsReadTariff said.tariff
  pub accounts : IsStrictlySortedBy nat_cmp (keys_of said.setup.accounts)
  pub script : ComesInOrder of_event 0 said.script

named_fault : {X E : Type 0} (tell : E → InputFault) (read : Result X E) (x : X) → as_input_fault tell read ≡ Ok x → read ≡ Ok x
named_fault tell (Ok y) x is = let same : y ≡ x = cc is in ap Ok same
named_fault tell (Err why) x is = absurd (cc is)

pub read_input : (text : List ℕ) (said : RunInput) → input_of text ≡ Ok said → IsReadInput said
read_input text said is = by_texts (ok_or (texts_of text) input.Parts) is
  where
    by_script : (tariff : List Band) (setup : TableSetup) (rows : List Fields) (script : Result (List RowData) InputFault) → IsReadTariff tariff
        → IsStrictlySortedBy nat_cmp (keys_of setup.accounts) → as_input_fault input.Script (script_of setup.accounts rows) ≡ script
        → and_then script (λ script. Ok (record { tariff = tariff; setup = setup; script = script })) ≡ Ok said → IsReadInput said
    by_script tariff setup rows (Err why) read sorted at is = absurd (cc is)
    by_script tariff setup rows (Ok script) read sorted at is =
        let same : record { tariff = tariff; setup = setup; script = script } ≡ said = cc is in
        let order = script_ordered setup.accounts rows script (named_fault input.Script (script_of setup.accounts rows) script at) in
        subst IsReadInput same (record { tariff = read; accounts = sorted; script = order })

    by_setup : (tariff : List Band) (texts : Texts) (setup : Result TableSetup InputFault) → IsReadTariff tariff → as_input_fault input.Setup (table_setup_of (rows_of texts.setup)) ≡ setup
        → and_then setup (λ setup. and_then (as_input_fault input.Script (script_of setup.accounts (rows_of texts.script))) (λ script. Ok (record { tariff = tariff; setup = setup; script = script }))) ≡ Ok said
        → IsReadInput said
    by_setup tariff texts (Err why) read at is = absurd (cc is)
    by_setup tariff texts (Ok setup) read at is =
        by_script tariff setup (rows_of texts.script) (as_input_fault input.Script (script_of setup.accounts (rows_of texts.script))) read
        (accounts_sorted (rows_of texts.setup) setup (named_fault input.Setup (table_setup_of (rows_of texts.setup)) setup at)) refl is

    by_tariff : (texts : Texts) (tariff : Result (List Band) InputFault) → tariff_in texts.tariff ≡ tariff
        → and_then tariff (λ tariff. and_then (as_input_fault input.Setup (table_setup_of (rows_of texts.setup))) (λ setup.
        and_then (as_input_fault input.Script (script_of setup.accounts (rows_of texts.script))) (λ script. Ok (record { tariff = tariff; setup = setup; script = script })))) ≡ Ok said
        → IsReadInput said
    by_tariff texts (Err why) at is = absurd (cc is)
    by_tariff texts (Ok tariff) at is =
        by_setup tariff texts (as_input_fault input.Setup (table_setup_of (rows_of texts.setup)))
        (rows_of texts.tariff, named_fault input.Tariff (tariff_of (rows_of texts.tariff)) tariff at) refl is

    by_texts : (texts : Result Texts InputFault)
        → and_then texts (λ texts. and_then (tariff_in texts.tariff) (λ tariff. and_then (as_input_fault input.Setup (table_setup_of (rows_of texts.setup))) (λ setup.
        and_then (as_input_fault input.Script (script_of setup.accounts (rows_of texts.script))) (λ script. Ok (record { tariff = tariff; setup = setup; script = script }))))) ≡ Ok said
        → IsReadInput said
    by_texts (Err why) is = absurd (cc is)
    by_texts (Ok texts) is = by_tariff texts (tariff_in texts.tariff) refl is
