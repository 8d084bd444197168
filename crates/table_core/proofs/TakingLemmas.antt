-- What is made of a table's rows is its meaning.
use Rattle.std.proofs.Common.{◌≡◌, ◌+◌, ◌++◌, ◌∷◌, ◌∙◌, [], ℕ, true, false, List, ap, append-nil, arith, length, length-append, Option, Some, None, Result, Ok, Err, refl, sym}
use Rattle.std.proofs.lemmas.List.{append_assoc}
use Rattle.std.specs.Prelude.{IfSome, IsErrAnd}
use Rattle.std.proofs.lemmas.Option.{IfSome_then}
use Rattle.csv.specs.Records.{fields_of}
use Rattle.table_core.specs.Faults.{GivesTable, RefusesTable}
use Rattle.table_core.specs.Rows.{Fields, rows_below_header, rows_of}
use Rattle.table_core.specs.Reading.{HasRows, IsAtFirst, IsNextRow, Opens, StepsRow}
use Rattle.table_core.specs.Tables.{TableForm, table_form, table_of}
use Rattle.table_core.specs.Taking.{TakesTable}
use Rattle.table_core.specs.declared.fault.RowFault.{RowFault}
use Rattle.table_core.specs.declared.fault.RowKind.{RowKind}
use Rattle.table_core.specs.declared.fault.TableFault.{TableFault}
use Rattle.table_core.specs.declared.fault.TableFault.TheVariants as fault
use Rattle.table_core.proofs.Known.{both_known}
use Rattle.table_core.specs.declared.table.Table.{Table}
use Rattle.table_core.proofs.TableLemmas.{IsRead, Stops, ended, not_opened, opened, refused, refuses, stopped, taken}

-- ---- the rows so far

-- one row more
one_more : (rows : List Fields) (fields : Fields) (before after : ℕ) → length rows + 1 ≡ before → after ≡ before + 1 → length (rows ++ fields ∷ []) + 1 ≡ after
one_more rows fields before after count next = omega (arith, length-append rows (fields ∷ []), count, next)

-- what holds of each start where the bytes are known
each_known : {X T S : Type 0} (Had : T → S → Type 0) (P : X → T → S → Type 0) (known : Option X) → ((terms : T) (start : S) → Had terms start → IfSome known (λ x. P x terms start))
    → IfSome known (λ x. (terms : T) (start : S) → Had terms start → P x terms start)
each_known Had P None holds = tt
each_known Had P (Some x) holds = holds

-- the table whose rows are judged so
abbrev form_by : {T S : Type 0} → List Fields → ℕ → (T → ℕ → S → Fields → Result S RowKind) → T → S → TableForm S RowKind RowFault
form_by headers most judge terms start = table_form headers most start (judge terms)

-- these rows are those of a text between its header and the rows that are left
pub record AreAbove {R : Type 0} (remaining : R → Option (List ℕ)) (table : Table R) (rows : List Fields) (text : List ℕ) : Type 0 where
  pub left : List Fields
  pub has : HasRows remaining table left
  pub are : rows_below_header (rows_of text) ≡ rows ++ left

-- what was made of the rows so far goes with what was read of the table
abbrev IsMade : {R T S : Type 0} → List Fields → ℕ → (T → ℕ → S → Fields → Result S RowKind) → (R → Option (List ℕ)) → Option (List ℕ) → (T → S → Type 0) → (T → List Fields → S → Type 0) → Table R → Type 0
IsMade headers most judge remaining known Had Has table =
    (terms : _) (start : _) → Had terms start → (made : _) × IsRead (form_by headers most judge terms start) remaining known table made × (rows : List Fields) × IfSome known (AreAbove remaining table rows)
    × Has terms rows made × (length rows + 1 ≡ table.number)

-- the table's rows were taken, or it has that fault
abbrev IsTaken : {X T S : Type 0} → List Fields → ℕ → (T → ℕ → S → Fields → Result S RowKind) → Option (List ℕ) → (T → S → Type 0) → (T → List Fields → S → Type 0) → Result X TableFault → Type 0
IsTaken headers most judge known Had Has answer =
    IfSome known (λ text. (terms : _) (start : _) → Had terms start → TakesTable (Has terms (rows_below_header (rows_of text))) answer (table_of (form_by headers most judge terms start) (rows_of text)))

module _ {R T S : Type 0} (headers : List Fields) (most : ℕ) (judge : T → ℕ → S → Fields → Result S RowKind) (remaining : R → Option (List ℕ)) (known : Option (List ℕ)) (Had : T → S → Type 0) where
  pub none_made : (Has : T → List Fields → S → Type 0) (table : Table R) → IsAtFirst headers most table → IfSome known (λ text. Opens remaining headers (Ok table) (rows_of text))
      → ((terms : T) (start : S) → Had terms start → Has terms [] start) → IsMade headers most judge remaining known Had Has table
  none_made Has table first opens has = λ terms start had.
      let above = IfSome_then known opens (λ text (header, left, rows_are, which, width, is). record { left = left; has = is; are = ap rows_below_header rows_are }) in
      (start, opened (form_by headers most judge terms start) remaining known table first opens, [], above, has terms start had, rw first.number refl)

  pub one_made : (Has HasNow : T → List Fields → S → Type 0) (table after : Table R) → IsMade headers most judge remaining known Had Has table → IsNextRow table after → StepsRow remaining table after (Ok true)
      → ((terms : T) (rows : List Fields) (made : S) → Has terms rows made
      → (now : S) × (judge terms table.header made (fields_of after.rows.row) ≡ Ok now) × HasNow terms (rows ++ fields_of after.rows.row ∷ []) now)
      → IsMade headers most judge remaining known Had HasNow after
  one_made Has HasNow table after are next steps takes = λ terms start had.
      let (made, read, rows, above, has, count) = are terms start had in
      let (now, is, has_now) = takes terms rows made has in
      let fields = fields_of after.rows.row in (
        now,
        taken (form_by headers most judge terms start) remaining known table after made read now next steps is,
        rows ++ fields ∷ [],
        IfSome_then known above (λ text were.
            let (rest, left_are, left_has) = steps were.left were.has in
            record { left = rest; has = left_has; are = were.are ∙ ap (λ left. rows ++ left) left_are ∙ sym (append_assoc rows (fields ∷ []) rest) }),
        has_now,
        one_more rows _ _ _ count next.number,
      )

  -- ---- how a table ends

  pub row_refused : (Has : T → List Fields → S → Type 0) (table after : Table R) (why : RowKind) → IsMade headers most judge remaining known Had Has table → IsNextRow table after
      → StepsRow remaining table after (Ok true)
      → ((terms : T) (rows : List Fields) (made : S) → Has terms rows made → judge terms table.header made (fields_of after.rows.row) ≡ Err why)
      → IfSome known (λ text. (terms : T) (start : S) → Had terms start
      → table_of (form_by headers most judge terms start) (rows_of text) ≡ Err (record { row = after.number; kind = why }))
  row_refused Has table after why are next steps refuses_it = each_known Had _ known (λ terms start had.
      let (made, read, rows, above, has, count) = are terms start had in
      refused (form_by headers most judge terms start) remaining known table after made read why next steps (refuses_it terms rows made has))

  module _ (Has : T → List Fields → S → Type 0) where
    stops_by : {X : Type 0} (answer : Result X TableFault) (why : TableFault) → IsErrAnd answer (λ met. met ≡ why)
        → ((terms : T) (start : S) → Had terms start → IfSome known (λ text. Stops (form_by headers most judge terms start) why (table_of (form_by headers most judge terms start) (rows_of text)))) → IsTaken headers most judge known Had Has answer
    stops_by (Ok done) why met stops = absurd met
    stops_by (Err other) why met stops = each_known Had _ known (λ terms start had. IfSome_then known (stops terms start had)
        (λ text is. rw met (refuses (form_by headers most judge terms start) (λ row kind. refl) (λ all. all) (λ kind. refl) why _ is)))

    pub none_opened : {X : Type 0} (answer : Result X TableFault) (why : TableFault) → IsErrAnd answer (λ met. met ≡ why) → IfSome known (λ text. Opens remaining headers (Err why) (rows_of text))
        → IsTaken headers most judge known Had Has answer
    none_opened answer why met opens = stops_by answer why met (λ terms start had. not_opened (form_by headers most judge terms start) remaining known why opens)

    module _ (Now : T → List Fields → S → Type 0) (table after : Table R) (are : IsMade headers most judge remaining known Had Now table) where
      pub reading_stopped : {X : Type 0} (answer : Result X TableFault) (why : TableFault) → IsErrAnd answer (λ met. met ≡ why) → StepsRow remaining table after (Err why) → IsTaken headers most judge known Had Has answer
      reading_stopped answer why met steps = stops_by answer why met (λ terms start had.
          let (made, read, rows, above, has, count) = are terms start had in
          stopped (form_by headers most judge terms start) remaining known table after made read why steps)

  -- no row is left, so those that were taken are all
  pub all_taken : {X : Type 0} (Has : T → List Fields → S → Type 0) (table after : Table R) → IsMade headers most judge remaining known Had Has table → (done : X) → StepsRow remaining table after (Ok false)
      → IsTaken headers most judge known Had Has (Ok done)
  all_taken Has table after are done steps = each_known Had _ known (λ terms start had.
      let (made, read, rows, above, has, count) = are terms start had in
      IfSome_then known (both_known known _ _ (ended (form_by headers most judge terms start) remaining known table after made read steps) above) (λ text (is, were).
      let all : rows_below_header (rows_of text) ≡ rows = were.are ∙ ap (λ left. rows ++ left) (steps were.left were.has) ∙ append-nil rows in
      (made, is, rw all has)))

-- ---- what a reader of a table gives, by what was made of its rows

module _ {X Y T S : Type 0} (known : Option (List ℕ)) (Had : T → S → Type 0) (terms : T) (start : S) (meaning : T → S → List ℕ → Result S RowFault) (next : Result S RowFault → Result Y RowFault)
    (view : X → Y) (had : Had terms start) where
  -- all rows were taken
  pub taken_gives : (x : X) (Has : List ℕ → T → S → Type 0) → ((text : List ℕ) (made : S) → Has text terms made → next (Ok made) ≡ Ok (view x))
      → IfSome known (λ text. (terms : T) (start : S) → Had terms start → (made : S) × (meaning terms start text ≡ Ok made) × Has text terms made)
      → IfSome known (λ text. GivesTable view (Ok x) (next (meaning terms start text)))
  taken_gives x Has gives taken = IfSome_then known taken (λ text all. let (made, is, has) = all terms start had in rw is (gives text made has))

  module _ (passes : (why : RowFault) → next (Err why) ≡ Err why) where
    refused_by : (why : TableFault) (was : Result S RowFault) → RefusesTable why was → RefusesTable why (next was)
    refused_by (fault.Row refused) was is = rw is (passes refused)
    refused_by fault.Device was is = tt
    refused_by fault.OutOfMemory was is = tt

    -- a row was refused, or reading failed
    pub refused_gives : (answer : Result X TableFault) (why : TableFault) → IsErrAnd answer (λ met. met ≡ why)
        → IfSome known (λ text. (terms : T) (start : S) → Had terms start → RefusesTable why (meaning terms start text))
        → IfSome known (λ text. GivesTable view answer (next (meaning terms start text)))
    refused_gives (Ok x) why met refused = absurd met
    refused_gives (Err other) why met refused = IfSome_then known refused (λ text all. rw met (refused_by why (meaning terms start text) (all terms start had)))
