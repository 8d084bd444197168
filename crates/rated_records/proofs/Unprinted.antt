-- Where all rows of a table are right, `--differing` prints none, and all pass.
use Rattle.std.proofs.Common.{◌≡◌, ◌≢◌, ◌==◌, ◌+◌, ◌∙◌, ℕ, Bool, true, false, true≢false, Option, Some, None, List, [], ◌∷◌, ◌++◌, All, map, refl, sym, ap, append-nil, arith}
use Rattle.std.specs.Prelude.{◌&&◌, fold, if◌then◌else◌, is_some, not}
use Rattle.std.specs.List.{AllZip, flat_map}
use Rattle.std.specs.Option.{option_map}
use Rattle.std.proofs.lemmas.Bool.{eq-eqb}
use Rattle.std.proofs.lemmas.List.Elements.{All-cons, All-head, All-nil, All-tail}
use Rattle.run_outputs.specs.Records.{prefix_of}
use Rattle.run_outputs.specs.declared.call_record.CallRecord.{CallRecord}
use Rattle.run_outputs.specs.declared.outcome.Outcome.TheVariants as outcome
use Rattle.tariff_core.specs.declared.clock.Clock.{Clock}
use Rattle.rated_records.specs.Laws.{paid_rightly}
use Rattle.rated_records.specs.Tables.{IsRowOf, NoRowIsPrinted, header_fields}
use Rattle.rating.specs.Lines.{header_line, rated_line}
use Rattle.rating.specs.Rated.{Rating, Faulty, Priced, is_right}
use Rattle.rating.specs.Scores.{counted, no_rows, passes}
use Rattle.rating.specs.Texts.{RatedRow}
use Rattle.rating.specs.declared.score.Score.{Score}

-- ---- each row is right

IsRightRow : RatedRow → Type 0
IsRightRow row = is_right row.rating ≡ true

paid_right : (call : CallRecord) (prefix : Option (List ℕ)) → is_some prefix ≡ true → is_right (paid_rightly call prefix) ≡ true
paid_right call None some = absurd (true≢false (sym some))
paid_right call (Some prefix) some = rw (eq-eqb call.paid call.paid refl) refl

still_some : {X : Type 0} (listed : X → List ℕ) (prefix : Option X) → is_some prefix ≡ true → is_some (option_map listed prefix) ≡ true
still_some listed None some = absurd (true≢false (sym some))
still_some listed (Some prefix) some = refl

rows_right : (clock : Clock) (calls : List CallRecord) (rated : List RatedRow) → All (λ call. call.outcome ≢ outcome.Forfeit) calls → All (λ call. is_some call.prefix ≡ true) calls
    → AllZip (IsRowOf clock) calls rated → All IsRightRow rated
unfolding IsRightRow
rows_right clock [] [] lawful prefixed zip = All-nil IsRightRow
rows_right clock [] (row ∷ rated) lawful prefixed zip = absurd zip
rows_right clock (call ∷ calls) [] lawful prefixed zip = absurd zip
rows_right clock (call ∷ calls) (row ∷ rated) lawful prefixed zip =
    let Lawful : CallRecord → Type 0 = λ c. c.outcome ≢ outcome.Forfeit in
    let Prefixed : CallRecord → Type 0 = λ c. is_some c.prefix ≡ true in
    let rating = zip.0.rating (All-head Lawful call calls lawful) in
    All-cons IsRightRow row rated
    (ap is_right rating ∙ paid_right call (prefix_of call) (still_some (λ prefix. prefix.items) call.prefix (All-head Prefixed call calls prefixed)))
    (rows_right clock calls rated (All-tail Lawful call calls lawful) (All-tail Prefixed call calls prefixed) zip.1)

-- ---- none is printed, and all pass

none_printed : (rated : List RatedRow) → All IsRightRow rated → flat_map (λ row. rated_line true row.fields row.rating) rated ≡ []
unfolding IsRightRow
none_printed [] right = refl
none_printed (row ∷ rated) right =
    let here : is_right row.rating ≡ true = All-head IsRightRow row rated right in rw (here, none_printed rated (All-tail IsRightRow row rated right)) refl

counted_right : (score : Score) (rating : Rating) → is_right rating ≡ true → (counted score rating).differing + (counted score rating).faults ≡ score.differing + score.faults
counted_right score (Priced prefix charge None) right = refl
counted_right score (Priced prefix charge (Some paid)) right = by (charge.price == paid) refl right
  where
    by : (same : Bool) → (charge.price == paid) ≡ same → (not (not same) && not false) ≡ true → score.differing + (if charge.price == paid then 0 else 1) + score.faults ≡ score.differing + score.faults
    by true is right_here = rw is (omega arith)
    by false is right_here = absurd (true≢false (sym right_here))
counted_right score (Faulty why) right = absurd (true≢false (sym right))

all_counted : (score : Score) (rated : List RatedRow) → All IsRightRow rated
    → (fold counted score (map (λ row. row.rating) rated)).differing + (fold counted score (map (λ row. row.rating) rated)).faults ≡ score.differing + score.faults
unfolding IsRightRow
all_counted score [] right = refl
all_counted score (row ∷ rated) right =
    all_counted (counted score row.rating) rated (All-tail IsRightRow row rated right) ∙ counted_right score row.rating (All-head IsRightRow row rated right)

pub unprinted : NoRowIsPrinted
unprinted clock calls printed score lawful prefixed table =
    let right = rows_right clock calls table.rated lawful prefixed table.each in (
      table.printed_is ∙ ap (λ lines. header_line header_fields ++ lines) (none_printed table.rated right) ∙ append-nil (header_line header_fields),
      ap passes table.score_is ∙ eq-eqb _ 0 (all_counted no_rows table.rated right),
    )
