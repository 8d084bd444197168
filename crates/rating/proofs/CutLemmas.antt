-- The rows of two parts, rated each by itself, are rated as one.
use Rattle.std.proofs.Common.{◌≡◌, ℕ, ◌+◌, Bool, List, [], ◌∷◌, ◌++◌, Some, None, Result, Ok, refl, sym, ap, subst, ◌∙◌, arith, map}
use Rattle.std.specs.List.{flat_map, fold}
use Rattle.std.proofs.lemmas.Grind.{flat_map-append}
use Rattle.std.proofs.lemmas.List.{append_cancel_left, map-append}
use Rattle.std.proofs.lemmas.List.Elements.{All-append}
use Rattle.std.proofs.lemmas.List.Sums.{fold-append}
use Rattle.table_core.specs.Rows.{Fields}
use Rattle.rating.specs.Laws.{PiecesAreRated, together, with_rows}
use Rattle.rating.specs.Lines.{header_line, rated_line}
use Rattle.rating.specs.Rated.{Rating, Faulty, Priced}
use Rattle.rating.specs.Scores.{counted, no_rows, score_of_rows}
use Rattle.rating.specs.Texts.{AreRated, IsRatedRow, IsRatedText, RateInput, RatedRow, counts_of, rated_text}
use Rattle.rating.specs.declared.fault.RateFault.{RateFault}
use Rattle.rating.specs.declared.score.Score.{Score}

-- ---- what is counted

abbrev score_by : (rows differing faults paid price under over : ℕ) → Score
score_by rows differing faults paid price under over =
    record { rows = rows; differing = differing; faults = faults; paid = paid; price = price; under = under; over = over }

same_score : (one other : Score) → one.rows ≡ other.rows → one.differing ≡ other.differing → one.faults ≡ other.faults → one.paid ≡ other.paid → one.price ≡ other.price
    → one.under ≡ other.under → one.over ≡ other.over → one ≡ other
same_score one other rows differing faults paid price under over =
    let same : score_by one.rows one.differing one.faults one.paid one.price one.under one.over
    ≡ score_by other.rows other.differing other.faults other.paid other.price other.under other.over =
    rw (rows, differing, faults, paid, price, under, over) refl in same

nothing_more : (number : ℕ) → number ≡ number + 0
nothing_more number = omega arith

some_more : (number more : ℕ) → number + more ≡ number + (0 + more)
some_more number more = omega arith

counted_together : (score : Score) (rating : Rating) → counted score rating ≡ together score (counted no_rows rating)
counted_together score (Faulty why) =
    same_score _ _ (some_more _ _) (nothing_more _) (some_more _ _) (nothing_more _) (nothing_more _) (nothing_more _) (nothing_more _)
counted_together score (Priced prefix charge None) =
    same_score _ _ (some_more _ _) (nothing_more _) (nothing_more _) (nothing_more _) (some_more _ _) (nothing_more _) (nothing_more _)
counted_together score (Priced prefix charge (Some paid)) =
    same_score _ _ (some_more _ _) (some_more _ _) (nothing_more _) (some_more _ _) (some_more _ _) (some_more _ _) (some_more _ _)

sum_of_three : (one two three : ℕ) → one + two + three ≡ one + (two + three)
sum_of_three one two three = omega arith

together_assoc : (one two three : Score) → together (together one two) three ≡ together one (together two three)
together_assoc one two three =
    same_score _ _ (sum_of_three _ _ _) (sum_of_three _ _ _) (sum_of_three _ _ _) (sum_of_three _ _ _) (sum_of_three _ _ _) (sum_of_three _ _ _) (sum_of_three _ _ _)

together_none : (score : Score) → score ≡ together score no_rows
together_none score =
    same_score _ _ (nothing_more _) (nothing_more _) (nothing_more _) (nothing_more _) (nothing_more _) (nothing_more _) (nothing_more _)

-- what is counted of some rows, behind others
counted_behind : (score : Score) (ratings : List Rating) → fold counted score ratings ≡ together score (score_of_rows ratings)
counted_behind score [] = together_none score
counted_behind score (rating ∷ ratings) =
    counted_behind (counted score rating) ratings
    ∙ ap (λ t. together t (score_of_rows ratings)) (counted_together score rating)
    ∙ together_assoc score (counted no_rows rating) (score_of_rows ratings)
    ∙ ap (λ t. together score t) (sym (counted_behind (counted no_rows rating) ratings))

-- what is counted of two parts is what is counted of both
both_counted : (front back : List Rating) (one other : Score) → one ≡ score_of_rows front → other ≡ score_of_rows back → together one other ≡ score_of_rows (front ++ back)
both_counted front back one other is_one is_other =
    rw (is_one, is_other) (sym (counted_behind (score_of_rows front) back)) ∙ sym (fold-append counted no_rows front back)

-- ---- what is printed

ok_is : (meaning : Result RateInput RateFault) (one other : RateInput) → meaning ≡ Ok one → meaning ≡ Ok other → one ≡ other
ok_is meaning one other is is_too = cc

-- the lines behind the header of rows that were rated
record Lines (differing : Bool) (input : RateInput) (rows : List Fields) (text : List ℕ) (score : Score) : Type 0 where
  rated : List RatedRow
  are_rated : AreRated input rows rated
  lines : text ≡ flat_map (λ row. rated_line differing row.fields row.rating) rated
  score_is : score ≡ counts_of rated

lines_of : (differing : Bool) (input : RateInput) (rows : List Fields) (text : List ℕ) (score : Score)
    → IsRatedText differing (Ok (with_rows input rows)) (header_line input.header ++ text) score → Lines differing input rows text score
lines_of differing input rows text score is =
    let same : with_rows input rows ≡ is.input = ok_is (Ok (with_rows input rows)) _ _ refl is.is_input in
    let are : AreRated (with_rows input rows) rows is.rated = subst (λ (i : RateInput). AreRated i i.rows is.rated) (sym same) is.are_rated in
    let printed : header_line input.header ++ text ≡ rated_text differing input.header is.rated =
    subst (λ (i : RateInput). header_line input.header ++ text ≡ rated_text differing i.header is.rated) (sym same) is.printed_is in
    record {
      rated = is.rated;
      are_rated = record { rows_are = are.rows_are; each = are.each };
      lines = append_cancel_left (header_line input.header) _ _ printed;
      score_is = is.score_is;
    }

pub pieces_are_rated : PiecesAreRated
pieces_are_rated differing input front back first second one other is_front is_back =
    let a = lines_of differing input front first one is_front in
    let b = lines_of differing input back second other is_back in
    let rows : front ++ back ≡ map (λ row. row.fields) (a.rated ++ b.rated) = rw (map-append (λ (row : RatedRow). row.fields) a.rated b.rated, ← a.are_rated.rows_are, ← b.are_rated.rows_are) refl in
    let lines : first ++ second ≡ flat_map (λ row. rated_line differing row.fields row.rating) (a.rated ++ b.rated) =
    rw (flat_map-append (λ (row : RatedRow). rated_line differing row.fields row.rating) a.rated b.rated, ← a.lines, ← b.lines) refl in
    record {
      input = with_rows input (front ++ back);
      is_input = refl;
      rated = a.rated ++ b.rated;
      are_rated = record { rows_are = rows; each = All-append (IsRatedRow input) a.rated b.rated a.are_rated.each b.are_rated.each };
      printed_is = ap (λ l. header_line input.header ++ l) lines;
      score_is =
          both_counted (map (λ (row : RatedRow). row.rating) a.rated) (map (λ (row : RatedRow). row.rating) b.rated) one other a.score_is b.score_is
          ∙ ap (λ l. score_of_rows l) (sym (map-append (λ (row : RatedRow). row.rating) a.rated b.rated));
    }
