-- What is counted of the rows.
use Rattle.std.specs.Prelude.{◌+◌, ◌-◌, ◌*◌, ◌≤◌, ◌==◌, ◌^◌, Bool, List, Some, None, fold, if◌then◌else◌}
use Rattle.rating.specs.Rated.{Rating, Faulty, Priced}
use Rattle.rating.specs.declared.score.Score.{Score}

-- before the first row
abbrev pub no_rows : Score
no_rows = record { rows = 0; differing = 0; faults = 0; paid = 0; price = 0; under = 0; over = 0 }

-- one row more: a fault is counted, or its price, and where it is recorded what was charged and how far the two lie apart
abbrev pub counted : Score → Rating → Score
counted score (Faulty why) = record score { rows = score.rows + 1; faults = score.faults + 1 }
counted score (Priced prefix charge None) = record score { rows = score.rows + 1; price = score.price + charge.price }
counted score (Priced prefix charge (Some paid)) = record {
  rows = score.rows + 1;
  differing = score.differing + (if charge.price == paid then 0 else 1);
  faults = score.faults;
  paid = score.paid + paid;
  price = score.price + charge.price;
  under = score.under + (charge.price - paid);
  over = score.over + (paid - charge.price);
}

-- what is counted of some rows
abbrev pub score_of_rows : List Rating → Score
score_of_rows ratings = fold counted no_rows ratings

-- whether all rows are right
abbrev pub passes : Score → Bool
passes score = score.differing + score.faults == 0

-- a row adds 64 bits at most to each sum
pub record IsBoundedScore (score : Score) : Type 0 where
  pub differing : score.differing + score.faults ≤ score.rows
  pub paid : score.paid ≤ score.rows * (2 ^ 64 - 1)
  pub price : score.price ≤ score.rows * (2 ^ 64 - 1)
  pub under : score.under ≤ score.rows * (2 ^ 64 - 1)
  pub over : score.over ≤ score.rows * (2 ^ 64 - 1)
