-- What `rate` is asked for, as plain data.
use Rattle.std.specs.Prelude.{ℕ, Bool, List, Option, codes, unwrap_or}
use Rattle.rating.specs.declared.ask.Column.{Column}
use Rattle.rating.specs.declared.ask.Column.TheVariants as column

-- by which columns the times of a call are found: those of the usual names, one of its time, one of its end, or two of the times before the tariff switch and after it
pub data TimesWish : Type 0 where
  ByUsualNames : TimesWish
  ByTime : (name : List ℕ) → TimesWish
  ByEnd : (name : List ℕ) → TimesWish
  BySplit : (before after : List ℕ) → TimesWish

abbrev pub before_name : TimesWish → List ℕ
before_name (BySplit before after) = before
before_name _ = codes "before"

abbrev pub after_name : TimesWish → List ℕ
after_name (BySplit before after) = after
after_name _ = codes "after"

abbrev pub time_name : TimesWish → List ℕ
time_name (ByTime name) = name
time_name _ = codes "time"

abbrev pub end_name : TimesWish → List ℕ
end_name (ByEnd name) = name
end_name _ = codes "end"

-- the names of the columns; without one for what was charged it is `paid`, where there is such a column
pub record NamesWish : Type 0 where
  pub called : List ℕ
  pub answer : List ℕ
  pub times : TimesWish
  pub paid : Option (List ℕ)

-- the name by which a column is looked for: the one that is asked for, else the usual one
abbrev pub name_of : NamesWish → Column → List ℕ
name_of names column.Called = names.called
name_of names column.Answer = names.answer
name_of names column.Before = before_name names.times
name_of names column.After = after_name names.times
name_of names column.Time = time_name names.times
name_of names column.End = end_name names.times
name_of names column.Paid = unwrap_or names.paid (codes "paid")

-- the names, whether only the rows are printed that differ or have a fault, and whether a summary is
pub record RateWish : Type 0 where
  pub names : NamesWish
  pub differing : Bool
  pub summary : Bool
