-- What `rate` says of its rows at the end.
use Rattle.std.specs.Prelude.{ℕ, List, [], ◌++◌, codes, if◌then◌else◌}
use Rattle.std.specs.Fmt.{decimal}
use Rattle.rating.specs.Asks.{RateWish}
use Rattle.rating.specs.Scores.{passes}
use Rattle.rating.specs.declared.score.Score.{Score}

-- `prepaid: rated: N rows, N differ, N faults, `
abbrev pub counts_text : Score → List ℕ
counts_text score =
    codes "prepaid: rated: " ++ (decimal score.rows ++ (codes " rows, " ++ (decimal score.differing ++ (codes " differ, " ++ (decimal score.faults ++ codes " faults, ")))))

-- `charged N, by the tariff N, over N, under N`
abbrev pub sums_text : Score → List ℕ
sums_text score =
    codes "charged " ++ (decimal score.paid ++ (codes ", by the tariff " ++ (decimal score.price ++ (codes ", over " ++ (decimal score.over ++ (codes ", under " ++ (decimal score.under ++ codes "\n")))))))

-- the line of what was counted
abbrev pub summary_line : Score → List ℕ
summary_line score = counts_text score ++ sums_text score

-- the line where it is asked for
abbrev pub summary_of : RateWish → Score → List ℕ
summary_of wish score = if wish.summary then summary_line score else []

-- the exit status of rows that were all printed
abbrev pub status_of_rating : Score → ℕ
status_of_rating score = if passes score then 0 else 3
