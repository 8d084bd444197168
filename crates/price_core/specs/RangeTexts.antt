-- What a value says that is out of its range.
use Rattle.std.specs.Prelude.{ℕ, List, ◌++◌, codes}
use Rattle.std.specs.Fmt.{decimal}
use Rattle.price_core.specs.declared.plan.TheConstants.{MAX_RATE}
use Rattle.price_core.specs.declared.times.TheConstants.{DAY}

-- the text of a plan that is out of its range
abbrev pub plan_range_text : List ℕ
plan_range_text =
    codes "a fee or a rate is above " ++ (decimal MAX_RATE ++ (codes ", free units or a step are above " ++ (decimal DAY ++ codes ", or a step is 0")))

-- the text of a time that is out of its range
abbrev pub time_range_text : List ℕ
time_range_text = codes "a time of a report is out of its range"
