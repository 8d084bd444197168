-- What the options of `rate` say.
use Rattle.std.specs.Prelude.{List, Option, Some, None, codes, option_map, unwrap_or}
use Rattle.clap.specs.Words.{Row, Text, first_of}
use Rattle.rating.specs.Asks.{NamesWish, RateWish, TimesWish, ByEnd, BySplit, ByTime, ByUsualNames}
use Rattle.table_commands.specs.Options.{has_flag}

-- by which columns the times of a call are found: those of their usual names where no option says otherwise, and only in one way where one does
abbrev pub times_by : Option Text → Option Text → Option Text → Option Text → Option TimesWish
times_by None None None None = Some ByUsualNames
times_by (Some name) None None None = Some (ByTime name)
times_by None (Some name) None None = Some (ByEnd name)
times_by None None (Some before) (Some after) = Some (BySplit before after)
times_by _ _ _ _ = None

-- the columns of the times
abbrev pub wished_times : List Row → Option TimesWish
wished_times options =
    times_by (first_of (codes "time") options) (first_of (codes "end") options) (first_of (codes "before") options) (first_of (codes "after") options)

-- the names of the columns, the times among them
abbrev pub names_in : List Row → TimesWish → NamesWish
names_in options times = record {
  called = unwrap_or (first_of (codes "called") options) (codes "called");
  answer = unwrap_or (first_of (codes "answer") options) (codes "answer");
  times = times;
  paid = first_of (codes "paid") options;
}

-- what the options ask for
unfoldable pub wished_rate : List Row → Option RateWish
wished_rate options = option_map (λ times. record { names = names_in options times; differing = has_flag options (codes "differing"); summary = has_flag options (codes "summary") }) (wished_times options)
