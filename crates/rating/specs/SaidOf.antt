-- What values of the code say.
use Rattle.std.specs.Prelude.{option_map}
use Rattle.rating.specs.Asks.{NamesWish, RateWish, TimesWish, ByEnd, BySplit, ByTime, ByUsualNames}
use Rattle.rating.specs.Calls.{CallSaid}
use Rattle.rating.specs.Rated.{Rating, Faulty, Priced}
use Rattle.rating.specs.declared.ask.Names.{Names}
use Rattle.rating.specs.declared.ask.RateAsk.{RateAsk}
use Rattle.rating.specs.declared.ask.TimeNames.{TimeNames}
use Rattle.rating.specs.declared.ask.TimeNames.TheVariants as times
use Rattle.rating.specs.declared.call.Call.{Call}
use Rattle.rating.specs.declared.rated.Rated.{Rated}
use Rattle.rating.specs.declared.rated.Rated.TheVariants as rated

-- the columns of times that are asked for
abbrev pub times_of : TimeNames → TimesWish
times_of times.UsualNames = ByUsualNames
times_of (times.Time name) = ByTime name.now
times_of (times.End name) = ByEnd name.now
times_of (times.Split before after) = BySplit before.now after.now

-- the names
abbrev pub wished_names : Names → NamesWish
wished_names names = record { called = names.called.now; answer = names.answer.now; times = times_of names.times; paid = option_map (λ name. name.now) names.paid }

-- what is asked for
abbrev pub rate_wish_of : RateAsk → RateWish
rate_wish_of ask = record { names = wished_names ask.names; differing = ask.differing; summary = ask.summary }

-- what a record says
abbrev pub said_by : Call → CallSaid
said_by call = record { called = call.called.now; answered = call.answered; paid = call.paid }

-- what a row comes to
abbrev pub rating_of : Rated → Rating
rating_of (rated.Priced prefix charge paid) = Priced prefix.now charge paid
rating_of (rated.Faulty kind) = Faulty kind
