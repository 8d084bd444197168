-- What a driver may give, so that the books of its run can be read back.
use Rattle.std.specs.Prelude.{ℕ, List, All, IfSome}
use Rattle.cap_values.specs.declared.message.SsfMsg.{SsfMsg}
use Rattle.cap_values.specs.declared.message.SsfMsg.TheVariants.{InitialDp, EventReport, ChargingReport, Ended}
use Rattle.book_texts.specs.Fits.{FitsReport, IsMoment}
use Rattle.run_values.specs.declared.post.Body.{Body}
use Rattle.run_values.specs.declared.post.Body.TheVariants.{Ssf, Recharge}

-- the times of a charging report are in range; other messages have none
abbrev pub IsTimelyMessage : SsfMsg → Type 0
IsTimelyMessage (InitialDp other calling called) = Unit {0}
IsTimelyMessage (EventReport event leg mode) = Unit {0}
IsTimelyMessage (ChargingReport active info) = FitsReport info
IsTimelyMessage Ended = Unit {0}

-- so are those of a message, and the last moment that a recharge names, if it names one, is 0 to `HORIZON`
abbrev pub IsTimely : Body → Type 0
IsTimely (Ssf call message) = IsTimelyMessage message
IsTimely (Recharge account amount until) = IfSome until IsMoment

-- all that was given is so
abbrev pub AreTimely : List (ℕ × Body) → Type 0
AreTimely given = All (λ item. IsTimely item.1) given
