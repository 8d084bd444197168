-- What is counted of a call.
use Rattle.std.specs.Prelude.{◌+◌, ℕ, Option, Some, None, Result, Ok, min}
use Rattle.account_core.specs.declared.entry.Reply.{Reply}
use Rattle.account_core.specs.declared.entry.Reply.TheVariants.{Forfeit}
use Rattle.account_core.specs.declared.fault.AccountFault.{AccountFault}
use Rattle.cap_values.specs.declared.message.SsfMsg.{SsfMsg}
use Rattle.cap_values.specs.declared.message.SsfMsg.TheVariants.{ChargingReport}
use Rattle.ssf_core.specs.declared.fault.SsfFault.{SsfFault}
use Rattle.one_call.specs.declared.counts.Counts.{Counts}

-- one more, up to the largest number of 64 bits
abbrev pub asks_counted : ℕ → ℕ
asks_counted count = min (count + 1) 18446744073709551615

-- nothing was counted yet
abbrev pub nothing_counted : Counts
nothing_counted = record { messages = 0; reports = 0; forfeits = 0; last = None; refused = 0 }

-- a message counts, and a charging report counts as such and is the last one
abbrev pub with_message : Counts → SsfMsg → Counts
with_message counts (ChargingReport active info) =
    record counts { messages = asks_counted counts.messages; reports = asks_counted counts.reports; last = Some info }
with_message counts message = record counts { messages = asks_counted counts.messages }

-- of the port's answers a forfeit counts
abbrev pub with_answer : Counts → Result Reply AccountFault → Counts
with_answer counts (Ok (Forfeit paid available)) = record counts { forfeits = asks_counted counts.forfeits }
with_answer counts answer = counts

-- an input counts where it was refused
abbrev pub with_fault : Counts → Option SsfFault → Counts
with_fault counts (Some fault) = record counts { refused = asks_counted counts.refused }
with_fault counts None = counts
