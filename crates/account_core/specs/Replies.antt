-- The replies in closed form, from what an account keeps: the credit, and what it knows of the call.
use Rattle.std.specs.Prelude.{◌+◌, ◌-◌, ◌==◌, ◌||◌, ℕ, Bool, Option, Some, None, if◌then◌else◌, nat_le, nat_lt}
use Rattle.price_core.specs.Ceiling.{ceiling_of}
use Rattle.price_core.specs.Rates.{Rates}
use Rattle.price_core.specs.Times.{Elapsed}
use Rattle.account_core.specs.Answers.{accepted_times, units_offered}
use Rattle.account_core.specs.Asked.{Asked, Credits, Reserves, Returns, Settles}
use Rattle.account_core.specs.Expiry.{is_past}
use Rattle.account_core.specs.Known.{CallFacts, paid_of, plan_in_force, price_under, taken_of}
use Rattle.account_core.specs.declared.entry.Reply.{Reply}
use Rattle.account_core.specs.declared.entry.Reply.TheVariants as reply
use Rattle.price_core.specs.declared.plan.TheConstants.{MAX_MONEY}

-- an amount is added where the funds stay within the largest money
abbrev pub credit_reply : ℕ → ℕ → ℕ → Reply
credit_reply credit funds amount = if nat_le (funds + amount) MAX_MONEY then reply.Credited (credit + amount) else reply.CreditOver credit

-- of the credit and what the call holds already, the ceiling of its new units is held, if it doesn't come late
abbrev pub reserve_reply : ℕ → CallFacts → Rates → ℕ → ℕ → Bool → ℕ → Reply
reserve_reply credit call plan wanted least late units =
    if nat_lt units least || (units == 0) || call.forfeited || late then reply.Denied credit
    else reply.Granted units (nat_lt units wanted) (credit + taken_of call - ceiling_of (plan_in_force call plan) call.times units)

-- the reply to a report, by the times that were accepted
abbrev pub settle_reply : ℕ → CallFacts → Option Elapsed → Reply
settle_reply credit call (Some times) = reply.Settled (price_under call.plan times) credit
settle_reply credit call None = reply.Forfeit call.top credit

-- what was held beyond what is paid is given back
abbrev pub return_reply : ℕ → CallFacts → Reply
return_reply credit call = reply.Returned (paid_of call) (credit + taken_of call - paid_of call)

-- the reply to an operation, where the funds are the opening and the accepted credits, and the account has this last moment, if any
abbrev pub reply_for : ℕ → ℕ → Option ℕ → CallFacts → Asked → Reply
reply_for credit funds last call (Credits amount moment) = credit_reply credit funds amount
reply_for credit funds last call (Reserves number plan wanted least at) =
    reserve_reply credit call plan wanted least (is_past last at) (units_offered credit call plan wanted)
reply_for credit funds last call (Settles number mail info) = settle_reply credit call (accepted_times call info)
reply_for credit funds last call (Returns number) = return_reply credit call
