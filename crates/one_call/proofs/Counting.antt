-- What leaves the count of the forfeits as it is.
use Rattle.std.proofs.Common.{◌≡◌, Option, Some, None, refl}
use Rattle.cap_values.specs.declared.message.SsfMsg.{SsfMsg}
use Rattle.cap_values.specs.declared.message.SsfMsg.TheVariants as msg
use Rattle.ssf_core.specs.declared.fault.SsfFault.{SsfFault}
use Rattle.one_call.specs.Counts.{with_fault, with_message}
use Rattle.one_call.specs.declared.counts.Counts.{Counts}

pub message_counts : (counts : Counts) (message : SsfMsg) → (with_message counts message).forfeits ≡ counts.forfeits
message_counts counts (msg.InitialDp call calling called) = refl
message_counts counts (msg.EventReport event leg mode) = refl
message_counts counts (msg.ChargingReport active info) = refl
message_counts counts msg.Ended = refl

pub input_counts : (counts : Counts) (fault : Option SsfFault) → (with_fault counts fault).forfeits ≡ counts.forfeits
input_counts counts None = refl
input_counts counts (Some fault) = refl
