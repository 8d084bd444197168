-- The causes that the gsmSSF and the service use.
use Rattle.std.specs.Prelude.{refl}
use Rattle.cap_values.specs.declared.cause.Cause.{Cause}

-- there is no route to the number
abbrev pub unallocated_number : Cause
unallocated_number = record { value = 1; in_range = refl }

-- the call ends as its parties or the service want it
abbrev pub normal_call_clearing : Cause
normal_call_clearing = record { value = 16; in_range = refl }

-- the call isn't wanted
abbrev pub call_rejected : Cause
call_rejected = record { value = 21; in_range = refl }

-- the network or the service failed
abbrev pub temporary_failure : Cause
temporary_failure = record { value = 41; in_range = refl }
