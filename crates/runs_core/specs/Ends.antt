-- The two ends of a mailbox, as their callers see them.
use Rattle.std.specs.Prelude.{◌≡◌, List}
use Rattle.crossbeam_channel.specs.Claims.{view}
use Rattle.crossbeam_channel.specs.Ends.{receives_on, sends_on}
use Rattle.runs_core.specs.declared.ends.Inbox.{Inbox}
use Rattle.runs_core.specs.declared.ends.Outbox.{Outbox}
use Rattle.runs_core.specs.declared.mailboxes.Mail.{Mail}

-- all that was sent, in order
abbrev pub sent : {T : Type 0} → Outbox T → List (Mail T)
sent outbox = (view outbox.pass).sent

-- all that was taken, in order
abbrev pub taken : {T : Type 0} → Inbox T → List (Mail T)
taken inbox = (view inbox.pass).taken

-- the two ends of one mailbox
abbrev pub ArePaired : {T : Type 0} → Outbox T → Inbox T → Type 0
ArePaired outbox inbox = receives_on inbox.receiver ≡ sends_on outbox.sender

-- an end of the same mailbox
abbrev pub IsSameOutbox : {T : Type 0} → Outbox T → Outbox T → Type 0
IsSameOutbox old new = sends_on new.sender ≡ sends_on old.sender

-- the taking end of the same mailbox
abbrev pub IsSameInbox : {T : Type 0} → Inbox T → Inbox T → Type 0
IsSameInbox old new = receives_on new.receiver ≡ receives_on old.receiver
