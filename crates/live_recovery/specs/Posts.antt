-- What a trace prints of a post is read back as that post.
use Rattle.std.specs.Prelude.{◌≡◌, ◌≤◌, ℕ, IfSome, Some, Ok}
use Rattle.cap_values.specs.declared.message.SsfMsg.{SsfMsg}
use Rattle.cap_values.specs.declared.message.SsfMsg.TheVariants as message
use Rattle.book_texts.specs.Fits.{FitsReport, IsMoment, IsMoney, IsWide}
use Rattle.tariff_core.specs.declared.clock.Clock.{Clock}
use Rattle.run_texts.specs.Lines.{line_message}
use Rattle.run_texts.specs.Messages.{MessageView, speech_of}
use Rattle.run_texts.specs.Said.{post_said}
use Rattle.run_texts.specs.Tables.{head_of, trace_row, sender_of}
use Rattle.run_values.specs.declared.post.Body.{Body}
use Rattle.run_values.specs.declared.post.Body.TheVariants as body
use Rattle.price_core.specs.declared.times.TheConstants.{MAX_MOMENT}

-- the times of a message fit their columns
abbrev pub FitsMessage : SsfMsg → Type 0
FitsMessage (message.InitialDp call calling called) = Unit {0}
FitsMessage (message.EventReport event leg mode) = Unit {0}
FitsMessage (message.ChargingReport active info) = FitsReport info
FitsMessage message.Ended = Unit {0}

-- the numbers of what is posted fit their columns
abbrev pub FitsBody : Body → Type 0
FitsBody (body.Ssf call msg) = IsWide call × FitsMessage msg
FitsBody (body.Recharge account amount until) = (account ≤ 4294967295) × IsMoney amount × IfSome until (λ last. last ≤ MAX_MOMENT)

-- the numbers of a post fit their columns
pub record FitsPost (number : ℕ) (post : ℕ × Body) : Type 0 where
  pub counted : IsWide number
  pub at : IsMoment post.0
  pub body : FitsBody post.1

-- the message of a post with its number
abbrev pub message_of_post : ℕ → ℕ × Body → MessageView
message_of_post number post = record { at = post.0; number = Some number; speech = speech_of post.1 }

-- the row that a trace prints of a post by either clock, as a line, is read as that post with its number
abbrev pub PostsAreRead : Type 0
PostsAreRead = (clock : Clock) (number : ℕ) (post : ℕ × Body) → FitsPost number post
    → line_message (trace_row (head_of clock number post) (sender_of post.1) (post_said clock post.1)) ≡ Some (Ok (message_of_post number post))
