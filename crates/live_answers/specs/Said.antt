-- What the code says of a line.
use Rattle.std.specs.Prelude.{◌≤◌, ℕ, Some, None, Ok, Err}
use Rattle.live_answers.specs.Standing.{LineView}
use Rattle.live_answers.specs.declared.judging.Said.{Said}
use Rattle.live_answers.specs.declared.judging.Said.TheVariants as said
use Rattle.run_texts.specs.MessageViews.{view_of}
use Rattle.price_core.specs.declared.times.TheConstants.{HORIZON}

-- what is said, as a trace prints it
abbrev pub line_view_of : Said → LineView
line_view_of said.Nothing = None
line_view_of (said.Message message) = Some (Ok (view_of message))
line_view_of (said.Fault kind) = Some (Err kind)

-- the moment of a message, and 0 where there is none
abbrev pub said_at : Said → ℕ
said_at said.Nothing = 0
said_at (said.Message message) = message.at
said_at (said.Fault kind) = 0

-- the moment of a message is within the horizon
abbrev pub IsInRange : Said → Type 0
IsInRange said = said_at said ≤ HORIZON
