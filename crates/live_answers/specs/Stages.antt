-- How far a live run has come.
use Rattle.std.specs.Prelude.{Bool, true, false, Option, Some, None}
use Rattle.live_answers.specs.declared.stage.LiveFault.{LiveFault}
use Rattle.live_answers.specs.declared.stage.Stage.{Stage}
use Rattle.live_answers.specs.declared.stage.Stage.TheVariants as stage

-- whether it goes on no more
abbrev pub has_ended : Stage → Bool
has_ended (stage.Open left) = false
has_ended stage.Ended = true
has_ended (stage.Failed why) = true

-- the fault that has ended it
abbrev pub stage_fault : Stage → Option LiveFault
stage_fault (stage.Open left) = None
stage_fault stage.Ended = None
stage_fault (stage.Failed why) = Some why
