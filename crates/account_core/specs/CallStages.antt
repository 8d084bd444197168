-- At what stage a call is.
use Rattle.std.specs.Prelude.{if◌then◌else◌, is_some}
use Rattle.account_core.specs.Known.{CallFacts}
use Rattle.account_core.specs.declared.call_stage.CallStage.{CallStage}
use Rattle.account_core.specs.declared.call_stage.CallStage.TheVariants.{Fresh, Open, Over}

-- a call is over once it was returned, and open from its first grant until then
abbrev pub stage_of : CallFacts → CallStage
stage_of known = if known.returned then Over else if is_some known.plan then Open known.awaits else Fresh
