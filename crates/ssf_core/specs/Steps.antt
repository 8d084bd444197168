-- What a step of the code does to the traces that its stage stands for. Contracts of private functions alone cite these.
use Rattle.std.specs.Prelude.{◌≡◌, ◌++◌, ℕ, Result, Ok, Err, List, ◌∷◌}
use Rattle.ssf_core.specs.Happenings.{Happening, What, Took, Expired, sent_at}
use Rattle.ssf_core.specs.Stands.{StageMatches, ssf_phase_of}
use Rattle.ssf_core.specs.Rules.{Effect, on_expiry, on_input}
use Rattle.ssf_core.specs.declared.config.SsfConfig.{SsfConfig}
use Rattle.ssf_core.specs.declared.fault.SsfFault.{SsfFault}
use Rattle.ssf_core.specs.declared.item.Item.{Item}
use Rattle.ssf_core.specs.declared.item.Out.{Out}
use Rattle.ssf_core.specs.declared.ssf.Input.{Input}
use Rattle.ssf_core.specs.declared.stage.Stage.{Stage}
use Rattle.ssf_core.specs.declared.timers.Timer.{Timer}

-- something happens with this effect: the stage has its phase, and what the longer trace says, whatever was sent, and its items are behind those sent before
pub record FollowsEffect (config : SsfConfig) (trace : List Happening) (now : ℕ) (what : What) (effect : Effect) (stage : Stage) (before after : List Out) : Type 0 where
  pub phase : effect.next ≡ ssf_phase_of stage
  pub data' : (items : List Item) → StageMatches config stage (record { at = now; what = what; sent = items } ∷ trace)
  pub sends : after ≡ before ++ sent_at now effect.sent

-- an input is taken where the rules take it, and else refused for the same reason, and nothing is sent
abbrev pub IsTakenInput : SsfConfig → List Happening → ℕ → Input → Result Effect SsfFault → Result Stage SsfFault → List Out → List Out → Type 0
IsTakenInput config trace now input (Ok effect) (Ok stage) before after = FollowsEffect config trace now (Took input) effect stage before after
IsTakenInput config trace now input (Ok effect) (Err fault) before after = ⊥
IsTakenInput config trace now input (Err fault) (Ok stage) before after = ⊥
IsTakenInput config trace now input (Err fault) (Err other) before after = (fault ≡ other) × (after ≡ before)

-- an input is taken or refused as the rules say, in each trace that the stage stands for
abbrev pub TakesInput : SsfConfig → Stage → ℕ → Input → Result Stage SsfFault → List Out → List Out → Type 0
TakesInput config stage now input result before after =
    (trace : List Happening) → StageMatches config stage trace → IsTakenInput config trace now input (on_input trace (ssf_phase_of stage) now input) result before after

-- a timer of a stage expires with the effect of the rules, in each trace that the stage stands for
abbrev pub Expires : SsfConfig → Stage → ℕ → Timer → Stage → List Out → List Out → Type 0
Expires config from now timer to before after =
    (trace : List Happening) → StageMatches config from trace
    → FollowsEffect config trace now (Expired timer) (on_expiry config.default_handling trace (ssf_phase_of from) now timer) to before after
