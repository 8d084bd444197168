-- The start of a call.
use Rattle.std.specs.Prelude.{◌≡◌, ℕ, List, [], ◌∷◌}
use Rattle.cap_values.specs.declared.message.SsfMsg.TheVariants as message
use Rattle.cap_values.specs.declared.number.Number.{Number}
use Rattle.ssf_core.specs.Calls.{Stands, View}
use Rattle.ssf_core.specs.Happenings.{Happening, Took, sent_in}
use Rattle.ssf_core.specs.Inputs.{invokes, triggers}
use Rattle.ssf_core.specs.declared.config.SsfConfig.{SsfConfig}
use Rattle.ssf_core.specs.declared.item.Item.TheVariants as item
use Rattle.ssf_core.specs.declared.item.Out.{Out}

-- a gsmSSF is invoked at a moment, and triggered for a call: InitialDP is sent
abbrev pub begun_trace : ℕ → ℕ → Number → Number → List Happening
begun_trace at call calling called =
    record { at = at; what = Took (triggers call calling called); sent = item.Msg (message.InitialDp call calling called) ∷ [] }
    ∷ record { at = at; what = Took invokes; sent = [] } ∷ []

-- a gsmSSF was invoked and triggered at a moment: all that it has sent is InitialDP
pub record IsTriggered (config : SsfConfig) (at call : ℕ) (calling called : Number) (view : View) (sent : List Out) : Type 0 where
  pub same_config : view.config ≡ config
  pub moment : view.last ≡ at
  pub trace : List Happening
  pub is : trace ≡ begun_trace at call calling called
  pub stands : Stands view trace
  pub sends : sent_in trace ≡ sent
  pub initial : sent ≡ record { at = at; item = item.Msg (message.InitialDp call calling called) } ∷ []
