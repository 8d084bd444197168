-- Answer and switch stay once they are there.
use Rattle.std.proofs.Common.{◌≡◌, ◌++◌, ℕ, Option, Some, None, Ok, List, [], ◌∷◌, refl}
use Rattle.cap_values.specs.declared.arming.Point.TheVariants as point
use Rattle.cap_values.specs.declared.mode.Mode.{Mode}
use Rattle.ssf_core.specs.Happenings.{Happening, What, Took, Expired}
use Rattle.ssf_core.specs.Laws.{TheAnswerStays, TheSwitchStays}
use Rattle.ssf_core.specs.Phases.{SsfPhase, Unused, Requested, Initial, Early, Active, Down, Ended}
use Rattle.ssf_core.specs.Quantities.{answered, answered_after, mode_at, switch_due, switched, switched_after}
use Rattle.ssf_core.specs.Rules.{Effect, on_answer}
use Rattle.ssf_core.specs.Traces.{HasEffect, awaited_switch, phase_after, tsw_due}
use Rattle.ssf_core.specs.declared.item.BcsmEvent.TheVariants as met
use Rattle.ssf_core.specs.declared.config.SsfConfig.{SsfConfig}
use Rattle.ssf_core.specs.declared.ssf.Input.TheVariants.{Invoke, Trigger, Operate, Meet}
use Rattle.ssf_core.specs.declared.item.Item.{Item}
use Rattle.ssf_core.specs.declared.timers.Timer.TheVariants.{Tsw, Tcp, Tccd, Tssf}
use Rattle.ssf_core.proofs.LawLemmas.{KnownOf, known}

-- an answer is taken before there is one
answer_first : (t : List Happening) (now : ℕ) (mode : Mode) (phase : SsfPhase) (effect : Effect) → KnownOf phase t → on_answer mode phase ≡ Ok effect → answered t ≡ None
answer_first t now mode Unused effect k takes = absurd (cc)
answer_first t now mode Requested effect k takes = absurd (cc)
answer_first t now mode Initial effect k takes = absurd (cc)
answer_first t now mode Early effect k takes = k.0
answer_first t now mode Active effect k takes = absurd (cc)
answer_first t now mode Down effect k takes = absurd (cc)
answer_first t now mode Ended effect k takes = absurd (cc)

pub answer_next : (config : SsfConfig) (t : List Happening) (now : ℕ) (what : What) (sent : List Item) (moment : ℕ) → KnownOf (phase_after config t) t
    → HasEffect config t now what sent → answered t ≡ Some moment → answered_after what now (answered t) ≡ Some moment
answer_next config t now (Took Invoke) sent moment k has is = is
answer_next config t now (Took (Trigger call calling called)) sent moment k has is = is
answer_next config t now (Took (Operate op)) sent moment k has is = is
answer_next config t now (Took (Meet met.RouteSelectFailure)) sent moment k has is = is
answer_next config t now (Took (Meet met.Busy)) sent moment k has is = is
answer_next config t now (Took (Meet met.NoAnswer)) sent moment k has is = is
answer_next config t now (Took (Meet met.Answer)) sent moment k has is =
    let (effect, takes, same) = has in
    let none = answer_first t now (mode_at t point.Answer) (phase_after config t) effect k takes in
    absurd (cc)
answer_next config t now (Took (Meet (met.Disconnect leg))) sent moment k has is = is
answer_next config t now (Took (Meet met.Abandon)) sent moment k has is = is
answer_next config t now (Expired timer) sent moment k has is = is

pub answer_stays : TheAnswerStays
answer_stays config [] t moment is there = there
answer_stays config (e ∷ later) t moment is there =
    answer_next config (later ++ t) e.at e.what e.sent moment (known config (later ++ t) is.0) is.1.has_effect (answer_stays config later t moment is.0 there)

-- Tsw runs only before the switch
switch_first : (t : List Happening) (came : Option ℕ) (set : Option ℕ) (d : ℕ) → awaited_switch came set ≡ Some d → came ≡ None
switch_first t None set d runs = refl
switch_first t (Some moment) set d runs = absurd (cc)

pub tsw_first : (t : List Happening) (phase : SsfPhase) (d : ℕ) → tsw_due t phase ≡ Some d → switched t ≡ None
tsw_first t Unused d runs = absurd (cc)
tsw_first t Requested d runs = absurd (cc)
tsw_first t Initial d runs = switch_first t (switched t) (switch_due t) d runs
tsw_first t Early d runs = switch_first t (switched t) (switch_due t) d runs
tsw_first t Active d runs = switch_first t (switched t) (switch_due t) d runs
tsw_first t Down d runs = absurd (cc)
tsw_first t Ended d runs = absurd (cc)

pub switch_next : (config : SsfConfig) (t : List Happening) (now : ℕ) (what : What) (sent : List Item) (moment : ℕ) → HasEffect config t now what sent → switched t ≡ Some moment
    → switched_after what now (switched t) ≡ Some moment
switch_next config t now (Took input) sent moment has is = is
switch_next config t now (Expired Tsw) sent moment has is =
    let (runs, same) = has in
    let none = tsw_first t (phase_after config t) now runs in
    absurd (cc)
switch_next config t now (Expired Tcp) sent moment has is = is
switch_next config t now (Expired Tccd) sent moment has is = is
switch_next config t now (Expired Tssf) sent moment has is = is

pub switch_stays : TheSwitchStays
switch_stays config [] t moment is there = there
switch_stays config (e ∷ later) t moment is there =
    switch_next config (later ++ t) e.at e.what e.sent moment is.1.has_effect (switch_stays config later t moment is.0 there)
