-- The traces of a gsmSSF: lists of happenings, the newest first, whose moments never fall, in which no due timer is missing, each with what the rules send. A refused input is no happening.
use Rattle.std.specs.Prelude.{◌≡◌, ◌≤◌, ◌<◌, ◌⊎◌, ◌+◌, ℕ, Bool, Option, Some, None, Result, Ok, Err, List, [], ◌∷◌}
use Rattle.std.specs.Option.{option_map}
use Rattle.ssf_core.specs.Happenings.{Happening, What, Took, Expired}
use Rattle.ssf_core.specs.Phases.{SsfPhase, Unused, Initial, Early, Active, Down}
use Rattle.ssf_core.specs.Quantities.{answered, granted, last_input, last_happening_moment, pending, period_end, switch_due, switched}
use Rattle.ssf_core.specs.Rules.{Effect, on_input, on_expiry}
use Rattle.ssf_core.specs.declared.config.SsfConfig.{SsfConfig}
use Rattle.ssf_core.specs.declared.fault.SsfFault.{SsfFault}
use Rattle.ssf_core.specs.declared.item.Item.{Item}
use Rattle.ssf_core.specs.declared.timers.Timer.{Timer}
use Rattle.ssf_core.specs.declared.timers.Timer.TheVariants.{Tsw, Tcp, Tccd, Tssf}

-- the phase that follows an input; a refused one leaves it
abbrev pub next_in : SsfPhase → Result Effect SsfFault → SsfPhase
next_in phase (Ok effect) = effect.next
next_in phase (Err fault) = phase

-- the phase after an input that was taken or a timer that expired
abbrev pub next_phase : SsfConfig → List Happening → SsfPhase → ℕ → What → SsfPhase
next_phase config trace phase now (Took input) = next_in phase (on_input trace phase now input)
next_phase config trace phase now (Expired timer) = (on_expiry config.default_handling trace phase now timer).next

-- the phase after all happenings
abbrev pub phase_after : SsfConfig → List Happening → SsfPhase
phase_after config [] = Unused
phase_after config (e ∷ trace) = next_phase config trace (phase_after config trace) e.at e.what

-- the switch, while it hasn't come
abbrev pub awaited_switch : Option ℕ → Option ℕ → Option ℕ
awaited_switch None due = due
awaited_switch (Some moment) due = None

-- Tsw: the switch that was set, in each phase but Down
abbrev pub tsw_due : List Happening → SsfPhase → Option ℕ
tsw_due trace Initial = awaited_switch (switched trace) (switch_due trace)
tsw_due trace Early = awaited_switch (switched trace) (switch_due trace)
tsw_due trace Active = awaited_switch (switched trace) (switch_due trace)
tsw_due trace _ = None

-- the end of the periods, counted from the answer
abbrev pub period_due : Option Bool → Option ℕ → ℕ → Option ℕ
period_due None answer total = None
period_due (Some release) answer total = option_map (λ a. a + total) answer

-- Tcp: the answer and the sum of the periods, while one is pending and the call is active
abbrev pub tcp_due : List Happening → SsfPhase → Option ℕ
tcp_due trace Active = period_due (pending trace) (answered trace) (granted trace)
tcp_due trace _ = None

-- Tccd: the end of the last period and tccd, until a further one is accepted
abbrev pub tccd_due : ℕ → List Happening → SsfPhase → Option ℕ
tccd_due tccd trace Active = option_map (λ end. end + tccd) (period_end trace)
tccd_due tccd trace _ = None

-- Tssf: while instructions are waited for, each accepted input starts it anew
abbrev pub tssf_due : ℕ → List Happening → SsfPhase → Option ℕ
tssf_due tssf trace Initial = Some (last_input trace + tssf)
tssf_due tssf trace Down = Some (last_input trace + tssf)
tssf_due tssf trace _ = None

-- when each timer is due in a phase
abbrev pub due_in : SsfConfig → List Happening → SsfPhase → Timer → Option ℕ
due_in config trace phase Tsw = tsw_due trace phase
due_in config trace phase Tcp = tcp_due trace phase
due_in config trace phase Tccd = tccd_due config.tccd trace phase
due_in config trace phase Tssf = tssf_due config.tssf trace phase

-- the due moment of a timer that runs
abbrev pub due : SsfConfig → List Happening → Timer → Option ℕ
due config trace timer = due_in config trace (phase_after config trace) timer

-- the order of timers at one moment
abbrev pub rank : Timer → ℕ
rank Tsw = 0
rank Tcp = 1
rank Tccd = 2
rank Tssf = 3

-- what may happen at a moment although a timer is due: an input strictly before, an expiry strictly before or in the order of timers
abbrev pub ComesBefore : ℕ → What → ℕ → Timer → Type 0
ComesBefore now (Took input) d timer = now < d
ComesBefore now (Expired first) d timer = (now < d) ⊎ ((now ≡ d) × (rank first ≤ rank timer))

-- what is sent is by the rules; an expiry comes at its due moment
abbrev pub HasEffect : SsfConfig → List Happening → ℕ → What → List Item → Type 0
HasEffect config trace now (Took input) sent =
    (effect : Effect) × (on_input trace (phase_after config trace) now input ≡ Ok effect) × (sent ≡ effect.sent)
HasEffect config trace now (Expired timer) sent =
    (due config trace timer ≡ Some now) × (sent ≡ (on_expiry config.default_handling trace (phase_after config trace) now timer).sent)

-- a happening may follow a trace
pub record MayFollow (config : SsfConfig) (trace : List Happening) (e : Happening) : Type 0 where
  pub in_order : last_happening_moment trace ≤ e.at
  pub none_missed : (timer : Timer) (d : ℕ) → due config trace timer ≡ Some d → ComesBefore e.at e.what d timer
  pub has_effect : HasEffect config trace e.at e.what e.sent

-- each happening may follow those before it
abbrev pub IsTrace : SsfConfig → List Happening → Type 0
IsTrace config [] = Unit {0}
IsTrace config (e ∷ trace) = IsTrace config trace × MayFollow config trace e
