-- What holds after every legal history.
use Rattle.std.specs.Prelude.{◌≡◌, ◌+◌, ◌≤◌, ℕ, true, Option, Some, None, List}
use Rattle.price_core.specs.Ceiling.{ceiling_of, may_come}
use Rattle.price_core.specs.Rates.{Rates}
use Rattle.price_core.specs.Times.{Elapsed}
use Rattle.account_core.specs.Answers.{IsLegalPast, inadmissible, bare_reply}
use Rattle.account_core.specs.Asked.{Asked, call_of}
use Rattle.account_core.specs.Available.{available, credits, taken_by_all}
use Rattle.account_core.specs.Entries.{EntryData}
use Rattle.account_core.specs.Known.{EntryDeed, Grants, CallFacts, deed_of, known, known_after, nothing_known, taken_of}
use Rattle.price_core.specs.declared.plan.TheConstants.{MAX_MONEY}
use Rattle.price_core.specs.declared.times.TheConstants.{DAY}

-- a call that was granted something: its times may have come from those at its last grant, within a day, and its top is the ceiling of that grant
pub record IsGrantedCall (plan : Rates) (call : CallFacts) : Type 0 where
  pub base : Elapsed
  pub units : ℕ
  pub granted_is : call.granted ≡ base.before + base.after + units
  pub top_is : call.top ≡ ceiling_of plan base units
  pub comes : may_come plan base (base.before + base.after + units) call.times ≡ true
  pub within_day : base.before + base.after + units ≤ DAY

-- a call is sound by its plan, and knows nothing without one
abbrev pub IsSoundUnder : Option Rates → CallFacts → Type 0
IsSoundUnder None call = call ≡ nothing_known
IsSoundUnder (Some plan) call = IsGrantedCall plan call

-- nothing is known of a call before its first grant, and it is held afterwards
abbrev pub IsSound : CallFacts → Type 0
IsSound call = IsSoundUnder call.plan call

-- every call is sound, the calls take no more than there is, and that is at most `MAX_MONEY`
pub record IsSoundPast (opening : ℕ) (h : List EntryData) : Type 0 where
  pub each : (call : ℕ) → IsSound (known call h)
  pub covered : taken_by_all h ≤ opening + credits h
  pub capped : opening + credits h ≤ MAX_MONEY

-- each legal history is sound
abbrev pub LegalPastsAreSound : Type 0
LegalPastsAreSound = (opening : ℕ) (until : Option ℕ) (h : List EntryData) → opening ≤ MAX_MONEY → IsLegalPast opening until h → IsSoundPast opening h

-- a grant goes no further than a day
abbrev pub GrantsWithinDay : CallFacts → EntryDeed → Type 0
GrantsWithinDay call (Grants plan units) = call.times.before + call.times.after + units ≤ DAY
GrantsWithinDay call deed = Unit {0}

-- what an answer does goes no further than a day, and takes no more than there is
pub record IsFitting (credit : ℕ) (call : CallFacts) (deed : EntryDeed) : Type 0 where
  pub room : GrantsWithinDay call deed
  pub covered : taken_of (known_after call deed) ≤ credit + taken_of call

-- the answers to admissible operations do so
abbrev pub AnswersFit : ℕ → Option ℕ → List EntryData → Type 0
AnswersFit opening until h = (asked : Asked) → inadmissible h asked ≡ None
    → IsFitting (available opening h) (known (call_of asked) h) (deed_of asked (bare_reply opening until h asked))

-- after a sound history the answers fit
abbrev pub SoundPastsAnswer : Type 0
SoundPastsAnswer = (opening : ℕ) (until : Option ℕ) (h : List EntryData) → IsSoundPast opening h → AnswersFit opening until h
