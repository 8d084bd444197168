-- The route of a call: which rows of the tariff it is charged by.
use Rattle.std.specs.Prelude.{◌≡◌, ◌≢◌, ◌+◌, ◌%◌, ◌<◌, ◌≤◌, ℕ, true, List, ◌++◌, length, Option, Some, None, All, Any, Contains}
use Rattle.tariff_core.specs.Bands.{Band, counts_on, weekday}
use Rattle.price_core.specs.declared.route.Route.{Route}
use Rattle.price_core.specs.declared.times.TheConstants.{DAY}

-- a called number begins with a prefix
abbrev pub BeginsWith : List ℕ → List ℕ → Type 0
BeginsWith called prefix = (rest : List ℕ) × (called ≡ prefix ++ rest)

-- the prefix that counts: of those in the table that the called number begins with, the longest
pub record IsPrefixFor (bands : List Band) (called prefix : List ℕ) : Type 0 where
  pub listed : Any (λ band. band.prefix ≡ prefix) bands
  pub begins : BeginsWith called prefix
  pub longest : All (λ band. BeginsWith called band.prefix → length band.prefix ≤ length prefix) bands

-- the row of a prefix at a moment: of those that count on its weekday and start at its time of day or before, the latest
pub record IsBandAt (bands : List Band) (prefix : List ℕ) (now : ℕ) (band : Band) : Type 0 where
  pub listed : Contains bands band
  pub own : band.prefix ≡ prefix
  pub counts : counts_on (weekday now) band ≡ true
  pub begun : band.start ≤ now % DAY
  pub latest : All (λ other. other.prefix ≡ prefix → counts_on (weekday now) other ≡ true → other.start ≤ now % DAY → other.start ≤ band.start) bands

-- of the rows of a prefix that start after a moment, on its day, the first
pub record IsSoonest (bands : List Band) (prefix : List ℕ) (now : ℕ) (band : Band) : Type 0 where
  pub listed : Contains bands band
  pub own : band.prefix ≡ prefix
  pub counts : counts_on (weekday now) band ≡ true
  pub later : now % DAY < band.start
  pub soonest : All (λ other. other.prefix ≡ prefix → counts_on (weekday now) other ≡ true → now % DAY < other.start → band.start ≤ other.start) bands

-- the row counts at each moment of the day that follows: there is no switch
abbrev pub IsOnly : List Band → List ℕ → Band → ℕ → Type 0
IsOnly bands prefix band now = (moment : ℕ) → now < moment → moment ≤ now + DAY → IsBandAt bands prefix moment band

-- the plan switches at the first moment, at most a day on, at which another row counts, to the rate of that row. Its fee, its free units and its steps aren't used
pub record IsSwitch (bands : List Band) (prefix : List ℕ) (band : Band) (now at : ℕ) (rate : Option ℕ) : Type 0 where
  pub later : now < at
  pub within_day : at ≤ now + DAY
  pub next : Band
  pub is_next : IsBandAt bands prefix at next
  pub is_another : next ≢ band
  pub first : (moment : ℕ) → now < moment → moment < at → IsBandAt bands prefix moment band
  pub second_rate : rate ≡ Some next.rate

-- the next rate of a prefix within a day, or none where the row counts all the day
abbrev pub Switches : List Band → List ℕ → Band → ℕ → Option ℕ → Option ℕ → Type 0
Switches bands prefix band now None rate = IsOnly bands prefix band now × (rate ≡ None)
Switches bands prefix band now (Some at) rate = IsSwitch bands prefix band now at rate

-- the route of a called number at a moment: the fee, the rate, the free units and the steps of its row at that moment, and the switch to the next
pub record IsRoute (bands : List Band) (called : List ℕ) (now : ℕ) (route : Route) : Type 0 where
  pub prefix : List ℕ
  pub is_prefix : IsPrefixFor bands called prefix
  pub band : Band
  pub is_band : IsBandAt bands prefix now band
  pub fee : route.plan.fee ≡ band.fee
  pub first_rate : route.plan.before ≡ band.rate
  pub free : route.plan.free ≡ band.free
  pub first : route.plan.first ≡ band.first
  pub step : route.plan.step ≡ band.step
  pub switches : Switches bands prefix band now route.switch_at route.plan.after

-- the route of a called number at a moment, with the prefix that counts and the start of its row
pub record IsQuote (bands : List Band) (called : List ℕ) (now : ℕ) (prefix : List ℕ) (start : ℕ) (route : Route) : Type 0 where
  pub is_prefix : IsPrefixFor bands called prefix
  pub band : Band
  pub is_band : IsBandAt bands prefix now band
  pub starts : start ≡ band.start
  pub routed : IsRoute bands called now route

-- the called number begins with no prefix of the table
abbrev pub HasNoRoute : List Band → List ℕ → Type 0
HasNoRoute bands called = All (λ band. BeginsWith called band.prefix → ⊥) bands
