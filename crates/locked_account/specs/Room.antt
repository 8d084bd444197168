-- What a seat keeps beside its entries.
use Rattle.std.specs.Prelude.{◌≡◌, ◌+◌, ◌≤◌, ℕ, List, length, unwrap_or}
use Rattle.std.specs.BTreeMap.{is_at}
use Rattle.std.specs.Map.{lookup}
use Rattle.std.specs.Ordering.{nat_cmp}
use Rattle.account_core.specs.CallStages.{stage_of}
use Rattle.account_core.specs.Entries.{EntryData}
use Rattle.account_core.specs.Known.{known}
use Rattle.account_core.specs.Places.{owed}
use Rattle.account_core.specs.declared.call_stage.CallStage.{CallStage}
use Rattle.account_core.specs.declared.call_stage.CallStage.TheVariants.{Fresh}

-- the stage of a call in a map by number; a call that has none is fresh
abbrev pub stage_in : List (ℕ × CallStage) → ℕ → CallStage
stage_in stages call = unwrap_or (lookup (is_at (nat_cmp call)) stages) Fresh

-- the map has for each call the stage that the seat's own entries, newest first, say of it
abbrev pub ShowsStages : List (ℕ × CallStage) → List EntryData → Type 0
ShowsStages stages h = (call : ℕ) → stage_in stages call ≡ stage_of (known call h)

-- there is room in memory for each place that the seat's own entries owe
pub record IsRoomy (h : List EntryData) (stages : List (ℕ × CallStage)) (places capacity : ℕ) : Type 0 where
  pub room : length h + places ≤ capacity
  pub tells : ShowsStages stages h
  pub places_are : places ≡ owed h
