-- The rows of a script are taken.
use Rattle.std.specs.Prelude.{◌≡◌, ℕ, Option, Some, None, List, [], ◌∷◌, ◌++◌}
use Rattle.run_texts.specs.declared.script.Happening.{Happening}
use Rattle.run_texts.specs.declared.script.Happening.TheVariants as happening
use Rattle.run_texts.specs.declared.script.ScriptRow.{ScriptRow}
use Rattle.run_values.specs.declared.post.Body.{Body}
use Rattle.run_values.specs.declared.post.Body.TheVariants as body
use Rattle.script_player.specs.Networks.{Grows, Shown}
use Rattle.script_player.specs.Posts.{Begins, initial, items_of, opening_item_of, recharges_in, recharge_items_of}

-- the moment of the first row
abbrev pub next_row : List ScriptRow → Option ℕ
next_row [] = None
next_row (row ∷ rows) = Some row.at

-- what was given stays and grows
pub record Adds (before after : Shown) : Type 0 where
  pub same_config : after.config ≡ before.config
  pub added : List (ℕ × Body)
  pub grown : after.given ≡ before.given ++ added

-- the item by which a call begins, where it hasn't begun
abbrev pub unless_begun : List (ℕ × Body) → ℕ × Body → List (ℕ × Body)
unless_begun [] item = item ∷ []
unless_begun (first ∷ items) item = []

-- a call starts with this item; where it has started already, nothing is given
abbrev pub Starts : List (ℕ × Body) → List (ℕ × Body) → ℕ → ℕ × Body → Type 0
Starts before after call item = after ≡ before ++ unless_begun (items_of call before) item

-- what a row adds to what was given: the start of a call, what follows from an event, or a recharge
abbrev pub AddsRow : Shown → Shown → ℕ → Happening → Type 0
AddsRow before after at (happening.Start call calling called) = Starts before.given after.given call (initial at call calling called)
AddsRow before after at (happening.Meets call event) = Grows before after
AddsRow before after at (happening.Recharge account amount until) = after.given ≡ before.given ++ (at, body.Recharge account amount until) ∷ []

-- a row is taken
pub record TakesRow (before after : Shown) (at : ℕ) (what : Happening) : Type 0 where
  pub same_config : after.config ≡ before.config
  pub adds : AddsRow before after at what

-- what was given follows the rows taken: each call begins as its first row says, and the recharges are those of the rows
pub record FollowsRows (taken : List ScriptRow) (given : List (ℕ × Body)) : Type 0 where
  pub begun : (call : ℕ) → Begins (opening_item_of call taken) (items_of call given)
  pub recharged : recharges_in given ≡ recharge_items_of taken
