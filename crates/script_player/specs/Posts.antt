-- The items of a run: the messages of its gsmSSFs, and recharges.
use Rattle.std.specs.Prelude.{◌≡◌, ◌==◌, ◌++◌, ℕ, Bool, true, false, Option, Some, None, List, [], ◌∷◌, filter, if◌then◌else◌}
use Rattle.std.specs.Option.{option_or}
use Rattle.cap_values.specs.declared.message.SsfMsg.TheVariants as message
use Rattle.cap_values.specs.declared.number.Number.{Number}
use Rattle.run_texts.specs.declared.script.Happening.{Happening}
use Rattle.run_texts.specs.declared.script.Happening.TheVariants as happening
use Rattle.run_texts.specs.declared.script.ScriptRow.{ScriptRow}
use Rattle.ssf_core.specs.declared.item.Item.{Item}
use Rattle.ssf_core.specs.declared.item.Item.TheVariants as sent
use Rattle.ssf_core.specs.declared.item.Out.{Out}
use Rattle.run_values.specs.declared.post.Body.{Body}
use Rattle.run_values.specs.declared.post.Body.TheVariants as body

-- what is sent by the gsmSSF of a call at a moment: a message is an item of the run, an instruction to the switch is none
abbrev pub post_of : ℕ → ℕ → Item → List (ℕ × Body)
post_of call at (sent.Msg msg) = (at, body.Ssf call msg) ∷ []
post_of call at sent.Proceed = []
post_of call at (sent.Clear cause) = []

-- the messages among what is sent, in order, each with its moment
abbrev pub posts_of : ℕ → List Out → List (ℕ × Body)
posts_of call [] = []
posts_of call (out ∷ outs) = post_of call out.at out.item ++ posts_of call outs

-- a message of this call
abbrev pub is_of_call : ℕ → Body → Bool
is_of_call call (body.Ssf other msg) = other == call
is_of_call call (body.Recharge account amount until) = false

-- a recharge
abbrev pub is_recharge : Body → Bool
is_recharge (body.Ssf call msg) = false
is_recharge (body.Recharge account amount until) = true

-- the items of a call, in order
abbrev pub items_of : ℕ → List (ℕ × Body) → List (ℕ × Body)
items_of call items = filter (λ item. is_of_call call item.1) items

-- the items that are recharges, in order
abbrev pub recharges_in : List (ℕ × Body) → List (ℕ × Body)
recharges_in items = filter (λ item. is_recharge item.1) items

-- the recharge that a row says, with the row's moment
abbrev pub recharge_of : ℕ → Happening → List (ℕ × Body)
recharge_of at (happening.Start call calling called) = []
recharge_of at (happening.Meets call event) = []
recharge_of at (happening.Recharge account amount until) = (at, body.Recharge account amount until) ∷ []

-- the recharges that rows say, in order
abbrev pub recharge_items_of : List ScriptRow → List (ℕ × Body)
recharge_items_of [] = []
recharge_items_of (row ∷ rows) = recharge_of row.at row.what ++ recharge_items_of rows

-- the first message of a call that starts
abbrev pub initial : ℕ → ℕ → Number → Number → ℕ × Body
initial at call calling called = (at, body.Ssf call (message.InitialDp call calling called))

-- the item by which a row lets a call begin, if the row starts it
abbrev pub start_item_of : ℕ → ℕ → Happening → Option (ℕ × Body)
start_item_of call at (happening.Start other calling called) = if other == call then Some (initial at call calling called) else None
start_item_of call at (happening.Meets other event) = None
start_item_of call at (happening.Recharge account amount until) = None

-- the item by which a call begins: that of the first row that starts it
abbrev pub opening_item_of : ℕ → List ScriptRow → Option (ℕ × Body)
opening_item_of call [] = None
opening_item_of call (row ∷ rows) = option_or (start_item_of call row.at row.what) (opening_item_of call rows)

-- items begin with this one; there are none where there is none to begin with
abbrev pub Begins : Option (ℕ × Body) → List (ℕ × Body) → Type 0
Begins None items = items ≡ []
Begins (Some item) items = (rest : List (ℕ × Body)) × (items ≡ item ∷ rest)
