-- Where a call goes on, by its messages and the operations that answered them.
use Rattle.std.specs.Prelude.{◌≡◌, ◌==◌, ◌&&◌, ◌++◌, ℕ, Bool, false, Option, Some, None, List, [], ◌∷◌, filter, if◌then◌else◌, length, map, nat_lt}
use Rattle.std.specs.Option.{option_or}
use Rattle.cap_values.specs.Orders.{Order, periods_in}
use Rattle.cap_values.specs.declared.message.SsfMsg.{SsfMsg}
use Rattle.cap_values.specs.declared.message.SsfMsg.TheVariants.{InitialDp, EventReport, ChargingReport, Ended}
use Rattle.run_values.specs.Setups.{Setup}
use Rattle.run_values.specs.declared.post.Body.{Body}
use Rattle.run_values.specs.declared.post.Body.TheVariants.{Ssf, Recharge}
use Rattle.run_values.specs.declared.post.Post.{Post}
use Rattle.runs_core.specs.Shares.{Item, item_of}
use Rattle.runs_core.specs.Chains.{AreAnswered, at_first, seat_numbers}
use Rattle.runs_core.specs.Handled.{AnswerView, Holding}
use Rattle.held_calls.specs.Workers.{IsRunning, ends_call}
use Rattle.runs_core.specs.Served.{Report, reported_in}
use Rattle.runs_core.specs.Talks.{Showing}
use Rattle.runs_core.specs.Verdicts.{home_of}

-- whether operations pay for a period of a call: an ApplyCharging is among them
abbrev pub pays : List Order → Bool
pays orders = nat_lt 0 (length (periods_in orders))

-- the place of the account at which a call goes on after a message of it, by whether the operations that answer it pay for a period, and by where it went on before, if it did. An
-- InitialDP that is paid for lets it go on at the account of the calling number; a report that isn't paid for ends it, and so does a message that ends a call
abbrev pub after_message : Setup → Bool → Option ℕ → SsfMsg → Option ℕ
after_message setup paid was (InitialDp other calling called) = if paid then home_of calling setup else was
after_message setup paid was (EventReport event leg mode) = if ends_call (EventReport event leg mode) then None else was
after_message setup paid was (ChargingReport active info) = if paid then was else None
after_message setup paid was Ended = None

-- after an item and its answer
abbrev pub after_item : Setup → ℕ → Option ℕ → Body → AnswerView → Option ℕ
after_item setup call was (Ssf other message) answer = if other == call then after_message setup (pays answer.orders) was message else was
after_item setup call was (Recharge account amount until) answer = was

-- after items and their answers
abbrev pub goes_on_from : Setup → ℕ → Option ℕ → List Item → List AnswerView → Option ℕ
goes_on_from setup call was [] answers = was
goes_on_from setup call was (item ∷ items) [] = was
goes_on_from setup call was (item ∷ items) (answer ∷ answers) = goes_on_from setup call (after_item setup call was item.body answer) items answers

-- the place of the account at which a call goes on after all items, if it does
abbrev pub goes_on_at : Setup → ℕ → List Item → List AnswerView → Option ℕ
goes_on_at setup call items answers = goes_on_from setup call None items answers

-- a call that goes on by what a worker was posted and what it answered goes on with what it was granted, at the account at that place
abbrev pub PaidCallsGoOn : (ℕ → Showing) → Type 0
PaidCallsGoOn Shows =
    (setup : Setup) (number : ℕ) (posts : List Post) (answers : List AnswerView) (held : Holding) (call place : ℕ)
    → AreAnswered Shows setup (seat_numbers number setup) posts answers (at_first setup) held → goes_on_at setup call (map item_of posts) answers ≡ Some place
    → IsRunning held call place

-- what the items of a call come to, each by where the call went on before it and where it goes on after it, where it went on here before the first
abbrev pub gathered : {X : Type 0} → (Option ℕ → Option ℕ → Item → List X) → Setup → ℕ → Option ℕ → List Item → List AnswerView → List X
gathered comes setup call was [] answers = []
gathered comes setup call was (item ∷ items) [] = []
gathered comes setup call was (item ∷ items) (answer ∷ answers) =
    comes was (after_item setup call was item.body answer) item ++ gathered comes setup call (after_item setup call was item.body answer) items answers

-- ---- its reports

-- whether a call goes on at the account at a place
abbrev pub is_there : Option ℕ → ℕ → Bool
is_there None place = false
is_there (Some there) place = place == there

-- the report of a call in an item that comes while the call goes on at the account at a place, with the item's number
abbrev pub taken_in : ℕ → ℕ → Option ℕ → ℕ → Body → List Report
taken_in call place was number body = if is_there was place then filter (λ report. report.1 == call) (reported_in number body) else []

-- the reports of a call among items that come while it goes on there, where it went on here before
abbrev pub taken_from : Setup → ℕ → ℕ → Option ℕ → List Item → List AnswerView → List Report
taken_from setup call place = gathered (λ was now item. taken_in call place was item.number item.body) setup call

-- of all items
abbrev pub taken_at : Setup → ℕ → ℕ → List Item → List AnswerView → List Report
taken_at setup call place items answers = taken_from setup call place None items answers

-- ---- its end

-- the Return of a call that went on at the account at a place before, and goes on no more now
abbrev pub left_in : ℕ → ℕ → Option ℕ → Option ℕ → List ℕ
left_in call place None now = []
left_in call place (Some there) None = if place == there then call ∷ [] else []
left_in call place (Some there) (Some now) = []

-- those of a call that goes on no more after one of the items, where it went on here before
abbrev pub left_from : Setup → ℕ → ℕ → Option ℕ → List Item → List AnswerView → List ℕ
left_from setup call place = gathered (λ was now item. left_in call place was now) setup call

-- of all items
abbrev pub left_at : Setup → ℕ → ℕ → List Item → List AnswerView → List ℕ
left_at setup call place items answers = left_from setup call place None items answers

-- the place of the account at which a call goes on that an item ends by its message
abbrev pub ended_in : ℕ → Option ℕ → Body → Option ℕ
ended_in call was (Ssf other message) = if (other == call) && ends_call message then was else None
ended_in call was (Recharge account amount until) = None

-- the place of the account at which a call goes on when it is ended by a message among items, if it is
abbrev pub ended_from : Setup → ℕ → Option ℕ → List Item → List AnswerView → Option ℕ
ended_from setup call was [] answers = None
ended_from setup call was (item ∷ items) [] = None
ended_from setup call was (item ∷ items) (answer ∷ answers) =
    option_or (ended_in call was item.body) (ended_from setup call (after_item setup call was item.body answer) items answers)

-- among all items
abbrev pub ended_at : Setup → ℕ → List Item → List AnswerView → Option ℕ
ended_at setup call items answers = ended_from setup call None items answers
