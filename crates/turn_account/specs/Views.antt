-- What those who share a turn account know of it.
use Rattle.std.specs.Prelude.{◌+◌, ℕ, Option, Some, None, List, [], ◌∷◌, ◌++◌}
use Rattle.account_core.specs.Ledger.{Ledger}
use Rattle.turn_account.specs.declared.board.Stage.{Stage}
use Rattle.turn_account.specs.declared.board.Stage.TheVariants.{Idles, Notes, Serves, Waits}
use Rattle.turn_account.specs.declared.board.View.{View}

-- a seat, and not a note
abbrev pub IsSeat : Stage → Type 0
IsSeat Notes = ⊥
IsSeat stage = Unit {0}

-- a seat whose turn has come
abbrev pub IsServing : Stage → Type 0
IsServing (Serves ticket) = Unit {0}
IsServing stage = ⊥

-- the ticket that a stage has
abbrev pub ticket_of : Stage → Option ℕ
ticket_of Notes = None
ticket_of Idles = None
ticket_of (Waits ticket) = Some ticket
ticket_of (Serves ticket) = Some ticket

-- the ticket that a seat holds, 0 where it holds none
abbrev pub its_ticket : Stage → ℕ
its_ticket Notes = 0
its_ticket Idles = 0
its_ticket (Waits ticket) = ticket
its_ticket (Serves ticket) = ticket

-- how many seats a stage is of
abbrev pub seats_at : Stage → ℕ
seats_at Notes = 0
seats_at stage = 1

-- how many tickets a seat holds
abbrev pub tickets_at : Stage → ℕ
tickets_at Notes = 0
tickets_at Idles = 0
tickets_at stage = 1

-- as many as all views have
abbrev pub total : (Stage → ℕ) → List View → ℕ
total count [] = 0
total count (view ∷ views) = count view.stage + total count views

-- the view at another stage
abbrev pub at_stage : View → Stage → View
at_stage view stage = record view { stage = stage }

-- a view that has seen this
abbrev pub seeing : View → Ledger → View
seeing view seen = record view { seen = seen }

-- an account that was never opened
abbrev pub unopened : Ledger
unopened = record { opening = 0; until = None; limit = 0; history = [] }

-- the view of the first seat, before any entry
abbrev pub first_view : ℕ → Option ℕ → ℕ → View
first_view opening until limit = record {
  stage = Idles;
  number = 0;
  made = 1;
  seen = record { opening = opening; until = until; limit = limit; history = [] };
  heard = unopened;
  ended = [];
}

-- the view of the first seat once it has made another
abbrev pub one_seat_more : View → View
one_seat_more view = record view { made = view.made + 1 }

-- the view of the seat that is made next
abbrev pub next_seat : View → View
next_seat view = record { stage = Idles; number = view.made; made = 0; seen = view.seen; heard = unopened; ended = [] }

-- a note of what a seat has seen
abbrev pub note_of : View → View
note_of view = record { stage = Notes; number = 0; made = 0; seen = view.seen; heard = unopened; ended = [] }

-- a view that has heard a note
abbrev pub hearing : View → View → View
hearing view note = record view { heard = note.seen }

-- the view of a seat that has taken in the next one, which has ended
abbrev pub taking_in : View → View → View
taking_in view next = record view { ended = view.ended ++ next.seen ∷ [] }

-- a note that was heard, or a seat that was taken in
abbrev pub spent_note : View
spent_note = record { stage = Notes; number = 0; made = 0; seen = unopened; heard = unopened; ended = [] }
