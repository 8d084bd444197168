-- Some of the accounts of a run, and their calls.
use Rattle.std.specs.Prelude.{◌≡◌, ℕ, Bool, List, [], ◌∷◌, All, if◌then◌else◌, map}
use Rattle.std.specs.List.{filter}
use Rattle.std.specs.Option.{ForSome}
use Rattle.cap_values.specs.declared.message.SsfMsg.{SsfMsg}
use Rattle.cap_values.specs.declared.message.SsfMsg.TheVariants.{InitialDp, EventReport, ChargingReport, Ended}
use Rattle.part_laws.specs.Numbers.{unnumbered_book}
use Rattle.run_values.specs.Setups.{Setup, account_of}
use Rattle.run_values.specs.declared.post.Answer.{Answer}
use Rattle.run_values.specs.declared.post.Body.{Body}
use Rattle.run_values.specs.declared.post.Body.TheVariants.{Ssf, Recharge}
use Rattle.account_core.specs.Closed.{Closed}

-- which accounts, and which calls
pub record Choice : Type 0 where
  pub accounts : ℕ → Bool
  pub calls : ℕ → Bool

-- whether what is posted is of these: a message by its call, a recharge by its account
abbrev pub is_chosen : Choice → Body → Bool
is_chosen choice (Ssf call message) = choice.calls call
is_chosen choice (Recharge account amount until) = choice.accounts account

-- the items that are of these, in their order
abbrev pub chosen : Choice → List (ℕ × Body) → List (ℕ × Body)
chosen choice given = filter (λ item. is_chosen choice item.1) given

-- the answers to these items, in order, where each answer is at the place of its item
abbrev pub answers_for : Choice → List (ℕ × Body) → List Answer → List Answer
answers_for choice [] answers = []
answers_for choice (item ∷ given) [] = []
answers_for choice (item ∷ given) (answer ∷ answers) = if is_chosen choice item.1 then answer ∷ answers_for choice given answers else answers_for choice given answers

-- a call that a subscriber begins is of these where the subscriber's account is
abbrev pub BeginsByAccount : Setup → Choice → ℕ → SsfMsg → Type 0
BeginsByAccount setup choice call (InitialDp other calling called) = ForSome (account_of calling setup.subscribers) (λ account. choice.calls call ≡ choice.accounts account)
BeginsByAccount setup choice call (EventReport event leg mode) = Unit {0}
BeginsByAccount setup choice call (ChargingReport active info) = Unit {0}
BeginsByAccount setup choice call Ended = Unit {0}

-- so it is of what is posted
abbrev pub IsByAccount : Setup → Choice → Body → Type 0
IsByAccount setup choice (Ssf call message) = BeginsByAccount setup choice call message
IsByAccount setup choice (Recharge account amount until) = Unit {0}

-- so it is of all items
abbrev pub AreByAccount : Setup → Choice → List (ℕ × Body) → Type 0
AreByAccount setup choice given = All (λ item. IsByAccount setup choice item.1) given

-- ---- books

-- a book of one of these accounts, without the numbers of settles; or one without an entry, of another account
abbrev pub chosen_book : Choice → Closed → Closed
chosen_book choice book = if choice.accounts book.account then unnumbered_book book
    else record { account = book.account; opening = book.opening; until = book.until; limit = book.limit; history = [] }

-- a run has the books that another one has of these accounts, but for the numbers of settles, and its books of all other accounts have no entry
abbrev pub HasBooksOf : Choice → List Closed → List Closed → Type 0
HasBooksOf choice books own_books = map unnumbered_book own_books ≡ map (chosen_book choice) books
