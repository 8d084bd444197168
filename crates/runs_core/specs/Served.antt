-- What the entries of a worker's seats have to do with the posts that it handled.
use Rattle.std.specs.Prelude.{◌≡◌, ◌==◌, ◌⊎◌, ℕ, Option, List, [], ◌∷◌, All, Contains, flat_map, if◌then◌else◌}
use Rattle.account_core.specs.Asked.{Asked, Credits, Reserves, Settles, Returns}
use Rattle.account_core.specs.Entries.{EntryData}
use Rattle.cap_values.specs.declared.message.SsfMsg.{SsfMsg}
use Rattle.cap_values.specs.declared.message.SsfMsg.TheVariants.{InitialDp, EventReport, ChargingReport, Ended}
use Rattle.price_core.specs.declared.times.TimeInfo.{TimeInfo}
use Rattle.run_values.specs.declared.post.Body.{Body}
use Rattle.run_values.specs.declared.post.Body.TheVariants.{Ssf, Recharge}
use Rattle.run_values.specs.declared.post.Post.{Post}

-- some of a list, in its order
abbrev pub IsPart : {X : Type 0} → List X → List X → Type 0
IsPart [] whole = Unit {0}
IsPart (x ∷ part) [] = ⊥
IsPart (x ∷ part) (y ∷ whole) = ((x ≡ y) × IsPart part whole) ⊎ IsPart (x ∷ part) whole

-- a report of a call: the number of its post, the call, and the times
abbrev pub Report : Type 0
Report = ℕ × ℕ × TimeInfo

-- the report in a message, with the number of its post and its call
abbrev pub report_in : ℕ → ℕ → SsfMsg → List Report
report_in number call (InitialDp other calling called) = []
report_in number call (EventReport event leg mode) = []
report_in number call (ChargingReport active info) = (number, call, info) ∷ []
report_in number call Ended = []

-- the report in a post
abbrev pub reported_in : ℕ → Body → List Report
reported_in number (Ssf call message) = report_in number call message
reported_in number (Recharge account amount until) = []

-- the charging reports among posts
abbrev pub reports_of : List Post → List Report
reports_of posts = flat_map (λ post. reported_in post.number post.body) posts

-- the report that an operation settles
abbrev pub settled_in : Asked → List Report
settled_in (Credits amount until) = []
settled_in (Reserves call plan wanted least moment) = []
settled_in (Settles call number info) = (number, call, info) ∷ []
settled_in (Returns call) = []

-- the Settles among entries: the number, the call and the times of each
abbrev pub settles_of : List EntryData → List Report
settles_of mine = flat_map (λ entry. settled_in entry.asked) mine

-- money for an account: how much, and its last moment from then on, if it is moved
abbrev pub Money : Type 0
Money = ℕ × Option ℕ

-- the money for an account in a post
abbrev pub recharged_in : ℕ → Body → List Money
recharged_in account (Ssf call message) = []
recharged_in account (Recharge other amount until) = if other == account then (amount, until) ∷ [] else []

-- the money of the recharges of an account among posts
abbrev pub recharges_of : ℕ → List Post → List Money
recharges_of account posts = flat_map (λ post. recharged_in account post.body) posts

-- the money that an operation credits
abbrev pub credited_in : Asked → List Money
credited_in (Credits amount until) = (amount, until) ∷ []
credited_in (Reserves call plan wanted least moment) = []
credited_in (Settles call number info) = []
credited_in (Returns call) = []

-- the money of the Credits among entries
abbrev pub credits_of : List EntryData → List Money
credits_of mine = flat_map (λ entry. credited_in entry.asked) mine

-- the call that a message begins
abbrev pub begun_in : ℕ → SsfMsg → List ℕ
begun_in call (InitialDp other calling called) = call ∷ []
begun_in call (EventReport event leg mode) = []
begun_in call (ChargingReport active info) = []
begun_in call Ended = []

-- the call that a post begins
abbrev pub begun_by : Body → List ℕ
begun_by (Ssf call message) = begun_in call message
begun_by (Recharge account amount until) = []

-- the calls with an InitialDP among posts
abbrev pub begun_of : List Post → List ℕ
begun_of posts = flat_map (λ post. begun_by post.body) posts

-- the call for which an operation reserves or returns
abbrev pub held_in : Asked → List ℕ
held_in (Credits amount until) = []
held_in (Reserves call plan wanted least moment) = call ∷ []
held_in (Settles call number info) = []
held_in (Returns call) = call ∷ []

-- the calls of the Reserves and the Returns among entries
abbrev pub held_calls_of : List EntryData → List ℕ
held_calls_of mine = flat_map (λ entry. held_in entry.asked) mine

-- the call that an operation returns
abbrev pub returned_in : Asked → List ℕ
returned_in (Credits amount until) = []
returned_in (Reserves call plan wanted least moment) = []
returned_in (Settles call number info) = []
returned_in (Returns call) = call ∷ []

-- the calls of the Returns among entries
abbrev pub returns_of : List EntryData → List ℕ
returns_of mine = flat_map (λ entry. returned_in entry.asked) mine

-- the entries that a seat of an account made for posts: each Settle is of a charging report and carries its post's number, each Credit is of a
-- recharge of the account, both in the order of the posts, and each Reserve or Return is of a call that had an InitialDP
pub record IsServed (account : ℕ) (posts : List Post) (mine : List EntryData) : Type 0 where
  pub settles : IsPart (settles_of mine) (reports_of posts)
  pub credits : IsPart (credits_of mine) (recharges_of account posts)
  pub calls : All (λ call. Contains (begun_of posts) call) (held_calls_of mine)

-- each account's list is served by the posts
abbrev pub AreServed : List ℕ → List Post → List (List EntryData) → Type 0
AreServed [] posts [] = Unit {0}
AreServed [] posts (mine ∷ lists) = ⊥
AreServed (account ∷ accounts) posts [] = ⊥
AreServed (account ∷ accounts) posts (mine ∷ lists) = IsServed account posts mine × AreServed accounts posts lists
