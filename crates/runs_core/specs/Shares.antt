-- What a driver gives, and which worker handles it.
use Rattle.std.specs.Prelude.{◌≡◌, ◌+◌, ◌%◌, ◌==◌, ◌<◌, ℕ, List, [], ◌∷◌, length, map, filter, slice_index_or}
use Rattle.run_values.specs.declared.post.Body.{Body}
use Rattle.run_values.specs.declared.post.Body.TheVariants.{Ssf, Recharge}
use Rattle.run_values.specs.declared.post.Post.{Post}

-- a call, or an account, goes to the worker of its remainder
abbrev pub worker_of : ℕ → Body → ℕ
worker_of workers (Ssf call msg) = call % workers
worker_of workers (Recharge account amount until) = account % workers

-- a number, a moment and what is posted then
pub record Item : Type 0 where
  pub number : ℕ
  pub at : ℕ
  pub body : Body

-- the item that a post carries
abbrev pub item_of : Post → Item
item_of post = record { number = post.number; at = post.at; body = post.body }

-- the item of this number
abbrev pub item_at : ℕ → ℕ × Body → Item
item_at number next = record { number = number; at = next.0; body = next.1 }

-- what was given, each numbered by its place, from this number on
abbrev pub numbered : ℕ → List (ℕ × Body) → List Item
numbered number [] = []
numbered number (next ∷ given) = item_at number next ∷ numbered (number + 1) given

-- the share of a worker: the items that go to it, in order, where the first has this number
abbrev pub share_from : ℕ → ℕ → List (ℕ × Body) → ℕ → List Item
share_from workers first given worker = filter (λ item. worker_of workers item.body == worker) (numbered first given)

-- the share of a worker of all that was given
abbrev pub share : ℕ → List (ℕ × Body) → ℕ → List Item
share workers given worker = share_from workers 0 given worker

-- each worker gets its share of a round, whose first item has this number
pub record AreShares (workers first : ℕ) (given : List (ℕ × Body)) (shares : List (List Post)) : Type 0 where
  pub count : length shares ≡ workers
  pub each : (worker : ℕ) → worker < workers → map item_of (slice_index_or shares worker []) ≡ share_from workers first given worker

-- each worker has handled its share of all that was given, in order, and nothing else
abbrev pub HaveHandled : ℕ → List (ℕ × Body) → List (List Post) → Type 0
HaveHandled workers given handled = AreShares workers 0 given handled
