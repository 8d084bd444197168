-- What a worker holds is in order after each post.
use Rattle.std.specs.Prelude.{ℕ, List, Contains, IfSome, length}
use Rattle.runs_core.specs.Handled.{Holding}
use Rattle.runs_core.specs.Served.{AreServed, begun_of}
use Rattle.runs_core.specs.Verdicts.{DialogueAt}
use Rattle.run_values.specs.declared.post.Post.{Post}
use Rattle.runs_core.specs.Workers.{IsPlaced}

-- a dialogue of a call, as `IsPlaced` says, whose call had an InitialDP among the posts
pub record IsOwn (count : ℕ) (posts : List Post) (call : ℕ) (standing : DialogueAt) : Type 0 where
  pub is : IsPlaced count call standing
  pub begun : Contains (begun_of posts) call

-- what a worker holds is in order, where the accounts have these numbers
pub record IsSoundHolding (accounts : List ℕ) (posts : List Post) (h : Holding) : Type 0 where
  pub served : AreServed accounts posts h.lists
  pub talks : (call : ℕ) → IfSome (h.talks call) (λ standing. IsOwn (length accounts) posts call standing)
