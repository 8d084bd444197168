-- What holds of the joined books of all parts of a run.
use Rattle.std.specs.Prelude.{◌≡◌, ◌<◌, ◌+◌, ℕ, true, List, All, length, map, slice_index_or}
use Rattle.std.specs.List.{flat_map}
use Rattle.std.specs.Map.{keys_of}
use Rattle.book_texts.specs.Typed.{IsTyped}
use Rattle.run_command.specs.InParts.{IsPartOf}
use Rattle.run_outputs.specs.Kept.{PartSaid}
use Rattle.run_command.specs.Starts.{InputIsInRange}
use Rattle.run_laws.specs.Played.{PassTheirAudits}
use Rattle.run_values.specs.declared.options.RunAsk.{RunAsk}
use Rattle.run_texts.specs.Inputs.{RunInput}
use Rattle.runs_core.specs.Teams.{are_workers}
use Rattle.account_core.specs.Closed.{Closed}

-- these are all parts of an input that is in range
pub record AreAllParts (ask : RunAsk) (said : RunInput) (firsts : List ℕ) (parts : List PartSaid) : Type 0 where
  pub workers : are_workers ask.workers ≡ true
  pub range : InputIsInRange said
  pub all : length parts ≡ 1 + length firsts
  pub each : (part : ℕ) (d : PartSaid) → part < length parts → IsPartOf ask said firsts part (slice_index_or parts part d)

-- the books of all parts, one part after another
abbrev pub joined_books : List PartSaid → List Closed
joined_books parts = flat_map (λ part. part.books) parts

-- each account of the input has its book among them, in the order of the input
abbrev pub JoinedBooksHaveAllAccounts : Type 0
JoinedBooksHaveAllAccounts =
    (ask : RunAsk) (said : RunInput) (firsts : List ℕ) (parts : List PartSaid) → AreAllParts ask said firsts parts → map (λ book. book.account) (joined_books parts) ≡ keys_of said.setup.accounts

-- their table passes a long audit, and a short one where that takes as many rows
abbrev pub JoinedBooksPass : Type 0
JoinedBooksPass =
    (ask : RunAsk) (said : RunInput) (firsts : List ℕ) (parts : List PartSaid) → AreAllParts ask said firsts parts → All IsTyped (joined_books parts) → PassTheirAudits (joined_books parts)
