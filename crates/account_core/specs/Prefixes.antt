-- Histories that begin others.
use Rattle.std.specs.Prelude.{◌≡◌, List, [], ◌∷◌, ◌++◌}
use Rattle.account_core.specs.Entries.{EntryData}

-- the later history is the earlier one and perhaps more
pub record IsPrefix (earlier later : List EntryData) : Type 0 where
  pub rest : List EntryData
  pub is : later ≡ earlier ++ rest

-- the later history is the earlier one, perhaps more, and then this entry
pub record EndsWithEntry (earlier : List EntryData) (entry : EntryData) (later : List EntryData) : Type 0 where
  pub between : List EntryData
  pub is : later ≡ earlier ++ (between ++ entry ∷ [])
