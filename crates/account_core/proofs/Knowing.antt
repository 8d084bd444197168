-- What an entry changes of what is known.
use Rattle.std.proofs.Common.{◌≡◌, ℕ, Bool, true, false, List, ◌∷◌, refl, ap}
use Rattle.std.specs.Prelude.{◌==◌, if◌then◌else◌}
use Rattle.account_core.proofs.Moves.{its_call, its_deed}
use Rattle.account_core.specs.Entries.{EntryData}
use Rattle.account_core.specs.Known.{EntryDeed, Rests, deed, known, known_after}

rests_either : (here : Bool) (done : EntryDeed) → done ≡ Rests → (if here then done else Rests) ≡ Rests
rests_either true done rests = rests
rests_either false done rests = refl

-- an entry that rests changes nothing
pub known_resting : (h : List EntryData) (entry : EntryData) (call : ℕ) → its_deed entry ≡ Rests → known call (entry ∷ h) ≡ known call h
unfolding deed
known_resting h entry call rests = ap (known_after (known call h)) (rests_either (its_call entry == call) (its_deed entry) rests)
