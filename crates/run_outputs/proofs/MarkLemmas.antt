-- One entry more: what it says of a call.
use Rattle.std.proofs.Common.{◌≡◌, ◌==◌, ℕ, Bool, true, false, List, ◌∷◌, refl, sym, ap, ◌∙◌}
use Rattle.std.specs.Prelude.{if◌then◌else◌}
use Rattle.account_core.specs.Asked.{call_of}
use Rattle.account_core.specs.Entries.{EntryData}
use Rattle.account_core.specs.Known.{deed}
use Rattle.run_outputs.proofs.CallLemmas.{same_call}
use Rattle.run_outputs.specs.KeptRecords.{marks_of}
use Rattle.run_outputs.specs.declared.marks.CallMarks.{CallMarks}

-- an entry of another call says nothing of this one
pub other_marks : (entry : EntryData) (other : ℕ) (h : List EntryData) → call_of entry.asked == other ≡ false → marks_of other (entry ∷ h) ≡ marks_of other h
unfolding deed
other_marks entry other h differs = rw differs refl

-- what is kept of each call, after one of them has other marks
pub marks_kept : (entry : EntryData) (other : ℕ) (h : List EntryData) (after was : CallMarks) (own : Bool) → call_of entry.asked == other ≡ own
    → after ≡ marks_of (call_of entry.asked) (entry ∷ h) → was ≡ marks_of other h → (if own then after else was) ≡ marks_of other (entry ∷ h)
marks_kept entry other h after was true same are had = are ∙ ap (λ c. marks_of c (entry ∷ h)) (same_call (call_of entry.asked) other same)
marks_kept entry other h after was false differs are had = had ∙ sym (other_marks entry other h differs)
