-- What a reader of a script keeps beside the rows, so that it needs no scan of them.
use Rattle.std.specs.Prelude.{◌≡◌, ℕ, List, true}
use Rattle.std.specs.BTreeSet.{BTreeSet, Updates, contains}
use Rattle.std.specs.Ordering.{nat_cmp}
use Rattle.run_texts.specs.Happenings.{RowData, Happens, Meets, Recharges, Starts}
use Rattle.run_texts.specs.Scripts.{is_started}

-- a set has the calls that have started, and no others
abbrev pub HasCalls : BTreeSet ℕ → List RowData → Type 0
HasCalls set earlier = (call : ℕ) → contains nat_cmp set call ≡ is_started call earlier

-- a call that starts comes into the set
abbrev pub NotesStart : Happens → BTreeSet ℕ → BTreeSet ℕ → Type 0
NotesStart (Starts call calling called) old new = Updates nat_cmp old new call true
NotesStart (Meets call event) old new = new ≡ old
NotesStart (Recharges account amount until) old new = new ≡ old
