-- What is gathered of calls, one post and one entry after another.
use Rattle.std.specs.Prelude.{◌≡◌, ℕ, false, Option, Some, None, List, [], is_some, unwrap_or, ⊤, reverse}
use Rattle.std.specs.BTreeMap as tree
use Rattle.std.specs.BTreeMap.{BTreeMap, is_at}
use Rattle.std.specs.Map.{lookup}
use Rattle.std.specs.Ordering.{nat_cmp}
use Rattle.account_core.specs.Entries.{EntryData}
use Rattle.account_core.specs.Known.{known, paid_if_granted}
use Rattle.run_values.specs.declared.post.Body.{Body}
use Rattle.account_core.specs.Closed.{Closed}
use Rattle.run_outputs.specs.Calls.{call_reports_of, start_of}
use Rattle.run_outputs.specs.Standings.{book_of, is_denied, is_denied_later, last_grant}
use Rattle.run_outputs.specs.declared.accounts.AccountCalls.{AccountCalls}
use Rattle.run_outputs.specs.declared.marks.CallMarks.{CallMarks}
use Rattle.run_outputs.specs.declared.reports.CallReports.{CallReports}
use Rattle.run_outputs.specs.declared.starts.Start.{Start}

-- the map has the start of each call
abbrev pub HaveStarts : BTreeMap ℕ Start → List (ℕ × Body) → Type 0
HaveStarts starts given = (call : ℕ) → tree.get nat_cmp starts call ≡ start_of call given

-- of a call that isn't in the map nothing was reported
abbrev pub reports_in : List (ℕ × CallReports) → ℕ → CallReports
reports_in reports call = unwrap_or (lookup (is_at (nat_cmp call)) reports) (call_reports_of call [])

-- the map has what was reported of each call
abbrev pub HaveReports : List (ℕ × CallReports) → List (ℕ × Body) → Type 0
HaveReports reports given = (call : ℕ) → reports_in reports call ≡ call_reports_of call given

-- what a history says of a call, but for what it has paid
abbrev pub marks_of : ℕ → List EntryData → CallMarks
marks_of call h = record {
  times = (known call h).times;
  total = (known call h).granted;
  granted = is_some (known call h).plan;
  last = unwrap_or (last_grant call h) false;
  forfeited = (known call h).forfeited;
  denied = is_denied call h;
  denied_later = is_denied_later call h;
}

-- the marks of a call in a map
abbrev pub marks_in : List (ℕ × CallMarks) → ℕ → CallMarks
marks_in marks call = unwrap_or (lookup (is_at (nat_cmp call)) marks) (marks_of call [])

-- the map has the marks of each call
abbrev pub HaveMarks : List (ℕ × CallMarks) → List EntryData → Type 0
HaveMarks marks h = (call : ℕ) → marks_in marks call ≡ marks_of call h

-- the map has what each call has paid that was granted anything
abbrev pub HavePaid : List (ℕ × ℕ) → List EntryData → Type 0
HavePaid paid h = (call : ℕ) → lookup (is_at (nat_cmp call)) paid ≡ paid_if_granted (known call h)

-- what is kept of an account's calls is what its history says
pub record KnowCalls (calls : AccountCalls) (h : List EntryData) : Type 0 where
  pub marks : HaveMarks calls.marks h
  pub paid : HavePaid calls.paid h

-- what is kept of an account is that of its book
abbrev pub AreCallsOf : Option AccountCalls → Option Closed → Type 0
AreCallsOf None None = ⊤
AreCallsOf None (Some book) = ⊥
AreCallsOf (Some calls) None = ⊥
AreCallsOf (Some calls) (Some book) = KnowCalls calls (reverse book.history)

-- the map has the calls of the first book of each account
abbrev pub HaveAccounts : BTreeMap ℕ AccountCalls → List Closed → Type 0
HaveAccounts accounts books = (account : ℕ) → AreCallsOf (tree.get nat_cmp accounts account) (book_of account books)
