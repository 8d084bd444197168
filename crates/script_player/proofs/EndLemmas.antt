-- Where no moment is next, no row is left, and the deliveries and the timers lie past what a gsmSSF takes.
use Rattle.std.proofs.Common.{◌≡◌, ◌<◌, ◌≤◌, ℕ, Option, Some, None, List, [], ◌∷◌, drop, min, refl, arith}
use Rattle.std.proofs.lemmas.Bool.Decides.{nat_tests}
use Rattle.std.proofs.lemmas.List.Elements.{All-drop, All-head}
use Rattle.std.specs.Prelude.{All}
use Rattle.std.specs.Option.{ForSome}
use Rattle.run_texts.specs.declared.script.ScriptRow.{ScriptRow}
use Rattle.ssf_core.specs.Calls.{View}
use Rattle.ssf_core.specs.Moments.{in_reach, sooner}
use Rattle.script_player.specs.Dues.{HasTimer, IsFirstDue}
use Rattle.script_player.specs.Rows.{next_row}

-- a moment lies past what a gsmSSF takes
abbrev IsPast : ℕ → Type 0
IsPast at = 2000000000000 < at

past : (moment : Option ℕ) → in_reach moment ≡ None → ForSome moment IsPast
past None none at is = cc
past (Some first) none at is = let same : first ≡ at = cc in grind (arith, nat_tests, none, same)

each_past : (first second : Option ℕ) → ForSome (sooner first second) IsPast → ForSome first IsPast × ForSome second IsPast
each_past None second is = (λ at here. cc, is)
each_past (Some one) None is = (is, λ at here. cc)
each_past (Some one) (Some other) is =
    let least : IsPast (min one other) = is (min one other) refl in
    (λ at here. let same : one ≡ at = cc in omega (arith, least, same), λ at here. let same : other ≡ at = cc in omega (arith, least, same))

-- the row, the delivery and the timer that come next
all_past : (row delivery due : Option ℕ) → in_reach (sooner (sooner row delivery) due) ≡ None → ForSome row IsPast × ForSome delivery IsPast × ForSome due IsPast
all_past row delivery due none =
    let last = each_past (sooner row delivery) due (past (sooner (sooner row delivery) due) none) in
    let first = each_past row delivery last.0 in
    (first.0, first.1, last.1)

none_in : (rows : List ScriptRow) → All (λ (row : ScriptRow). row.at ≤ 1000000000000) rows → ForSome (next_row rows) IsPast → rows ≡ []
none_in [] all is = refl
none_in (row ∷ rows) all is = let within = All-head (λ (other : ScriptRow). other.at ≤ 1000000000000) row rows all in let later = is row.at refl in absurd (omega (arith, within, later))

pub none_left : (rows : List ScriptRow) (taken : ℕ) (delivery due : Option ℕ) → All (λ (row : ScriptRow). row.at ≤ 1000000000000) rows
    → in_reach (sooner (sooner (next_row (drop taken rows)) delivery) due) ≡ None → drop taken rows ≡ []
none_left rows taken delivery due all none =
    none_in (drop taken rows) (All-drop (λ (row : ScriptRow). row.at ≤ 1000000000000) taken rows all) (all_past (next_row (drop taken rows)) delivery due none).0

pub delivery_past : (row delivery due : Option ℕ) → in_reach (sooner (sooner row delivery) due) ≡ None → ForSome delivery (λ at. 2000000000000 < at)
delivery_past row delivery due none = (all_past row delivery due none).1

timers_past : (ssfs : List (ℕ × View)) (due : Option ℕ) → IsFirstDue ssfs due → ForSome due IsPast → (call at : ℕ) → HasTimer ssfs call at → 2000000000000 < at
timers_past ssfs None first is call at has = absurd (first call at has)
timers_past ssfs (Some least) first is call at has = let order = first.1 call at has in let later = is least refl in omega (arith, later, order)

pub timer_past : (ssfs : List (ℕ × View)) (row delivery due : Option ℕ) → IsFirstDue ssfs due → in_reach (sooner (sooner row delivery) due) ≡ None → (call at : ℕ) → HasTimer ssfs call at
    → 2000000000000 < at
timer_past ssfs row delivery due first none = timers_past ssfs due first (all_past row delivery due none).2
