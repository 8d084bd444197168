-- After the last moment nothing is granted.
use Rattle.std.proofs.Common.{◌≡◌, ℕ, ◌≤◌, Bool, true, false, Option, Some, List, [], ◌∷◌, ◌++◌, refl, sym, ap, ◌∙◌, arith, subst}
use Rattle.std.specs.Prelude.{◌==◌, ◌||◌, if◌then◌else◌, nat_lt, reverse}
use Rattle.std.proofs.lemmas.Bool.Decides.{nat_tests}
use Rattle.std.proofs.lemmas.List.{append_assoc, reverse-append}
use Rattle.std.proofs.lemmas.List.Elements.{All-cons, All-head, All-nil, All-tail}
use Rattle.price_core.specs.Rates.{Rates}
use Rattle.account_core.specs.Answers.{IsAnswered, IsLegal, IsLegalPast, answer, reserve_verdict, showing, units_offered}
use Rattle.account_core.specs.Asked.{Asked, Credits, Reserves, Returns, Settles}
use Rattle.account_core.specs.Available.{available}
use Rattle.account_core.specs.Entries.{EntryData}
use Rattle.account_core.specs.Expiry.{GrantsBy, LeavesLastMoment, is_past, last_moment, last_moment_after}
use Rattle.account_core.specs.Known.{known}
use Rattle.account_core.specs.Laws.{NothingIsGrantedLate}
use Rattle.account_core.specs.declared.entry.Reply.{Reply}
use Rattle.account_core.specs.declared.entry.Reply.TheVariants as reply
use Rattle.account_core.proofs.LawLemmas.{prefix_legal}

-- ---- an entry

in_time : (short none forfeited : Bool) (last at : ℕ) → (short || none || forfeited || nat_lt last at) ≡ false → at ≤ last
in_time true none forfeited last at is = cc
in_time false true forfeited last at is = cc
in_time false false true last at is = cc
in_time false false false last at is = grind (arith, nat_tests)

grants_by : (denied : Bool) (last c : ℕ) (plan : Rates) (wanted least at units credit : ℕ) (shortened : Bool) → (denied ≡ false → at ≤ last)
    → GrantsBy last (Reserves c plan wanted least at) (showing credit (if denied then reply.Denied 0 else reply.Granted units shortened 0))
grants_by true last c plan wanted least at units credit shortened is = tt
grants_by false last c plan wanted least at units credit shortened is = is refl

verdict_grants : (moment : Option ℕ) (last c : ℕ) (plan : Rates) (wanted least at units credit : ℕ) (forfeited : Bool) → moment ≡ Some last
    → GrantsBy last (Reserves c plan wanted least at) (showing credit (reserve_verdict units wanted least forfeited (is_past moment at)))
verdict_grants moment last c plan wanted least at units credit forfeited is =
    let P : Option ℕ → Type 0 = λ m. GrantsBy last (Reserves c plan wanted least at) (showing credit (reserve_verdict units wanted least forfeited (is_past m at))) in
    subst P (sym is) (grants_by _ last c plan wanted least at units credit _ (in_time (nat_lt units least) (units == 0) forfeited last at))

answer_grants : (opening : ℕ) (until : Option ℕ) (h : List EntryData) (last : ℕ) (asked : Asked) → last_moment until h ≡ Some last
    → GrantsBy last asked (answer opening until h asked)
unfolding answer
answer_grants opening until h last (Credits amount moment) is = tt
answer_grants opening until h last (Reserves c plan wanted least at) is =
    verdict_grants (last_moment until h) last c plan wanted least at (units_offered (available opening h) (known c h) plan wanted) _ (known c h).forfeited is
answer_grants opening until h last (Settles c number info) is = tt
answer_grants opening until h last (Returns c) is = tt

entry_grants : (opening : ℕ) (until : Option ℕ) (h : List EntryData) (last : ℕ) (entry : EntryData) → IsAnswered opening until h entry → last_moment until h ≡ Some last
    → GrantsBy last entry.asked entry.reply
entry_grants opening until h last entry answered is =
    let P : Reply → Type 0 = λ r. GrantsBy last entry.asked r in
    subst P (sym answered.answered) (answer_grants opening until h last entry.asked is)

-- an entry that leaves the last moment
moment_left : (before : Option ℕ) (asked : Asked) (response : Reply) → LeavesLastMoment asked response → last_moment_after before asked response ≡ before
moment_left before (Credits amount (Some moment)) (reply.Credited available) leaves = absurd leaves
moment_left before asked response leaves = refl

-- ---- the entries of a history, from one place on

entry_here : (opening : ℕ) (until : Option ℕ) (history later : List EntryData) (entry : EntryData) → IsLegal opening until ((history ++ entry ∷ []) ++ later)
    → IsAnswered opening until (reverse history) entry
entry_here opening until history later entry legal =
    let P : List EntryData → Type 0 = λ h. IsLegalPast opening until h in
    let past = prefix_legal opening until (reverse later) (reverse (history ++ entry ∷ [])) (subst P (reverse-append (history ++ entry ∷ []) later) legal) in
    (subst P (reverse-append history (entry ∷ [])) past).1

pub nothing_late : NothingIsGrantedLate
nothing_late opening until history [] last legal is leave = All-nil (λ entry. GrantsBy last entry.asked entry.reply)
nothing_late opening until history (entry ∷ later) last legal is leave =
    let G : EntryData → Type 0 = λ entry. GrantsBy last entry.asked entry.reply in
    let L : EntryData → Type 0 = λ entry. LeavesLastMoment entry.asked entry.reply in
    let P : List EntryData → Type 0 = λ h. IsLegal opening until h in
    let longer : IsLegal opening until ((history ++ entry ∷ []) ++ later) = subst P (sym (append_assoc history (entry ∷ []) later)) legal in
    let stays : last_moment until (reverse (history ++ entry ∷ [])) ≡ Some last =
    ap (last_moment until) (reverse-append history (entry ∷ []))
    ∙ (moment_left (last_moment until (reverse history)) entry.asked entry.reply (All-head L entry later leave) ∙ is) in
    All-cons G entry later (entry_grants opening until (reverse history) last entry (entry_here opening until history later entry longer) is)
    (nothing_late opening until (history ++ entry ∷ []) later last longer stays (All-tail L entry later leave))
