-- What seats know of their accounts, and calls that are one seat's alone.
use Rattle.std.proofs.Common.{◌≡◌, ℕ, Bool, true, false, List, [], ◌∷◌, ◌++◌, Result, Ok, Err, refl, sym, ap, ◌∙◌, subst}
use Rattle.std.specs.Prelude.{◌==◌, if◌then◌else◌, reverse, All, IfErr, IfOk, MatchResult}
use Rattle.std.proofs.lemmas.Bool.{eq-eqb}
use Rattle.std.proofs.lemmas.List.Elements.{All-head, All-tail}
use Rattle.account_core.specs.Asked.{Asked, call_of}
use Rattle.account_core.specs.Entries.{EntryData}
use Rattle.account_core.specs.Places.{IsOwed}
use Rattle.account_core.specs.declared.entry.Reply.{Reply}
use Rattle.account_core.specs.declared.fault.AccountFault.{AccountFault}
use Rattle.account_core.specs.declared.fault.AccountFault.TheVariants as fault
use Rattle.account_core.specs.Closed.{Closed}
use Rattle.account_core.specs.Own.{asks_of_call, of_call, own}
use Rattle.account_core.specs.Prefixes.{IsPrefix}
use Rattle.account_core.specs.Refusals.{IsAlone, Refusal}
use Rattle.account_core.specs.declared.close_fault.CloseFault.{CloseFault}
use Rattle.turn_account.specs.Seen.{CallsOfOneSeatAreAlone, HasSeen, IsOpenedAs, StoodIn}
use Rattle.turn_account.specs.TurnViews.{TurnSeatView, own_of}
use Rattle.account_core.proofs.Beginnings.{begins_further, begins_itself}
use Rattle.account_core.proofs.Owning.{owed_alike}

-- what a call that is the seat's alone is owed by its own entries, it is owed in the account that it has seen
pub owed_alone : (seat : TurnSeatView) (mine : List EntryData) (entry : Reply → EntryData) (asked : Asked) (response : Result Reply AccountFault)
    → MatchResult response (λ reply. own_of seat ≡ mine ++ entry reply ∷ []) (λ _. own_of seat ≡ mine)
    → (IsOwed (reverse seat.view.history) asked → IfErr response (λ why. why ≡ fault.GateClosed)) → IsAlone (HasSeen seat) (call_of asked) → IsOwed (reverse mine) asked
    → IfErr response (λ why. why ≡ fault.GateClosed)
owed_alone seat mine entry asked (Ok reply) own is_owed alone closes = tt
owed_alone seat mine entry asked (Err why) own is_owed alone closes =
    let refusal : Refusal = record { account = seat.view; asked = asked; why = why } in
    let seen : HasSeen seat mine refusal = record { opening = refl; until = refl; limit = refl; begins = begins_itself seat.view.history; own = own } in
    is_owed (owed_alike mine seat.view.history asked closes (sym (alone mine refusal seen)))

-- a book that was opened as each seat has seen, and begins with all that each has seen,
-- is of the accounts that refused them
pub stood_in_book : (seats : List TurnSeatView) (response : Result Closed CloseFault)
    → IfOk response (λ book. All (λ seat. IsPrefix seat.view.history book.history) seats)
    → IfOk response (λ book. All (λ seat. IsOpenedAs seat.view book) seats)
    → IfOk response (λ book. All (λ seat. (mine : List EntryData) (refusal : Refusal)
    → HasSeen seat mine refusal → StoodIn book seat.number mine refusal) seats)
stood_in_book seats (Ok book) seen opened = λ k default within mine refusal has.
    let same = opened k default within in
    record {
      opening = has.opening ∙ sym same.opening;
      until = has.until ∙ sym same.until;
      limit = has.limit ∙ sym same.limit;
      begins = begins_further _ _ _ has.begins (seen k default within);
      own = has.own;
    }
stood_in_book seats (Err fault) seen opened = tt

-- ---- a call whose entries are by one seat

its_own : (of here : Bool) (entry : EntryData) (call : ℕ) (all mine : List EntryData) → asks_of_call call entry.asked ≡ of → (of ≡ true → here ≡ true) → of_call call all ≡ of_call call mine
    → (if of then entry ∷ of_call call all else of_call call all) ≡ of_call call (if here then entry ∷ mine else mine)
its_own of true entry call all mine is here same =
    ap (λ (h : List EntryData). if of then entry ∷ h else h) same ∙ ap (λ (b : Bool). if b then entry ∷ of_call call mine else of_call call mine) (sym is)
its_own true false entry call all mine is here same = absurd (cc (here refl))
its_own false false entry call all mine is here same = same

by_seat : (seat call : ℕ) (begun rest : List EntryData) → All (λ entry. asks_of_call call entry.asked ≡ true → entry.seat ≡ seat) (begun ++ rest)
    → of_call call begun ≡ of_call call (own seat begun)
by_seat seat call [] rest all = refl
by_seat seat call (entry ∷ begun) rest all =
    let By : EntryData → Type 0 = λ entry. asks_of_call call entry.asked ≡ true → entry.seat ≡ seat in
    its_own (asks_of_call call entry.asked) (entry.seat == seat) entry call begun (own seat begun) refl (λ is. eq-eqb entry.seat seat (All-head By entry (begun ++ rest) all is))
    (by_seat seat call begun rest (All-tail By entry (begun ++ rest) all))

pub one_seat_is_alone : CallsOfOneSeatAreAlone
one_seat_is_alone book seat call by_it mine refusal stood =
    let By : EntryData → Type 0 = λ entry. asks_of_call call entry.asked ≡ true → entry.seat ≡ seat in
    by_seat seat call refusal.account.history stood.begins.rest (subst (All By) stood.begins.is by_it) ∙ ap (of_call call) stood.own
