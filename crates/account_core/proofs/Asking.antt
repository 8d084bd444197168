-- What is known of the call that is asked for is enough for the reply: that to a Credit needs nothing of a call.
use Rattle.std.proofs.Common.{◌≡◌, ℕ, ◌+◌, ◌≤◌, Option, List, refl, sym, ap, ◌∙◌, arith, subst}
use Rattle.account_core.specs.Asked.{Asked, Credits, Reserves, Returns, Settles, call_of, IsOfCall}
use Rattle.account_core.specs.Available.{available}
use Rattle.account_core.specs.Entries.{EntryData}
use Rattle.account_core.specs.Known.{CallFacts, known, known_asked, nothing_known, taken_of}
use Rattle.account_core.specs.Places.{needed, needed_by, refusal_for}
use Rattle.account_core.specs.Replies.{reply_for}
use Rattle.account_core.specs.Sound.{IsSound, IsSoundPast}
use Rattle.account_core.proofs.Fitting.{money_within}

nothing_taken : taken_of nothing_known ≡ 0
unfolding taken_of
nothing_taken = refl

module _ (h : List EntryData) where
  replied_alike : (credit funds : ℕ) (last : Option ℕ) (asked : Asked)
      → reply_for credit funds last (known_asked asked h) asked ≡ reply_for credit funds last (known (call_of asked) h) asked
  replied_alike credit funds last (Credits amount moment) = refl
  replied_alike credit funds last (Reserves call plan wanted least at) = refl
  replied_alike credit funds last (Settles call number info) = refl
  replied_alike credit funds last (Returns call) = refl

  -- and for its refusal
  pub refused_asked : (limit entries places : ℕ) (asked : Asked) (call : CallFacts) → call ≡ known_asked asked h
      → refusal_for limit entries places call asked ≡ refusal_for limit entries places (known (call_of asked) h) asked
  refused_asked limit entries places (Credits amount moment) call call_is = ap (λ k. refusal_for limit entries places k (Credits amount moment)) call_is
  refused_asked limit entries places (Reserves number plan wanted least at) call call_is = ap (λ k. refusal_for limit entries places k (Reserves number plan wanted least at)) call_is
  refused_asked limit entries places (Settles number mail info) call call_is = ap (λ k. refusal_for limit entries places k (Settles number mail info)) call_is
  refused_asked limit entries places (Returns number) call call_is = ap (λ k. refusal_for limit entries places k (Returns number)) call_is

  -- and for the places that it needs
  pub needed_asked : (asked : Asked) (call : CallFacts) → call ≡ known_asked asked h → needed_by call asked ≡ needed h asked
  needed_asked (Credits amount moment) call call_is = refl
  needed_asked (Reserves number plan wanted least at) call call_is = ap (λ k. needed_by k (Reserves number plan wanted least at)) call_is
  needed_asked (Settles number mail info) call call_is = ap (λ k. needed_by k (Settles number mail info)) call_is
  needed_asked (Returns number) call call_is = ap (λ k. needed_by k (Returns number)) call_is

  sound_alike : (opening : ℕ) (asked : Asked) → IsSoundPast opening h → IsSound (known_asked asked h)
  sound_alike opening (Credits amount moment) sound = refl
  sound_alike opening (Reserves call plan wanted least at) sound = sound.each call
  sound_alike opening (Settles call number info) sound = sound.each call
  sound_alike opening (Returns call) sound = sound.each call

  money_alike : (opening : ℕ) (asked : Asked) → IsSoundPast opening h → available opening h + taken_of (known_asked asked h) ≤ 1000000000000000
  money_alike opening (Credits amount moment) sound = omega (arith, nothing_taken, money_within opening h 0 sound)
  money_alike opening (Reserves call plan wanted least at) sound = money_within opening h call sound
  money_alike opening (Settles call number info) sound = money_within opening h call sound
  money_alike opening (Returns call) sound = money_within opening h call sound

  module _ (asked : Asked) (call : CallFacts) (call_is : call ≡ known_asked asked h) where
    pub replied_asked : (credit funds : ℕ) (last : Option ℕ) → reply_for credit funds last call asked ≡ reply_for credit funds last (known (call_of asked) h) asked
    replied_asked credit funds last = ap (λ k. reply_for credit funds last k asked) call_is ∙ replied_alike credit funds last asked

    pub sound_asked : (opening : ℕ) → IsSoundPast opening h → IsSound call
    sound_asked opening sound = let P : CallFacts → Type 0 = λ k. IsSound k in subst P (sym call_is) (sound_alike opening asked sound)

    pub money_asked : (opening credit : ℕ) → IsSoundPast opening h → credit ≡ available opening h → credit + taken_of call ≤ 1000000000000000
    money_asked opening credit sound credit_is =
        let P : CallFacts → Type 0 = λ k. credit + taken_of k ≤ 1000000000000000 in
        subst P (sym call_is) (omega (arith, credit_is, money_alike opening asked sound))

-- what is asked of a call has that call
pub asked_call : (call : ℕ) (asked : Asked) → IsOfCall call asked → call_of asked ≡ call
asked_call call (Credits amount moment) is = absurd is
asked_call call (Reserves other plan wanted least at) is = is
asked_call call (Settles other number info) is = is
asked_call call (Returns other) is = is
