-- The answers of a sound history fit it, and what they show.
use Rattle.std.proofs.Common.{◌≡◌, ℕ, ◌+◌, ◌-◌, ◌≤◌, Bool, true, false, Option, Some, None, List, ◌∷◌, refl, sym, ap, ◌∙◌, arith, subst}
use Rattle.std.specs.Prelude.{if◌then◌else◌, nat_le}
use Rattle.price_core.specs.Ceiling.{ceiling_of}
use Rattle.price_core.specs.Rates.{Rates}
use Rattle.price_core.specs.Times.{Elapsed}
use Rattle.price_core.specs.declared.times.TimeInfo.{TimeInfo}
use Rattle.account_core.specs.Answers.{accepted_times, answer, inadmissible, settle_verdict, showing, shown_by, units_offered, bare_reply}
use Rattle.account_core.specs.Asked.{Asked, Credits, Reserves, Returns, Settles, call_of}
use Rattle.account_core.specs.Available.{available, credited, credits, taken_by_all}
use Rattle.account_core.specs.Entries.{EntryData}
use Rattle.account_core.specs.Expiry.{is_past, last_moment}
use Rattle.account_core.specs.Known.{EntryDeed, Ends, Forfeits, Grants, CallFacts, Reports, Rests, deed, deed_of, is_open, known, known_after, paid_of, plan_in_force, price_under, taken_of}
use Rattle.account_core.specs.Replies.{credit_reply, reply_for, reserve_reply, return_reply, settle_reply}
use Rattle.account_core.specs.Sound.{AnswersFit, GrantsWithinDay, IsFitting, IsSoundPast}
use Rattle.account_core.specs.declared.entry.Reply.{Reply}
use Rattle.account_core.specs.declared.entry.Reply.TheVariants as reply
use Rattle.account_core.specs.declared.fault.AccountFault.TheVariants as fault
use Rattle.account_core.proofs.Moves.{at_most_all, its_call, its_deed}
use Rattle.account_core.proofs.SoundPasts.{available_is, nothing_taken, taken_moves}
use Rattle.account_core.proofs.Soundness.{IsAllowed, taken_ended, taken_granted, taken_open, takes_within}
use Rattle.account_core.specs.TariffLaws.{TariffLaws}
use Rattle.account_core.proofs.Verdicts.{in_place, none_else, none_if, verdict_allowed}

room_allowed : (credit : ℕ) (call : CallFacts) (deed : EntryDeed) → IsAllowed credit call deed → GrantsWithinDay call deed
room_allowed credit call (Grants plan units) grant = grant.within_day
room_allowed credit call (Reports info) report = tt
room_allowed credit call Forfeits is = tt
room_allowed credit call (Ends paid) end = tt
room_allowed credit call Rests rests = tt

pub answers_fit : (laws : TariffLaws) (opening : ℕ) (until : Option ℕ) (h : List EntryData) → IsSoundPast opening h → AnswersFit opening until h
answers_fit laws opening until h sound asked is =
    let call : CallFacts = known (call_of asked) h in
    let done : EntryDeed = deed_of asked (bare_reply opening until h asked) in
    let allowed : IsAllowed (available opening h) call done = verdict_allowed laws opening until h asked (sound.each (call_of asked)) is in
    record {
      room = room_allowed (available opening h) call done allowed;
      covered = takes_within laws (available opening h) call done (sound.each (call_of asked)) allowed;
    }

-- ---- what is available after an entry

available_by : (funds taken funds' taken' t t' credit credit' more : ℕ) → taken ≤ funds → funds' ≡ funds + more → credit ≡ funds - taken → credit' ≡ funds' - taken'
    → taken' + t ≡ taken + t' → t' ≤ credit + t → credit' + t' ≡ credit + t + more
available_by funds taken funds' taken' t t' credit credit' more covered funds_are is is' moves within = omega arith

-- it moves by what the entry credits, and by what its call takes
pub available_moves : (opening : ℕ) (h : List EntryData) (entry : EntryData) → IsSoundPast opening h
    → taken_of (known_after (known (its_call entry) h) (its_deed entry)) ≤ available opening h + taken_of (known (its_call entry) h)
    → available opening (entry ∷ h) + taken_of (known_after (known (its_call entry) h) (its_deed entry))
    ≡ available opening h + taken_of (known (its_call entry) h) + credited entry.asked entry.reply
available_moves opening h entry sound within =
    available_by (opening + credits h) (taken_by_all h) (opening + credits (entry ∷ h)) (taken_by_all (entry ∷ h)) (taken_of (known (its_call entry) h))
    (taken_of (known_after (known (its_call entry) h) (its_deed entry))) (available opening h) (available opening (entry ∷ h)) (credited entry.asked entry.reply)
    sound.covered (omega arith) (available_is opening h) (available_is opening (entry ∷ h)) (taken_moves h entry) within

total_by : (funds taken credit t : ℕ) → taken ≤ funds → funds ≤ 1000000000000000 → credit ≡ funds - taken → t ≤ taken → credit + t ≤ 1000000000000000
total_by funds taken credit t covered capped is member = omega arith

taken_at_most : (h : List EntryData) (c : ℕ) → taken_of (known c h) ≤ taken_by_all h
unfolding taken_by_all
taken_at_most h c = at_most_all taken_of nothing_taken h c

-- what is available and what a call takes are money together
pub money_within : (opening : ℕ) (h : List EntryData) (c : ℕ) → IsSoundPast opening h → available opening h + taken_of (known c h) ≤ 1000000000000000
money_within opening h c sound =
    total_by (opening + credits h) (taken_by_all h) (available opening h) (taken_of (known c h)) sound.covered sound.capped (available_is opening h) (taken_at_most h c)

-- ---- the answers in closed form

module _ (opening : ℕ) (until : Option ℕ) (h : List EntryData) (sound : IsSoundPast opening h) where
  credit_by : (fits : Bool) (amount : ℕ) (moment : Option ℕ)
      → showing (available opening (record { seat = 0; asked = Credits amount moment; reply = if fits then reply.Credited 0 else reply.CreditOver 0 } ∷ h)) (if fits then reply.Credited 0 else reply.CreditOver 0)
      ≡ (if fits then reply.Credited (available opening h + amount) else reply.CreditOver (available opening h))
  credit_by true amount moment =
      let e : EntryData = record { seat = 0; asked = Credits amount moment; reply = reply.Credited 0 } in
      let moves = available_moves opening h e sound (omega arith) in
      let is : available opening (e ∷ h) ≡ available opening h + amount = omega (arith, moves) in ap reply.Credited is
  credit_by false amount moment =
      let e : EntryData = record { seat = 0; asked = Credits amount moment; reply = reply.CreditOver 0 } in
      let moves = available_moves opening h e sound (omega arith) in
      let is : available opening (e ∷ h) ≡ available opening h = omega (arith, moves) in ap reply.CreditOver is

  pub credit_answer : (amount : ℕ) (moment : Option ℕ) → answer opening until h (Credits amount moment) ≡ credit_reply (available opening h) (opening + credits h) amount
  unfolding answer
  credit_answer amount moment = credit_by (nat_le (opening + credits h + amount) 1000000000000000) amount moment

  reserve_by : (denied : Bool) (c : ℕ) (plan : Rates) (wanted least at units : ℕ) (last : Bool) → (known c h).returned ≡ false
      → taken_of (known_after (known c h) (deed_of (Reserves c plan wanted least at) (if denied then reply.Denied 0 else reply.Granted units last 0))) ≤ available opening h + taken_of (known c h)
      → showing (available opening (record { seat = 0; asked = Reserves c plan wanted least at; reply = if denied then reply.Denied 0 else reply.Granted units last 0 } ∷ h))
      (if denied then reply.Denied 0 else reply.Granted units last 0)
      ≡ (if denied then reply.Denied (available opening h)
      else reply.Granted units last (available opening h + taken_of (known c h) - ceiling_of (plan_in_force (known c h) plan) (known c h).times units))
  reserve_by true c plan wanted least at units last here within =
      let e : EntryData = record { seat = 0; asked = Reserves c plan wanted least at; reply = reply.Denied 0 } in
      let moves = available_moves opening h e sound within in
      let is : available opening (e ∷ h) ≡ available opening h = omega (arith, moves) in ap reply.Denied is
  reserve_by false c plan wanted least at units last here within =
      let e : EntryData = record { seat = 0; asked = Reserves c plan wanted least at; reply = reply.Granted units last 0 } in
      let moves = available_moves opening h e sound within in
      let held = taken_granted (known c h) plan units here in
      let is : available opening (e ∷ h) ≡ available opening h + taken_of (known c h) - ceiling_of (plan_in_force (known c h) plan) (known c h).times units = omega (arith, moves, held) in
      ap (reply.Granted units last) is

  pub reserve_answer : (c : ℕ) (plan : Rates) (wanted least at : ℕ) → (known c h).returned ≡ false
      → IsFitting (available opening h) (known c h) (deed_of (Reserves c plan wanted least at) (bare_reply opening until h (Reserves c plan wanted least at)))
      → answer opening until h (Reserves c plan wanted least at)
      ≡ reserve_reply (available opening h) (known c h) plan wanted least (is_past (last_moment until h) at) (units_offered (available opening h) (known c h) plan wanted)
  unfolding answer
  reserve_answer c plan wanted least at here fitting =
      reserve_by _ c plan wanted least at (units_offered (available opening h) (known c h) plan wanted) _ here fitting.covered

  settle_by : (times : Option Elapsed) (c number : ℕ) (info : TimeInfo) → is_open (known c h) ≡ true
      → taken_of (known_after (known c h) (deed_of (Settles c number info) (settle_verdict (known c h) times))) ≤ available opening h + taken_of (known c h)
      → showing (available opening (record { seat = 0; asked = Settles c number info; reply = settle_verdict (known c h) times } ∷ h)) (settle_verdict (known c h) times)
      ≡ settle_reply (available opening h) (known c h) times
  settle_by None c number info open_yet within =
      let e : EntryData = record { seat = 0; asked = Settles c number info; reply = settle_verdict (known c h) None } in
      let moves = available_moves opening h e sound within in
      let is : available opening (e ∷ h) ≡ available opening h = omega (arith, moves, taken_open (known c h) open_yet, taken_open (known_after (known c h) Forfeits) open_yet) in
      ap (reply.Forfeit (known c h).top) is
  settle_by (Some times) c number info open_yet within =
      let e : EntryData = record { seat = 0; asked = Settles c number info; reply = settle_verdict (known c h) (Some times) } in
      let moves = available_moves opening h e sound within in
      let is : available opening (e ∷ h) ≡ available opening h = omega (arith, moves, taken_open (known c h) open_yet, taken_open (known_after (known c h) (Reports info)) open_yet) in
      ap (reply.Settled (price_under (known c h).plan times)) is

  pub settle_answer : (c number : ℕ) (info : TimeInfo) → is_open (known c h) ≡ true
      → IsFitting (available opening h) (known c h) (deed_of (Settles c number info) (bare_reply opening until h (Settles c number info)))
      → answer opening until h (Settles c number info) ≡ settle_reply (available opening h) (known c h) (accepted_times (known c h) info)
  unfolding answer
  settle_answer c number info open_yet fitting = settle_by (accepted_times (known c h) info) c number info open_yet fitting.covered

  pub return_answer : (c : ℕ) → is_open (known c h) ≡ true
      → IsFitting (available opening h) (known c h) (deed_of (Returns c) (bare_reply opening until h (Returns c)))
      → answer opening until h (Returns c) ≡ return_reply (available opening h) (known c h)
  unfolding answer
  return_answer c open_yet fitting =
      let e : EntryData = record { seat = 0; asked = Returns c; reply = reply.Returned (paid_of (known c h)) 0 } in
      let moves = available_moves opening h e sound fitting.covered in
      let is : available opening (e ∷ h) ≡ available opening h + taken_of (known c h) - paid_of (known c h) =
      omega (arith, moves, taken_ended (known c h) (paid_of (known c h)) open_yet) in
      ap (reply.Returned (paid_of (known c h))) is

  -- the answer to an admissible operation
  pub answer_for : AnswersFit opening until h → (asked : Asked) → inadmissible h asked ≡ None
      → answer opening until h asked ≡ reply_for (available opening h) (opening + credits h) (last_moment until h) (known (call_of asked) h) asked
  answer_for fitting (Credits amount moment) is = credit_answer amount moment
  answer_for fitting (Reserves c plan wanted least at) is =
      reserve_answer c plan wanted least at (none_if (known c h).returned fault.CallUsed (in_place h (Reserves c plan wanted least at) is).1) (fitting (Reserves c plan wanted least at) is)
  answer_for fitting (Settles c number info) is =
      settle_answer c number info (none_else (is_open (known c h)) fault.NotOpen (in_place h (Settles c number info) is).1) (fitting (Settles c number info) is)
  answer_for fitting (Returns c) is = return_answer c (none_else (is_open (known c h)) fault.NotOpen (in_place h (Returns c) is).1) (fitting (Returns c) is)

-- ---- what an answer shows

pub shown_by_showing : (response : Reply) (credit : ℕ) → shown_by (showing credit response) ≡ credit
shown_by_showing (reply.Credited available) credit = refl
shown_by_showing (reply.CreditOver available) credit = refl
shown_by_showing (reply.Granted units last available) credit = refl
shown_by_showing (reply.Denied available) credit = refl
shown_by_showing (reply.Settled paid available) credit = refl
shown_by_showing (reply.Forfeit paid available) credit = refl
shown_by_showing (reply.Returned paid available) credit = refl

-- neither the seat nor what a reply shows is read
available_showing : (opening : ℕ) (h : List EntryData) (seat credit : ℕ) (asked : Asked) (response : Reply)
    → available opening (record { seat = seat; asked = asked; reply = showing credit response } ∷ h) ≡ available opening (record { seat = 0; asked = asked; reply = response } ∷ h)
unfolding available taken_by_all deed
available_showing opening h seat credit (Credits amount moment) (reply.Credited available) = refl
available_showing opening h seat credit (Reserves call plan wanted least at) (reply.Granted units last available) = refl
available_showing opening h seat credit (Settles call number info) (reply.Settled paid available) = refl
available_showing opening h seat credit (Settles call number info) (reply.Forfeit paid available) = refl
available_showing opening h seat credit (Returns call) (reply.Returned paid available) = refl
available_showing opening h seat credit asked response = refl

-- an answer shows what is available after it
pub answer_shows : (opening : ℕ) (until : Option ℕ) (h : List EntryData) (entry : EntryData) → entry.reply ≡ answer opening until h entry.asked → shown_by entry.reply ≡ available opening (entry ∷ h)
unfolding answer
answer_shows opening until h entry is =
    let response : Reply = bare_reply opening until h entry.asked in
    let credit : ℕ = available opening (record { seat = 0; asked = entry.asked; reply = response } ∷ h) in
    let P : Reply → Type 0 = λ r. shown_by r ≡ available opening (record { seat = entry.seat; asked = entry.asked; reply = r } ∷ h) in
    subst P (sym is) (shown_by_showing response credit ∙ sym (available_showing opening h entry.seat credit entry.asked response))
