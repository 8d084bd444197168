-- A seat keeps the room for what its own entries owe.
use Rattle.std.proofs.Common.{◌≡◌, ℕ, ◌+◌, ◌-◌, ◌≤◌, Bool, true, false, Option, None, List, [], ◌∷◌, ◌++◌, length, refl, sym, ap, ◌∙◌, arith, subst}
use Rattle.std.specs.Prelude.{◌==◌, if◌then◌else◌, map, reverse}
use Rattle.std.specs.Vec.{vec_capacity}
use Rattle.std.specs.BTreeMap.{insert_entry, is_at}
use Rattle.std.specs.Map.{lookup}
use Rattle.std.specs.Ordering.{nat_cmp}
use Rattle.std.specs.declared.vec.Vec.{Vec}
use Rattle.std.specs.declared.alloc.Global.{Global}
use Rattle.std.proofs.lemmas.Bool.{eqb-true}
use Rattle.std.proofs.lemmas.List.{length-map, length-reverse}
use Rattle.account_core.proofs.Moves.{its_call, its_deed, known_here, known_apart}
use Rattle.account_core.proofs.Entering.{credit_rests, past_pushed}
use Rattle.account_core.proofs.Asking.{asked_call}
use Rattle.account_core.specs.Answers.{answer}
use Rattle.account_core.specs.Asked.{Asked, Credits, IsCredit, IsOfCall, Reserves, Returns, Settles, call_of}
use Rattle.account_core.specs.CallStages.{stage_of}
use Rattle.account_core.specs.Entries.{EntryData, entry_data}
use Rattle.account_core.specs.Known.{CallFacts, Rests, deed_of, is_open, known, known_after}
use Rattle.account_core.specs.Places.{needed_by, owed, owed_to}
use Rattle.account_core.specs.SharingLaws.{EntriesOweToTheirCalls}
use Rattle.account_core.specs.declared.call_stage.CallStage.{CallStage}
use Rattle.account_core.specs.declared.call_stage.CallStage.TheVariants.{Fresh}
use Rattle.account_core.specs.declared.entry.Entry.{Entry}
use Rattle.account_core.specs.declared.entry.Reply.{Reply}
use Rattle.account_core.specs.declared.entry.Reply.TheVariants as reply
use Rattle.account_core.proofs.Owing.{owes_denied, owes_end, owes_grant, owes_report}
use Rattle.account_core.proofs.RisingLemmas.{kept_of}
use Rattle.account_core.specs.Kinds.{IsReplyTo}
use Rattle.locked_account.specs.Room.{IsRoomy, ShowsStages, stage_in}
use Rattle.locked_account.specs.declared.seat.Seat.TheInside.{Inside}
use Rattle.account_core.proofs.ReplyKinds.{answer_fits}
use Rattle.account_core.proofs.Knowing.{known_resting}

-- ---- the places of one call

-- an entry and what is owed after it take the places that were owed and needed
owes : (known : CallFacts) (asked : Asked) (response : Reply) → IsReplyTo asked response
    → 1 + owed_to (known_after known (deed_of asked response)) ≤ owed_to known + needed_by known asked
unfolding owed_to
owes known (Credits amount moment) (reply.Credited available) fits = omega arith
owes known (Credits amount moment) (reply.CreditOver available) fits = omega arith
owes known (Reserves call plan wanted least at) (reply.Granted units last available) fits =
    owes_grant known.plan known.returned known.awaits call plan wanted least at
owes known (Reserves call plan wanted least at) (reply.Denied available) fits = omega (arith, owes_denied (is_open known) known.awaits call plan wanted least at)
owes known (Settles call number info) (reply.Settled paid available) fits = owes_report (is_open known) known.awaits
owes known (Settles call number info) (reply.Forfeit paid available) fits = owes_report (is_open known) known.awaits
owes known (Returns call) (reply.Returned paid available) fits = owes_end known.plan known.returned known.awaits
owes known asked response fits = absurd fits

-- ---- the map

-- what a map has for a call after another stage of one is put there
stage_put : (stages : List (ℕ × CallStage)) (put : ℕ) (after : CallStage) (call : ℕ)
    → stage_in (insert_entry nat_cmp stages put after) call ≡ (if put == call then after else stage_in stages call)
stage_put stages put after call = kept_of stages (insert_entry nat_cmp stages put after) put after call Fresh refl

fresh_by : (here : Bool) (stages : List (ℕ × CallStage)) (put call : ℕ) → (put == call) ≡ here → lookup (is_at (nat_cmp put)) stages ≡ None
    → (if here then Fresh else stage_in stages call) ≡ stage_in stages call
fresh_by true stages put call is none =
    let P : ℕ → Type 0 = λ c. Fresh ≡ stage_in stages c in
    subst P (eqb-true put call is) (rw none refl)
fresh_by false stages put call is none = refl

-- a call that has no stage is given the one that it is at
pub fresh_put : (stages : List (ℕ × CallStage)) (put : ℕ) → lookup (is_at (nat_cmp put)) stages ≡ None
    → (call : ℕ) → stage_in (insert_entry nat_cmp stages put Fresh) call ≡ stage_in stages call
fresh_put stages put none call = stage_put stages put Fresh call ∙ fresh_by _ stages put call refl none

tells_by : (here : Bool) (stages : List (ℕ × CallStage)) (h : List EntryData) (entry : EntryData) (after : CallStage) (call : ℕ) → (its_call entry == call) ≡ here
    → ShowsStages stages h → after ≡ stage_of (known (its_call entry) (entry ∷ h))
    → (if here then after else stage_in stages call) ≡ stage_of (known call (entry ∷ h))
tells_by true stages h entry after call is tells after_is =
    let P : ℕ → Type 0 = λ c. after ≡ stage_of (known c (entry ∷ h)) in
    subst P (eqb-true (its_call entry) call is) after_is
tells_by false stages h entry after call is tells after_is = tells call ∙ ap stage_of (sym (known_apart h entry call is))

-- a map that has the same stages
pub roomy_same : (h : List EntryData) (old new : List (ℕ × CallStage)) (places capacity : ℕ) → ((call : ℕ) → stage_in new call ≡ stage_in old call)
    → IsRoomy h old places capacity → IsRoomy h new places capacity
roomy_same h old new places capacity same roomy =
    record { room = roomy.room; tells = λ call. same call ∙ roomy.tells call; places_are = roomy.places_are }

-- ---- the whole

-- what a seat held for a call, with its entry that an account answered, and what it holds then
pub record IsEntry (h : List EntryData) (entry : EntryData) (before after : CallStage) (owed_before owed_now needs : ℕ) : Type 0 where
  pub fits : IsReplyTo entry.asked entry.reply
  pub after_is : after ≡ stage_of (known_after (known (its_call entry) h) (its_deed entry))
  pub before_owed : owed_before ≡ owed_to (known (its_call entry) h)
  pub now_owed : stage_of (known (its_call entry) (entry ∷ h)) ≡ after → owed_now ≡ owed_to (known (its_call entry) (entry ∷ h))
  pub needs_are : needs ≡ needed_by (known (its_call entry) h) entry.asked

module _ (moves : EntriesOweToTheirCalls) (h : List EntryData) (entry : EntryData) (before after : CallStage) (owed_before owed_now needs : ℕ)
    (made : IsEntry h entry before after owed_before owed_now needs) where
  after_known : after ≡ stage_of (known (its_call entry) (entry ∷ h))
  after_known = made.after_is ∙ ap stage_of (sym (known_here h entry))

  pub owed_moves : owed (entry ∷ h) + owed_before ≡ owed h + owed_now
  owed_moves = omega (arith, moves h entry, made.before_owed, made.now_owed (sym after_known))

  pub owed_after : 1 + owed (entry ∷ h) ≤ owed h + needs
  owed_after =
      let takes = owes (known (its_call entry) h) entry.asked entry.reply made.fits in
      let now : owed_now ≡ owed_to (known_after (known (its_call entry) h) (its_deed entry)) = made.now_owed (sym after_known) ∙ ap owed_to (known_here h entry) in
      omega (arith, owed_moves, takes, now, made.before_owed, made.needs_are)

  pub roomy_after : (call : ℕ) (old new : List (ℕ × CallStage)) (places places' capacity capacity' : ℕ) → its_call entry ≡ call → IsRoomy h old places capacity
      → new ≡ insert_entry nat_cmp old call after → places' ≡ places + owed_now - owed_before → length h + (places + needs) ≤ capacity'
      → IsRoomy (entry ∷ h) new places' capacity'
  roomy_after call old new places places' capacity capacity' its roomy new_is places'_are room =
      let put : new ≡ insert_entry nat_cmp old (its_call entry) after = rw its new_is in
      let now_owed : places' ≡ owed (entry ∷ h) = omega (arith, owed_moves, places'_are, roomy.places_are) in
      record {
        room = omega (arith, room, owed_after, roomy.places_are, now_owed);
        tells = λ other. ap (λ stages. stage_in stages other) put ∙ (stage_put old (its_call entry) after other ∙ tells_by _ old h entry after other refl roomy.tells after_known);
        places_are = now_owed;
      }

pub roomy_resting : EntriesOweToTheirCalls → (h : List EntryData) (entry : EntryData) (kept : List (ℕ × CallStage)) (places capacity capacity' : ℕ) → IsRoomy h kept places capacity
    → its_deed entry ≡ Rests → length h + (places + 1) ≤ capacity' → IsRoomy (entry ∷ h) kept places capacity'
roomy_resting moves h entry kept places capacity capacity' roomy rests room =
    let same : owed_to (known (its_call entry) (entry ∷ h)) ≡ owed_to (known (its_call entry) h) = ap owed_to (known_resting h entry (its_call entry) rests) in
    record {
      room = omega (arith, room);
      tells = λ call. roomy.tells call ∙ ap stage_of (sym (known_resting h entry call rests));
      places_are = omega (arith, moves h entry, same, roomy.places_are);
    }

nothing_owed : owed [] ≡ 0
unfolding owed
nothing_owed = refl

pub roomy_new : (mine : Vec Entry Global) (kept : List (ℕ × CallStage)) → mine.items ≡ [] → kept ≡ []
    → IsRoomy (reverse (map entry_data mine.items)) kept 0 (vec_capacity mine)
roomy_new mine kept none empty =
    let R : List Entry → Type 0 = λ es. IsRoomy (reverse (map entry_data es)) kept 0 (vec_capacity mine) in
    subst R (sym none) (record { room = omega arith; tells = λ call. rw empty refl; places_are = sym nothing_owed })

-- ---- the same of a seat's fields

-- a seat's list with an entry at its end
pub roomy_pushed : (old items : List Entry) (entry : Entry) (kept : List (ℕ × CallStage)) (places capacity : ℕ) → items ≡ old ++ entry ∷ []
    → IsRoomy (entry_data entry ∷ reverse (map entry_data old)) kept places capacity → IsRoomy (reverse (map entry_data items)) kept places capacity
roomy_pushed old items entry kept places capacity is roomy =
    let R : List EntryData → Type 0 = λ h. IsRoomy h kept places capacity in
    subst R (sym (ap (λ es. reverse (map entry_data es)) is ∙ past_pushed old entry)) roomy

pub length_past : (old : List Entry) → length (reverse (map entry_data old)) ≡ length old
length_past old = length-reverse (map entry_data old) ∙ length-map old entry_data

pub credit_roomy : EntriesOweToTheirCalls → (old : List Entry) (entry : Entry) (kept : List (ℕ × CallStage)) (places capacity capacity' : ℕ)
    → IsRoomy (reverse (map entry_data old)) kept places capacity → IsCredit (entry_data entry).asked → length old + (places + 1) ≤ capacity'
    → IsRoomy (entry_data entry ∷ reverse (map entry_data old)) kept places capacity'
credit_roomy moves old entry kept places capacity capacity' roomy credit room =
    roomy_resting moves (reverse (map entry_data old)) (entry_data entry) kept places capacity capacity' roomy
    (credit_rests (entry_data entry).asked (entry_data entry).reply credit) (omega (arith, room, length_past old))

-- what an account answered to an operation of a call, by the stages of the call
pub is_entry : (s : Inside) → IsRoomy (reverse (map entry_data s.mine.items)) s.stages s.owed (vec_capacity s.mine)
    → (opening : ℕ) (until : Option ℕ) (past : List EntryData) (seat call : ℕ) (asked : Asked) (response : Reply) (before after : CallStage) (owed_before owed_now needs : ℕ)
    → IsOfCall call asked → response ≡ answer opening until past asked → before ≡ stage_in s.stages call
    → ((known : CallFacts) → stage_of known ≡ before → after ≡ stage_of (known_after known (deed_of asked response)))
    → ((known : CallFacts) → stage_of known ≡ before → owed_before ≡ owed_to known)
    → ((known : CallFacts) → stage_of known ≡ after → owed_now ≡ owed_to known)
    → ((known : CallFacts) → stage_of known ≡ before → needs ≡ needed_by known asked)
    → IsEntry (reverse (map entry_data s.mine.items)) (record { seat = seat; asked = asked; reply = response }) before after owed_before owed_now needs
is_entry s roomy opening until past seat call asked response before after owed_before owed_now needs here response_is before_is after_is before_owed now_owed needs_are =
    let R : Reply → Type 0 = IsReplyTo asked in
    let h : List EntryData = reverse (map entry_data s.mine.items) in
    let C : ℕ → Type 0 = λ c. stage_of (known c h) ≡ before in
    let before_known : stage_of (known (call_of asked) h) ≡ before = subst C (sym (asked_call call asked here)) (sym (before_is ∙ roomy.tells call)) in
    record {
      fits = subst R (sym response_is) (answer_fits opening until past asked);
      after_is = after_is (known (call_of asked) h) before_known;
      before_owed = before_owed (known (call_of asked) h) before_known;
      now_owed = now_owed (known (call_of asked) (record { seat = seat; asked = asked; reply = response } ∷ h));
      needs_are = needs_are (known (call_of asked) h) before_known;
    }
