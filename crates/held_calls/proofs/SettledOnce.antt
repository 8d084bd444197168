-- A report of a call that goes on is settled once.
use Rattle.std.proofs.Common.{◌≡◌, ◌<◌, ◌++◌, ◌∙◌, ℕ, zero, suc, Bool, true, false, Option, None, Ok, Err, List, [], ◌∷◌, length, refl, sym, ap, subst, append-nil}
use Rattle.std.specs.Prelude.{◌==◌, if◌then◌else◌, slice_index_or}
use Rattle.std.specs.Map.{keys_of}
use Rattle.std.proofs.lemmas.Grind.{flat_map-append}
use Rattle.std.proofs.lemmas.List.{append_assoc}
use Rattle.account_core.specs.Asked.{Credits, Settles}
use Rattle.account_core.specs.Entries.{EntryData}
use Rattle.account_core.specs.declared.fault.AccountFault.{AccountFault}
use Rattle.cap_values.specs.declared.message.SsfMsg.TheVariants as msg
use Rattle.dialogue_core.specs.Phases.{Phase, Says, Settling, Asks}
use Rattle.dialogue_core.specs.Rules.{Step, on_begin}
use Rattle.price_core.specs.declared.times.TimeInfo.{TimeInfo}
use Rattle.runs_core.proofs.OwnCalls.{TakesTo, begun_about, kept_got, settled_by, takes_answer, talked_about}
use Rattle.held_calls.proofs.Talked.{begun_settles, no_settle, talk_settles}
use Rattle.held_calls.proofs.Asking.{taken_on}
use Rattle.held_calls.proofs.Chaining.{once_sound}
use Rattle.held_calls.proofs.Growing.{place_within, read_as_before, read_talked}
use Rattle.runs_core.proofs.Handling.{Means, at_place, means_on}
use Rattle.held_calls.proofs.Sound.{many_keys, own_of}
use Rattle.held_calls.proofs.Parts.{part_both, part_through}
use Rattle.runs_core.specs.Chains.{seat_numbers}
use Rattle.held_calls.specs.Chains.{AreHandled}
use Rattle.runs_core.specs.Handled.{Holding, IsDone, IsTalked, AnswerView}
use Rattle.held_calls.specs.Workers.{AreSettledFor, ReportsAreSettled}
use Rattle.runs_core.specs.Served.{AreServed, IsPart, Report, reported_in, reports_of, settled_in, settles_of}
use Rattle.run_values.specs.Setups.{Setup}
use Rattle.dialogue_core.specs.Talks.{Got, is_ask, talked}
use Rattle.runs_core.specs.Talks.{entries_of, entry_of, last_fault}
use Rattle.runs_core.specs.Verdicts.{Verdict, Strays, Rejects, Recharges, Begins, GoesOn, verdict_on}
use Rattle.runs_core.specs.Workers.{IsAbout}
use Rattle.held_calls.specs.Sound.{IsSoundHolding}
use Rattle.run_values.specs.declared.post.Post.{Post}

-- ---- what one post adds to the reports that are settled in a list

part_if : {X : Type 0} (b : Bool) (part whole : List X) → IsPart part whole → IsPart (if b then part else []) whole
part_if true part whole is = is
part_if false part whole is = tt

-- some reports, all of these
record AddsPart (place : ℕ) (old new : Holding) (whole : List Report) : Type 0 where
  more : List Report
  is : settles_of (slice_index_or new.lists place []) ≡ settles_of (slice_index_or old.lists place []) ++ more
  part : IsPart more whole

adds_none : (place : ℕ) (old new : Holding) (whole : List Report) → settles_of (slice_index_or new.lists place []) ≡ settles_of (slice_index_or old.lists place []) → AddsPart place old new whole
adds_none place old new whole same = record { more = []; is = same ∙ sym (append-nil (settles_of (slice_index_or old.lists place []))); part = tt }

talk_adds : (numbers : List ℕ) (call at place : ℕ) (first : Says × Phase) (old new : Holding) (t : AnswerView) (whole : List Report) → at < length old.lists → IsAbout call first.1
    → IsPart (settled_by first.0) whole → IsTalked numbers call at first old new t → AddsPart place old new whole
talk_adds numbers call at place first old new t whole within about part is =
    let entries = entries_of (slice_index_or numbers at 0) first is.gots in
    record {
      more = if place == at then settles_of entries else [];
      is = read_talked (λ (e : EntryData). settled_in e.asked) numbers call at place first old new t within is;
      part =
          part_if (place == at) (settles_of entries) whole
          (part_through (settles_of entries) (settled_by first.0) whole (talk_settles (slice_index_or numbers at 0) call first is.gots about) part);
    }

credit_settles : (seat amount : ℕ) (until : Option ℕ) (got : Got) → settles_of (entry_of seat (Asks (Credits amount until)) got) ≡ []
credit_settles seat amount until (Ok reply) = refl
credit_settles seat amount until (Err fault) = refl

adds_by : (setup : Setup) (numbers : List ℕ) (posts : List Post) (post : Post) (place : ℕ) (v : Verdict) (old new : Holding) (t : AnswerView) → IsSoundHolding (keys_of setup.accounts) posts old
    → Means setup old.talks post.number post.at post.body v → IsDone setup numbers post.at v old new t → AddsPart place old new (reported_in post.number post.body)
adds_by setup numbers posts post place Strays old new t sound m done = adds_none place old new (reported_in post.number post.body) (rw done.lists refl)
adds_by setup numbers posts post place Rejects old new t sound m done = adds_none place old new (reported_in post.number post.body) (rw done.lists refl)
adds_by setup numbers posts post place (Recharges there amount until) old new t sound m done =
    adds_none place old new (reported_in post.number post.body)
    (rw done.lists
    (read_as_before (λ (e : EntryData). settled_in e.asked) old.lists there place (entry_of (slice_index_or numbers there 0) (Asks (Credits amount until)) done.got)
    (place_within setup posts old there sound (at_place setup m.account there m.at).0) (credit_settles (slice_index_or numbers there 0) amount until done.got)))
adds_by setup numbers posts post place (Begins call at called) old new t sound m done =
    let wanted : ℕ = setup.service.wanted in
    let least : ℕ = setup.service.least in
    let P : List Report → Type 0 = λ l. IsPart l (reported_in post.number post.body) in
    talk_adds numbers call at place (on_begin call post.at wanted least done.route) old new t (reported_in post.number post.body) (place_within setup posts old at sound m.within)
    (begun_about call post.at wanted least done.route) (subst P (sym (begun_settles call post.at wanted least done.route)) tt) done.talked
adds_by setup numbers posts post place (GoesOn call at said phase) old new t sound m done =
    let own = own_of (length (keys_of setup.accounts)) posts call m.standing (old.talks call) m.stands (sound.talks call) in
    let P : Step → Type 0 = λ step. TakesTo call post.number m.message step in
    let takes : TakesTo call post.number m.message (Ok (said, phase)) = subst P m.takes (takes_answer call post.number post.at m.standing.phase m.message own.is.about) in
    talk_adds numbers call at place (said, phase) old new t (reported_in post.number post.body) (place_within setup posts old at sound (rw (← m.same, ← many_keys setup) own.is.placed)) takes.0
    (rw m.is takes.2) done

-- what further posts add
adds_after : (setup : Setup) (numbers : List ℕ) (place : ℕ) (done posts : List Post) (refusals : List (Option AccountFault)) (old new : Holding) → IsSoundHolding (keys_of setup.accounts) done old
    → AreHandled setup numbers posts refusals old new → AddsPart place old new (reports_of posts)
adds_after setup numbers place done [] [] old new sound are = adds_none place old new [] (ap (λ (h : Holding). settles_of (slice_index_or h.lists place [])) (sym are))
adds_after setup numbers place done [] (refusal ∷ refusals) old new sound are = absurd are
adds_after setup numbers place done (post ∷ posts) [] old new sound are = absurd are
adds_after setup numbers place done (post ∷ posts) (refusal ∷ refusals) old new sound are =
    let once =
    adds_by setup numbers done post place (verdict_on setup old.talks post.number post.at post.body) old are.0 are.1.answer sound (means_on setup old.talks post.number post.at post.body) are.1.handled.done in
    let rest = adds_after setup numbers place (done ++ post ∷ []) posts refusals are.0 new (once_sound setup numbers done post refusal old are.0 sound are.1) are.2 in
    record {
      more = once.more ++ rest.more;
      is = rest.is ∙ ap (λ l. l ++ rest.more) once.is ∙ append_assoc (settles_of (slice_index_or old.lists place [])) once.more rest.more;
      part = part_both once.more (reported_in post.number post.body) rest.more (reports_of posts) once.part rest.part;
    }

served_at : (accounts : List ℕ) (posts : List Post) (lists : List (List EntryData)) (place : ℕ) → AreServed accounts posts lists
    → IsPart (settles_of (slice_index_or lists place [])) (reports_of posts)
served_at [] posts [] place are = tt
served_at [] posts (mine ∷ lists) place are = absurd are
served_at (account ∷ accounts) posts [] place are = absurd are
served_at (account ∷ accounts) posts (mine ∷ lists) zero are = are.0.settles
served_at (account ∷ accounts) posts (mine ∷ lists) (suc place) are = served_at accounts posts lists place are.1

-- ---- the report of a call that goes on

-- with no fault, a talk that begins with a Settle has it, and no other one
settles_once : (seat call number : ℕ) (info : TimeInfo) (to : Phase) (got : Got) (earlier : List Got) → IsAbout call to → last_fault (got ∷ earlier) ≡ None
    → settles_of (entries_of seat (Asks (Settles call number info), to) (got ∷ earlier)) ≡ (number, call, info) ∷ []
settles_once seat call number info to (Err fault) earlier about none = absurd (cc)
settles_once seat call number info to (Ok reply) [] about none = refl
settles_once seat call number info to (Ok reply) (last ∷ earlier) about none =
    let first : Says × Phase = (Asks (Settles call number info), to) in
    let before = entries_of seat first (last ∷ earlier) in
    let said : Says = (talked first (last ∷ earlier)).0 in
    flat_map-append (λ (e : EntryData). settled_in e.asked) before (entry_of seat said (Ok reply))
    ∙ ap (λ l. settles_of before ++ l) (no_settle seat said (Ok reply) (kept_got call (talked first earlier).1 last (talked_about call first earlier about)).2) ∙ append-nil (settles_of before)
    ∙ settles_once seat call number info to last earlier about none

talk_settles_once : (seat call number : ℕ) (info : TimeInfo) (to phase : Phase) (last : Says) (gots : List Got) → IsAbout call to → talked (Asks (Settles call number info), to) gots ≡ (last, phase)
    → is_ask last ≡ false → last_fault gots ≡ None → settles_of (entries_of seat (Asks (Settles call number info), to) gots) ≡ (number, call, info) ∷ []
talk_settles_once seat call number info to phase last [] about talk rests none =
    let is : Asks (Settles call number info) ≡ last = ap (λ (p : Says × Phase). p.0) talk in let never : true ≡ false = ap is_ask is ∙ rests in absurd (cc)
talk_settles_once seat call number info to phase last (got ∷ earlier) about talk rests none = settles_once seat call number info to got earlier about none

pub reports_are_settled : ReportsAreSettled
reports_are_settled setup number before post lists old call place active info is running body at =
    let numbers = seat_numbers number setup in
    let its : ℕ = running.terms.call in
    let to : Phase = Settling running.terms active post.at in
    let taken = taken_on setup number before post lists old call place (msg.ChargingReport active info) (Asks (Settles its post.number info)) to is running body refl in
    let talk = taken.0.talk in
    let once = talk_settles_once (slice_index_or numbers place 0) its post.number info to talk.phase talk.last talk.gots refl talk.talk talk.rests (sym talk.refused ∙ is.handles.refused) in
    let gained =
    read_talked (λ (e : EntryData). settled_in e.asked) numbers call place at (Asks (Settles its post.number info), to) old is.between is.handles.answer taken.0.within talk
    ∙ ap (λ l. settles_of (slice_index_or old.lists at []) ++ (if at == place then l else [])) once in
    let rest =
    adds_after setup numbers at (before ++ post ∷ []) is.after is.refused_after is.between is.new (once_sound setup numbers before post None old is.between taken.0.sound is.handles) is.ends in
    let P : ℕ → Type 0 =
    λ c. AreSettledFor before is.after (if at == place then (post.number, c, info) ∷ [] else []) (slice_index_or old.lists at []) (slice_index_or lists at []) in
    subst P taken.1
    (record {
      later = rest.more;
      is =
          ap (λ all. settles_of (slice_index_or all at [])) (sym is.lists_are)
          ∙ (rest.is ∙ ap (λ l. l ++ rest.more) gained
          ∙ append_assoc (settles_of (slice_index_or old.lists at [])) (if at == place then (post.number, its, info) ∷ [] else []) rest.more);
      of_earlier = served_at (keys_of setup.accounts) before old.lists at taken.0.sound.served;
      of_later = rest.part;
    })
