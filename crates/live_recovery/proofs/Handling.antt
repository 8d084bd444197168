-- Posts that are handled twice, by workers that hold the same, are handled alike.
use Rattle.std.proofs.Common.{◌≡◌, ◌<◌, ◌++◌, ◌==◌, ℕ, zero, suc, Bool, true, false, Option, Some, None, List, [], ◌∷◌, length, refl, sym, ap, subst, ◌∙◌, arith}
use Rattle.std.specs.Prelude.{if◌then◌else◌, slice_index_or}
use Rattle.account_core.specs.Answers.{IsLegal}
use Rattle.account_core.specs.Asked.{Credits}
use Rattle.account_core.specs.Entries.{EntryData}
use Rattle.account_core.specs.declared.fault.AccountFault.{AccountFault}
use Rattle.cap_values.specs.NumberDigits.{digits_of_number}
use Rattle.cap_values.specs.Orders.{Order, Release}
use Rattle.dialogue_core.specs.Phases.{Phase, Says, Asks, Closed}
use Rattle.dialogue_core.specs.Rules.{on_begin}
use Rattle.dialogue_core.specs.Talks.{Got, is_ask, orders_sent_by, talked}
use Rattle.live_recovery.proofs.Routing.{begins_alike}
use Rattle.live_recovery.proofs.Talking.{AreEntered, same_got, same_gots}
use Rattle.tariff_core.specs.Laws.{IsProper}
use Rattle.run_values.specs.Setups.{Setup}
use Rattle.run_values.specs.declared.post.Post.{Post}
use Rattle.account_core.proofs.Beginnings.{begins_itself, begins_further}
use Rattle.account_core.specs.Prefixes.{IsPrefix}
use Rattle.runs_core.proofs.Handling.{Means, at_place, standing_so}
use Rattle.runs_core.specs.Handled.{AnswerView, Holding, IsDone, IsRecharged, IsTalked, IsUnasked, Stay, StandsNow, grown}
use Rattle.runs_core.specs.Talks.{AllAsk, entries_of, last_fault}
use Rattle.runs_core.specs.Verdicts.{Begins, DialogueAt, GoesOn, Recharges, Rejects, Strays, Verdict}
use Rattle.runs_core.specs.Workers.{ArePlaced, IsPlaced}

-- ---- lists grow

grown_begins : (lists : List (List EntryData)) (at place : ℕ) (entries : List EntryData) → IsPrefix (slice_index_or lists place []) (slice_index_or (grown lists at entries) place [])
grown_begins [] at place entries = begins_itself []
grown_begins (mine ∷ lists) zero zero entries = record { rest = entries; is = refl }
grown_begins (mine ∷ lists) zero (suc place) entries = begins_itself (slice_index_or lists place [])
grown_begins (mine ∷ lists) (suc at) zero entries = begins_itself mine
grown_begins (mine ∷ lists) (suc at) (suc place) entries = grown_begins lists at place entries

grown_here : (lists : List (List EntryData)) (at : ℕ) (entries : List EntryData) → at < length lists → slice_index_or (grown lists at entries) at [] ≡ slice_index_or lists at [] ++ entries
grown_here [] at entries within = absurd (omega (arith, within))
grown_here (mine ∷ lists) zero entries within = refl
grown_here (mine ∷ lists) (suc at) entries within = grown_here lists at entries (omega (arith, within))

grown_many : (lists : List (List EntryData)) (at : ℕ) (entries : List EntryData) → length (grown lists at entries) ≡ length lists
grown_many [] at entries = refl
grown_many (mine ∷ lists) zero entries = refl
grown_many (mine ∷ lists) (suc at) entries = ap suc (grown_many lists at entries)

-- each list begins the one at its place
abbrev pub Begin : List (List EntryData) → List (List EntryData) → Type 0
Begin lists ends = (place : ℕ) → IsPrefix (slice_index_or lists place []) (slice_index_or ends place [])

pub begin_itself : (lists : List (List EntryData)) → Begin lists lists
begin_itself lists place = begins_itself (slice_index_or lists place [])

begin_same : (lists ends : List (List EntryData)) → ends ≡ lists → Begin lists ends
begin_same lists ends same = subst (λ (l : List (List EntryData)). Begin lists l) (sym same) (λ place. begins_itself (slice_index_or lists place []))

begin_grown : (lists ends : List (List EntryData)) (at : ℕ) (entries : List EntryData) → ends ≡ grown lists at entries → Begin lists ends
begin_grown lists ends at entries same = subst (λ (l : List (List EntryData)). Begin lists l) (sym same) (λ place. grown_begins lists at place entries)

pub begin_further : (first second third : List (List EntryData)) → Begin first second → Begin second third → Begin first third
begin_further first second third begin more place =
    begins_further (slice_index_or first place []) (slice_index_or second place []) (slice_index_or third place []) (begin place) (more place)

-- once a post is handled each list goes on from what it was, and there are as many
pub record GoOn (old new : List (List EntryData)) : Type 0 where
  pub begin : Begin old new
  pub many : length new ≡ length old

go_on_same : (old new : List (List EntryData)) → new ≡ old → GoOn old new
go_on_same old new same = record { begin = begin_same old new same; many = ap length same }

go_on_grown : (old new : List (List EntryData)) (at : ℕ) (entries : List EntryData) → new ≡ grown old at entries → GoOn old new
go_on_grown old new at entries same = record { begin = begin_grown old new at entries same; many = ap length same ∙ grown_many old at entries }

pub done_goes_on : (setup : Setup) (numbers : List ℕ) (at : ℕ) (v : Verdict) (old new : Holding) (answer : AnswerView) → IsDone setup numbers at v old new answer → GoOn old.lists new.lists
done_goes_on setup numbers at Strays old new answer done = go_on_same old.lists new.lists done.lists
done_goes_on setup numbers at Rejects old new answer done = go_on_same old.lists new.lists done.lists
done_goes_on setup numbers at (Recharges place amount until) old new answer done = go_on_grown old.lists new.lists place _ done.lists
done_goes_on setup numbers at (Begins call place called) old new answer done = go_on_grown old.lists new.lists place _ done.talked.lists
done_goes_on setup numbers at (GoesOn call place said phase) old new answer done = go_on_grown old.lists new.lists place _ done.lists

-- ---- alike

-- two workers hold the same
pub record HoldAlike (one other : Holding) : Type 0 where
  pub lists : one.lists ≡ other.lists
  pub talks : (call : ℕ) → one.talks call ≡ other.talks call

-- two answers say the same, and what the workers hold then is the same
pub record AreAlike (answer also : AnswerView) (new other : Holding) : Type 0 where
  pub answer_is : answer ≡ also
  pub hold : HoldAlike new other

abbrev at_phase : ℕ → Phase → DialogueAt
at_phase place phase = record { phase = phase; place = place }

abbrev view : ℕ → List Order → Bool → Option AccountFault → AnswerView
view number orders stray refused = record { number = number; orders = orders; stray = stray; refused = refused }

answer_alike : (answer also : AnswerView) → answer.number ≡ also.number → answer.orders ≡ also.orders → answer.stray ≡ also.stray → answer.refused ≡ also.refused → answer ≡ also
answer_alike answer also number orders stray refused =
    let same : view answer.number answer.orders answer.stray answer.refused ≡ view also.number also.orders also.stray also.refused = rw (number, orders, stray, refused) refl in same

stay_alike : (old new again other : ℕ → Option DialogueAt) → ((call : ℕ) → old call ≡ again call) → Stay old new → Stay again other → (call : ℕ) → new call ≡ other call
stay_alike old new again other same stay too call = stay call ∙ same call ∙ sym (too call)

now_alike : (call : ℕ) (standing also : DialogueAt) (old new again other : ℕ → Option DialogueAt) → ((c : ℕ) → old c ≡ again c) → standing ≡ also → StandsNow call standing old new
    → StandsNow call also again other → (c : ℕ) → new c ≡ other c
now_alike call standing also old new again other same is now too c =
    now c ∙ ap (λ (s : DialogueAt). if c == call then Some s else old c) is ∙ ap (λ (found : Option DialogueAt). if c == call then Some also else found) (same c) ∙ sym (too c)

module _ (opening_at : ℕ → ℕ) (until_at : ℕ → Option ℕ) (count : ℕ) where
  -- the lists with which a worker ends are legal histories
  abbrev pub AreLegal : List (List EntryData) → Type 0
  AreLegal ends = (place : ℕ) → place < count → IsLegal (opening_at place) (until_at place) (slice_index_or ends place [])

  -- what the asks of a talk have entered
  entered : (numbers : List ℕ) (place : ℕ) (first : Says × Phase) (old new : Holding) (answer : AnswerView) (gots : List Got) (ends : List (List EntryData))
      → length old.lists ≡ count → place < count → AllAsk first gots → answer.refused ≡ last_fault gots → answer.refused ≡ None
      → new.lists ≡ grown old.lists place (entries_of (slice_index_or numbers place 0) first gots) → Begin new.lists ends → AreLegal ends
      → AreEntered (opening_at place) (until_at place) (slice_index_or numbers place 0) first (slice_index_or old.lists place []) (slice_index_or ends place []) gots
  entered numbers place first old new answer gots ends many within asked refused none lists begin legal =
      let here : slice_index_or new.lists place [] ≡ slice_index_or old.lists place [] ++ entries_of (slice_index_or numbers place 0) first gots =
      ap (λ (l : List (List EntryData)). slice_index_or l place []) lists ∙ grown_here old.lists place (entries_of (slice_index_or numbers place 0) first gots) (omega (arith, many, within)) in
      let B : List EntryData → Type 0 = λ h. IsPrefix h (slice_index_or ends place []) in
      record {
        asked = asked;
        taken = sym refused ∙ none;
        legal = legal place within;
        begins = subst B here (begin place);
      }

  lists_alike : (place : ℕ) (seat : ℕ) (first : Says × Phase) (old new again other : List (List EntryData)) (gots others : List Got) → old ≡ again → gots ≡ others
      → new ≡ grown old place (entries_of seat first gots) → other ≡ grown again place (entries_of seat first others) → new ≡ other
  lists_alike place seat first old new again other gots others same same_gots is too =
      is ∙ ap (λ (l : List (List EntryData)). grown l place (entries_of seat first gots)) same ∙ ap (λ (g : List Got). grown again place (entries_of seat first g)) same_gots ∙ sym too

  talked_alike : (numbers : List ℕ) (call place : ℕ) (first : Says × Phase) (old new again other : Holding) (answer also : AnswerView) (ends endings : List (List EntryData))
      → length old.lists ≡ count → place < count → HoldAlike old again → answer.number ≡ also.number → answer.refused ≡ None → also.refused ≡ None
      → Begin new.lists ends → AreLegal ends → Begin other.lists endings → AreLegal endings
      → IsTalked numbers call place first old new answer → IsTalked numbers call place first again other also → AreAlike answer also new other
  talked_alike numbers call place first old new again other answer also ends endings many within hold number none none_too begin legal begin_too legal_too is too =
      let seat = slice_index_or numbers place 0 in
      let o = opening_at place in
      let u = until_at place in
      let mine = slice_index_or old.lists place [] in
      let mine_too = slice_index_or again.lists place [] in
      let here = entered numbers place first old new answer is.gots ends many within is.asked is.refused none is.lists begin legal in
      let there = entered numbers place first again other also too.gots endings (sym (ap length hold.lists) ∙ many) within too.asked too.refused none_too too.lists begin_too legal_too in
      let E : List EntryData → Type 0 = λ m. AreEntered o u seat first m (slice_index_or endings place []) too.gots in
      let there_same = subst E (ap (λ (l : List (List EntryData)). slice_index_or l place []) (sym hold.lists)) there in
      let rests : is_ask (talked first is.gots).0 ≡ false = ap (λ (p : Says × Phase). is_ask p.0) is.talk ∙ is.rests in
      let rests_too : is_ask (talked first too.gots).0 ≡ false = ap (λ (p : Says × Phase). is_ask p.0) too.talk ∙ too.rests in
      let same = same_gots o u seat first mine (slice_index_or ends place []) (slice_index_or endings place []) is.gots too.gots here there_same rests rests_too in
      let last : (is.last, is.phase) ≡ (too.last, too.phase) = sym is.talk ∙ ap (talked first) same ∙ too.talk in
      record {
        answer_is = answer_alike answer also number (is.orders ∙ ap (λ (p : Says × Phase). orders_sent_by p.0) last ∙ sym too.orders) (is.stray ∙ sym too.stray) (none ∙ sym none_too);
        hold = record {
          lists = lists_alike place seat first old.lists new.lists again.lists other.lists is.gots too.gots hold.lists same is.lists too.lists;
          talks = now_alike call (record { phase = is.phase; place = place }) (record { phase = too.phase; place = place }) old.talks new.talks again.talks other.talks hold.talks
              (ap (λ (p : Says × Phase). at_phase place p.1) last) is.talks too.talks;
        };
      }

  recharged_alike : (numbers : List ℕ) (place amount : ℕ) (until : Option ℕ) (old new again other : Holding) (answer also : AnswerView) (ends endings : List (List EntryData))
      → length old.lists ≡ count → place < count → HoldAlike old again → answer.number ≡ also.number → answer.refused ≡ None → also.refused ≡ None
      → Begin new.lists ends → AreLegal ends → Begin other.lists endings → AreLegal endings
      → IsRecharged numbers place amount until old new answer → IsRecharged numbers place amount until again other also → AreAlike answer also new other
  recharged_alike numbers place amount until old new again other answer also ends endings many within hold number none none_too begin legal begin_too legal_too is too =
      let seat = slice_index_or numbers place 0 in
      let first : Says × Phase = (Asks (Credits amount until), Closed) in
      let here = entered numbers place first old new answer (is.got ∷ []) ends many within (refl, tt) is.refused none is.lists begin legal in
      let there = entered numbers place first again other also (too.got ∷ []) endings (sym (ap length hold.lists) ∙ many) within (refl, tt) too.refused none_too too.lists begin_too legal_too in
      let E : List EntryData → Type 0 = λ m. AreEntered (opening_at place) (until_at place) seat first m (slice_index_or endings place []) (too.got ∷ []) in
      let there_same = subst E (ap (λ (l : List (List EntryData)). slice_index_or l place []) (sym hold.lists)) there in
      let same = same_got (opening_at place) (until_at place) seat first (slice_index_or old.lists place []) (slice_index_or ends place []) (slice_index_or endings place []) is.got too.got [] here there_same in
      record {
        answer_is = answer_alike answer also number (is.orders ∙ sym too.orders) (is.stray ∙ sym too.stray) (none ∙ sym none_too);
        hold = record {
          lists = lists_alike place seat first old.lists new.lists again.lists other.lists (is.got ∷ []) (too.got ∷ []) hold.lists (ap (λ (g : Got). g ∷ []) same) is.lists too.lists;
          talks = stay_alike old.talks new.talks again.talks other.talks hold.talks is.talks too.talks;
        };
      }

  unasked_alike : (orders : List Order) (stray : Bool) (old new again other : Holding) (answer also : AnswerView) → HoldAlike old again → answer.number ≡ also.number
      → IsUnasked orders stray old new answer → IsUnasked orders stray again other also → AreAlike answer also new other
  unasked_alike orders stray old new again other answer also hold number is too = record {
    answer_is = answer_alike answer also number (is.orders_are ∙ sym too.orders_are) (is.stray_is ∙ sym too.stray_is) (is.refused ∙ sym too.refused);
    hold = record {
      lists = is.lists ∙ hold.lists ∙ sym too.lists;
      talks = stay_alike old.talks new.talks again.talks other.talks hold.talks is.talks too.talks;
    };
  }

-- a post, by the verdict on it
pub done_alike : (opening_at : ℕ → ℕ) (until_at : ℕ → Option ℕ) (setup : Setup) (numbers : List ℕ) (post : Post) (v : Verdict) (old new again other : Holding) (answer also : AnswerView)
    (ends endings : List (List EntryData)) → IsProper setup.tariff → length old.lists ≡ length setup.accounts → ArePlaced (length setup.accounts) old.talks
    → Means setup old.talks post.number post.at post.body v → HoldAlike old again → answer.number ≡ also.number → answer.refused ≡ None → also.refused ≡ None
    → Begin new.lists ends → AreLegal opening_at until_at (length setup.accounts) ends → Begin other.lists endings → AreLegal opening_at until_at (length setup.accounts) endings
    → IsDone setup numbers post.at v old new answer → IsDone setup numbers post.at v again other also → AreAlike answer also new other
done_alike opening_at until_at setup numbers post Strays old new again other answer also ends endings one many placed means hold number none none_too begin legal begin_too legal_too is too =
    unasked_alike opening_at until_at (length setup.accounts) [] true old new again other answer also hold number is too
done_alike opening_at until_at setup numbers post Rejects old new again other answer also ends endings one many placed means hold number none none_too begin legal begin_too legal_too is too =
    unasked_alike opening_at until_at (length setup.accounts) (Release 21 ∷ []) false old new again other answer also hold number is too
done_alike opening_at until_at setup numbers post (Recharges place amount until) old new again other answer also ends endings one many placed means hold number none none_too begin legal begin_too legal_too is too =
    recharged_alike opening_at until_at (length setup.accounts) numbers place amount until old new again other answer also ends endings many (at_place setup means.account place means.at).0 hold number none none_too
    begin legal begin_too legal_too is too
done_alike opening_at until_at setup numbers post (Begins call place called) old new again other answer also ends endings one many placed means hold number none none_too begin legal begin_too legal_too is too =
    let first = begins_alike setup.tariff (digits_of_number called) call post.at setup.service.wanted setup.service.least too.route is.route one too.routed is.routed in
    let T : Says × Phase → Type 0 = λ p. IsTalked numbers call place p again other also in
    talked_alike opening_at until_at (length setup.accounts) numbers call place (on_begin call post.at setup.service.wanted setup.service.least is.route) old new again other answer also ends endings
    many means.within hold number none none_too begin legal begin_too legal_too is.talked (subst T first too.talked)
done_alike opening_at until_at setup numbers post (GoesOn call place said phase) old new again other answer also ends endings one many placed means hold number none none_too begin legal begin_too legal_too is too =
    let its = standing_so (λ s. IsPlaced (length setup.accounts) call s) means.standing (old.talks call) means.stands (placed call) in
    let L : ℕ → Type 0 = λ p. p < length setup.accounts in
    talked_alike opening_at until_at (length setup.accounts) numbers call place (said, phase) old new again other answer also ends endings
    many (subst L means.same its.placed) hold number none none_too begin legal begin_too legal_too is too
