-- One post more: what it says of a call.
use Rattle.std.proofs.Common.{◌≡◌, ◌==◌, ◌||◌, ◌+◌, ◌<◌, length, get_or, take, ℕ, Bool, true, false, Option, Some, None, List, [], ◌∷◌, ◌++◌, refl, sym, ap, ◌∙◌, arith}
use Rattle.std.proofs.lemmas.Bool.Decides.{nat_tests}
use Rattle.std.proofs.lemmas.List.{flat_map_more}
use Rattle.std.specs.List.{flat_map}
use Rattle.std.specs.Prelude.{if◌then◌else◌, is_some}
use Rattle.std.specs.Option.{option_or}
use Rattle.book_texts.proofs.TextLemmas.{next_item}
use Rattle.cap_values.specs.declared.event.Event.{Event}
use Rattle.cap_values.specs.declared.event.Event.TheVariants as event
use Rattle.cap_values.specs.declared.leg.Leg.{Leg}
use Rattle.cap_values.specs.declared.mode.Mode.{Mode}
use Rattle.cap_values.specs.declared.message.SsfMsg.TheVariants as message
use Rattle.cap_values.specs.declared.message.SsfMsg.{SsfMsg}
use Rattle.run_values.specs.declared.post.Body.{Body}
use Rattle.run_values.specs.declared.post.Body.TheVariants as body
use Rattle.run_outputs.specs.Calls.{end_by, first_said, report_by, call_reports_of, message_of_call, start_by, start_of}
use Rattle.run_outputs.specs.declared.reports.CallReports.{CallReports}
use Rattle.run_outputs.specs.declared.starts.Start.{Start}

-- the first of three is that of the first two, or the third
pub either : {X : Type 0} (one two three : Option X) → option_or one (option_or two three) ≡ option_or (option_or one two) three
either None two three = refl
either (Some x) two three = refl

pub or_none : {X : Type 0} (one : Option X) → option_or one None ≡ one
or_none None = refl
or_none (Some x) = refl

-- what is first said with one post more
pub said_more : {X : Type 0} (call : ℕ) (tell : ℕ → SsfMsg → Option X) (given : List (ℕ × Body)) (post : ℕ × Body)
    → first_said call tell (given ++ post ∷ []) ≡ option_or (first_said call tell given) (message_of_call call (tell post.0) post.1)
said_more call tell [] post = or_none (message_of_call call (tell post.0) post.1)
said_more call tell (first ∷ given) post =
    ap (λ later. option_or (message_of_call call (tell first.0) first.1) later) (said_more call tell given post)
    ∙ either (message_of_call call (tell first.0) first.1) (first_said call tell given) (message_of_call call (tell post.0) post.1)

-- the start of a call with one message more
pub start_more : (given : List (ℕ × Body)) (at call other : ℕ) (msg : SsfMsg) (start : Option Start) → start ≡ start_by at msg
    → (now : Option Start) → now ≡ option_or (start_of other given) (if call == other then start else None) → now ≡ start_of other (given ++ (at, body.Ssf call msg) ∷ [])
start_more given at call other msg start is now are =
    are ∙ ap (λ (said : Option Start). option_or (start_of other given) (if call == other then said else None)) is ∙ sym (said_more other start_by given (at, body.Ssf call msg))

-- what is known, or what is said now
abbrev pub known_or : Option ℕ → Option ℕ → Option ℕ
known_or known None = known
known_or known (Some moment) = option_or known (Some moment)

is_known_or : (known later : Option ℕ) → option_or known later ≡ known_or known later
is_known_or known None = or_none known
is_known_or known (Some moment) = refl

some_known_or : (known later : Option ℕ) → is_some (option_or known later) ≡ is_some later || is_some known
some_known_or None None = refl
some_known_or None (Some moment) = refl
some_known_or (Some known) None = refl
some_known_or (Some known) (Some moment) = refl

-- the reports after a post that says this
abbrev pub reports_with : CallReports → ((ℕ → SsfMsg → Option ℕ) → Option ℕ) → CallReports
reports_with reports tells = record {
  answer = known_or reports.answer (tells (report_by event.Answer));
  end = known_or reports.end (tells end_by);
  busy = is_some (tells (report_by event.CalledPartyBusy)) || reports.busy;
  no_answer = is_some (tells (report_by event.NoAnswer)) || reports.no_answer;
  route_failed = is_some (tells (report_by event.RouteSelectFailure)) || reports.route_failed;
  abandoned = is_some (tells (report_by event.Abandon)) || reports.abandoned;
  disconnected = is_some (tells (report_by event.Disconnect)) || reports.disconnected;
}

module _ (call : ℕ) (given : List (ℕ × Body)) (post : ℕ × Body) where
  abbrev tells : (ℕ → SsfMsg → Option ℕ) → Option ℕ
  tells tell = message_of_call call (tell post.0) post.1

  moment_more : (tell : ℕ → SsfMsg → Option ℕ) → first_said call tell (given ++ post ∷ []) ≡ known_or (first_said call tell given) (tells tell)
  moment_more tell = said_more call tell given post ∙ is_known_or (first_said call tell given) (tells tell)

  mark_more : (tell : ℕ → SsfMsg → Option ℕ) → is_some (first_said call tell (given ++ post ∷ [])) ≡ is_some (tells tell) || is_some (first_said call tell given)
  mark_more tell = ap is_some (said_more call tell given post) ∙ some_known_or (first_said call tell given) (tells tell)

  pub reports_more : call_reports_of call (given ++ post ∷ []) ≡ reports_with (call_reports_of call given) tells
  reports_more = λ i. record {
    answer = moment_more (report_by event.Answer) i;
    end = moment_more end_by i;
    busy = mark_more (report_by event.CalledPartyBusy) i;
    no_answer = mark_more (report_by event.NoAnswer) i;
    route_failed = mark_more (report_by event.RouteSelectFailure) i;
    abandoned = mark_more (report_by event.Abandon) i;
    disconnected = mark_more (report_by event.Disconnect) i;
  }

itself : (call : ℕ) → call == call ≡ true
itself call = grind (arith, nat_tests)

-- a message of the call itself
pub own_more : (call : ℕ) (given : List (ℕ × Body)) (at : ℕ) (msg : SsfMsg)
    → call_reports_of call (given ++ (at, body.Ssf call msg) ∷ []) ≡ reports_with (call_reports_of call given) (λ tell. tell at msg)
own_more call given at msg =
    reports_more call given (at, body.Ssf call msg)
    ∙ ap (λ own. reports_with (call_reports_of call given) (λ tell. if own then tell at msg else None)) (itself call)

-- one of another call
pub other_more : (call other : ℕ) (given : List (ℕ × Body)) (at : ℕ) (msg : SsfMsg) → call == other ≡ false
    → call_reports_of other (given ++ (at, body.Ssf call msg) ∷ []) ≡ call_reports_of other given
other_more call other given at msg differs =
    reports_more other given (at, body.Ssf call msg)
    ∙ ap (λ own. reports_with (call_reports_of other given) (λ tell. if own then tell at msg else None)) differs

pub same_call : (call other : ℕ) → call == other ≡ true → call ≡ other
same_call call other same = grind (arith, nat_tests)

-- what is kept of each call, after one of them has other reports
pub reports_kept : (call other : ℕ) (given : List (ℕ × Body)) (at : ℕ) (msg : SsfMsg) (after was : CallReports) (own : Bool) → call == other ≡ own
    → after ≡ call_reports_of call (given ++ (at, body.Ssf call msg) ∷ []) → was ≡ call_reports_of other given
    → (if own then after else was) ≡ call_reports_of other (given ++ (at, body.Ssf call msg) ∷ [])
reports_kept call other given at msg after was true same are had =
    are ∙ ap (λ c. call_reports_of c (given ++ (at, body.Ssf call msg) ∷ [])) (same_call call other same)
reports_kept call other given at msg after was false differs are had = had ∙ sym (other_more call other given at msg differs)

-- the reports of a call after a message more of it
pub message_kept : (call : ℕ) (given : List (ℕ × Body)) (at : ℕ) (msg : SsfMsg) (reports : CallReports) → reports ≡ call_reports_of call given
    → reports_with reports (λ tell. tell at msg) ≡ call_reports_of call (given ++ (at, body.Ssf call msg) ∷ [])
message_kept call given at msg reports are =
    ap (λ known. reports_with known (λ tell. tell at msg)) are ∙ sym (own_more call given at msg)

-- the reports of a call after an event more
pub event_kept : (call : ℕ) (given : List (ℕ × Body)) (at : ℕ) (event : Event) (leg : Option Leg) (mode : Mode) (reports : CallReports) → reports ≡ call_reports_of call given
    → reports_with reports (λ tell. tell at (message.EventReport event leg mode)) ≡ call_reports_of call (given ++ (at, body.Ssf call (message.EventReport event leg mode)) ∷ [])
event_kept call given at event leg mode reports are = message_kept call given at (message.EventReport event leg mode) reports are

-- what the items of a list add one after the other, with that of one item more
pub added_next : {X A : Type 0} (f : X → List A) (front done more : List A) (items : List X) (i : ℕ) (item : X) → i < length items → item ≡ get_or items i item
    → done ≡ front ++ flat_map f (take i items) → more ≡ done ++ f item → more ≡ front ++ flat_map f (take (i + 1) items)
added_next f front done more items i item within is so_far adds =
    adds ∙ ap (λ l. l ++ f item) so_far ∙ flat_map_more f front (take i items) item ∙ ap (λ l. front ++ flat_map f l) (sym (next_item items i item within is))
