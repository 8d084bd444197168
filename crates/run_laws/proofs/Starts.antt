-- Each InitialDP of a played script is the one that its call starts with: a call has one alone.
use Rattle.std.proofs.Common.{◌≡◌, ℕ, Bool, true, false, Option, Some, None, List, [], ◌∷◌, ◌++◌, refl, ap, ◌∙◌, All}
use Rattle.std.specs.Prelude.{◌==◌, drop, if◌then◌else◌, slice_index_or, ⊤}
use Rattle.std.specs.Option.{option_map, option_or}
use Rattle.std.proofs.lemmas.Bool.{eq-eqb}
use Rattle.std.proofs.lemmas.List.Elements.{All-append, All-cons, All-drop, All-head, All-nil, All-tail}
use Rattle.run_outputs.specs.Calls.{first_said, start_by, start_of}
use Rattle.cap_values.specs.declared.message.SsfMsg.{SsfMsg}
use Rattle.cap_values.specs.declared.message.SsfMsg.TheVariants as message
use Rattle.cap_values.specs.declared.number.Number.{Number}
use Rattle.held_calls.proofs.Listed.{all_passing}
use Rattle.run_laws.specs.Starts.{HasItsParties, HasItsStart, HaveTheirParties, HaveTheirStarts, begins_with}
use Rattle.run_values.specs.declared.post.Body.{Body}
use Rattle.run_values.specs.declared.post.Body.TheVariants as body
use Rattle.script_player.specs.Plays.{IsPlayed}
use Rattle.script_player.specs.Posts.{is_of_call, items_of, post_of, posts_of}
use Rattle.ssf_core.specs.Happenings.{sent_in}
use Rattle.ssf_core.specs.Laws.{InitialDpIsFirst, IsNoInitialDp}
use Rattle.ssf_core.specs.declared.config.SsfConfig.{SsfConfig}
use Rattle.ssf_core.specs.declared.item.Item.{Item}
use Rattle.ssf_core.specs.declared.item.Item.TheVariants as sent
use Rattle.ssf_core.specs.declared.item.Out.{Out}

-- ---- the posts of a call behind its first

-- no InitialDP
abbrev IsLater : Body → Type 0
IsLater (body.Ssf call (message.InitialDp other calling called)) = ⊥
IsLater (body.Ssf call (message.EventReport event leg mode)) = ⊤
IsLater (body.Ssf call (message.ChargingReport active report)) = ⊤
IsLater (body.Ssf call message.Ended) = ⊤
IsLater (body.Recharge account amount until) = ⊤

IsLaterItem : ℕ × Body → Type 0
IsLaterItem item = IsLater item.1

IsNone : Out → Type 0
IsNone out = IsNoInitialDp out.item

message_later : (call : ℕ) (msg : SsfMsg) → IsNoInitialDp (sent.Msg msg) → IsLater (body.Ssf call msg)
message_later call (message.InitialDp other calling called) none = none
message_later call (message.EventReport event leg mode) none = tt
message_later call (message.ChargingReport active report) none = tt
message_later call message.Ended none = tt

post_later : (call at : ℕ) (item : Item) → IsNoInitialDp item → All IsLaterItem (post_of call at item)
unfolding IsLaterItem
post_later call at (sent.Msg msg) none = All-cons IsLaterItem (at, body.Ssf call msg) [] (message_later call msg none) (All-nil IsLaterItem)
post_later call at sent.Proceed none = All-nil IsLaterItem
post_later call at (sent.Clear cause) none = All-nil IsLaterItem

posts_later : (call : ℕ) (outs : List Out) → All IsNone outs → All IsLaterItem (posts_of call outs)
unfolding IsNone
posts_later call [] none = All-nil IsLaterItem
posts_later call (out ∷ outs) none =
    All-append IsLaterItem (post_of call out.at out.item) (posts_of call outs) (post_later call out.at out.item (All-head IsNone out outs none))
    (posts_later call outs (All-tail IsNone out outs none))

behind_post : (call at : ℕ) (item : Item) (outs : List Out) → All IsNone outs → All IsLaterItem (drop 1 (post_of call at item ++ posts_of call outs))
behind_post call at (sent.Msg msg) outs none = posts_later call outs none
behind_post call at sent.Proceed outs none = All-drop IsLaterItem 1 (posts_of call outs) (posts_later call outs none)
behind_post call at (sent.Clear cause) outs none = All-drop IsLaterItem 1 (posts_of call outs) (posts_later call outs none)

behind_posts : (call : ℕ) (outs : List Out) → All IsNone (drop 1 outs) → All IsLaterItem (drop 1 (posts_of call outs))
behind_posts call [] none = All-nil IsLaterItem
behind_posts call (out ∷ outs) none = behind_post call out.at out.item outs none

-- ---- what each InitialDP of a call starts

-- an InitialDP of this call at a moment has this start
abbrev Starts : ℕ → Option (ℕ × Number × Number) → ℕ → Body → Type 0
Starts call start at (body.Ssf other (message.InitialDp third calling called)) = (other == call) ≡ true → start ≡ Some (at, calling, called)
Starts call start at (body.Ssf other (message.EventReport event leg mode)) = ⊤
Starts call start at (body.Ssf other (message.ChargingReport active report)) = ⊤
Starts call start at (body.Ssf other message.Ended) = ⊤
Starts call start at (body.Recharge account amount until) = ⊤

abbrev StartsItem : ℕ → Option (ℕ × Number × Number) → ℕ × Body → Type 0
StartsItem call start item = Starts call start item.0 item.1

later_body : (call : ℕ) (start : Option (ℕ × Number × Number)) (at : ℕ) (what : Body) → (is_of_call call what ≡ true → IsLater what) → Starts call start at what
later_body call start at (body.Ssf other (message.InitialDp third calling called)) later = λ same. absurd (later same)
later_body call start at (body.Ssf other (message.EventReport event leg mode)) later = tt
later_body call start at (body.Ssf other (message.ChargingReport active report)) later = tt
later_body call start at (body.Ssf other message.Ended) later = tt
later_body call start at (body.Recharge account amount until) later = tt

-- where no post of the call has an InitialDP
later_start : (call : ℕ) (start : Option (ℕ × Number × Number)) (items : List (ℕ × Body)) → All IsLaterItem (items_of call items) → All (StartsItem call start) items
unfolding IsLaterItem
later_start call start items later = λ k d within.
    later_body call start (slice_index_or items k d).0 (slice_index_or items k d).1 (all_passing (λ (item : ℕ × Body). is_of_call call item.1) IsLaterItem items later k d within)

-- the start of a call, where a message of its own, or of another call, goes before these items
abbrev start_after : Bool → ℕ → SsfMsg → List (ℕ × Body) → ℕ → Option (ℕ × Number × Number)
start_after same at msg items call = option_map (λ start. (start.at, start.calling, start.called)) (option_or (if same then start_by at msg else None) (first_said call start_by items))

own_starts : (call at other : ℕ) (msg : SsfMsg) (items : List (ℕ × Body)) → All IsLaterItem (items_of call items)
    → All (StartsItem call (start_after true at msg items call)) ((at, body.Ssf other msg) ∷ items)
own_starts call at other (message.InitialDp third calling called) items later =
    let start : Option (ℕ × Number × Number) = Some (at, calling, called) in
    All-cons (StartsItem call start) (at, body.Ssf other (message.InitialDp third calling called)) items (λ _. refl) (later_start call start items later)
own_starts call at other (message.EventReport event leg mode) items later =
    let start = begins_with call items in
    All-cons (StartsItem call start) (at, body.Ssf other (message.EventReport event leg mode)) items tt (later_start call start items later)
own_starts call at other (message.ChargingReport active report) items later =
    let start = begins_with call items in
    All-cons (StartsItem call start) (at, body.Ssf other (message.ChargingReport active report)) items tt (later_start call start items later)
own_starts call at other message.Ended items later =
    let start = begins_with call items in
    All-cons (StartsItem call start) (at, body.Ssf other message.Ended) items tt (later_start call start items later)

other_starts : (call other at : ℕ) (msg : SsfMsg) (start : Option (ℕ × Number × Number)) → (other == call) ≡ false → Starts call start at (body.Ssf other msg)
other_starts call other at (message.InitialDp third calling called) start not = λ same. absurd (cc)
other_starts call other at (message.EventReport event leg mode) start not = tt
other_starts call other at (message.ChargingReport active report) start not = tt
other_starts call other at message.Ended start not = tt

starts_by : (same : Bool) (call at other : ℕ) (msg : SsfMsg) (items : List (ℕ × Body)) → (other == call) ≡ same
    → (All IsLaterItem (drop 1 (items_of call items)) → All (StartsItem call (begins_with call items)) items)
    → All IsLaterItem (drop 1 (if same then (at, body.Ssf other msg) ∷ items_of call items else items_of call items))
    → All (StartsItem call (start_after same at msg items call)) ((at, body.Ssf other msg) ∷ items)
starts_by true call at other msg items is rest later = own_starts call at other msg items later
starts_by false call at other msg items is rest later =
    let start = begins_with call items in
    All-cons (StartsItem call start) (at, body.Ssf other msg) items (other_starts call other at msg start is) (rest later)

starts_at : (call at : ℕ) (what : Body) (items : List (ℕ × Body)) → (All IsLaterItem (drop 1 (items_of call items)) → All (StartsItem call (begins_with call items)) items)
    → All IsLaterItem (drop 1 (items_of call ((at, what) ∷ items))) → All (StartsItem call (begins_with call ((at, what) ∷ items))) ((at, what) ∷ items)
starts_at call at (body.Ssf other msg) items rest later = starts_by (other == call) call at other msg items refl rest later
starts_at call at (body.Recharge account amount until) items rest later =
    let start = begins_with call items in
    All-cons (StartsItem call start) (at, body.Recharge account amount until) items tt (rest later)

starts : (call : ℕ) (items : List (ℕ × Body)) → All IsLaterItem (drop 1 (items_of call items)) → All (StartsItem call (begins_with call items)) items
starts call [] later = All-nil (StartsItem call (begins_with call []))
starts call (item ∷ items) later = starts_at call item.0 item.1 items (starts call items) later

-- ---- all that is given

its_start : (given : List (ℕ × Body)) (at : ℕ) (what : Body) → ((call : ℕ) → Starts call (begins_with call given) at what) → HasItsStart given at what
its_start given at (body.Ssf call (message.InitialDp other calling called)) starts_of = starts_of call (eq-eqb call call refl)
its_start given at (body.Ssf call (message.EventReport event leg mode)) starts_of = tt
its_start given at (body.Ssf call (message.ChargingReport active report)) starts_of = tt
its_start given at (body.Ssf call message.Ended) starts_of = tt
its_start given at (body.Recharge account amount until) starts_of = tt

behind_items : InitialDpIsFirst → (config : SsfConfig) (call : ℕ) (given : List (ℕ × Body)) → IsPlayed config call given → All IsLaterItem (drop 1 (items_of call given))
unfolding IsNone
behind_items first config call given played =
    let all = behind_posts call (sent_in played.trace) (first config played.trace played.is_trace) in
    rw played.same all

pub played_starts : InitialDpIsFirst → (config : SsfConfig) (given : List (ℕ × Body)) → ((call : ℕ) → IsPlayed config call given) → HaveTheirStarts given
played_starts first config given played = λ k d within.
    its_start given (slice_index_or given k d).0 (slice_index_or given k d).1 (λ call. starts call given (behind_items first config call given (played call)) k d within)

mapped_twice : {X Y Z : Type 0} (f : X → Y) (g : Y → Z) (found : Option X) → option_map (λ x. g (f x)) found ≡ option_map g (option_map f found)
mapped_twice f g None = refl
mapped_twice f g (Some x) = refl

-- an InitialDP that is as the one that its call starts with names the parties of that
its_parties : (given : List (ℕ × Body)) (at : ℕ) (what : Body) → HasItsStart given at what → HasItsParties given what
its_parties given at (body.Ssf call (message.InitialDp other calling called)) is =
    mapped_twice (λ start. (start.at, start.calling, start.called)) (λ (start : ℕ × Number × Number). (start.1, start.2)) (start_of call given)
    ∙ ap (option_map (λ (start : ℕ × Number × Number). (start.1, start.2))) is
its_parties given at (body.Ssf call (message.EventReport event leg mode)) is = tt
its_parties given at (body.Ssf call (message.ChargingReport active report)) is = tt
its_parties given at (body.Ssf call message.Ended) is = tt
its_parties given at (body.Recharge account amount until) is = tt

pub started_parties : (given : List (ℕ × Body)) → HaveTheirStarts given → HaveTheirParties given
started_parties given are = λ k d within. its_parties given (slice_index_or given k d).0 (slice_index_or given k d).1 (are k d within)
