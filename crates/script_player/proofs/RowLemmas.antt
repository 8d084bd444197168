-- The rows of a script, taken one after the other.
use Rattle.std.proofs.Common.{◌≡◌, ◌==◌, ◌+◌, ◌<◌, ◌≤◌, ℕ, Bool, true, false, Option, Some, None, List, [], ◌∷◌, ◌++◌, length, slice_index_or, take, refl, sym, ◌∙◌, ap, append_assoc, append-nil, subst}
use Rattle.std.proofs.lemmas.Bool.{eqb-true}
use Rattle.std.proofs.lemmas.List.{take_more}
use Rattle.std.proofs.lemmas.List.Elements.{filter-append}
use Rattle.std.specs.Option.{option_or}
use Rattle.cap_values.specs.declared.number.Number.{Number}
use Rattle.run_texts.specs.declared.script.Happening.{Happening}
use Rattle.run_texts.specs.declared.script.Happening.TheVariants as happening
use Rattle.run_texts.specs.declared.script.ScriptRow.{ScriptRow}
use Rattle.run_values.specs.declared.post.Body.{Body}
use Rattle.run_values.specs.declared.post.Body.TheVariants as body
use Rattle.script_player.specs.Networks.{Grows, Shown}
use Rattle.script_player.specs.Playing.{IsKept}
use Rattle.script_player.specs.Posts.{Begins, initial, is_of_call, is_recharge, items_of, opening_item_of, recharge_of, recharges_in, recharge_items_of, start_item_of}
use Rattle.script_player.specs.Rows.{Adds, AddsRow, FollowsRows, TakesRow, unless_begun}
use Rattle.script_player.proofs.Items.{same_true}

pub adds_on : (first second third : Shown) → Adds first second → Adds second third → Adds first third
adds_on first second third one two = record {
  same_config = two.same_config ∙ one.same_config;
  added = one.added ++ two.added;
  grown = two.grown ∙ rw one.grown (append_assoc first.given one.added two.added);
}

pub adds_grown : (before after : Shown) → Grows before after → Adds before after
adds_grown before after grows = record { same_config = grows.same_config; added = grows.added; grown = grows.grown }

-- a row that is taken adds to what was given
pub adds_row : (before after : Shown) (at : ℕ) (what : Happening) → TakesRow before after at what → Adds before after
adds_row before after at (happening.Start call calling called) takes = record {
  same_config = takes.same_config;
  added = unless_begun (items_of call before.given) (initial at call calling called);
  grown = takes.adds;
}
adds_row before after at (happening.Meets call event) takes = adds_grown before after takes.adds
adds_row before after at (happening.Recharge account amount until) takes = record {
  same_config = takes.same_config;
  added = (at, body.Recharge account amount until) ∷ [];
  grown = takes.adds;
}

-- ---- the rows taken, and one more

recharge_items_of-append : (first second : List ScriptRow) → recharge_items_of (first ++ second) ≡ recharge_items_of first ++ recharge_items_of second
recharge_items_of-append [] second = refl
recharge_items_of-append (row ∷ first) second =
    rw (recharge_items_of-append first second) (sym (append_assoc (recharge_of row.at row.what) (recharge_items_of first) (recharge_items_of second)))

recharge_items_of-more : (rows : List ScriptRow) (at : ℕ) (what : Happening) → recharge_items_of (rows ++ record { at = at; what = what } ∷ []) ≡ recharge_items_of rows ++ recharge_of at what
recharge_items_of-more rows at what = recharge_items_of-append rows (record { at = at; what = what } ∷ []) ∙ rw (append-nil (recharge_of at what)) refl

option_or-none : (item : Option (ℕ × Body)) → option_or item None ≡ item
option_or-none None = refl
option_or-none (Some item) = refl

option_or-assoc : (one two three : Option (ℕ × Body)) → option_or one (option_or two three) ≡ option_or (option_or one two) three
option_or-assoc None two three = refl
option_or-assoc (Some item) two three = refl

opening_item_of-more : (call : ℕ) (rows : List ScriptRow) (at : ℕ) (what : Happening)
    → opening_item_of call (rows ++ record { at = at; what = what } ∷ []) ≡ option_or (opening_item_of call rows) (start_item_of call at what)
opening_item_of-more call [] at what = option_or-none (start_item_of call at what)
opening_item_of-more call (row ∷ rows) at what =
    rw (opening_item_of-more call rows at what) (option_or-assoc (start_item_of call row.at row.what) (opening_item_of call rows) (start_item_of call at what))

-- ---- what was given still follows them

begins_on : (opening : Option (ℕ × Body)) (call : ℕ) (before after : Shown) → Grows before after → Begins opening (items_of call before.given) → Begins opening (items_of call after.given)
begins_on None call before after grows begun = grows.none_begins call begun
begins_on (Some item) call before after grows begun = (
  begun.0 ++ items_of call grows.added,
  ap (items_of call) grows.grown ∙ filter-append (λ (other : ℕ × Body). is_of_call call other.1) before.given grows.added ∙ rw begun.1 refl,
)

pub follows_grown : (taken : List ScriptRow) (before after : Shown) → Grows before after → FollowsRows taken before.given → FollowsRows taken after.given
follows_grown taken before after grows follows = record {
  begun = λ call. begins_on (opening_item_of call taken) call before after grows (follows.begun call);
  recharged = grows.same_recharges ∙ follows.recharged;
}

pub items_of-recharged : (call : ℕ) (given : List (ℕ × Body)) (at account amount : ℕ) (until : Option ℕ) → items_of call (given ++ (at, body.Recharge account amount until) ∷ []) ≡ items_of call given
items_of-recharged call given at account amount until =
    filter-append (λ (item : ℕ × Body). is_of_call call item.1) given ((at, body.Recharge account amount until) ∷ []) ∙ append-nil (items_of call given)

-- the items of a call where another one may start
items_of-unless : (other call at : ℕ) (calling called : Number) (items : List (ℕ × Body)) → (other == call) ≡ false
    → items_of call (unless_begun items (initial at other calling called)) ≡ []
items_of-unless other call at calling called [] apart = rw apart refl
items_of-unless other call at calling called (first ∷ items) apart = refl

recharges_in-unless : (call at : ℕ) (calling called : Number) (items : List (ℕ × Body)) → recharges_in (unless_begun items (initial at call calling called)) ≡ []
recharges_in-unless call at calling called [] = refl
recharges_in-unless call at calling called (first ∷ items) = refl

-- a call starts: it begins by this item, unless it has begun
begins_own : (opening : Option (ℕ × Body)) (call : ℕ) (given : List (ℕ × Body)) (item : ℕ × Body) → items_of call (item ∷ []) ≡ item ∷ [] → Begins opening (items_of call given)
    → Begins (option_or opening (Some item)) (items_of call (given ++ unless_begun (items_of call given) item))
begins_own None call given item own begun =
    rw begun ([], filter-append (λ (other : ℕ × Body). is_of_call call other.1) given (item ∷ []) ∙ rw (begun, own) refl)
begins_own (Some first) call given item own begun =
    rw begun.1 (begun.0, ap (items_of call) (append-nil given) ∙ begun.1)

begins_other : (opening : Option (ℕ × Body)) (other call at : ℕ) (calling called : Number) (given : List (ℕ × Body)) → (other == call) ≡ false → Begins opening (items_of call given)
    → Begins (option_or opening None) (items_of call (given ++ unless_begun (items_of other given) (initial at other calling called)))
begins_other opening other call at calling called given apart begun =
    let same : items_of call (given ++ unless_begun (items_of other given) (initial at other calling called)) ≡ items_of call given =
    filter-append (λ (item : ℕ × Body). is_of_call call item.1) given (unless_begun (items_of other given) (initial at other calling called))
    ∙ rw (items_of-unless other call at calling called (items_of other given) apart) (append-nil (items_of call given)) in
    rw (option_or-none opening, same) begun

begins_started : (here : Bool) (opening : Option (ℕ × Body)) (other call at : ℕ) (calling called : Number) (given : List (ℕ × Body)) → (other == call) ≡ here → Begins opening (items_of call given)
    → Begins (option_or opening (start_item_of call at (happening.Start other calling called))) (items_of call (given ++ unless_begun (items_of other given) (initial at other calling called)))
begins_started true opening other call at calling called given is begun =
    let P : ℕ → Type 0 = λ o. Begins (option_or opening (Some (initial at call calling called))) (items_of call (given ++ unless_begun (items_of o given) (initial at o calling called))) in
    let own : items_of call (initial at call calling called ∷ []) ≡ initial at call calling called ∷ [] = rw (same_true call) refl in
    rw is (subst P (sym (eqb-true other call is)) (begins_own opening call given (initial at call calling called) own begun))
begins_started false opening other call at calling called given is begun = rw is (begins_other opening other call at calling called given is begun)

begun_row : (taken : List ScriptRow) (before after : Shown) (at : ℕ) (what : Happening) (call : ℕ) → AddsRow before after at what → Begins (opening_item_of call taken) (items_of call before.given)
    → Begins (option_or (opening_item_of call taken) (start_item_of call at what)) (items_of call after.given)
begun_row taken before after at (happening.Start other calling called) call adds begun =
    rw adds (begins_started _ (opening_item_of call taken) other call at calling called before.given refl begun)
begun_row taken before after at (happening.Meets other event) call adds begun =
    rw (option_or-none (opening_item_of call taken)) (begins_on (opening_item_of call taken) call before after adds begun)
begun_row taken before after at (happening.Recharge account amount until) call adds begun =
    rw (option_or-none (opening_item_of call taken), adds, items_of-recharged call before.given at account amount until) begun

recharged_row : (before after : Shown) (at : ℕ) (what : Happening) → AddsRow before after at what → recharges_in after.given ≡ recharges_in before.given ++ recharge_of at what
recharged_row before after at (happening.Start call calling called) adds =
    ap recharges_in adds ∙ filter-append (λ (item : ℕ × Body). is_recharge item.1) before.given (unless_begun (items_of call before.given) (initial at call calling called))
    ∙ rw (recharges_in-unless call at calling called (items_of call before.given)) refl
recharged_row before after at (happening.Meets call event) adds = adds.same_recharges ∙ sym (append-nil (recharges_in before.given))
recharged_row before after at (happening.Recharge account amount until) adds =
    ap recharges_in adds ∙ filter-append (λ (item : ℕ × Body). is_recharge item.1) before.given ((at, body.Recharge account amount until) ∷ [])

-- what was given follows the rows and the one that is taken
pub follows_row : (taken : List ScriptRow) (row : ScriptRow) (before after : Shown) → TakesRow before after row.at row.what → FollowsRows taken before.given
    → FollowsRows (taken ++ row ∷ []) after.given
follows_row taken row before after takes follows = record {
  begun = λ call. rw (opening_item_of-more call taken row.at row.what) (begun_row taken before after row.at row.what call takes.adds (follows.begun call));
  recharged = recharged_row before after row.at row.what takes.adds ∙ rw (follows.recharged, recharge_items_of-more taken row.at row.what) refl;
}

-- the same, of the first rows of a script
pub follows_more : (rows : List ScriptRow) (k : ℕ) (row : ScriptRow) (before after : Shown) → k < length rows → row ≡ slice_index_or rows k row → TakesRow before after row.at row.what
    → FollowsRows (take k rows) before.given → FollowsRows (take (k + 1) rows) after.given
follows_more rows k row before after within is takes follows =
    let P : List ScriptRow → Type 0 = λ taken. FollowsRows taken after.given in
    subst P (sym (take_more rows k row within ∙ ap (λ (one : ScriptRow). take k rows ++ one ∷ []) (sym is))) (follows_row (take k rows) row before after takes follows)

-- what a player keeps, where no row is taken
pub kept_grown : (delay taken : ℕ) (rows : List ScriptRow) (ended : Bool) (before after : Shown) → Grows before after → IsKept before.given delay rows taken ended
    → IsKept after.given delay rows taken ended
kept_grown delay taken rows ended before after grows kept = record {
  delay_within_day = kept.delay_within_day;
  in_range = kept.in_range;
  within = kept.within;
  follows = follows_grown (take taken rows) before after grows kept.follows;
  played_out = kept.played_out;
}

-- what a player keeps, where rows were taken
pub kept_on : (given : List (ℕ × Body)) (delay taken next : ℕ) (rows : List ScriptRow) (ended : Bool) (before after : Shown) → IsKept given delay rows taken ended → ended ≡ false
    → next ≤ length rows → FollowsRows (take next rows) before.given → Grows before after → IsKept after.given delay rows next ended
kept_on given delay taken next rows ended before after kept running within follows grows = record {
  delay_within_day = kept.delay_within_day;
  in_range = kept.in_range;
  within = within;
  follows = follows_grown (take next rows) before after grows follows;
  played_out = λ over. cc;
}
