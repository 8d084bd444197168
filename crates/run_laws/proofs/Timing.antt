-- What a play gives is timely: its gsmSSFs send reports in range, and its rows name last moments in time.
use Rattle.std.proofs.Common.{◌≡◌, ℕ, true, Some, None, List, [], ◌∷◌, map, refl, All}
use Rattle.std.specs.Prelude.{◌&&◌, nat_le, slice_index_or}
use Rattle.std.proofs.lemmas.Bool.{and_parts, eq-eqb, leb-true}
use Rattle.std.proofs.lemmas.List.Elements.{All-append, All-cons, All-head, All-nil, All-same, All-tail}
use Rattle.run_laws.proofs.Openings.{until_in_range}
use Rattle.cap_values.specs.declared.message.SsfMsg.TheVariants as message
use Rattle.book_texts.specs.Fits.{FitsReport}
use Rattle.held_calls.proofs.Listed.{all_passing, all_unmapped}
use Rattle.run_laws.specs.Timely.{AreTimely, IsTimely}
use Rattle.run_command.specs.Plays.{IsPlayOf}
use Rattle.run_texts.specs.Happenings.{RowData, is_in_time}
use Rattle.run_texts.specs.Views.{happens_of, row_data}
use Rattle.run_texts.specs.declared.script.Happening.{Happening}
use Rattle.run_texts.specs.declared.script.Happening.TheVariants as happening
use Rattle.run_texts.specs.declared.script.ScriptRow.{ScriptRow}
use Rattle.run_values.specs.declared.post.Answer.{Answer}
use Rattle.run_values.specs.declared.post.Body.{Body}
use Rattle.run_values.specs.declared.post.Body.TheVariants as body
use Rattle.script_player.specs.Plays.{IsPlayed}
use Rattle.script_player.specs.Posts.{is_of_call, is_recharge, items_of, post_of, posts_of, recharge_of, recharges_in, recharge_items_of}
use Rattle.ssf_core.specs.Happenings.{sent_in}
use Rattle.ssf_core.specs.Laws.{ItemIsInRange, ReportsAreInRange}
use Rattle.ssf_core.specs.declared.config.SsfConfig.{SsfConfig}
use Rattle.ssf_core.specs.declared.item.Item.{Item}
use Rattle.ssf_core.specs.declared.item.Item.TheVariants as sent
use Rattle.ssf_core.specs.declared.item.Out.{Out}
use Rattle.price_core.specs.Reading.{is_time_info}
use Rattle.price_core.specs.declared.times.TimeInfo.{TimeInfo}
use Rattle.price_core.specs.declared.times.TimeInfo.TheVariants as info

-- ---- a report in range

report_fits : (report : TimeInfo) → is_time_info report ≡ true → FitsReport report
report_fits (info.NoSwitch time) is = leb-true time 864000 is
report_fits (info.Switch since None) is = (leb-true since 864000 is, tt)
report_fits (info.Switch since (Some interval)) is =
    let (first, most) = and_parts (nat_le since 864000 && nat_le 1 interval) (nat_le interval 864000) is in
    let (within, some) = and_parts (nat_le since 864000) (nat_le 1 interval) first in
    (leb-true since 864000 within, (leb-true 1 interval some, leb-true interval 864000 most))

-- ---- what the gsmSSF of a call sends

IsTimelyItem : ℕ × Body → Type 0
IsTimelyItem item = IsTimely item.1

post_timely : (call at : ℕ) (item : Item) → ItemIsInRange item → All IsTimelyItem (post_of call at item)
unfolding IsTimelyItem
post_timely call at (sent.Msg (message.ChargingReport active report)) range =
    All-cons IsTimelyItem (at, body.Ssf call (message.ChargingReport active report)) [] (report_fits report range) (All-nil IsTimelyItem)
post_timely call at (sent.Msg (message.InitialDp other calling called)) range =
    All-cons IsTimelyItem (at, body.Ssf call (message.InitialDp other calling called)) [] tt (All-nil IsTimelyItem)
post_timely call at (sent.Msg (message.EventReport event leg mode)) range =
    All-cons IsTimelyItem (at, body.Ssf call (message.EventReport event leg mode)) [] tt (All-nil IsTimelyItem)
post_timely call at (sent.Msg message.Ended) range = All-cons IsTimelyItem (at, body.Ssf call message.Ended) [] tt (All-nil IsTimelyItem)
post_timely call at sent.Proceed range = All-nil IsTimelyItem
post_timely call at (sent.Clear cause) range = All-nil IsTimelyItem

posts_timely : (call : ℕ) (outs : List Out) → All (λ out. ItemIsInRange out.item) outs → All IsTimelyItem (posts_of call outs)
posts_timely call [] range = All-nil IsTimelyItem
posts_timely call (out ∷ outs) range =
    All-append IsTimelyItem (post_of call out.at out.item) (posts_of call outs) (post_timely call out.at out.item (All-head (λ (o : Out). ItemIsInRange o.item) out outs range))
    (posts_timely call outs (All-tail (λ (o : Out). ItemIsInRange o.item) out outs range))

played_timely : ReportsAreInRange → (config : SsfConfig) (call : ℕ) (given : List (ℕ × Body)) → IsPlayed config call given → All IsTimelyItem (items_of call given)
played_timely reports config call given played =
    All-same IsTimelyItem (items_of call given) (posts_of call (sent_in played.trace)) played.same
    (posts_timely call (sent_in played.trace) (reports config played.trace played.is_trace))

-- ---- what the rows say of recharges

recharge_timely : (at : ℕ) (what : Happening) → is_in_time (happens_of what) ≡ true → All IsTimelyItem (recharge_of at what)
unfolding IsTimelyItem
recharge_timely at (happening.Start call calling called) is = All-nil IsTimelyItem
recharge_timely at (happening.Meets call event) is = All-nil IsTimelyItem
recharge_timely at (happening.Recharge account amount until) is =
    All-cons IsTimelyItem (at, body.Recharge account amount until) [] (until_in_range until is) (All-nil IsTimelyItem)

recharges_timely : (rows : List ScriptRow) → All (λ row. is_in_time (happens_of row.what) ≡ true) rows → All IsTimelyItem (recharge_items_of rows)
recharges_timely [] is = All-nil IsTimelyItem
recharges_timely (row ∷ rows) is =
    let P : ScriptRow → Type 0 = λ r. is_in_time (happens_of r.what) ≡ true in
    All-append IsTimelyItem (recharge_of row.at row.what) (recharge_items_of rows) (recharge_timely row.at row.what (All-head P row rows is)) (recharges_timely rows (All-tail P row rows is))

-- ---- all that is given

body_timely : (what : Body) → ((call : ℕ) → is_of_call call what ≡ true → IsTimely what) → (is_recharge what ≡ true → IsTimely what) → IsTimely what
body_timely (body.Ssf call msg) of_call of_account = of_call call (eq-eqb call call refl)
body_timely (body.Recharge account amount until) of_call of_account = of_account refl

pub given_timely : ReportsAreInRange → (config : SsfConfig) (delay : ℕ) (rows : List ScriptRow) (heard : List (List Answer)) (given : List (ℕ × Body)) → IsPlayOf config delay rows heard given
    → All (λ row. is_in_time (happens_of row.what) ≡ true) rows → AreTimely given
unfolding IsTimelyItem
given_timely reports config delay rows heard given play in_time = λ k d within.
    let recharged : All IsTimelyItem (recharges_in given) = All-same IsTimelyItem (recharges_in given) (recharge_items_of rows) play.recharges (recharges_timely rows in_time) in
    body_timely (slice_index_or given k d).1
    (λ call. all_passing (λ (item : ℕ × Body). is_of_call call item.1) IsTimelyItem given (played_timely reports config call given (play.calls call)) k d within)
    (all_passing (λ (item : ℕ × Body). is_recharge item.1) IsTimelyItem given recharged k d within)

-- rows that say a script in time are so
pub rows_in_time : (rows : List ScriptRow) (script : List RowData) → map row_data rows ≡ script → All (λ row. is_in_time row.what ≡ true) script
    → All (λ row. is_in_time (happens_of row.what) ≡ true) rows
rows_in_time rows script says in_time =
    let P : RowData → Type 0 = λ row. is_in_time row.what ≡ true in
    all_unmapped P row_data rows (All-same P (map row_data rows) script says in_time)
