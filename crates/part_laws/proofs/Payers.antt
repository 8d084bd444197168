-- The account that a call is for, by the row that starts it and by the InitialDP that is given of it.
use Rattle.std.proofs.Common.{◌≡◌, ◌==◌, ◌∙◌, ℕ, Bool, true, false, Option, Some, None, List, [], ◌∷◌, refl, sym, ap, subst}
use Rattle.std.specs.Option.{option_map, option_or}
use Rattle.std.proofs.lemmas.Bool.{eq-eqb}
use Rattle.std.specs.Prelude.{if◌then◌else◌, slice_index_or}
use Rattle.run_outputs.specs.Calls.{first_said, message_of_call, start_by}
use Rattle.cap_values.specs.NumberDigits.{digits_of_number}
use Rattle.cap_values.specs.declared.message.SsfMsg.TheVariants.{InitialDp, EventReport, ChargingReport, Ended}
use Rattle.cap_values.specs.declared.number.Number.{Number}
use Rattle.part_laws.specs.ScriptParts.{payer_in_rows}
use Rattle.part_laws.specs.Parts.{ArePaidBy, IsPaidBy}
use Rattle.run_laws.specs.Starts.{HasItsStart, HaveTheirStarts, begins_with}
use Rattle.run_outputs.proofs.ListedAccounts.{by_its_digits}
use Rattle.run_outputs.specs.Parts.{account_of_digits, payer_by}
use Rattle.run_texts.specs.Views.{happens_of, with_digits}
use Rattle.run_texts.specs.declared.script.Happening.{Happening}
use Rattle.run_texts.specs.declared.script.Happening.TheVariants.{Start, Meets, Recharge}
use Rattle.run_texts.specs.declared.script.ScriptRow.{ScriptRow}
use Rattle.run_values.specs.Setups.{Setup, account_of}
use Rattle.run_values.specs.declared.post.Body.{Body}
use Rattle.run_values.specs.declared.post.Body.TheVariants as body
use Rattle.script_player.specs.Posts.{Begins, initial, is_of_call, items_of, opening_item_of, start_item_of}

-- ---- the row that starts a call

abbrev StartsAs : Type 0
StartsAs = ℕ × Number × Number

abbrev start_in : ℕ → ℕ → Happening → Option StartsAs
start_in call at (Start other calling called) = if other == call then Some (at, calling, called) else None
start_in call at (Meets other event) = None
start_in call at (Recharge account amount until) = None

-- the first row that starts a call
abbrev started_by : ℕ → List ScriptRow → Option StartsAs
started_by call [] = None
started_by call (row ∷ rows) = option_or (start_in call row.at row.what) (started_by call rows)

abbrev item_started : ℕ → StartsAs → ℕ × Body
item_started call start = initial start.0 call start.1 start.2

module _ (setup : Setup) (call : ℕ) where
  opening_started : (rows : List ScriptRow) → opening_item_of call rows ≡ option_map (item_started call) (started_by call rows)
  opening_started [] = refl
  opening_started (row ∷ rows) = by_row row.what (opening_started rows)
    where
      by_same : (b : Bool) (calling called : Number) → opening_item_of call rows ≡ option_map (item_started call) (started_by call rows)
          → option_or (if b then Some (initial row.at call calling called) else None) (opening_item_of call rows)
          ≡ option_map (item_started call) (option_or (if b then Some (row.at, calling, called) else None) (started_by call rows))
      by_same true calling called rest = refl
      by_same false calling called rest = rest

      by_row : (what : Happening) → opening_item_of call rows ≡ option_map (item_started call) (started_by call rows)
          → option_or (start_item_of call row.at what) (opening_item_of call rows) ≡ option_map (item_started call) (option_or (start_in call row.at what) (started_by call rows))
      by_row (Start other calling called) rest = by_same (other == call) calling called rest
      by_row (Meets other event) rest = rest
      by_row (Recharge account amount until) rest = rest

  -- its calling number has the account that pays
  paid_started : (rows : List ScriptRow) (start : StartsAs) (account : ℕ) → started_by call rows ≡ Some start → account_of start.1 setup.subscribers ≡ Some account
      → payer_in_rows setup rows call ≡ Some account
  paid_started [] start account is has = absurd (cc)
  paid_started (row ∷ rows) start account is has = by_row row.what is (λ later. paid_started rows start account later has)
    where
      by_same : (b : Bool) (calling called : Number) → option_or (if b then Some (row.at, calling, called) else None) (started_by call rows) ≡ Some start
          → (started_by call rows ≡ Some start → payer_in_rows setup rows call ≡ Some account)
          → option_or (if b then account_of_digits (digits_of_number calling) (with_digits setup.subscribers) else None) (payer_in_rows setup rows call) ≡ Some account
      by_same true calling called is rest =
          let same : calling ≡ start.1 = ap (λ (found : Option StartsAs). calling_in calling found) is in
          let account_is : account_of_digits (digits_of_number calling) (with_digits setup.subscribers) ≡ Some account =
          sym (by_its_digits calling setup.subscribers) ∙ ap (λ (n : Number). account_of n setup.subscribers) same ∙ has in
          rw account_is refl
        where
          calling_in : Number → Option StartsAs → Number
          calling_in other None = other
          calling_in other (Some found) = found.1
      by_same false calling called is rest = rest is

      by_row : (what : Happening) → option_or (start_in call row.at what) (started_by call rows) ≡ Some start
          → (started_by call rows ≡ Some start → payer_in_rows setup rows call ≡ Some account)
          → option_or (payer_by (with_digits setup.subscribers) call (happens_of what)) (payer_in_rows setup rows call) ≡ Some account
      by_row (Start other calling called) is rest = by_same (other == call) calling called is rest
      by_row (Meets other event) is rest = rest is
      by_row (Recharge other amount until) is rest = rest is

-- ---- what was given of the call

said_of_items : (call : ℕ) (given : List (ℕ × Body)) → first_said call start_by given ≡ first_said call start_by (items_of call given)
said_of_items call [] = refl
said_of_items call (item ∷ given) = by_body item.1 (said_of_items call given)
  where
    by_same : (b : Bool) (other : ℕ) (msg : _) → (other == call) ≡ b → first_said call start_by given ≡ first_said call start_by (items_of call given)
        → option_or (if b then start_by item.0 msg else None) (first_said call start_by given)
        ≡ first_said call start_by (if b then (item.0, body.Ssf other msg) ∷ items_of call given else items_of call given)
    by_same true other msg is rest = rw is (ap (option_or (start_by item.0 msg)) rest)
    by_same false other msg is rest = rest

    by_body : (what : Body) → first_said call start_by given ≡ first_said call start_by (items_of call given)
        → option_or (message_of_call call (start_by item.0) what) (first_said call start_by given)
        ≡ first_said call start_by (if is_of_call call what then (item.0, what) ∷ items_of call given else items_of call given)
    by_body (body.Ssf other msg) rest = by_same (other == call) other msg refl rest
    by_body (body.Recharge account amount until) rest = rest

begun_with : (call : ℕ) (start : StartsAs) (rest : List (ℕ × Body)) → begins_with call (item_started call start ∷ rest) ≡ Some start
begun_with call start rest = rw (eq-eqb call call refl) refl

module _ (setup : Setup) (rows : List ScriptRow) (call : ℕ) (given : List (ℕ × Body)) where
  its_start : (begins : Begins (opening_item_of call rows) (items_of call given)) (start : StartsAs) → begins_with call given ≡ Some start → started_by call rows ≡ Some start
  its_start begins start is = by_start (started_by call rows) refl
    where
      of_items : begins_with call given ≡ begins_with call (items_of call given)
      of_items = ap (option_map (λ found. (found.at, found.calling, found.called))) (said_of_items call given)

      by_start : (found : Option StartsAs) → started_by call rows ≡ found → started_by call rows ≡ Some start
      by_start None none =
          let no_item : opening_item_of call rows ≡ None = opening_started setup call rows ∙ ap (option_map (item_started call)) none in
          let empty : items_of call given ≡ [] = subst (λ (o : Option (ℕ × Body)). Begins o (items_of call given)) no_item begins in
          let nothing : begins_with call given ≡ None = of_items ∙ ap (begins_with call) empty in
          let clash : Some start ≡ None = sym is ∙ nothing in absurd (cc clash)
      by_start (Some found) some =
          let item : opening_item_of call rows ≡ Some (item_started call found) = opening_started setup call rows ∙ ap (option_map (item_started call)) some in
          let first = subst (λ (o : Option (ℕ × Body)). Begins o (items_of call given)) item begins in
          let same : Some found ≡ Some start = sym (begun_with call found first.0) ∙ ap (begins_with call) (sym first.1) ∙ sym of_items ∙ is in
          some ∙ same

its_payer : (setup : Setup) (rows : List ScriptRow) (given : List (ℕ × Body)) → ((call : ℕ) → Begins (opening_item_of call rows) (items_of call given))
    → (at : ℕ) (what : Body) → HasItsStart given at what → IsPaidBy setup (payer_in_rows setup rows) what
its_payer setup rows given begins at (body.Ssf call (InitialDp other calling called)) is = λ account has.
    paid_started setup call rows (at, calling, called) account (its_start setup rows call given (begins call) (at, calling, called) is) has
its_payer setup rows given begins at (body.Ssf call (EventReport event leg mode)) is = tt
its_payer setup rows given begins at (body.Ssf call (ChargingReport active report)) is = tt
its_payer setup rows given begins at (body.Ssf call Ended) is = tt
its_payer setup rows given begins at (body.Recharge account amount until) is = tt

pub are_paid : (setup : Setup) (rows : List ScriptRow) (given : List (ℕ × Body)) → ((call : ℕ) → Begins (opening_item_of call rows) (items_of call given)) → HaveTheirStarts given
    → ArePaidBy setup (payer_in_rows setup rows) given
are_paid setup rows given begins starts = λ k d within. its_payer setup rows given begins (slice_index_or given k d).0 (slice_index_or given k d).1 (starts k d within)
