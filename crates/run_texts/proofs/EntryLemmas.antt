-- A directory, as a subscriber of a setup is entered.
use Rattle.std.proofs.Common.{◌≡◌, ◌≢◌, ℕ, Bool, true, false, List, [], ◌∷◌, Option, Some, None, Result, Ok, Err, refl, sym, ap, ◌∙◌}
use Rattle.std.specs.Result.{result_map_both}
use Rattle.std.specs.Prelude.{IfErr, OnOk, ◌||◌, cond, if◌then◌else◌, is_some}
use Rattle.std.specs.BTreeMap.{insert_entry}
use Rattle.std.specs.Cmp.Lexicographic.{slice_cmp}
use Rattle.std.specs.Ordering.{match_ordering, nat_cmp}
use Rattle.std.specs.Str.{bytes_eq}
use Rattle.std.specs.declared.cmp.Ordering.{Ordering}
use Rattle.std.specs.declared.cmp.Ordering.TheVariants.{Less, Equal, Greater}
use Rattle.cap_values.specs.NumberDigits.{by_digits, digits_of_number}
use Rattle.cap_values.specs.declared.number.Number.{Number}
use Rattle.table_core.specs.declared.fault.RowKind.TheVariants as kind
use Rattle.run_values.specs.Setups.{Listing, account_of, has_account, subscriber_fault, with_subscriber}
use Rattle.run_values.specs.declared.setup_fault.SetupFault.{SetupFault}
use Rattle.run_values.specs.declared.setup_fault.SetupFault.TheVariants as fault
use Rattle.run_texts.specs.ListedRows.{ListsRow, RefusesRow, list_fault_of}
use Rattle.run_texts.specs.Setups.{TableSetup, has_subscriber, name_subscriber}
use Rattle.run_texts.specs.Views.{setup_in, with_digits}

with_digits-inserted : (subscribers : List (Number × ℕ)) (number : Number) (account : ℕ)
    → with_digits (insert_entry by_digits subscribers number account) ≡ insert_entry (slice_cmp nat_cmp) (with_digits subscribers) (digits_of_number number) account
with_digits-inserted [] number account = refl
with_digits-inserted (first ∷ subscribers) number account = by (slice_cmp nat_cmp (digits_of_number number) (digits_of_number first.0)) (with_digits-inserted subscribers number account)
  where
    by : (order : Ordering) → with_digits (insert_entry by_digits subscribers number account) ≡ insert_entry (slice_cmp nat_cmp) (with_digits subscribers) (digits_of_number number) account
        → with_digits (match_ordering order ((number, account) ∷ first ∷ subscribers) ((first.0, account) ∷ subscribers) (first ∷ insert_entry by_digits subscribers number account))
        ≡ match_ordering order ((digits_of_number number, account) ∷ with_digits (first ∷ subscribers)) ((digits_of_number first.0, account) ∷ with_digits subscribers)
        ((digits_of_number first.0, first.1) ∷ insert_entry (slice_cmp nat_cmp) (with_digits subscribers) (digits_of_number number) account)
    by Less more = refl
    by Equal more = refl
    by Greater more = ap (λ later. (digits_of_number first.0, first.1) ∷ later) more

found_or : {X : Type 0} (here : Bool) (x : X) (found : Option X) (rest : Bool) → is_some found ≡ rest → is_some (cond here (Some x) found) ≡ (here || rest)
found_or true x found rest is = refl
found_or false x found rest is = is

subscriber_named : (number : Number) (subscribers : List (Number × ℕ)) → is_some (account_of number subscribers) ≡ has_subscriber (digits_of_number number) (with_digits subscribers)
subscriber_named number [] = refl
subscriber_named number (first ∷ subscribers) =
    found_or (bytes_eq (digits_of_number first.0) (digits_of_number number)) first.1 (account_of number subscribers) (has_subscriber (digits_of_number number) (with_digits subscribers))
    (subscriber_named number subscribers)

module _ (next : TableSetup) where
  refusal : (named known : Bool) (why : SetupFault) → (why ≢ fault.OutOfMemory → subscriber_fault named known ≡ Some why)
      → RefusesRow (list_fault_of why) (if named then Err kind.Repeated else if known then Ok next else Err kind.Unknown)
  refusal named known fault.OutOfMemory is = tt
  refusal true known fault.Repeated is = refl
  refusal true known fault.Unknown is = cc (is (λ same. cc))
  refusal true known fault.OutOfRange is = cc (is (λ same. cc))
  refusal false true fault.Repeated is = cc (is (λ same. cc))
  refusal false true fault.Unknown is = cc (is (λ same. cc))
  refusal false true fault.OutOfRange is = cc (is (λ same. cc))
  refusal false false fault.Repeated is = cc (is (λ same. cc))
  refusal false false fault.Unknown is = refl
  refusal false false fault.OutOfRange is = cc (is (λ same. cc))

  entrance : (named known : Bool) → subscriber_fault named known ≡ None → (if named then Err kind.Repeated else if known then Ok next else Err kind.Unknown) ≡ Ok next
  entrance true known fine = cc
  entrance false true fine = refl
  entrance false false fine = cc

subscriber_refused : (listing : Listing) (number : Number) (account : ℕ) (why : SetupFault)
    → (why ≢ fault.OutOfMemory → subscriber_fault (is_some (account_of number listing.subscribers)) (has_account account listing.accounts) ≡ Some why)
    → RefusesRow (list_fault_of why) (name_subscriber (setup_in listing) (digits_of_number number) account)
subscriber_refused listing number account why is =
    refusal _ (has_subscriber (digits_of_number number) (with_digits listing.subscribers)) (has_account account listing.accounts) why
    (λ other. ap (λ named. subscriber_fault named (has_account account listing.accounts)) (sym (subscriber_named number listing.subscribers)) ∙ is other)

subscriber_entered : (listing : Listing) (number : Number) (account : ℕ)
    → subscriber_fault (is_some (account_of number listing.subscribers)) (has_account account listing.accounts) ≡ None
    → name_subscriber (setup_in listing) (digits_of_number number) account ≡ Ok (setup_in (with_subscriber listing number account))
subscriber_entered listing number account fine =
    entrance _ (has_subscriber (digits_of_number number) (with_digits listing.subscribers)) (has_account account listing.accounts)
    (ap (λ named. subscriber_fault named (has_account account listing.accounts)) (sym (subscriber_named number listing.subscribers)) ∙ fine)
    ∙ ap (λ (subscribers : List (List ℕ × ℕ)). Ok (record { accounts = listing.accounts; subscribers = subscribers })) (sym (with_digits-inserted listing.subscribers number account))

-- a subscriber is listed by what the directory says of it
pub subscriber_listed : (listing after : Listing) (number : Number) (account : ℕ) (outcome : Result (Unit {0}) SetupFault)
    → OnOk outcome (subscriber_fault (is_some (account_of number listing.subscribers)) (has_account account listing.accounts) ≡ None)
    → OnOk outcome (after ≡ with_subscriber listing number account)
    → IfErr outcome (λ why. why ≢ fault.OutOfMemory → subscriber_fault (is_some (account_of number listing.subscribers)) (has_account account listing.accounts) ≡ Some why)
    → ListsRow (result_map_both (λ done. done) list_fault_of outcome) (setup_in after) (name_subscriber (setup_in listing) (digits_of_number number) account)
subscriber_listed listing after number account (Ok done) fine is why = rw is (subscriber_entered listing number account fine)
subscriber_listed listing after number account (Err other) fine is why = subscriber_refused listing number account other why
