-- Accounts and subscribers that come into a directory one after another.
use Rattle.std.proofs.Common.{◌≡◌, ◌≤◌, ◌<◌, ◌+◌, ℕ, Bool, true, false, List, [], ◌∷◌, ◌++◌, length, Option, Some, None, refl, sym, ap, ◌∙◌, arith}
use Rattle.std.specs.Prelude.{◌==◌, All, cond, if◌then◌else◌, is_some, take, drop}
use Rattle.std.specs.Bool.{one_answer}
use Rattle.std.specs.BTreeMap.{insert_entry, is_at}
use Rattle.std.specs.Map.{lookup, values_of}
use Rattle.std.specs.Ordering.{is_eq, match_ordering, nat_cmp}
use Rattle.std.specs.Str.{bytes_eq}
use Rattle.std.specs.declared.cmp.Ordering.{Ordering}
use Rattle.std.specs.declared.cmp.Ordering.TheVariants.{Less, Equal, Greater}
use Rattle.std.proofs.Math.ListN.{get_or, get_or-map}
use Rattle.std.proofs.lemmas.Bool.Decides.{nat_tests}
use Rattle.std.proofs.lemmas.List.{length-map, take_all, take_more}
use Rattle.std.proofs.lemmas.Map.Text.{is_eq-slice_cmp}
use Rattle.std.proofs.lemmas.Slice.Eq.{bytes_eq-Decides}
use Rattle.cap_values.specs.NumberDigits.{by_digits, digits_of_number}
use Rattle.cap_values.specs.declared.number.Number.{Number}
use Rattle.run_values.proofs.Judging.{ends, lookup-alike, lookup-append, one_more, passes, stops}
use Rattle.run_values.specs.Openings.{opening_is_in_range}
use Rattle.run_values.specs.Setups.{account_fault, account_of, first_listing_fault, has_account, opening_of, subscriber_fault}
use Rattle.run_values.specs.declared.directory.OpeningCredit.{OpeningCredit}
use Rattle.run_values.specs.declared.setup_fault.SetupFault.{SetupFault}
use Rattle.run_values.specs.declared.setup_fault.SetupFault.TheVariants as fault

-- ---- entries in order, and a new one

module _ {K V : Type 0} (R : K → K → Ordering) (test : K → Bool) (k : K) (v : V) where
  later : (here new : Bool) (x : V) (found rest : Option V) → (new ≡ true → is_some (cond here (Some x) found) ≡ false)
      → ((new ≡ true → is_some found ≡ false) → rest ≡ cond new (Some v) found) → cond here (Some x) rest ≡ cond new (Some v) (cond here (Some x) found)
  later true true x found rest apart more = cc (apart refl)
  later true false x found rest apart more = refl
  later false new x found rest apart more = more apart

  -- a look-up finds a new entry, and what was there before
  lookup-inserted : (es : List (K × V)) → is_some (lookup (is_at (R k)) es) ≡ false → (test k ≡ true → is_some (lookup test es) ≡ false)
      → lookup test (insert_entry R es k v) ≡ cond (test k) (Some v) (lookup test es)
  lookup-inserted [] new apart = refl
  lookup-inserted (e ∷ es) new apart = by (R k e.0) (lookup-inserted es) new
    where
      by : (r : Ordering)
          → (is_some (lookup (is_at (R k)) es) ≡ false → (test k ≡ true → is_some (lookup test es) ≡ false) → lookup test (insert_entry R es k v) ≡ cond (test k) (Some v) (lookup test es))
          → is_some (cond (is_eq r) (Some e.1) (lookup (is_at (R k)) es)) ≡ false
          → lookup test (match_ordering r ((k, v) ∷ e ∷ es) ((e.0, v) ∷ es) (e ∷ insert_entry R es k v)) ≡ cond (test k) (Some v) (cond (test e.0) (Some e.1) (lookup test es))
      by Less more fresh = refl
      by Equal more fresh = cc
      by Greater more fresh = later (test e.0) (test k) e.1 (lookup test es) (lookup test (insert_entry R es k v)) apart (more fresh)

-- ---- items that are listed one after another

-- how items are distinguished and ordered by their keys, and judged by whether a key was named before
pub record Items (K V : Type 0) : Type 0 where
  pub order : K → K → Ordering
  pub same : K → K → Bool
  pub agrees : (k other : K) → is_at (order k) other ≡ same other k
  pub alike : (k q : K) → same k q ≡ true → (es : List (K × V)) → lookup (λ other. same other k) es ≡ lookup (λ other. same other q) es
  pub judge : Bool → K × V → Option SetupFault
  pub is_new : (named : Bool) (item : K × V) → judge named item ≡ None → named ≡ false

module _ {K V : Type 0} (kind : Items K V) where
  abbrev found : K → List (K × V) → Option V
  found q es = lookup (λ other. kind.same other q) es

  abbrev judged : List (K × V) → K × V → Option SetupFault
  judged earlier item = kind.judge (is_some (found item.0 earlier)) item

  abbrev inserted : List (K × V) → K × V → List (K × V)
  inserted listed item = insert_entry kind.order listed item.0 item.1

  -- the items up to a place have no fault, and they are listed
  pub record AreListed (items : List (K × V)) (i : ℕ) (listed : List (K × V)) : Type 0 where
    pub so_far : first_listing_fault judged [] items ≡ first_listing_fault judged (take i items) (drop i items)
    pub finds : (q : K) → found q listed ≡ found q (take i items)
    pub count : length listed ≡ i

  -- no item has a fault, and all are listed
  pub record AreAllListed (items listed : List (K × V)) : Type 0 where
    pub fine : first_listing_fault judged [] items ≡ None
    pub finds : (q : K) → found q listed ≡ found q items
    pub count : length listed ≡ length items

  finds_more : (listed earlier : List (K × V)) (item : K × V) → ((q : K) → found q listed ≡ found q earlier) → is_some (found item.0 listed) ≡ false
      → (q : K) → found q (inserted listed item) ≡ found q (earlier ++ item ∷ [])
  finds_more listed earlier item finds new q =
      let apart = λ (is : kind.same item.0 q ≡ true). rw (kind.alike item.0 q is listed) at new in
      lookup-inserted kind.order (λ other. kind.same other q) item.0 item.1 listed (rw (lookup-alike (is_at (kind.order item.0)) (λ other. kind.same other item.0) (kind.agrees item.0) listed) new) apart
      ∙ rw (finds q, lookup-append (λ other. kind.same other q) earlier item) (one_more (found q earlier) (kind.same item.0 q) item.1 (λ is. rw (finds q) at (apart is)))

  pub none_listed : (items : List (K × V)) → AreListed items 0 []
  none_listed items = record { so_far = refl; finds = λ q. refl; count = refl }

  -- an item is judged alike by what is listed
  judged_alike : (listed earlier : List (K × V)) (item : K × V) → ((q : K) → found q listed ≡ found q earlier) → judged earlier item ≡ judged listed item
  judged_alike listed earlier item finds = ap (λ (met : Option V). kind.judge (is_some met) item) (sym (finds item.0))

  pub passed : (items : List (K × V)) (i : ℕ) (d : K × V) (listed : List (K × V)) → i < length items → AreListed items i listed → judged listed (get_or items i d) ≡ None
      → length (inserted listed (get_or items i d)) ≡ length listed + 1 → AreListed items (i + 1) (inserted listed (get_or items i d))
  passed items i d listed within are fine longer =
      let item = get_or items i d in
      record {
        so_far = are.so_far ∙ passes judged items i d within (judged_alike listed (take i items) item are.finds ∙ fine);
        finds = rw (take_more items i d within) (finds_more listed (take i items) item are.finds (kind.is_new _ item fine));
        count = longer ∙ ap (λ n. n + 1) are.count;
      }

  pub refused : (items : List (K × V)) (i : ℕ) (d : K × V) (listed : List (K × V)) (why : SetupFault) → i < length items → AreListed items i listed
      → judged listed (get_or items i d) ≡ Some why → first_listing_fault judged [] items ≡ Some why
  refused items i d listed why within are wrong = are.so_far ∙ stops judged items i d why within (judged_alike listed (take i items) (get_or items i d) are.finds ∙ wrong)

  pub all_listed : (items : List (K × V)) (i : ℕ) (listed : List (K × V)) → length items ≤ i → i ≤ length items → AreListed items i listed → AreAllListed items listed
  all_listed items i listed past within are = record {
    fine = are.so_far ∙ ends judged items i past;
    finds = λ q. are.finds q ∙ ap (found q) (take_all i items past);
    count = omega (arith, past, within, are.count);
  }

-- ---- accounts

pub same_number : (k other : ℕ) → is_at (nat_cmp k) other ≡ (other == k)
same_number k other = grind (arith, nat_tests)

pub number_alike : (k q : ℕ) → (k == q) ≡ true → (es : List (ℕ × OpeningCredit)) → opening_of k es ≡ opening_of q es
number_alike k q is es = let same : k ≡ q = grind (arith, nat_tests, is) in ap (λ n. opening_of n es) same

pub new_account : (ranged named : Bool) → (if ranged then if named then Some fault.Repeated else None else Some fault.OutOfRange) ≡ None → named ≡ false
new_account false named fine = cc
new_account true true fine = cc
new_account true false fine = refl

abbrev pub account_items : Items ℕ OpeningCredit
account_items = record {
  order = nat_cmp;
  same = λ other account. other == account;
  agrees = same_number;
  alike = number_alike;
  judge = λ named account. account_fault named account.1;
  is_new = λ named account. new_account (opening_is_in_range account.1) named;
}

-- what a map of the accounts finds
pub opening_of-entries : (accounts : List (ℕ × OpeningCredit)) (account : ℕ) → opening_of account accounts ≡ lookup (is_at (nat_cmp account)) accounts
opening_of-entries accounts account = sym (lookup-alike (is_at (nat_cmp account)) (λ other. other == account) (same_number account) accounts)

-- what holds of each value holds of each entry's
pub values_entries : (P : OpeningCredit → Type 0) (entries : List (ℕ × OpeningCredit)) → All P (values_of entries) → All (λ entry. P entry.1) entries
values_entries P entries all k d below =
    rw (get_or-map (λ (entry : ℕ × OpeningCredit). entry.1) entries k d) at (all k d.1 (rw (length-map entries (λ (entry : ℕ × OpeningCredit). entry.1)) below))

-- ---- subscribers

pub same_digits : (k other : Number) → is_at (by_digits k) other ≡ bytes_eq (digits_of_number other) (digits_of_number k)
same_digits k other =
    let one = bytes_eq-Decides (digits_of_number k) (digits_of_number other) in
    let flipped = bytes_eq-Decides (digits_of_number other) (digits_of_number k) in
    is_eq-slice_cmp (digits_of_number k) (digits_of_number other) ∙ one_answer _ _ one (λ is. sym (flipped.0 is), λ same. flipped.1 (sym same))

pub digits_alike : (k q : Number) → bytes_eq (digits_of_number k) (digits_of_number q) ≡ true → (es : List (Number × ℕ)) → account_of k es ≡ account_of q es
digits_alike k q is es = ap (λ digits. lookup (λ other. bytes_eq (digits_of_number other) digits) es) ((bytes_eq-Decides _ _).0 is)

pub new_subscriber : (named known : Bool) → subscriber_fault named known ≡ None → named ≡ false
new_subscriber true known fine = cc
new_subscriber false known fine = refl

-- those that have one of these accounts
abbrev pub subscriber_items : List (ℕ × OpeningCredit) → Items Number ℕ
subscriber_items accounts = record {
  order = by_digits;
  same = λ other number. bytes_eq (digits_of_number other) (digits_of_number number);
  agrees = same_digits;
  alike = digits_alike;
  judge = λ named subscriber. subscriber_fault named (has_account subscriber.1 accounts);
  is_new = λ named subscriber. new_subscriber named (has_account subscriber.1 accounts);
}

-- what a map of the subscribers finds
pub account_of-entries : (subscribers : List (Number × ℕ)) (number : Number) → account_of number subscribers ≡ lookup (is_at (by_digits number)) subscribers
account_of-entries subscribers number = sym (lookup-alike (is_at (by_digits number)) (λ other. bytes_eq (digits_of_number other) (digits_of_number number)) (same_digits number) subscribers)
