-- What a run is set up with, and what can be wrong with it.
use Rattle.std.specs.Prelude.{◌≡◌, ◌≤◌, ◌==◌, ◌||◌, ◌∷◌, ◌++◌, ℕ, Bool, List, [], length, Option, None, Some, if◌then◌else◌, is_some, nat_lt, position}
use Rattle.std.specs.List.Sorted.{IsStrictlySortedBy}
use Rattle.std.specs.BTreeMap.{insert_entry}
use Rattle.std.specs.Map.{keys_of, lookup}
use Rattle.std.specs.Option.{option_or}
use Rattle.std.specs.Ordering.{nat_cmp}
use Rattle.std.specs.Str.{bytes_eq}
use Rattle.cap_values.specs.NumberDigits.{by_digits, digits_of_number}
use Rattle.cap_values.specs.declared.number.Number.{Number}
use Rattle.dialogue_core.specs.declared.config.ServiceConfig.{ServiceConfig}
use Rattle.tariff_core.specs.Bands.{Band}
use Rattle.run_values.specs.Openings.{opening_is_in_range}
use Rattle.run_values.specs.declared.directory.OpeningCredit.{OpeningCredit}
use Rattle.run_values.specs.declared.setup_fault.SetupFault.{SetupFault}
use Rattle.run_values.specs.declared.setup_fault.SetupFault.TheVariants as fault
use Rattle.account_core.specs.declared.limits.TheConstants.{MAX_LIMIT, MIN_LIMIT}
use Rattle.run_values.specs.declared.setup.TheConstants.{MAX_ACCOUNTS, MAX_SUBSCRIBERS}

-- the opening credit of an account, in a list of accounts with theirs
abbrev pub opening_of : ℕ → List (ℕ × OpeningCredit) → Option OpeningCredit
opening_of account = lookup (λ other. other == account)

-- the account of a subscriber, in a list of subscribers with theirs
abbrev pub account_of : Number → List (Number × ℕ) → Option ℕ
account_of number = lookup (λ other. bytes_eq (digits_of_number other) (digits_of_number number))

-- whether an account is in such a list
abbrev pub has_account : ℕ → List (ℕ × OpeningCredit) → Bool
has_account account accounts = is_some (opening_of account accounts)

-- the first fault of the items of a list, each judged after the earlier ones
unfoldable pub first_listing_fault : {X : Type 0} → (List X → X → Option SetupFault) → List X → List X → Option SetupFault
first_listing_fault judge earlier [] = None
first_listing_fault judge earlier (item ∷ items) = option_or (judge earlier item) (first_listing_fault judge (earlier ++ item ∷ []) items)

-- the limit is `MIN_LIMIT` to `MAX_LIMIT`, and there are at most `MAX_ACCOUNTS` accounts and `MAX_SUBSCRIBERS` subscribers
abbrev pub counts_fault : ℕ → ℕ → ℕ → Option SetupFault
counts_fault limit accounts subscribers =
    if nat_lt limit MIN_LIMIT || nat_lt MAX_LIMIT limit || nat_lt MAX_ACCOUNTS accounts || nat_lt MAX_SUBSCRIBERS subscribers then Some fault.OutOfRange else None

-- an account has an opening credit in its range, and a number that isn't named before
abbrev pub account_fault : Bool → OpeningCredit → Option SetupFault
account_fault is_named opening = if opening_is_in_range opening then if is_named then Some fault.Repeated else None else Some fault.OutOfRange

-- what is wrong with an account after earlier ones
abbrev pub judge_account : List (ℕ × OpeningCredit) → ℕ × OpeningCredit → Option SetupFault
judge_account earlier account = account_fault (has_account account.0 earlier) account.1

-- the first fault of the accounts
abbrev pub accounts_fault : List (ℕ × OpeningCredit) → Option SetupFault
accounts_fault = first_listing_fault judge_account []

-- a subscriber has a number that isn't named before, and an account that there is
abbrev pub subscriber_fault : Bool → Bool → Option SetupFault
subscriber_fault is_named is_known = if is_named then Some fault.Repeated else if is_known then None else Some fault.Unknown

-- what is wrong with a subscriber after earlier ones
abbrev pub judge_subscriber : List (ℕ × OpeningCredit) → List (Number × ℕ) → Number × ℕ → Option SetupFault
judge_subscriber accounts earlier subscriber = subscriber_fault (is_some (account_of subscriber.0 earlier)) (has_account subscriber.1 accounts)

-- the first fault of the subscribers
abbrev pub subscribers_fault : List (ℕ × OpeningCredit) → List (Number × ℕ) → Option SetupFault
subscribers_fault accounts = first_listing_fault (judge_subscriber accounts) []

-- what is wrong with accounts and subscribers: first with the accounts, then with the subscribers
abbrev pub items_fault : List (ℕ × OpeningCredit) → List (Number × ℕ) → Option SetupFault
items_fault accounts subscribers = option_or (accounts_fault accounts) (subscribers_fault accounts subscribers)

-- what is wrong with a setup: first with the limit and the counts, then with the accounts and the subscribers
abbrev pub setup_fault : ℕ → List (ℕ × OpeningCredit) → List (Number × ℕ) → Option SetupFault
setup_fault limit accounts subscribers =
    option_or (counts_fault limit (length accounts) (length subscribers)) (items_fault accounts subscribers)

-- what a directory lists: the accounts in ascending order, each with its opening credit; the subscribers in the order of their digits, each with its account
pub record Listing : Type 0 where
  pub accounts : List (ℕ × OpeningCredit)
  pub subscribers : List (Number × ℕ)

-- nothing is listed
abbrev pub nothing : Listing
nothing = record { accounts = []; subscribers = [] }

-- an account more, at its place in the order
abbrev pub with_account : Listing → ℕ → OpeningCredit → Listing
with_account listing number opening = record listing { accounts = insert_entry nat_cmp listing.accounts number opening }

-- a subscriber more, at its place in the order
abbrev pub with_subscriber : Listing → Number → ℕ → Listing
with_subscriber listing number account = record listing { subscribers = insert_entry by_digits listing.subscribers number account }

-- a run may have `MAX_ACCOUNTS` accounts and `MAX_SUBSCRIBERS` subscribers at most
pub record ListingIsWithin (listing : Listing) : Type 0 where
  pub accounts : length listing.accounts ≤ MAX_ACCOUNTS
  pub subscribers : length listing.subscribers ≤ MAX_SUBSCRIBERS

-- what a run is set up with: the accounts in ascending order, each with its opening credit; the subscribers, each with its account
pub record Setup : Type 0 where
  pub accounts : List (ℕ × OpeningCredit)
  pub subscribers : List (Number × ℕ)
  pub tariff : List Band
  pub service : ServiceConfig
  pub limit : ℕ

-- the same accounts in ascending order of their numbers
pub record AreAscending (given accounts : List (ℕ × OpeningCredit)) : Type 0 where
  pub ordered : IsStrictlySortedBy nat_cmp (keys_of accounts)
  pub same : (account : ℕ) → opening_of account accounts ≡ opening_of account given

-- the place of an account in the ascending order
abbrev pub place_of : ℕ → Setup → Option ℕ
place_of account setup = position (λ other. other.0 == account) setup.accounts
