-- The rows that `rate` prints.
use Rattle.std.specs.Prelude.{◌+◌, ◌-◌, ◌&&◌, ℕ, Bool, List, [], ◌∷◌, ◌++◌, Option, Some, None, codes, if◌then◌else◌, length, nat_lt, take}
use Rattle.std.specs.Fmt.{decimal}
use Rattle.csv.specs.Writing.{default_writer, field_text, row_text}
use Rattle.table_core.specs.Rows.{Fields}
use Rattle.rating.specs.Rated.{Rating, Faulty, Priced, is_right}
use Rattle.rating.specs.declared.call.TheConstants.{MAX_SHOWN}
use Rattle.rating.specs.declared.charge.PricedTimes.{PricedTimes}
use Rattle.rating.specs.declared.kind.RateKind.{RateKind}
use Rattle.rating.specs.declared.kind.RateKind.TheVariants as kind

-- the name of a fault
abbrev pub rate_kind_name : RateKind → List ℕ
rate_kind_name kind.Csv = codes "Csv"
rate_kind_name kind.Number = codes "Number"
rate_kind_name kind.Order = codes "Order"
rate_kind_name kind.TooLong = codes "TooLong"
rate_kind_name kind.NoRoute = codes "noroute"

-- the price less what was charged, with a minus where more was; empty where nothing is recorded
abbrev pub difference : ℕ → Option ℕ → List ℕ
difference price None = []
difference price (Some paid) = if nat_lt price paid then codes "-" ++ decimal (paid - price) else decimal (price - paid)

-- the six columns of a row
abbrev pub columns_of : Rating → Fields
columns_of (Priced prefix charge paid) =
    prefix ∷ decimal charge.before ∷ decimal charge.after ∷ decimal charge.price ∷ difference charge.price paid ∷ [] ∷ []
columns_of (Faulty why) = [] ∷ [] ∷ [] ∷ [] ∷ [] ∷ rate_kind_name why ∷ []

-- the names of the six columns
abbrev pub names : Fields
names = codes "prefix" ∷ codes "before" ∷ codes "after" ∷ codes "price" ∷ codes "difference" ∷ codes "fault" ∷ []

-- a field as csv writes it
abbrev pub cell : List ℕ → List ℕ
cell field = field_text default_writer field

-- times and their price as they are printed, a comma before each and one behind all
abbrev pub charge_text : PricedTimes → List ℕ
charge_text charge = codes "," ++ (cell (decimal charge.before) ++ (codes "," ++ (cell (decimal charge.after) ++ (codes "," ++ (cell (decimal charge.price) ++ codes ",")))))

-- the six columns as they are printed behind a comma, with the end of the line
abbrev pub columns_text : Rating → List ℕ
columns_text (Priced prefix charge paid) = cell prefix ++ (charge_text charge ++ (cell (difference charge.price paid) ++ codes ",\n"))
columns_text (Faulty why) = codes ",,,,," ++ (cell (rate_kind_name why) ++ codes "\n")

-- the header again, with the six names
abbrev pub header_line : Fields → List ℕ
header_line header = row_text default_writer (header ++ names)

-- the first bytes of a row, each end of a field counted as one
unfoldable pub front : ℕ → Fields → Fields
front room [] = []
front room (field ∷ fields) = if nat_lt (length field) room then field ∷ front (room - (length field + 1)) fields else take room field ∷ []

-- what is printed of a row
abbrev pub shown : Fields → Fields
shown fields = front MAX_SHOWN fields

-- a row again, with its six columns
abbrev pub rating_line : Fields → Rating → List ℕ
rating_line fields rating = row_text default_writer (shown fields ++ columns_of rating)

-- the same where it is printed: where only rows are that differ or have a fault, a right one isn't
abbrev pub rated_line : Bool → Fields → Rating → List ℕ
rated_line differing fields rating = if differing && is_right rating then [] else rating_line fields rating
