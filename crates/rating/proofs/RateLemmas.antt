-- Rows are rated one after the other.
use Rattle.std.proofs.Common.{◌≡◌, ℕ, ◌<◌, ◌≤◌, Bool, true, false, List, [], ◌∷◌, ◌++◌, length, map, take, Option, Result, Ok, Err, refl, sym, ap, subst, ◌∙◌, inl, inr, append_assoc, append-nil, arith}
use Rattle.std.specs.Prelude.{fold, ◌&&◌, IfErr, OnOk, if◌then◌else◌, ◌⊎◌, IsErrAnd, MatchResult, nat_lt}
use Rattle.std.specs.Io.KnownBytes.{Appends, Keeps}
use Rattle.std.specs.List.{flat_map}
use Rattle.std.proofs.Math.Seq.{take-append_seam}
use Rattle.std.proofs.lemmas.List.{map-append}
use Rattle.std.proofs.lemmas.List.Concat.{flat_map-append}
use Rattle.std.proofs.lemmas.List.Elements.{All-nil, All-push}
use Rattle.std.proofs.lemmas.List.Sums.{fold_push}
use Rattle.std.proofs.KnownBytes.{Appends-trans, Appends-nil, Keeps-refl}
use Rattle.table_core.proofs.FrontLemmas.{front_behind}
use Rattle.csv.specs.Records.{fields_of}
use Rattle.table_core.specs.Rows.{Fields, HasRowsLeft, TakesNext, rows_of}
use Rattle.table_core.specs.declared.table.Rows.{Rows}
use Rattle.rating.specs.Ends.{AddsRatedRow, EndsRating, IsInPart, IsRatedWhole, IsRatingSilent, RateFaultMayAlwaysCome, SendsFront, StopsBy}
use Rattle.table_core.specs.Fronts.{AppendsFront}
use Rattle.rating.specs.Lines.{columns_text, header_line, rated_line, shown}
use Rattle.rating.specs.Rated.{IsPriced, IsRated, Rating, Faulty, is_right}
use Rattle.rating.specs.Calls.{said_in, row_size, with_commas}
use Rattle.rating.proofs.FrontRows.{WholeOrOver, less_is, not_less, whole_or_over}
use Rattle.rating.proofs.LineLemmas.{row_written}
use Rattle.rating.proofs.StartCuts.{table_cut}
use Rattle.rating.specs.Cuts.{cut_start}
use Rattle.tariff_core.specs.Bands.{Band}
use Rattle.rating.specs.declared.call.TheConstants.{MAX_ROW, MAX_SHOWN}
use Rattle.rating.specs.declared.columns.Columns.{Columns}
use Rattle.rating.specs.Scores.{counted, no_rows}
use Rattle.rating.specs.Texts.{AreRated, IsRatedRow, RateInput, RatedRow, rated_below, counts_of, headed, rated_text}
use Rattle.rating.specs.Asks.{NamesWish}
use Rattle.rating.specs.Columns.{found_columns}
use Rattle.rating.specs.Faults.{of_rows}
use Rattle.rating.specs.declared.fault.HeaderFault.{HeaderFault}
use Rattle.rating.specs.declared.fault.HeaderFault.TheVariants as header_fault
use Rattle.rating.specs.declared.fault.RateFault.{RateFault}
use Rattle.rating.specs.declared.fault.RateFault.TheVariants as fault
use Rattle.run_texts.specs.InputFaults.{RefusesInput}
use Rattle.run_texts.specs.declared.input_fault.InputFault.{InputFault}
use Rattle.run_texts.specs.declared.input_fault.InputFault.TheVariants as input_fault
use Rattle.table_core.specs.declared.fault.TableFault.{TableFault}
use Rattle.table_core.specs.declared.fault.TableFault.TheVariants as table
use Rattle.rating.specs.declared.score.Score.{Score}

-- some rows are rated, others are left; of the text of those, a part was written and a part not yet
pub record IsUnderWay {R : Type 0} (remaining : R → Option (List ℕ)) (differing : Bool) (input : RateInput) (rows : Rows R) (old now : Option (List ℕ)) (text : List ℕ)
    (score : Score) : Type 0 where
  pub read : List Fields
  pub left : List Fields
  pub rows_are : input.rows ≡ read ++ left
  pub has : HasRowsLeft remaining rows (map shown left)
  pub rated : List RatedRow
  pub are_rated : AreRated input read rated
  pub sent : List ℕ
  pub wrote : Appends old now sent
  pub text_is : sent ++ text ≡ rated_text differing input.header rated
  pub score_is : score ≡ counts_of rated

front_all : (sent text : List ℕ) → sent ≡ take (length sent) (sent ++ text)
front_all [] text = refl
front_all (c ∷ sent) text = ap (λ l. c ∷ l) (front_all sent text)

-- ---- of each row what is printed is read

none_left : (left : List Fields) → map shown left ≡ [] → left ≡ []
none_left [] none = refl
none_left (whole ∷ rated_below) none = absurd (cc)

pub first_left : (left : List Fields) (first : Fields) (rest : List Fields) → map shown left ≡ first ∷ rest
    → (whole : Fields) × (rated_below : List Fields) × (left ≡ whole ∷ rated_below) × (first ≡ shown whole) × (rest ≡ map shown rated_below)
first_left [] first rest is = absurd (cc)
first_left (whole ∷ rated_below) first rest is = (whole, rated_below, refl, cc, cc)

over_row : (size : ℕ) → MAX_SHOWN < size → nat_lt MAX_ROW size ≡ true
over_row size over = less_is MAX_ROW size (omega (arith, over))

said_by : (width : ℕ) (columns : Columns) (some fields : Fields) → WholeOrOver some fields MAX_SHOWN → said_in width columns some ≡ said_in width columns fields
unfolding said_in
said_by width columns some fields (inl same) = ap (λ l. said_in width columns l) same
said_by width columns some fields (inr over) = rw (over_row (row_size some) over.0, over_row (row_size fields) over.1) refl

-- a row comes to what is printed of it comes to: one that was cut has too many bytes
rated_whole : (bands : List Band) (width : ℕ) (columns : Columns) (whole : Fields) (rating : Rating) → IsRated bands width columns (shown whole) rating → IsRated bands width columns whole rating
rated_whole bands width columns whole rating rated =
    subst (λ said. MatchResult said (λ said. IsPriced bands said.called said.answered said.paid rating) (λ why. rating ≡ Faulty why))
    (said_by width columns (shown whole) whole (whole_or_over whole MAX_SHOWN)) rated

module _ {R : Type 0} (remaining : R → Option (List ℕ)) (differing : Bool) (input : RateInput) where
  -- before the first row
  pub at_first : (rows : Rows R) (known : Option (List ℕ)) (text : List ℕ) → HasRowsLeft remaining rows (map shown input.rows) → text ≡ header_line input.header
      → IsUnderWay remaining differing input rows known known text no_rows
  at_first rows known text has is = record {
    read = [];
    left = input.rows;
    rows_are = refl;
    has = has;
    rated = [];
    are_rated = record { rows_are = refl; each = All-nil (IsRatedRow input) };
    sent = [];
    wrote = Appends-nil known;
    text_is = is ∙ sym (append-nil (header_line input.header));
    score_is = refl;
  }

  -- what was written is a front of the text
  pub in_part : (rows : Rows R) (old now : Option (List ℕ)) (text : List ℕ) (score : Score) → IsUnderWay remaining differing input rows old now text score
      → IsInPart differing (Ok input) old now
  in_part rows old now text score way = record {
    input = input;
    is_input = refl;
    read = way.read;
    left = way.left;
    rows_are = way.rows_are;
    rated = way.rated;
    are_rated = way.are_rated;
    front = (length way.sent, subst (λ l. Appends old now l) (front_all way.sent text ∙ ap (λ l. take (length way.sent) l) way.text_is) way.wrote);
  }

  -- so it is where the output failed
  pub failed : (rows : Rows R) (old now new : Option (List ℕ)) (text : List ℕ) (score : Score) → IsUnderWay remaining differing input rows old now text score
      → AppendsFront now new text → IsInPart differing (Ok input) old new
  failed rows old now new text score way front = record {
    input = input;
    is_input = refl;
    read = way.read;
    left = way.left;
    rows_are = way.rows_are;
    rated = way.rated;
    are_rated = way.are_rated;
    front = subst (λ l. AppendsFront old new l) way.text_is (front_behind old now new way.sent text way.wrote front);
  }

  -- all of the text was written, where none is left
  pub all_written : (rows : Rows R) (old now new : Option (List ℕ)) (text : List ℕ) (score : Score) (way : IsUnderWay remaining differing input rows old now text score)
      → map shown way.left ≡ [] → Appends now new text → IsRatedWhole differing (Ok input) score old new
  all_written rows old now new text score way none wrote =
      let all : input.rows ≡ way.read = way.rows_are ∙ ap (λ l. way.read ++ l) (none_left way.left none) ∙ append-nil way.read in
      record {
        printed = way.sent ++ text;
        is_text = record {
          input = input;
          is_input = refl;
          rated = way.rated;
          are_rated = record { rows_are = all ∙ way.are_rated.rows_are; each = way.are_rated.each };
          printed_is = way.text_is;
          score_is = way.score_is;
        };
        whole = Appends-trans old now new way.sent text way.wrote wrote;
      }

  -- one row more
  pub row_more : (rows more : Rows R) (old now : Option (List ℕ)) (text new_text : List ℕ) (score new_score : Score) (way : IsUnderWay remaining differing input rows old now text score)
      → TakesNext remaining more (map shown way.left) true
      → ((whole : Fields) → fields_of more.row ≡ shown whole → AddsRatedRow input.bands (length input.header) input.columns differing whole text new_text score new_score)
      → IsUnderWay remaining differing input more old now new_text new_score
  row_more rows more old now text new_text score new_score way takes added =
      let (rest, first, has) = takes in
      let (whole, rated_below, left_is, row_is, rest_is) = first_left way.left (fields_of more.row) rest first in
      let adds = added whole row_is in
      let row : RatedRow = record { fields = whole; rating = adds.rating } in
      record {
        read = way.read ++ whole ∷ [];
        left = rated_below;
        rows_are = way.rows_are ∙ ap (λ l. way.read ++ l) left_is ∙ sym (append_assoc way.read (whole ∷ []) rated_below);
        has = rw rest_is at has;
        rated = way.rated ++ row ∷ [];
        are_rated = record {
          rows_are = ap (λ l. l ++ whole ∷ []) way.are_rated.rows_are ∙ sym (map-append (λ r. r.fields) way.rated (row ∷ []));
          each = All-push (IsRatedRow input) way.rated row way.are_rated.each adds.is_rated;
        };
        sent = way.sent;
        wrote = way.wrote;
        text_is = ap (λ l. way.sent ++ l) adds.text ∙ sym (append_assoc way.sent text (rated_line differing row.fields row.rating))
            ∙ ap (λ l. l ++ rated_line differing row.fields row.rating) way.text_is
            ∙ append_assoc (header_line input.header) _ _
            ∙ ap (λ l. header_line input.header ++ l) (sym (flat_map-append (λ r. rated_line differing r.fields r.rating) way.rated (row ∷ []) ∙ ap (λ l. flat_map (λ r. rated_line differing r.fields r.rating) way.rated ++ l) (append-nil (rated_line differing row.fields row.rating))));
        score_is = adds.score ∙ ap (λ t. counted t adds.rating) way.score_is
            ∙ sym (ap (λ l. fold counted no_rows l) (map-append (λ r. r.rating) way.rated (row ∷ [])) ∙ fold_push counted no_rows (map (λ r. r.rating) way.rated) adds.rating);
      }

  -- so much of the text so far was written
  pub sent_more : (rows : Rows R) (old now new : Option (List ℕ)) (text rest : List ℕ) (score : Score) → IsUnderWay remaining differing input rows old now text score
      → SendsFront now new text rest → IsUnderWay remaining differing input rows old new rest score
  sent_more rows old now new text rest score way sends = record {
    read = way.read;
    left = way.left;
    rows_are = way.rows_are;
    has = way.has;
    rated = way.rated;
    are_rated = way.are_rated;
    sent = way.sent ++ sends.sent;
    wrote = Appends-trans old now new way.sent sends.sent way.wrote sends.wrote;
    text_is = append_assoc way.sent sends.sent rest ∙ ap (λ l. way.sent ++ l) (sym sends.is) ∙ way.text_is;
    score_is = way.score_is;
  }

-- a row was added
pub added : {X E : Type 0} (answer : Result X E) (bands : List Band) (width : ℕ) (columns : Columns) (differing : Bool) (fields : Fields) (old new : List ℕ) (old_score new_score : Score) (rating : Rating)
    → IsRated bands width columns fields rating → (differing && is_right rating) ≡ false → OnOk answer (new ≡ (old ++ with_commas fields) ++ columns_text rating)
    → new_score ≡ counted old_score rating
    → OnOk answer ((whole : Fields) → fields ≡ shown whole → AddsRatedRow bands width columns differing whole old new old_score new_score)
added (Ok done) bands width columns differing fields old new old_score new_score rating rated printed is counts = λ whole fields_are. record {
  rating = rating;
  is_rated = rated_whole bands width columns whole rating (rw fields_are at rated);
  text = is ∙ ap (λ l. (old ++ with_commas l) ++ columns_text rating) fields_are ∙ row_written old whole rating ∙ rw printed refl;
  score = counts;
}
added (Err why) bands width columns differing fields old new old_score new_score rating rated printed is counts = tt

-- ---- how rating ends at a fault

pub failed_ends : (differing : Bool) (meaning : Result RateInput RateFault) (old new : Option (List ℕ)) (answer : Result Score RateFault) (why : RateFault) → IsErrAnd answer (λ met. met ≡ why)
    → why ≡ fault.Output → IsInPart differing meaning old new → EndsRating differing meaning old new answer
failed_ends differing meaning old new (Ok score) why met is part = absurd met
failed_ends differing meaning old new (Err named) why met is part = rw (met, is) part

pub stops : (differing : Bool) (meaning : Result RateInput RateFault) (old new : Option (List ℕ)) (why : RateFault) → RateFaultMayAlwaysCome why → Keeps old new ⊎ IsInPart differing meaning old new
    → StopsBy differing meaning old new why
stops differing meaning old new (fault.Header found) may part = absurd may
stops differing meaning old new fault.Output may part = absurd may
stops differing meaning old new (fault.Input input_fault.Device) may part = part
stops differing meaning old new (fault.Input input_fault.OutOfMemory) may part = part
stops differing meaning old new (fault.Input input_fault.Parts) may part = absurd may
stops differing meaning old new (fault.Input input_fault.TooLong) may part = absurd may
stops differing meaning old new (fault.Input (input_fault.Tariff row)) may part = absurd may
stops differing meaning old new (fault.Input (input_fault.Setup row)) may part = absurd may
stops differing meaning old new (fault.Input (input_fault.Script row)) may part = absurd may

pub stopped_ends : (differing : Bool) (meaning : Result RateInput RateFault) (old new : Option (List ℕ)) (answer : Result Score RateFault) (why : RateFault) → IsErrAnd answer (λ met. met ≡ why)
    → RateFaultMayAlwaysCome why → Keeps old new ⊎ IsInPart differing meaning old new → EndsRating differing meaning old new answer
stopped_ends differing meaning old new (Ok score) why met may part = absurd met
stopped_ends differing meaning old new (Err named) why met may part = rw met (stops differing meaning old new why may part)

-- rating stops where a part of the input was refused, and nothing is written
refused_stops : {Y : Type 0} (differing : Bool) (meaning : Result RateInput RateFault) (part : Result Y InputFault) (known : Option (List ℕ)) (why : InputFault)
    → RefusesInput why part → (part ≡ Err why → meaning ≡ Err (fault.Input why)) → StopsBy differing meaning known known (fault.Input why)
refused_stops differing meaning part known input_fault.Device refused so = inl (Keeps-refl known)
refused_stops differing meaning part known input_fault.OutOfMemory refused so = inl (Keeps-refl known)
refused_stops differing meaning part known input_fault.Parts refused so = (so refused, Keeps-refl known)
refused_stops differing meaning part known input_fault.TooLong refused so = (so refused, Keeps-refl known)
refused_stops differing meaning part known (input_fault.Tariff row) refused so = (so refused, Keeps-refl known)
refused_stops differing meaning part known (input_fault.Setup row) refused so = (so refused, Keeps-refl known)
refused_stops differing meaning part known (input_fault.Script row) refused so = (so refused, Keeps-refl known)

-- a part of the input was refused, and nothing was written
pub refused_ends : {Y : Type 0} (differing : Bool) (meaning : Result RateInput RateFault) (part : Result Y InputFault) (known : Option (List ℕ)) (answer : Result Score RateFault) (why : InputFault)
    → IsErrAnd answer (λ met. met ≡ fault.Input why) → RefusesInput why part → (part ≡ Err why → meaning ≡ Err (fault.Input why)) → EndsRating differing meaning known known answer
refused_ends differing meaning part known (Ok score) why met refused so = absurd met
refused_ends differing meaning part known (Err named) why met refused so = rw met (refused_stops differing meaning part known why refused so)

-- the header was refused, and nothing was written
pub header_ends : (differing : Bool) (meaning : Result RateInput RateFault) (known : Option (List ℕ)) (answer : Result Score RateFault) (why : HeaderFault)
    → IsErrAnd answer (λ met. met ≡ fault.Header why) → meaning ≡ Err (fault.Header why) → EndsRating differing meaning known known answer
header_ends differing meaning known (Ok score) why met is = absurd met
header_ends differing meaning known (Err named) why met is = rw met (is, Keeps-refl known)

-- where nothing was written, any fault is silent
pub still_silent : (known : Option (List ℕ)) (why : RateFault) → IsRatingSilent known known why
still_silent known (fault.Header found) = Keeps-refl known
still_silent known fault.Output = tt
still_silent known (fault.Input input_fault.Device) = tt
still_silent known (fault.Input input_fault.OutOfMemory) = tt
still_silent known (fault.Input input_fault.Parts) = Keeps-refl known
still_silent known (fault.Input input_fault.TooLong) = Keeps-refl known
still_silent known (fault.Input (input_fault.Tariff row)) = Keeps-refl known
still_silent known (fault.Input (input_fault.Setup row)) = Keeps-refl known
still_silent known (fault.Input (input_fault.Script row)) = Keeps-refl known

pub ends_silent : (known : Option (List ℕ)) (answer : Result Score RateFault) → IfErr answer (IsRatingSilent known known)
ends_silent known (Ok score) = tt
ends_silent known (Err why) = still_silent known why

-- rows that can't be read
pub rows_may : (why : TableFault) → RateFaultMayAlwaysCome (of_rows why)
rows_may (table.Row refused) = tt
rows_may table.Device = tt
rows_may table.OutOfMemory = tt

-- ---- what is to be rated

over_header : (size : ℕ) → size ≤ MAX_SHOWN → nat_lt MAX_SHOWN size ≡ false
over_header size within = not_less MAX_SHOWN size within

header_whole : (whole : Fields) → row_size (shown whole) ≤ MAX_SHOWN → WholeOrOver (shown whole) whole MAX_SHOWN → shown whole ≡ whole
header_whole whole within (inl same) = same
header_whole whole within (inr over) = absurd (omega (arith, within, over.0))

first_headed : (names : NamesWish) (bands : List Band) (first : Fields) (below : List Fields) → row_size first ≤ MAX_SHOWN
    → headed names bands (first ∷ below) ≡ rated_below bands first below (found_columns first names)
first_headed names bands first below within = rw (over_header (row_size first) within) refl

-- a header that has few bytes was not cut, and is followed by the rows below it
headed_is : (names : NamesWish) (bands : List Band) (rows rest : List Fields) (first : Fields) → map shown rows ≡ first ∷ rest → row_size first ≤ MAX_SHOWN
    → (below : List Fields) × (headed names bands rows ≡ rated_below bands first below (found_columns first names)) × (rest ≡ map shown below)
headed_is names bands rows rest first is within =
    let (whole, below, rows_are, first_is, rest_is) = first_left rows first rest is in
    let same : first ≡ whole = first_is ∙ header_whole whole (rw first_is at within) (whole_or_over whole MAX_SHOWN) in
    let all : rows ≡ first ∷ below = rows_are ∙ ap (λ l. l ∷ below) (sym same) in
    (below, ap (λ l. headed names bands l) all ∙ first_headed names bands first below within, rest_is)

-- the first row of a table whose long rows are cut, and those below it
pub opened : {R : Type 0} (remaining : R → Option (List ℕ)) (names : NamesWish) (bands : List Band) (text : List ℕ) (rows : Rows R)
    → TakesNext remaining rows (rows_of (cut_start MAX_SHOWN text)) true → row_size (fields_of rows.row) ≤ MAX_SHOWN
    → (below : List Fields)
    × (headed names bands (rows_of text) ≡ rated_below bands (fields_of rows.row) below (found_columns (fields_of rows.row) names)) × HasRowsLeft remaining rows (map shown below)
opened remaining names bands text rows takes within =
    let (rest, first, left) = takes in
    let (below, is, rest_is) = headed_is names bands (rows_of text) rest (fields_of rows.row) (sym (table_cut 131069 text) ∙ first) within in
    (below, is, rw rest_is at left)

-- the bytes of a header, as it was printed

pub within_printed : (text : List ℕ) (fields : Fields) → text ≡ with_commas fields → length text ≤ MAX_SHOWN → row_size fields ≤ MAX_SHOWN
within_printed text fields is within = rw is at within

pub over_printed : (text : List ℕ) (fields : Fields) → text ≡ with_commas fields → MAX_SHOWN < length text → MAX_SHOWN < row_size fields
over_printed text fields is over = rw is at over

-- a table without a header that counts

pub no_header : (names : NamesWish) (bands : List Band) (text : List ℕ) → rows_of (cut_start MAX_SHOWN text) ≡ [] → headed names bands (rows_of text) ≡ Err (fault.Header header_fault.Absent)
no_header names bands text none = ap (λ l. headed names bands l) (none_left (rows_of text) (sym (table_cut 131069 text) ∙ none))

over_by : (whole : Fields) → MAX_SHOWN < row_size (shown whole) → WholeOrOver (shown whole) whole MAX_SHOWN → MAX_SHOWN < row_size whole
over_by whole over (inl same) = rw same at over
over_by whole over (inr both) = both.1

pub long_header : {R : Type 0} (remaining : R → Option (List ℕ)) (names : NamesWish) (bands : List Band) (text : List ℕ) (rows : Rows R)
    → TakesNext remaining rows (rows_of (cut_start MAX_SHOWN text)) true → MAX_SHOWN < row_size (fields_of rows.row) → headed names bands (rows_of text) ≡ Err (fault.Header header_fault.TooLong)
long_header remaining names bands text rows takes over =
    let (rest, first, left) = takes in
    let (whole, more, rows_are, first_is, rest_is) = first_left (rows_of text) (fields_of rows.row) rest (sym (table_cut 131069 text) ∙ first) in
    ap (λ l. headed names bands l) rows_are ∙ rw (less_is MAX_SHOWN (row_size whole) (over_by whole (rw first_is at over) (whole_or_over whole MAX_SHOWN))) refl

pub take_front : (front back : List ℕ) (count : ℕ) → count ≡ length front → take count (front ++ back) ≡ front
take_front front back count is = rw is (take-append_seam front back)

-- the line of a row isn't printed
pub hidden : (bands : List Band) (width : ℕ) (columns : Columns) (differing : Bool) (fields : Fields) (old new : List ℕ) (old_score new_score : Score) (rating : Rating)
    → IsRated bands width columns fields rating → (differing && is_right rating) ≡ true → new ≡ old → new_score ≡ counted old_score rating
    → (whole : Fields) → fields ≡ shown whole → AddsRatedRow bands width columns differing whole old new old_score new_score
hidden bands width columns differing fields old new old_score new_score rating rated hides same counts = λ whole fields_are. record {
  rating = rating;
  is_rated = rated_whole bands width columns whole rating (rw fields_are at rated);
  text = same ∙ sym (append-nil old) ∙ rw hides refl;
  score = counts;
}

pub ends_same : (differing : Bool) (meaning other : Result RateInput RateFault) (old new : Option (List ℕ)) (answer : Result Score RateFault) → meaning ≡ other
    → EndsRating differing other old new answer → EndsRating differing meaning old new answer
ends_same differing meaning other old new answer is ends = subst (λ m. EndsRating differing m old new answer) (sym is) ends
