-- Reading a certificate text from front to back, on lists.
use Rattle.std.specs.Prelude.{ℕ, ◌+◌, ◌-◌, ◌*◌, ◌==◌, Bool, true, false, not, ◌&&◌, ◌||◌, List, [], ◌∷◌, length, nat_lt, codes, Option, Some, None, is_some, Result, Ok, Err, if◌then◌else◌, ℤ, pos, neg_ℤ, int_le}
use Rattle.std.specs.Option.{option_map}
use Rattle.std.specs.Str.{bytes_eq}
use Rattle.std.specs.Str.Lines.{lines}
use Rattle.fb_model.specs.Spelling.{is_digit, is_start, upper}
use Rattle.fb_model.specs.CertificateText.{TextRow, repeats, range, charge, weight, depth, far, far_state, channel, words, begins_cert, most_steps, most_places, most_repeats, most_channel, most_lint, most_characters}
use Rattle.fb_model.specs.Spans.{Span, span}
use Rattle.fb_cert.specs.declared.certificate.Amount.{Amount}
use Rattle.fb_faults.specs.declared.certificate.CertFault.{CertFault}
use Rattle.fb_faults.specs.declared.certificate.CertFault.TheVariants.{TooLong, Row, DuplicateRow}
use Rattle.fb_cert.specs.Views.{Rows, no_rows, amount, has_row, with_row}

-- ---- numbers and paths

-- the number of digits behind those that count v, none of them beyond the limit
abbrev pub digits_to : ℕ → ℕ → List ℕ → Option ℕ
digits_to high v [] = Some v
digits_to high v (c ∷ cs) = if is_digit c then (if nat_lt high (v * 10 + (c - 48)) then None else digits_to high (v * 10 + (c - 48)) cs) else None

abbrev pub at_least : ℕ → Option ℕ → Option ℕ
at_least low None = None
at_least low (Some n) = if nat_lt n low then None else Some n

abbrev pub number_in : ℕ → ℕ → List ℕ → Option ℕ
number_in low high cs = if length cs == 0 then None else at_least low (digits_to high 0 cs)

-- the number of LINT that digits write, perhaps behind a minus
abbrev pub whole_in : List ℕ → Option ℤ
whole_in [] = None
whole_in (c ∷ cs) = if c == 45 then option_map (λ n. neg_ℤ (pos n)) (number_in 0 (most_lint + 1) cs) else option_map pos (number_in 0 most_lint (c ∷ cs))

-- what is left of a path, where a name begins or goes on
abbrev pub path_from : Bool → List ℕ → Bool
path_from begins [] = not begins
path_from begins (c ∷ cs) = if c == 46 then (if begins then false else path_from true cs) else (if is_start c || (not begins && is_digit c) then path_from false cs else false)

abbrev pub is_path : List ℕ → Bool
is_path cs = path_from true cs

-- ---- rows

abbrev pub both : {A : Type 0} → (ℕ → ℕ → A) → Option ℕ → Option ℕ → Option A
both f None k = None
both f (Some s) None = None
both f (Some s) (Some k) = Some (f s k)

abbrev pub amount_in : List ℕ → List ℕ → Option Amount
amount_in s k = both amount (number_in 0 most_steps s) (number_in 0 most_places k)

abbrev pub channel_in : List ℕ → List ℕ → Option TextRow
channel_in c n = both channel (number_in 0 most_channel c) (number_in 0 most_steps n)

abbrev pub between : Option ℤ → Option ℤ → Option Span
between None h = None
between (Some l) None = None
between (Some l) (Some h) = if int_le l h then Some (span l h) else None

abbrev pub interval_in : List ℕ → List ℕ → Option Span
interval_in l h = between (whole_in l) (whole_in h)

abbrev pub with_interval : List ℕ → Option Span → Option TextRow
with_interval p None = None
with_interval p (Some s) = Some (range p s.low s.high)

abbrev pub row_of_two : List ℕ → List ℕ → Option TextRow
row_of_two w n = if bytes_eq w (codes "REPEATS") then option_map repeats (number_in 1 most_repeats n) else None

-- a path, and one number
abbrev pub row_at_path : List ℕ → List ℕ → List ℕ → Option TextRow
row_at_path w p n =
    if bytes_eq w (codes "DEPTH") then option_map (depth p) (number_in 1 most_places n)
    else (if bytes_eq w (codes "FAR") then option_map (far p) (number_in 0 most_steps n) else (if bytes_eq w (codes "FARSTATE") then option_map (far_state p) (number_in 0 most_steps n) else None))

abbrev pub row_of_three : List ℕ → List ℕ → List ℕ → Option TextRow
row_of_three w p n = if bytes_eq w (codes "CHANNEL") then channel_in p n else (if is_path p then row_at_path w p n else None)

abbrev pub with_amount : List ℕ → List ℕ → Option Amount → Option TextRow
with_amount w p None = None
with_amount w p (Some a) = if bytes_eq w (codes "CHARGE") then Some (charge p a.steps a.places) else (if bytes_eq w (codes "WEIGHT") then Some (weight p a.steps a.places) else None)

abbrev pub row_of_four : List ℕ → List ℕ → List ℕ → List ℕ → Option TextRow
row_of_four w p a b = if is_path p then (if bytes_eq w (codes "RANGE") then with_interval p (interval_in a b) else with_amount w p (amount_in a b)) else None

abbrev pub text_row_at : List (List ℕ) → Option TextRow
text_row_at (w ∷ n ∷ []) = row_of_two w n
text_row_at (w ∷ p ∷ n ∷ []) = row_of_three w p n
text_row_at (w ∷ p ∷ s ∷ k ∷ []) = row_of_four w p s k
text_row_at ws = None

abbrev pub is_head : List (List ℕ) → Bool
is_head (w ∷ n ∷ []) = bytes_eq w (codes "CERT") && is_some (number_in 1 1 n)
is_head ws = false

-- ---- lines

-- whether the first row has come, and the rows behind it
pub record Read : Type 0 where
  pub headed : Bool
  pub rows : Rows

abbrev pub read : Bool → Rows → Read
read headed rows = record { headed = headed; rows = rows }

abbrev pub entered : ℕ → Option TextRow → Rows → Result Rows CertFault
entered n None rows = Err (Row n)
entered n (Some e) rows = if has_row e rows then Err (DuplicateRow n) else Ok (with_row e rows)

abbrev pub row_at : ℕ → List (List ℕ) → Rows → Result Rows CertFault
row_at n ws rows = if begins_cert ws then Err (DuplicateRow n) else entered n (text_row_at ws) rows

abbrev pub behind : Result Rows CertFault → Result Read CertFault
behind (Ok rows) = Ok (read true rows)
behind (Err e) = Err e

abbrev pub words_at : ℕ → List (List ℕ) → Read → Result Read CertFault
words_at n [] r = Ok r
words_at n (w ∷ ws) r = if r.headed then behind (row_at n (w ∷ ws) r.rows) else (if is_head (w ∷ ws) then Ok (read true r.rows) else Err (Row n))

abbrev pub chain : Result Read CertFault → (Read → Result Read CertFault) → Result Read CertFault
chain (Ok r) next = next r
chain (Err e) next = Err e

-- the lines from a number on
unfoldable pub lines_at : ℕ → List (List ℕ) → Read → Result Read CertFault
lines_at n [] r = Ok r
lines_at n (line ∷ rest) r = chain (words_at n (words line) r) (λ next. lines_at (n + 1) rest next)

abbrev pub whole : Result Read CertFault → Result Rows CertFault
whole (Err e) = Err e
whole (Ok r) = if r.headed then Ok r.rows else Err (Row 1)

abbrev pub text_at : List ℕ → Result Rows CertFault
text_at text = if nat_lt most_characters (length text) then Err TooLong else whole (lines_at 1 (lines (upper text)) (read false no_rows))
