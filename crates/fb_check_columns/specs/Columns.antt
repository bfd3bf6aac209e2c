-- The columns of a certificate.
use Rattle.std.specs.Prelude.{ℕ, ◌+◌, Option, None, Some}
use Rattle.fb_model.specs.Certificates as book
use Rattle.fb_check_columns.specs.declared.column.Column.{Column}
use Rattle.fb_check_columns.specs.declared.column.Column.TheVariants.{Steps, Places, Far}

-- what a dispatch, a crossing or a step counts
abbrev pub unit_of : Column → ℕ
unit_of Steps = 1
unit_of Places = 0
unit_of Far = 1

abbrev pub column_of : Column → book.Certificate → book.Column
column_of Steps cert = book.steps_of cert
column_of Places cert = book.places_of cert
column_of Far cert = book.far_of cert

-- what an event input's weight has to pay for a crossing to a state of this charge
abbrev pub crossing_need : Column → Option ℕ → ℕ
crossing_need c None = 0
crossing_need c (Some next) = unit_of c + unit_of c + next
