-- What takes arrivals from outside by a number.
use Rattle.std.specs.Prelude.{ℕ, Bool}
use Rattle.fb_model.specs.Wires.{Kind}
use Rattle.fb_model.specs.Devices.{is_input_numbered, is_subscriber}
use Rattle.fb_device_tables.specs.declared.taker.Taker.{Taker}
use Rattle.fb_device_tables.specs.declared.taker.Taker.TheVariants.{Input, Subscriber}

abbrev pub is_taker : Taker → ℕ → Kind → Bool
is_taker Input = is_input_numbered
is_taker Subscriber = is_subscriber
