-- What the code reckons with at a leaf of the tables.
-- This project's profile.
use Rattle.std.specs.Prelude.{ℕ, List, map, if◌then◌else◌}
use Rattle.std.specs.Str.{bytes_eq}
use Rattle.fb_prices.specs.declared.primitive.Primitive.{Primitive}
use Rattle.fb_prices.specs.declared.primitive.Primitive.TheVariants as p
use Rattle.fb_model.specs.Services.{start, stop}
use Rattle.fb_model.specs.Names.{Name}
use Rattle.fb_flat.specs.Tables.{targets_of}
use Rattle.fb_find_laws.specs.Nodes.{capped}
use Rattle.fb_find_demands.specs.Grounds.{priced}
use Rattle.fb_prices.specs.Words.{prices_of}
use Rattle.fb_work_charts.specs.declared.scene.Scene.{Scene}
use Rattle.fb_work_charts.specs.Charges.{Tariff}

-- the tariff of a scene whose algorithms have these names
abbrev pub tariff_of : List Name → Scene → Tariff
tariff_of names scene = record { prices = prices_of scene.prices.now; algorithm = priced names scene.algorithms.now; targets = targets_of scene.outputs.now }

-- numbers as far as they are told apart
abbrev pub all_capped : List ℕ → List ℕ
all_capped ns = map capped ns

-- the primitive of an event of a timer
abbrev pub timed : Name → Primitive
timed e = if bytes_eq e start then p.Start else if bytes_eq e stop then p.Stop else p.Expire
