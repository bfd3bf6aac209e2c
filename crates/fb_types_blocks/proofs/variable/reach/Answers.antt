use Rattle.std.proofs.Common.{◌-ℤ◌, refl, w64}
use Rattle.std.proofs.Math.Facts.{to_z-of_z}
use Rattle.fb_types_blocks.proofs.Bounds.{below}
use Rattle.fb_types_blocks.proofs.variable.reach.Goals as goal

pub returns-then-high-low : goal.returns-then-high-low
returns-then-high-low c = below c.args.low c.args.high (c.args.high -ℤ c.args.low) refl (rw (to_z-of_z {w = w64} c.ranges.low, to_z-of_z {w = w64} c.ranges.high) at c.if-high-low.true)
