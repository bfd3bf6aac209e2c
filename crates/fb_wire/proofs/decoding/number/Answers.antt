use Rattle.std.proofs.Common.{rules, ◌≡◌, ℤ, sym, subst, w64}
use Rattle.std.specs.Int.{cast_unsigned, to_be_bytes}
use Rattle.std.proofs.lemmas.Int.{to_z-of_z}
use Rattle.fb_wire.proofs.Reading.{written_again}
use Rattle.fb_wire.proofs.decoding.number.Goals as goal

pub returns : goal.returns
returns c =
    subst (λ (y : ℤ). to_be_bytes w64 (cast_unsigned w64 y) ≡ c.args.bytes.now) (sym (to_z-of_z w64 c.from_be_bytes.result (search rules)))
    (written_again c.args.bytes.now c.from_be_bytes.result (search rules) (search rules) c.from_be_bytes.ensures)
