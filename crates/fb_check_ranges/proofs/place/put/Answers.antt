use Rattle.std.proofs.Common.{◌≡◌, false, is_some, sym, ◌∙◌, string_bytes}
use Rattle.std.specs.Map.{lookup}
use Rattle.std.specs.Str.{bytes_eq}
use Rattle.fb_check_ranges.proofs.Putting.{goes_in}
use Rattle.fb_check_ranges.proofs.place.put.Goals as goal

pub returns-in_ok-insert : goal.returns-in_ok-insert
returns-in_ok-insert c =
    let p = c.as_str-path.result.now in
    let new : is_some (lookup (λ y. bytes_eq p (string_bytes y)) c.args.places.now.entries) ≡ false = sym c.contains_key.ensures ∙ c.if-not-contains_key.true in
    goes_in c.args.places.now.entries c.insert.new.self.entries c.in_ok-from_str.field-0 c.args.leaf p c.in_ok-from_str.ensures.ok (sym c.as_str-path.ensures.value) new c.in_ok-insert.ensures.entries
