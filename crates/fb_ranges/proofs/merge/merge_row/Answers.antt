use Rattle.std.proofs.Common.{◌≡◌, ◌+◌, List, Some, refl, ap, subst, ◌∙◌}
use Rattle.std.specs.Prelude.{if◌then◌else◌, string_bytes, IsSome}
use Rattle.std.specs.Map.{lookup}
use Rattle.std.specs.Str.{bytes_eq}
use Rattle.std.specs.declared.string.String.{String}
use Rattle.std.specs.declared.alloc.Global.{Global}
use Rattle.std.proofs.lemmas.Map.Text.{hash_map_updates_text}
use Rattle.fb_model.specs.Names.{Name}
use Rattle.fb_ranges.specs.declared.way.Reached.{Reached}
use Rattle.fb_ranges.specs.Meeting.{row_after}
use Rattle.fb_ranges_intervals.specs.Views.{span_of}
use Rattle.fb_ranges.specs.Views.{mark_in, mark_of}
use Rattle.fb_ranges.proofs.Ways.{put_mark}
use Rattle.fb_ranges.proofs.merge.merge_row.Goals as goal

pub returns-in-Some-clause-rows : goal.returns-in-Some-clause-rows
returns-in-Some-clause-rows c =
    let ways = c.args.ways.now in
    let x = c.args.name.now in
    let v : Reached = record { range = c.next_range.result; ways = ways.count + 1 } in
    let new = c.get_mut.follows.lender v in
    let updates = (c.get_mut.follows.holds v).3 (subst IsSome c.in-Some.ensures.value refl) in
    put_mark ways.rows.entries new.entries x v (row_after ways.count (mark_of ways x) (span_of c.args.before) (span_of c.args.end)) (λ y. hash_map_updates_text x ways.rows new (Some v) updates y) c.next_range.ensures

pub returns-clause-rows : goal.returns-clause-rows
returns-clause-rows c =
    let ways = c.args.ways.now in
    let x = c.args.name.now in
    let old = c.get_mut.follows.lender-at-none in
    let new = c.insert.new.self in
    let v : Reached = record { range = c.next_range.result; ways = ways.count + 1 } in
    let put : (y : Name) → lookup (λ z. bytes_eq y (string_bytes z)) new.entries ≡ (if bytes_eq (string_bytes c.in_ok-key.key) y then Some v else lookup (λ z. bytes_eq y (string_bytes z)) old.entries) =
    λ y. hash_map_updates_text (string_bytes c.in_ok-key.key) old new (Some v) c.in_ok-insert.ensures.updates y in
    λ y.
    put_mark old.entries new.entries x v (row_after ways.count (mark_of ways x) (span_of c.args.before) (span_of c.args.end))
    (subst (λ (n : Name). (y : Name) → lookup (λ z. bytes_eq y (string_bytes z)) new.entries ≡ (if bytes_eq n y then Some v else lookup (λ z. bytes_eq y (string_bytes z)) old.entries)) c.in_ok-key.ensures.ok put)
    c.next_range.ensures y
    ∙ ap (λ (es : List (String Global × Reached)). if bytes_eq x y then Some (row_after ways.count (mark_of ways x) (span_of c.args.before) (span_of c.args.end), ways.count + 1) else mark_in es y) (ap (λ m. m.entries) c.get_mut.follows.holds-at-none)
