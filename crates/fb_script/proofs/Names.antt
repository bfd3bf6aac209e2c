-- The names of answers.
use Rattle.std.proofs.Common.{◌≡◌, ◌≤◌, ℕ, zero, suc, List, [], ◌∷◌, ◌++◌, length, Option, Some, None, refl, sym, ◌∙◌, ap, arith, Bor, codes}
use Rattle.std.specs.Prelude.{slice_get}
use Rattle.std.specs.Fmt.{decimal}
use Rattle.std.specs.List.{join_with_byte}
use Rattle.std.specs.Option.{option_map, option_copied}
use Rattle.std.proofs.lemmas.List.Splits.{join_with_byte-slice_split}
use Rattle.fb_model.specs.Names.{Name}
use Rattle.fb_model.specs.Wires.{Leaf}
use Rattle.fb_model.specs.Certificates.{events_of}
use Rattle.fb_device_tables.specs.Views.{place_at, place_in}
use Rattle.fb_device.specs.Answers.{IsNamed, IsNoPoint}
use Rattle.fb_device_dispatch.specs.Answers.{dispatched_of, end_of}
use Rattle.fb_chart.specs.Responses.{effect_of}
use Rattle.fb_device_dispatch.specs.declared.answer.Ended.{Ended}
use Rattle.fb_chart.specs.declared.standing.Effect.{Effect as Outside}
use Rattle.fb_chart.specs.declared.standing.Effect.TheVariants as outside
use Rattle.fb_device_tables.specs.Tables.{IsPoint}
use Rattle.fb_device_dispatch.specs.declared.answer.Ran.{Ran as RanRecord}
use Rattle.fb_device_dispatch.specs.declared.answer.Dispatched.TheVariants as dispatched
use Rattle.fb_script.specs.Texts.{place_text, effect_text, end_text, outside_text, done_text, ended_text, told_text, answer_text}
use Rattle.fb_script.specs.declared.told.Told.TheVariants as told

place_named : (all : List Leaf) (block event : ℕ) (path name : List ℕ) → IsNamed all block event path name → place_text (place_at all (record { block = block; event = event })) ≡ path ++ codes "." ++ name
place_named all block event path name n =
    ap (λ o. place_text (place_in o event)) n.block_is
    ∙ (ap (λ o. join_with_byte 46 n.leaf.path ++ codes "." ++ elim o [ None ↦ [] | Some x ↦ x ]) n.name_is
    ∙ ap (λ t. t ++ codes "." ++ name) (ap (join_with_byte 46) (sym n.path_is) ∙ join_with_byte-slice_split 46 path))

same_end : (o : Option Ended) → ended_text o ≡ end_text (option_map end_of o)
same_end None = refl
same_end (Some e) = refl

-- what a run has done
same_effect : (sent : Option ℕ) (effect : Option (Bor Outside)) → done_text effect sent ≡ effect_text sent (effect_of (option_copied effect))
same_effect sent None = refl
same_effect sent (Some e) = by e.now
  where
    by : (x : Outside) → outside_text sent x ≡ effect_text sent (effect_of (Some x))
    by (outside.Write number values) = refl
    by (outside.Send message) = refl

-- a run is told by its names
pub run_told : (all : List Leaf) (r : RanRecord) (path event : Bor (List ℕ)) (effect : Option (Bor Outside)) (sent : Option ℕ) → IsNamed all r.block r.event path.now event.now → option_copied effect ≡ r.effect
    → told_text (told.Ran r.cause path event r.steps effect sent r.ended) ≡ answer_text sent (dispatched_of all (dispatched.Ran r))
run_told all r path event effect sent n lent =
    ap (λ t. codes "ran " ++ t ++ codes " steps " ++ decimal r.steps ++ done_text effect sent ++ ended_text r.ended) (sym (place_named all r.block r.event path.now event.now n))
    ∙ ap (λ t. codes "ran " ++ place_text (place_at all (record { block = r.block; event = r.event })) ++ codes " steps " ++ decimal r.steps ++ t ++ ended_text r.ended)
    (same_effect sent effect ∙ ap (λ o. effect_text sent (effect_of o)) lent)
    ∙ ap (λ t. codes "ran " ++ place_text (place_at all (record { block = r.block; event = r.event })) ++ codes " steps " ++ decimal r.steps ++ effect_text sent (effect_of r.effect) ++ t) (same_end r.ended)

-- an answer of the device has a name
pub never_unnamed : (all : List Leaf) (block event : ℕ) → IsPoint all (record { block = block; event = event }) → IsNoPoint all block event → ⊥
never_unnamed all block event p h = absurd (omega (arith, p.event, none_there_at (events_of p.leaf.kind) event (h p.leaf p.block)))
  where
    none_there_at : (names : List Name) (k : ℕ) → slice_get names k ≡ None → length names ≤ k
    none_there_at [] k e = omega arith
    none_there_at (x ∷ xs) zero e = absurd cc
    none_there_at (x ∷ xs) (suc k) e = let l = none_there_at xs k e in omega arith
