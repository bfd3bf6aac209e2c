-- Values that go into variables and out of them, by names and by slots.
use Rattle.std.proofs.Common.{◌≡◌, ℕ, ◌+◌, ◌<◌, ◌≤◌, ℤ, Bool, true, false, ◌||◌, List, [], ◌∷◌, length, slice_get, Option, None, Some, refl, sym, ap, subst, ◌∙◌, arith, string_bytes}
use Rattle.std.specs.Prelude.{if◌then◌else◌}
use Rattle.std.specs.Option.{option_map}
use Rattle.std.specs.Str.{bytes_eq}
use Rattle.std.specs.declared.string.String.{String}
use Rattle.std.specs.declared.alloc.Global.{Global}
use Rattle.std.proofs.Math.Path.{fun_ext}
use Rattle.fb_model.specs.Names.{Name, is_in}
use Rattle.fb_model.specs.Values.{Values}
use Rattle.fb_model.specs.BlockTyping.{extent}
use Rattle.fb_model.specs.Language.{setting}
use Rattle.fb_model.specs.Store.{where_in}
use Rattle.fb_model.proofs.Lists.{same_name}
use Rattle.fb_model.proofs.Names.{eq_turned}
use Rattle.st_exec.specs.Forms.{slot_in, slot_count, size_of}
use Rattle.st_exec.specs.Cells.{Cell, Form, values_of, forms_of, shape_in}
use Rattle.st_exec.proofs.Slots.{shape_is, declared_within}
use Rattle.fb_chart.specs.declared.table.Source.TheVariants as s
use Rattle.fb_chart.specs.declared.table.Take.{Take}
use Rattle.fb_chart.specs.declared.table.Give.{Give}
use Rattle.fb_chart.specs.Sampling.{length_among, count_among, IsLike, IsSource, CanTake, CanGive, sampled_by, given_to, output_in}
use Rattle.fb_lists.proofs.Lists.{within_got}

-- one value, and then those of the others
pub where_next : (n : Name) (ns : List Name) (these those : Values) → where_in ns these (setting those n (these n)) ≡ where_in (n ∷ ns) these those
where_next n ns these those = fun_ext at
  where
    by : (b c : Bool) (x : Name) → (c ≡ true → n ≡ x) → (if b then these x else (if c then these n else those x)) ≡ (if c || b then these x else those x)
    by true true x h = refl
    by true false x h = refl
    by false true x h = ap these (h refl)
    by false false x h = refl

    at : (x : Name) → where_in ns these (setting those n (these n)) x ≡ where_in (n ∷ ns) these those x
    at x = by (is_in x ns) (bytes_eq n x) x (same_name n x) ∙ ap (λ c. if c || is_in x ns then these x else those x) (eq_turned n x)

-- ---- slots

abbrev slots_for : Option ℕ → ℕ
slots_for None = 1
slots_for (Some n) = n

count_is : (fs : List Form) (x : Name) → count_among fs x ≡ slots_for (length_among fs x)
count_is fs x = ap slot_count (sym (shape_is fs x)) ∙ by (shape_in fs x) where
  by : (b : Option (ℤ × ℤ)) → slot_count b ≡ slots_for (option_map extent b)
  by None = refl
  by (Some b) = refl

-- as many elements have as many slots
pub counts_are : (fs gs : List Form) (x y : Name) → length_among fs x ≡ length_among gs y → count_among fs x ≡ count_among gs y
counts_are fs gs x y e = count_is fs x ∙ ap slots_for e ∙ sym (count_is gs y)

-- ---- an input that takes its value

module _ (issued : List (List Cell)) (own : List Cell) (t : Take) (can : CanTake issued (forms_of own) t) where
  pub take_room : t.slot + t.count ≤ size_of (forms_of own)
  take_room = omega (arith, declared_within (forms_of own) (string_bytes t.input) can.declared, can.slot, can.count)

  module _ (block : ℕ) (y : String Global) (slot : ℕ) (is : t.source ≡ s.Output block y slot) where
    from : IsSource issued (forms_of own) (string_bytes t.input) (s.Output block y slot)
    from = subst (IsSource issued (forms_of own) (string_bytes t.input)) is can.source

    pub source_within : block < length issued
    source_within = within_got issued block from.0 from.1

    module _ (cells : List Cell) (at : slice_get issued block ≡ Some cells) where
      same : from.0 ≡ cells
      same = let e : Some from.0 ≡ Some cells = sym from.1 ∙ at in cc

      like : IsLike (forms_of own) (string_bytes t.input) (forms_of cells) (string_bytes y)
      like = subst (λ (cs : List Cell). IsLike (forms_of own) (string_bytes t.input) (forms_of cs) (string_bytes y)) same from.2

      pub source_slot : slot_in (forms_of cells) (string_bytes y) ≡ slot
      source_slot = sym (from.3 ∙ ap (λ (cs : List Cell). slot_in (forms_of cs) (string_bytes y)) same)

      pub source_length : length_among (forms_of own) (string_bytes t.input) ≡ length_among (forms_of cells) (string_bytes y)
      source_length = like.length

      pub source_room : slot + t.count ≤ size_of (forms_of cells)
      source_room = omega (arith, declared_within (forms_of cells) (string_bytes y) like.declared, source_slot, can.count, counts_are (forms_of own) (forms_of cells) (string_bytes t.input) (string_bytes y) like.length)

      pub takes_value : (new : Values) → new ≡ setting (values_of own) (string_bytes t.input) (values_of cells (string_bytes y)) → new ≡ sampled_by issued (forms_of own) (t ∷ []) (values_of own)
      takes_value new e =
          e ∙ ap (λ (v : Option (List Cell)). setting (values_of own) (string_bytes t.input) (output_in v (string_bytes y))) (sym at)
          ∙ ap (λ src. setting (values_of own) (string_bytes t.input) (given_to issued (forms_of own) (string_bytes t.input) src)) (sym is)

-- ---- an output that is issued

module _ (own issued : List Form) (g : Give) (can : CanGive own issued g) where
  pub give_room : g.issued + g.count ≤ size_of issued
  give_room =
      omega (arith, declared_within issued (string_bytes g.output) can.like.declared, can.placed.issued_slot, can.placed.count, counts_are own issued (string_bytes g.output) (string_bytes g.output) can.like.length)

  pub give_enough : g.own + g.count ≤ size_of own
  give_enough = omega (arith, declared_within own (string_bytes g.output) can.declared, can.placed.own_slot, can.placed.count)

  pub give_count : count_among issued (string_bytes g.output) ≡ g.count
  give_count = sym (can.placed.count ∙ counts_are own issued (string_bytes g.output) (string_bytes g.output) can.like.length)
