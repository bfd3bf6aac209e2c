-- The data outputs that are given, with their slots.
use Rattle.std.proofs.Common.{◌≡◌, List, [], ◌∷◌, refl, ap, ◌∙◌}
use Rattle.std.specs.List.{AllByRecursion}
use Rattle.fb_model.specs.Names.{Name}
use Rattle.st_exec.specs.Forms.{Form}
use Rattle.fb_chart.specs.declared.table.Give.{Give}
use Rattle.fb_chart.specs.Views.{given_names}
use Rattle.fb_chart.specs.Tables.{Each}
use Rattle.fb_chart.specs.Sampling.{IsPlacedGive}
use Rattle.fb_device_tables.specs.Filling.{IsGiveMade}

pub gives_named : (own issued : List Form) (xs : List Name) (gs : List Give) → Each (IsGiveMade own issued) xs gs → given_names gs ≡ xs
gives_named own issued [] [] h = refl
gives_named own issued [] (g ∷ gs) h = absurd h
gives_named own issued (x ∷ xs) [] h = absurd h
gives_named own issued (x ∷ xs) (g ∷ gs) h = ap (λ n. n ∷ given_names gs) h.0.0 ∙ ap (λ ns. x ∷ ns) (gives_named own issued xs gs h.1)

pub gives_placed : (own issued : List Form) (xs : List Name) (gs : List Give) → Each (IsGiveMade own issued) xs gs → AllByRecursion (IsPlacedGive own issued) gs
gives_placed own issued [] [] h = tt
gives_placed own issued [] (g ∷ gs) h = absurd h
gives_placed own issued (x ∷ xs) [] h = absurd h
gives_placed own issued (x ∷ xs) (g ∷ gs) h = (h.0.1, gives_placed own issued xs gs h.1)
