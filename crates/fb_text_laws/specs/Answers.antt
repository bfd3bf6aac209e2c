-- What is answered of a text, said of the grammar alone.
use Rattle.std.specs.Prelude.{◌≡◌, ℕ, List, Result, Ok, Err}
use Rattle.fb_faults.specs.declared.text.TextFault.{TextFault}
use Rattle.fb_faults.specs.declared.text.TextFault.TheVariants.{OutOfMemory}
use Rattle.fb_model.specs.Sources.{IsSource}
use Rattle.fb_tree.specs.declared.tree.FileTree.{FileTree}
use Rattle.fb_tree.specs.Files.{source_of}
use Rattle.fb_model.specs.RefusedTexts.{IsRefusal}

-- the tree of a text, or why there is none
abbrev pub IsAnswer : List ℕ → Result FileTree TextFault → Type 0
IsAnswer text (Ok tree) = IsSource text (source_of tree)
IsAnswer text (Err fault) = IsRefusal text fault

-- the answers are the same tree or the same fault, unless memory ran out for one of them
abbrev pub IsAlike : Result FileTree TextFault → Result FileTree TextFault → Type 0
IsAlike (Err OutOfMemory) b = Unit {0}
IsAlike a (Err OutOfMemory) = Unit {0}
IsAlike (Ok x) (Ok y) = source_of x ≡ source_of y
IsAlike (Err f) (Err g) = f ≡ g
IsAlike a b = ⊥
