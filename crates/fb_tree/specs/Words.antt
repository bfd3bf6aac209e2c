-- Names in a text, without where they lie in memory.
use Rattle.std.specs.Prelude.{string_bytes, Option, None, Some}
use Rattle.fb_tree.specs.declared.name.Name.{Name}
use Rattle.fb_model.specs.Productions.{Word}

abbrev pub word_of : Name → Word
word_of x = record { text = string_bytes x.text; at = x.at }

abbrev pub optional : {X Y : Type 0} → (X → Y) → Option X → Option Y
optional view None = None
optional view (Some x) = Some (view x)
