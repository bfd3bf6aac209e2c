-- The rows of tables that are all different are those of the system's states and events.
use Rattle.std.proofs.Common.{◌≡◌, ℕ, Option, false, List, [], ◌∷◌, map, ap, ◌∙◌, string_bytes}
use Rattle.std.specs.List.{IsDistinct, AllByRecursion, list_any}
use Rattle.std.specs.Str.{bytes_eq}
use Rattle.std.specs.declared.string.String.{String}
use Rattle.std.specs.declared.alloc.Global.{Global}
use Rattle.fb_model.specs.Names.{Name, place_eq}
use Rattle.fb_model.specs.System as book
use Rattle.fb_model.specs.Certificates.{all_leaves, channels_of, with_repeats}
use Rattle.fb_model_laws.specs.Words.{IsWordyDevice}
use Rattle.fb_find_laws.specs.Nodes.{AreRowsOf}
use Rattle.fb_flat.specs.declared.flat.FlatDevice.{FlatDevice}
use Rattle.fb_flat.specs.Tables.{AreDevices}
use Rattle.fb_check_rows.specs.declared.kind.RowKind.TheVariants.{Charge, Weight}
use Rattle.fb_check_rows.specs.Members.{HasSame}
use Rattle.fb_check_rows.specs.Texts.{texts_of}
use Rattle.fb_check_rows.proofs.Places.{same_places}
use Rattle.fb_check_rows.proofs.Systems.{devices_placed}

-- texts of keys that are apart are apart
pub apart_texts : (keys : List (String Global)) → IsDistinct (λ a b. bytes_eq (string_bytes a) (string_bytes b)) keys → IsDistinct bytes_eq (map string_bytes keys)
unfolding IsDistinct
apart_texts [] h = h
apart_texts (k ∷ ks) h = (mapped k ks h.0, apart_texts ks h.1) where
  mapped : (k : String Global) (ks : List (String Global)) → AllByRecursion (λ b. bytes_eq (string_bytes k) (string_bytes b) ≡ false) ks → AllByRecursion (λ t. bytes_eq (string_bytes k) t ≡ false) (map string_bytes ks)
  mapped k [] h = tt
  mapped k (x ∷ xs) h = (h.0, mapped k xs h.1)

pub rows_are : (repeats : Option ℕ) (fs : List FlatDevice) (ds : List book.Device) (states events : List Name) (channels : List ℕ) → AreDevices fs ds → AllByRecursion IsWordyDevice ds → HasSame states (texts_of Charge fs) → HasSame events (texts_of Weight fs)
    → IsDistinct bytes_eq states → IsDistinct bytes_eq events → channels ≡ with_repeats repeats (channels_of (all_leaves ds)) → AreRowsOf repeats (all_leaves ds) states events channels
rows_are repeats fs ds states events channels are plain s e sa ea ca =
    record {
      states_are = λ p. same_places p states (texts_of Charge fs) s ∙ ap (list_any (place_eq p)) (devices_placed Charge fs ds are plain);
      events_are = λ p. same_places p events (texts_of Weight fs) e ∙ ap (list_any (place_eq p)) (devices_placed Weight fs ds are plain);
      states_apart = sa;
      events_apart = ea;
      channels_are = ca;
    }
