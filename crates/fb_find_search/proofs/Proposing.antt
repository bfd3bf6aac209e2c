-- Paths of rows RANGE that leaves have are those of rows that the system must have.
use Rattle.std.proofs.Common.{◌≡◌, true, List, [], ◌∙◌, map, ap, sym}
use Rattle.std.specs.List.{list_any}
use Rattle.fb_model.specs.Names.{Name, is_in, place_eq}
use Rattle.fb_model.specs.System.{System}
use Rattle.fb_model.specs.CertificateText.{place_of}
use Rattle.fb_model.specs.Written.{IsWritten}
use Rattle.fb_flat.specs.declared.flat.FlatDevice.{FlatDevice}
use Rattle.fb_flat.specs.Leaves.{flat_device, written_device}
use Rattle.fb_verified.proofs.Written.{tables_are, words}
use Rattle.fb_check_rows.specs.Members.{gathered}
use Rattle.fb_check_rows.specs.Texts.{texts_of}
use Rattle.fb_check_rows.specs.declared.kind.RowKind.TheVariants.{Range}
use Rattle.fb_check_rows.proofs.Members.{gathered_same}
use Rattle.fb_check_rows.proofs.Places.{any_place}
use Rattle.fb_check_rows.proofs.Systems.{devices_ranged}
use Rattle.fb_find_search.specs.Searching.{IsRanged}

-- names that were gathered are among those that they were gathered of
pub of_texts : (names texts : List Name) → names ≡ gathered [] texts → (path : Name) → is_in path names ≡ true → is_in path texts ≡ true
of_texts names texts e path h = sym ((gathered_same names texts e).same path) ∙ h

-- the path of a row RANGE that leaves have
pub ranged : (s : System) (fs : List FlatDevice) → IsWritten s → map flat_device fs ≡ map written_device s.devices → (path : Name) → is_in path (texts_of Range fs) ≡ true → IsRanged s path
ranged s fs w e path h =
    ap (list_any (place_eq (place_of path))) (sym (devices_ranged fs s.devices (tables_are s fs w e) (words s w)))
    ∙ any_place path (texts_of Range fs)
    ∙ h
