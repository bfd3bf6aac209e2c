-- The tables of leaves by the rows of a certificate are those of the book.
use Rattle.std.proofs.Common.{◌≡◌, List, [], ◌∷◌, map, refl, sym, ap, subst, ◌∙◌, string_bytes}
use Rattle.std.specs.List.{AllByRecursion, AllZip}
use Rattle.fb_model.specs.Names.{Name}
use Rattle.fb_model.specs.Spelling.{AreWords}
use Rattle.fb_model.specs.System as book
use Rattle.fb_model.specs.Wires as wires
use Rattle.fb_model.specs.Wires.{Kind, Charted, Serviced, leaves}
use Rattle.fb_model.specs.Ranges.{rows}
use Rattle.fb_model.specs.Certificates.{all_leaves}
use Rattle.fb_model.specs.CertificateText.{names_in}
use Rattle.fb_model.proofs.Lists.{all_weaker}
use Rattle.fb_model_laws.specs.Words.{declared_names, IsWordyDevice, IsWordyLeaf}
use Rattle.fb_model.specs.FinderRanges.{IsTable}
use Rattle.fb_cert.specs.declared.certificate.Certificate.{Certificate}
use Rattle.fb_cert.specs.Views.{certificate_of}
use Rattle.fb_flat.specs.declared.flat.Leaf.{Leaf}
use Rattle.fb_flat.specs.declared.flat.FlatDevice.{FlatDevice}
use Rattle.fb_flat.specs.Tables.{AreDevices, AreLeaves, IsLeaf}
use Rattle.fb_check_ranges.specs.Places.{leaves_in}
use Rattle.fb_check_ranges.proofs.Placing.{device_leaves}
use Rattle.fb_check_ranges.proofs.Rowing.{rows_are}
use Rattle.fb_find_ranges.specs.AddedRows.{flat_leaves}
use Rattle.fb_find_ranges.proofs.Distinct.{on_all_leaves}
use Rattle.fb_find_ranges.proofs.Tabled.{zip_join}
use Rattle.fb_find.specs.Given.{IsGiven}
use Rattle.fb_find.specs.Parts.{kind_table, table_in}

one_by_one : (ls : List Leaf) (bs : List wires.Leaf) → AreLeaves ls bs → AllZip IsLeaf ls bs
one_by_one [] [] h = tt
one_by_one [] (b ∷ bs) h = absurd h
one_by_one (l ∷ ls) [] h = absurd h
one_by_one (l ∷ ls) (b ∷ bs) h = (h.0, one_by_one ls bs h.1)

leaves_are : (fs : List FlatDevice) (ds : List book.Device) → AreDevices fs ds → AllZip IsLeaf (flat_leaves fs) (all_leaves ds)
leaves_are [] [] h = tt
leaves_are [] (d ∷ ds) h = absurd h
leaves_are (f ∷ fs) [] h = absurd h
leaves_are (f ∷ fs) (d ∷ ds) h =
    zip_join IsLeaf (leaves_in f.resources.items) (leaves d) (flat_leaves fs) (all_leaves ds) (one_by_one (leaves_in f.resources.items) (leaves d) (device_leaves 0 (d.name ∷ []) f.resources.items d.resources h.0.resources)) (leaves_are fs ds h.1)

kind_is : (cert : Certificate) (path : Name) (leaf : wires.Leaf) (kind : Kind) → names_in path ≡ leaf.path → leaf.kind ≡ kind → AreWords (declared_names kind) → IsTable (certificate_of cert).ranges (kind_table cert path kind) leaf kind
kind_is cert path leaf (Charted block) e f w = rows_are cert path (Charted block) w ∙ ap (λ p. rows (certificate_of cert).ranges p (Charted block)) e ∙ ap (rows (certificate_of cert).ranges leaf.path) (sym f)
kind_is cert path leaf (Serviced service) e f w = tt

leaf_is : (cert : Certificate) (l : Leaf) (leaf : wires.Leaf) → IsLeaf l leaf → IsWordyLeaf leaf → IsTable (certificate_of cert).ranges (table_in cert l) leaf leaf.kind
leaf_is cert l leaf h w =
    subst (λ (k : Kind). IsTable (certificate_of cert).ranges (kind_table cert (string_bytes l.path) k) leaf leaf.kind) (sym h.kind) (kind_is cert (string_bytes l.path) leaf leaf.kind h.path refl w.variables)

each_is : (cert : Certificate) (ls : List Leaf) (bs : List wires.Leaf) → AllZip IsLeaf ls bs → AllByRecursion IsWordyLeaf bs → AllZip (λ spans (leaf : wires.Leaf). IsTable (certificate_of cert).ranges spans leaf leaf.kind) (map (table_in cert) ls) bs
each_is cert [] [] h w = tt
each_is cert [] (b ∷ bs) h w = absurd h
each_is cert (l ∷ ls) [] h w = absurd h
each_is cert (l ∷ ls) (b ∷ bs) h w = (leaf_is cert l b h.0 w.0, each_is cert ls bs h.1 w.1)

-- one of each leaf of the system
pub tables_are : (cert : Certificate) (devices : List FlatDevice) (s : book.System) → IsGiven devices s → AllZip (λ spans (leaf : wires.Leaf). IsTable (certificate_of cert).ranges spans leaf leaf.kind) (map (table_in cert) (flat_leaves devices)) (all_leaves s.devices)
tables_are cert devices s given =
    each_is cert (flat_leaves devices) (all_leaves s.devices) (leaves_are devices s.devices given.tables)
    (on_all_leaves IsWordyLeaf s.devices (all_weaker IsWordyDevice (λ (d : book.Device). AllByRecursion IsWordyLeaf (leaves d)) s.devices (λ d w. w.leaves) given.words))
