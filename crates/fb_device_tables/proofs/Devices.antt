-- The tables of a device that was checked.
use Rattle.std.proofs.Common.{◌≡◌, ◌≤◌, ◌<◌, ◌+◌, ℕ, zero, suc, List, [], ◌∷◌, ◌++◌, map, length, get_or, string_bytes, Some, slice_get, refl, sym, ap, subst, ◌∙◌, arith}
use Rattle.std.specs.List.{AllByRecursion}
use Rattle.fb_model.specs.Names.{Name, Path}
use Rattle.fb_model.specs.Spelling.{IsWord}
use Rattle.fb_model.specs.System as book
use Rattle.fb_model.specs.Typing.{AreDistinct}
use Rattle.fb_model.specs.Wires as wires
use Rattle.fb_model.specs.Wires.{leaves}
use Rattle.fb_model.specs.Ranges.{LeafLies}
use Rattle.fb_model.specs.Store.{variable_names, inputs}
use Rattle.fb_model.specs.Declarations.{AlgorithmTree, BlockTree, ChartTree}
use Rattle.fb_model.specs.TextTyping.{Symbol as TextEntry}
use Rattle.fb_model.specs.BlockTyping.{IsBasic, AreProcedures, no_procedure, a_procedure, scope}
use Rattle.st_exec.specs.Forms.{Form}
use Rattle.st_exec.specs.Cells.{Cell}
use Rattle.fb_device_values.specs.First.{HaveFirstCells}
use Rattle.fb_model.specs.Certificates.{DeviceHolds, IsWired, name_at, depth_at}
use Rattle.fb_model.specs.CertificateText.{names_in}
use Rattle.fb_model_laws.specs.Words.{IsWordyLeaf, IsWordyDevice}
use Rattle.fb_verified.proofs.Written.{devices_hold, words}
use Rattle.fb_model_laws.specs.Leaves.{AreApart, IsClosed, OnChart}
use Rattle.fb_model_laws.proofs.Charts.{on_charts}
use Rattle.fb_model_laws.proofs.Taking.{TakesInputs, all_take_inputs}
use Rattle.fb_flat.specs.Sources.{written_inputs}
use Rattle.fb_flat.proofs.Few.{IsSmallKind, services_small, inputs_written}
use Rattle.fb_model_laws.proofs.Paths.{all_apart}
use Rattle.fb_model_laws.proofs.Closed.{all_charts_closed}
use Rattle.fb_model_laws.proofs.Few.{devices_few}
use Rattle.fb_cert.specs.declared.certificate.Certificate.{Certificate}
use Rattle.fb_cert.specs.Views.{certificate_of}
use Rattle.fb_types.specs.declared.typed.Resource as from_resource
use Rattle.fb_types.specs.declared.typed.Device as from_device
use Rattle.fb_types.specs.Views.{resource_of, device_of}
use Rattle.fb_flat.specs.declared.flat.FlatDevice.{FlatDevice}
use Rattle.fb_flat.specs.Tables.{IsDevice, AreDevices}
use Rattle.fb_flat.specs.Sites.{dotted}
use Rattle.fb_flat.proofs.Dotted.{names_dotted, word_alone}
use Rattle.fb_verified.specs.declared.verified.Verified.{Verified}
use Rattle.fb_verified.specs.Checked.{system_in, certificate_in, IsChecked}
use Rattle.fb_verified.proofs.Written as written
use Rattle.fb_model.specs.Devices.{is_input_numbered, is_subscriber}
use Rattle.fb_device_tables.specs.declared.table.Resource.{Resource}
use Rattle.fb_device_tables.specs.declared.table.Tables.{Tables}
use Rattle.fb_device_tables.specs.Tables.{AreBlocks, AreResources, AreNumbered, AreTables}
use Rattle.fb_chart.specs.Tables.{Each}
use Rattle.fb_device_tables.specs.Filling.{Numbered, numbered_from, Seated, AreSeats, paths_of, IsBlockMade, IsPortsMade, IsResourceMade, most_numbers}
use Rattle.fb_lists.proofs.Lists.{all_got}
use Rattle.fb_chart.proofs.Lists.{each_length}
use Rattle.fb_device_tables.proofs.Leaves.{IsNumbered, IsSeated, seats_from, all_numbered, as_many_resources, paths_apart}
use Rattle.fb_device_tables.proofs.Points.{HasFew, IsKnownLeaf, AreKnown}
use Rattle.fb_device_tables.proofs.Blocks.{blocks_are}

-- ---- devices at an index

there_is : {X : Type 0} (xs : List X) (n : ℕ) → n < length xs → (x : X) × (slice_get xs n ≡ Some x)
there_is [] n h = absurd (omega (arith, h))
there_is (x ∷ xs) zero h = (x, refl)
there_is (x ∷ xs) (suc n) h = there_is xs n (omega (arith, h))

flat_at : (fs : List FlatDevice) (ds : List book.Device) (n : ℕ) (d : book.Device) (f : FlatDevice) → AreDevices fs ds → slice_get ds n ≡ Some d → f ≡ get_or fs n f → IsDevice f d
flat_at [] [] n d f a e g = absurd cc
flat_at [] (c ∷ ds) n d f a e g = absurd a
flat_at (h ∷ fs) [] n d f a e g = absurd a
flat_at (h ∷ fs) (c ∷ ds) zero d f a e g = let s : c ≡ d = cc in subst (λ x. IsDevice x d) (sym g) (subst (λ (x : book.Device). IsDevice h x) s a.0)
flat_at (h ∷ fs) (c ∷ ds) (suc n) d f a e g = flat_at fs ds n d f a.1 e g

as_many : (fs : List FlatDevice) (ds : List book.Device) → AreDevices fs ds → length fs ≡ length ds
as_many [] [] a = refl
as_many [] (d ∷ ds) a = absurd a
as_many (f ∷ fs) [] a = absurd a
as_many (f ∷ fs) (d ∷ ds) a = ap suc (as_many fs ds a.1)

-- what was checked has tables of as many devices
pub as_many_devices : (v : Verified) → IsChecked v → length v.flat.devices.items ≡ length (system_in v).devices
as_many_devices v checked = as_many v.flat.devices.items (system_in v).devices (written.tables_are (system_in v) v.flat.devices.items checked.written checked.tables)

typed_at : (ts : List from_device.Device) (n : ℕ) (t : from_device.Device) (d : book.Device) → slice_get (map device_of ts) n ≡ Some d → t ≡ get_or ts n t → device_of t ≡ d
typed_at [] n t d e g = absurd cc
typed_at (u ∷ ts) zero t d e g = let s : device_of u ≡ d = cc in ap device_of g ∙ s
typed_at (u ∷ ts) (suc n) t d e g = typed_at ts n t d e g

-- ---- what is known of a device

pub record IsKnown (v : Verified) (f : FlatDevice) (d : book.Device) : Type 0 where
  pub words : IsWordyDevice d
  pub numbered : Each IsNumbered (numbered_from 0 f.resources.items) (leaves d)
  pub small : AllByRecursion (λ (leaf : wires.Leaf). IsSmallKind leaf.kind) (leaves d)
  pub closed : AllByRecursion (λ (leaf : wires.Leaf). IsClosed leaf.kind) (leaves d)
  pub procedures : AllByRecursion (λ (leaf : wires.Leaf). OnChart HasFew leaf.kind) (leaves d)
  pub written : AllByRecursion (λ (leaf : wires.Leaf). written_inputs leaf.kind ≡ variable_names (inputs leaf.kind)) (leaves d)
  pub takes : AllByRecursion (λ (leaf : wires.Leaf). TakesInputs leaf.kind) (leaves d)
  pub wired : AllByRecursion (IsWired (leaves d)) (leaves d)
  pub lies : AllByRecursion (LeafLies (certificate_in v).ranges (leaves d)) (leaves d)
  pub apart : AreApart (leaves d)
  pub few : length (leaves d) ≤ most_numbers
  pub few_resources : length f.resources.items ≤ most_numbers

algorithms_many : (env : List TextEntry) (fs : List AlgorithmTree) (ps : List book.Procedure) → AreProcedures env fs ps → length ps ≡ length fs
algorithms_many env [] [] no_procedure = refl
algorithms_many env [] (p ∷ ps) h = elim h [ ]
algorithms_many env (a ∷ fs) [] h = elim h [ ]
algorithms_many env (a ∷ fs) (p ∷ ps) (a_procedure n t h) = ap suc (algorithms_many env fs ps h)

few_algorithms : (b : BlockTree) (c : ChartTree) (k : book.Block) → IsBasic b c k → HasFew k
few_algorithms b c k h = omega (arith, algorithms_many (scope h.ins h.outs h.inner) c.algorithms k.procedures h.procedures, h.few_algorithms)

pub known_at : (v : Verified) (n : ℕ) (f : FlatDevice) (d : book.Device) → IsChecked v → slice_get (system_in v).devices n ≡ Some d → f ≡ get_or v.flat.devices.items n f → IsKnown v f d
known_at v n f d checked e g =
    let s = system_in v in
    let w = checked.written in
    let elaborated = w.1.typed.typed in
    let flat = flat_at v.flat.devices.items s.devices n d f (written.tables_are s v.flat.devices.items w checked.tables) e g in
    let few = all_got (λ (x : book.Device). (length (leaves x) ≤ 16384) × (length x.resources ≤ 16)) s.devices n d (devices_few _ _ s elaborated) e in
    let holds = all_got (DeviceHolds (certificate_in v)) s.devices n d (devices_hold s (certificate_in v) w checked.fits) e in
    record {
      words = all_got IsWordyDevice s.devices n d (words s w) e;
      numbered = all_numbered 0 (d.name ∷ []) f.resources.items d.resources flat.resources;
      small = all_got (λ (x : book.Device). AllByRecursion (λ (leaf : wires.Leaf). IsSmallKind leaf.kind) (leaves x)) s.devices n d (services_small _ _ s elaborated) e;
      closed = all_got (λ (x : book.Device). AllByRecursion (λ (leaf : wires.Leaf). IsClosed leaf.kind) (leaves x)) s.devices n d (all_charts_closed _ _ s elaborated) e;
      procedures = all_got (λ (x : book.Device). AllByRecursion (λ (leaf : wires.Leaf). OnChart HasFew leaf.kind) (leaves x)) s.devices n d (on_charts HasFew few_algorithms _ _ s elaborated) e;
      written = all_got (λ (x : book.Device). AllByRecursion (λ (leaf : wires.Leaf). written_inputs leaf.kind ≡ variable_names (inputs leaf.kind)) (leaves x)) s.devices n d (inputs_written _ _ s elaborated) e;
      takes = all_got (λ (x : book.Device). AllByRecursion (λ (leaf : wires.Leaf). TakesInputs leaf.kind) (leaves x)) s.devices n d (all_take_inputs _ _ s elaborated) e;
      wired = holds.wired;
      lies = holds.ranges;
      apart = all_got (λ (x : book.Device). AreApart (leaves x)) s.devices n d (all_apart _ _ s elaborated) e;
      few = omega (arith, few.0);
      few_resources = omega (arith, few.1, as_many_resources 0 (d.name ∷ []) f.resources.items d.resources flat.resources);
    }

known_leaves : (bs : List wires.Leaf) → AllByRecursion (λ (leaf : wires.Leaf). IsSmallKind leaf.kind) bs → AllByRecursion (λ (leaf : wires.Leaf). IsClosed leaf.kind) bs → AllByRecursion (λ (leaf : wires.Leaf). OnChart HasFew leaf.kind) bs → AllByRecursion IsWordyLeaf bs
    → AllByRecursion (λ (leaf : wires.Leaf). written_inputs leaf.kind ≡ variable_names (inputs leaf.kind)) bs → AllByRecursion (λ (leaf : wires.Leaf). TakesInputs leaf.kind) bs → AllByRecursion IsKnownLeaf bs
known_leaves [] s c p w i t = tt
known_leaves (b ∷ bs) s c p w i t = (record { small = s.0; closed = c.0; procedures = p.0; words = w.0; written = i.0; takes = t.0 }, known_leaves bs s.1 c.1 p.1 w.1 i.1 t.1)

-- ---- resources

resources_from : (rows : Certificate) (d : book.Device) (n : ℕ) (rs : List from_resource.Resource) (xs : List Resource) → IsWord d.name → AllByRecursion (λ (r : book.Resource). IsWord r.name) (map resource_of rs)
    → ((k : ℕ) → name_at d.resources (n + k) ≡ name_at (map resource_of rs) k) → Each (IsResourceMade rows d.name) rs xs → AreResources (certificate_of rows) d n xs (map resource_of rs)
resources_from rows d n [] [] w p at m = tt
resources_from rows d n [] (x ∷ xs) w p at m = absurd m
resources_from rows d n (r ∷ rs) [] w p at m = absurd m
resources_from rows d n (r ∷ rs) (x ∷ xs) w p at m =
    let here : name_at d.resources n ≡ string_bytes r.name = subst (λ i. name_at d.resources i ≡ string_bytes r.name) (let e : n + 0 ≡ n = omega arith in e) (at 0) in
    let path : names_in (dotted d.name (string_bytes r.name)) ≡ d.name ∷ string_bytes r.name ∷ [] = names_dotted d.name (string_bytes r.name) p.0 ∙ ap (λ (q : Path). q ++ string_bytes r.name ∷ []) (word_alone d.name w) in (
      m.0.0,
      m.0.1 ∙ ap (depth_at (certificate_of rows).depths) (path ∙ ap (λ (y : Name). d.name ∷ y ∷ []) (sym here)),
      resources_from rows d (n + 1) rs xs w p.1 (λ k. subst (λ i. name_at d.resources i ≡ name_at (map resource_of rs) k) (let e : n + suc k ≡ (n + 1) + k = omega arith in e) (at (suc k))) m.1,
    )

resources_are : (rows : Certificate) (t : from_device.Device) (xs : List Resource) → IsWordyDevice (device_of t) → Each (IsResourceMade rows (string_bytes t.name)) t.resources.items xs → AreResources (certificate_of rows) (device_of t) 0 xs (device_of t).resources
resources_are rows t xs p m =
    resources_from rows (device_of t) 0 t.resources.items xs p.name p.resources (λ k. let e : 0 + k ≡ k = omega arith in ap (name_at (device_of t).resources) e) m

-- ---- tables

first_many : (bs : List wires.Leaf) (owns issues : List (List Cell)) → HaveFirstCells bs owns issues → (length owns ≡ length bs) × (length issues ≡ length bs)
first_many [] [] [] h = (refl, refl)
first_many [] [] (i ∷ is) h = absurd h
first_many [] (o ∷ os) [] h = absurd h
first_many [] (o ∷ os) (i ∷ is) h = absurd h
first_many (b ∷ bs) [] [] h = absurd h
first_many (b ∷ bs) [] (i ∷ is) h = absurd h
first_many (b ∷ bs) (o ∷ os) [] h = absurd h
first_many (b ∷ bs) (o ∷ os) (i ∷ is) h = let k = first_many bs os is h.1 in (ap suc k.0, ap suc k.1)

-- there are as many stores as leaves
pub stores_many : (v : Verified) (n : ℕ) (f : FlatDevice) (hs : List Numbered) (owns issues : List (List Cell)) → IsChecked v → n < length (system_in v).devices → f ≡ get_or v.flat.devices.items n f
    → (length f.resources.items ≤ most_numbers → hs ≡ numbered_from 0 f.resources.items) → ((d : book.Device) → slice_get (system_in v).devices n ≡ Some d → HaveFirstCells (leaves d) owns issues) → (length owns ≡ length hs) × (length issues ≡ length hs)
stores_many v n f hs owns issues checked within g homes first =
    let at = there_is (system_in v).devices n within in
    let d = at.0 in
    let k = known_at v n f d checked at.1 g in
    let many = first_many (leaves d) owns issues (first d at.1) in
    let same : length hs ≡ length (numbered_from 0 f.resources.items) = ap length (homes k.few_resources) in
    let leaves_many = each_length IsNumbered (numbered_from 0 f.resources.items) (leaves d) k.numbered in
    (many.0 ∙ leaves_many ∙ sym same, many.1 ∙ leaves_many ∙ sym same)

-- tables that are made of a device that was checked are its tables
pub tables_are : (v : Verified) (n : ℕ) (f : FlatDevice) (t : from_device.Device) (d : book.Device) (hs : List Numbered) (owns issues : List (List Form)) (ss : List Seated) (names : List Name) (x : Tables) → IsChecked v → slice_get (system_in v).devices n ≡ Some d
    → f ≡ get_or v.flat.devices.items n f → t ≡ get_or v.typed.devices.items n t → (length f.resources.items ≤ most_numbers → hs ≡ numbered_from 0 f.resources.items) → AreSeats hs owns issues ss → (AreDistinct (paths_of ss) → names ≡ paths_of ss)
    → Each (IsBlockMade v.certificate names ss) ss x.blocks.items → Each IsPortsMade ss x.ports.items → Each (IsResourceMade v.certificate (string_bytes t.name)) t.resources.items x.resources.items → (length x.blocks.items ≤ most_numbers → AreNumbered is_input_numbered x.inputs x.blocks.items) → (length x.blocks.items ≤ most_numbers → AreNumbered is_subscriber x.subscribers x.blocks.items)
    → AreTables (certificate_in v) d owns issues x
tables_are v n f t d hs owns issues ss names x checked e g h homes seats paths blocks ports resources inputs subscribers =
    let k = known_at v n f d checked e g in
    let seated : Each IsSeated ss (leaves d) = seats_from ss (leaves d) (subst (λ (us : List Numbered). Each IsNumbered us (leaves d)) (sym (seats.leaves_are ∙ homes k.few_resources)) k.numbered) in
    let known : AreKnown (certificate_in v).ranges ss (leaves d) = record { seated = seated; leaves = known_leaves (leaves d) k.small k.closed k.procedures k.words.leaves k.written k.takes; wired = k.wired; lies = k.lies; few = k.few } in
    let named : names ≡ paths_of ss = paths (paths_apart ss (leaves d) seated k.apart) in
    let few : length x.blocks.items ≤ most_numbers = omega (arith, each_length (IsBlockMade v.certificate names ss) ss x.blocks.items blocks, each_length IsSeated ss (leaves d) seated, k.few) in
    let typed : device_of t ≡ d = typed_at v.typed.devices.items n t d e h in
    let all = blocks_are v.certificate ss (leaves d) x.blocks.items x.ports.items known (subst (λ (ns : List Name). Each (IsBlockMade v.certificate ns ss) ss x.blocks.items) named blocks) ports in
    record {
      blocks =
          subst (λ (os : List (List Form)). AreBlocks (certificate_in v) (leaves d) issues os issues x.blocks.items x.ports.items (leaves d)) seats.owns_are
          (subst (λ (is : List (List Form)). AreBlocks (certificate_in v) (leaves d) is (map (λ (u : Seated). u.own) ss) is x.blocks.items x.ports.items (leaves d)) seats.issues_are all);
      resources =
          subst (λ (c : book.Device). AreResources (certificate_in v) c 0 x.resources.items c.resources) typed
          (resources_are v.certificate t x.resources.items (subst IsWordyDevice (sym typed) k.words) resources);
      few = k.few;
      apart = k.apart;
      inputs = inputs few;
      subscribers = subscribers few;
    }
