-- The tables of all devices spell the rows that are found.
use Rattle.std.proofs.Common.{◌≡◌, ℕ, ◌+◌, ◌≤◌, List, [], ◌∷◌, ◌++◌, drop, length, refl, sym, ap, subst, ◌∙◌, append_assoc}
use Rattle.std.specs.List.{AllByRecursion, AllZip}
use Rattle.std.proofs.Math.Path.{fun_ext}
use Rattle.std.proofs.lemmas.List.{append-nil, drop_all}
use Rattle.fb_model.specs.Names.{Name}
use Rattle.fb_model.specs.Clear.{Spans}
use Rattle.fb_model.specs.Declarations.{BlockTree, SourceTree}
use Rattle.fb_model.specs.NetworkTyping.{ElaboratesWith}
use Rattle.fb_model.specs.Ranges.{Range}
use Rattle.fb_model.specs.System.{Device, System}
use Rattle.fb_model.specs.Wires.{Kind, Charted, Serviced, Leaf, leaves}
use Rattle.fb_model.specs.Certificates.{all_leaves}
use Rattle.fb_model_laws.specs.Leaves.{AreApart, IsFed}
use Rattle.fb_model_laws.proofs.Paths.{all_apart}
use Rattle.fb_model_laws.proofs.Values.{all_fed}
use Rattle.fb_model_laws.specs.Devices.{FindsAlike, FindsItsLast}
use Rattle.fb_model.specs.FinderRanges.{kind_rows, start_rows, AreFound, no_device, a_device, IsTable}
use Rattle.fb_model_laws.proofs.Devices.{found_rows_are_last}
use Rattle.fb_model_laws.proofs.Rounding.{one_end}
use Rattle.fb_flat.specs.declared.flat.FlatDevice.{FlatDevice}
use Rattle.fb_flat.specs.Tables.{AreDevices}
use Rattle.fb_check_ranges.proofs.Lists.{all_both}
use Rattle.fb_check_ranges.proofs.Placing.{device_leaves}
use Rattle.fb_find_ranges.specs.Found.{spelled, AreLastTables}
use Rattle.fb_find_ranges.specs.FoundTables.{AreFoundTables, GivesLast, IsLonger, AreGiven, none_given, one_given}

-- ---- one device after another

pub next_device : (fs : List FlatDevice) (i : ℕ) (f : FlatDevice) (old new : List Spans) → drop i fs ≡ f ∷ drop (i + 1) fs → IsLonger (GivesLast f) old new → ((more : List Spans) → AreGiven (drop i fs) more → AreGiven fs (old ++ more))
    → (more : List Spans) → AreGiven (drop (i + 1) fs) more → AreGiven fs (new ++ more)
next_device fs i f old new e l k more given =
    subst (AreGiven fs) (sym (ap (λ xs. xs ++ more) l.joined ∙ append_assoc old l.more more)) (k (l.more ++ more) (subst (λ gs. AreGiven gs (l.more ++ more)) (sym e) (one_given l.given given)))

pub last_device : (fs : List FlatDevice) (i : ℕ) (all : List Spans) → length fs ≤ i → ((more : List Spans) → AreGiven (drop i fs) more → AreGiven fs (all ++ more)) → AreGiven fs all
last_device fs i all h k = subst (AreGiven fs) (append-nil all) (k [] (subst (λ gs. AreGiven gs []) (sym (drop_all i fs h)) none_given))

-- ---- rows of all devices

-- the leaves of a device have paths that differ, and take values of their types
abbrev IsSound : Device → Type 0
IsSound d = AreApart (leaves d) × AllByRecursion (IsFed (leaves d)) (leaves d)

last_of : (f : FlatDevice) (d : Device) (own : List Spans) → GivesLast f own → AreDevices (f ∷ []) (d ∷ []) → IsSound d → AreLastTables (leaves d) own
last_of f d own g h s = g (leaves d) (device_leaves 0 (d.name ∷ []) f.resources.items d.resources h.0.resources) s.0 s.1

spelled_join : (R : Spans → Leaf → Type 0) (xs : List Spans) (bs : List Leaf) (ys : List Spans) (cs : List Leaf) → AllZip R xs bs → spelled (xs ++ ys) (bs ++ cs) ≡ spelled xs bs ++ spelled ys cs
spelled_join R [] [] ys cs h = refl
spelled_join R [] (b ∷ bs) ys cs h = absurd h
spelled_join R (x ∷ xs) [] ys cs h = absurd h
spelled_join R (x ∷ xs) (b ∷ bs) ys cs h =
    let here = kind_rows (λ v. x v.name) b.path b.kind in
    ap (λ (rs : List Range). here ++ rs) (spelled_join R xs bs ys cs h.1) ∙ sym (append_assoc here (spelled xs bs) (spelled ys cs))

all_found : (fs : List FlatDevice) (ds : List Device) (ss : List Spans) → AreGiven fs ss → AreDevices fs ds → AllByRecursion IsSound ds → AreFound ds (spelled ss (all_leaves ds))
all_found fs [] ss none_given h s = no_device
all_found fs (d ∷ ds) ss none_given h s = absurd h
all_found fs [] ss (one_given {f = f} {fs = gs} {xs = xs} {ys = ys} g more) h s = absurd h
all_found fs (d ∷ ds) ss (one_given {f = f} {fs = gs} {xs = xs} {ys = ys} g more) h s =
    let own = last_of f d xs g (h.0, tt) s.0 in
    subst (AreFound (d ∷ ds)) (sym (spelled_join (λ spans (leaf : Leaf). IsTable (spelled xs (leaves d)) spans leaf leaf.kind) xs (leaves d) ys (all_leaves ds) own.each)) (a_device own.last (all_found gs ds ys more h.1 s.1))

-- ---- tables of all devices

pub zip_join : {A B : Type 0} (R : A → B → Type 0) (xs : List A) (bs : List B) (ys : List A) (cs : List B) → AllZip R xs bs → AllZip R ys cs → AllZip R (xs ++ ys) (bs ++ cs)
zip_join R [] [] ys cs h k = k
zip_join R [] (b ∷ bs) ys cs h k = absurd h
zip_join R (x ∷ xs) [] ys cs h k = absurd h
zip_join R (x ∷ xs) (b ∷ bs) ys cs h k = (h.0, zip_join R xs bs ys cs h.1 k)

-- a table of a device's own rows is one of all rows
one_table : (ranges own : List Range) (spans : Spans) (leaf : Leaf) (kind : Kind) → FindsAlike ranges own leaf → IsTable own spans leaf kind → IsTable ranges spans leaf kind
one_table ranges own spans leaf (Charted block) a h = h ∙ fun_ext (λ (x : Name). sym (a.of_names x))
one_table ranges own spans leaf (Serviced service) a h = tt

own_tables : (ranges own : List Range) (xs : List Spans) (bs : List Leaf) → AllByRecursion (FindsAlike ranges own) bs → AllZip (λ spans (leaf : Leaf). IsTable own spans leaf leaf.kind) xs bs → AllZip (λ spans (leaf : Leaf). IsTable ranges spans leaf leaf.kind) xs bs
own_tables ranges own [] [] a h = tt
own_tables ranges own [] (b ∷ bs) a h = absurd h
own_tables ranges own (x ∷ xs) [] a h = absurd h
own_tables ranges own (x ∷ xs) (b ∷ bs) a h = (one_table ranges own x b b.kind a.0 h.0, own_tables ranges own xs bs a.1 h.1)

all_tables : (ranges : List Range) (fs : List FlatDevice) (ds : List Device) (ss : List Spans) → AreGiven fs ss → AreDevices fs ds → AllByRecursion IsSound ds → AllByRecursion (FindsItsLast ranges) ds
    → AllZip (λ spans (leaf : Leaf). IsTable ranges spans leaf leaf.kind) ss (all_leaves ds)
all_tables ranges fs [] ss none_given h s l = tt
all_tables ranges fs (d ∷ ds) ss none_given h s l = absurd h
all_tables ranges fs [] ss (one_given {f = f} {fs = gs} {xs = xs} {ys = ys} g more) h s l = absurd h
all_tables ranges fs (d ∷ ds) ss (one_given {f = f} {fs = gs} {xs = xs} {ys = ys} g more) h s l =
    let own = last_of f d xs g (h.0, tt) s.0 in
    let same : l.0.own ≡ spelled xs (leaves d) = one_end (leaves d) 1 (start_rows (leaves d)) l.0.own (spelled xs (leaves d)) l.0.last own.last in
    zip_join (λ spans (leaf : Leaf). IsTable ranges spans leaf leaf.kind) xs (leaves d) ys (all_leaves ds) (own_tables ranges (spelled xs (leaves d)) xs (leaves d) (subst (λ (rs : List Range). AllByRecursion (FindsAlike ranges rs) (leaves d)) same l.0.alike) own.each) (all_tables ranges gs ds ys more h.1 s.1 l.1)

pub tables_found : (fs : List FlatDevice) (ss : List Spans) → AreGiven fs ss → (library : List BlockTree) (source : SourceTree) (s : System) → ElaboratesWith library source s → AreDevices fs s.devices → AreFoundTables s.devices ss
tables_found fs ss given library source s e are =
    let sound = all_both (λ (d : Device). AreApart (leaves d)) (λ (d : Device). AllByRecursion (IsFed (leaves d)) (leaves d)) s.devices (all_apart library source s e) (all_fed library source s e) in
    let found = all_found fs s.devices ss given are sound in
    record { found = found; each = all_tables (spelled ss (all_leaves s.devices)) fs s.devices ss given are sound (found_rows_are_last library source s (spelled ss (all_leaves s.devices)) e found) }
