-- Rows DEPTH, one after another.
use Rattle.std.proofs.Common.{◌≡◌, ◌≤◌, ◌<◌, ◌+◌, ℕ, zero, suc, Bool, true, false, not, refl, sym, ap, subst, ◌∙◌, arith, min, inl, inr, List, [], ◌∷◌, ◌++◌, drop, length, get_or, map, append_assoc, string_bytes, add-one}
use Rattle.std.specs.Prelude.{◌&&◌, ◌||◌, if◌then◌else◌, nat_le}
use Rattle.std.specs.List.{flat_map}
use Rattle.std.specs.Str.{bytes_eq}
use Rattle.std.proofs.lemmas.List.{append-nil, map-append}
use Rattle.std.proofs.Math.Nat.{le-max_left}
use Rattle.std.proofs.Math.Seq.{drop-cons}
use Rattle.fb_model.specs.Names.{Name, Path, is_in}
use Rattle.fb_model.specs.System as book
use Rattle.fb_model.specs.Wires.{Leaf, resource_leaves}
use Rattle.fb_model.specs.Certificates as certs
use Rattle.fb_model.specs.CertificateText.{depth}
use Rattle.fb_cert.specs.Views.{Rows, Table, book_of, has_path, has_row, with_row}
use Rattle.fb_cert.specs.Adding.{is_sayable, is_upper_path}
use Rattle.fb_flat.specs.declared.flat.FlatResource.{FlatResource}
use Rattle.fb_flat.specs.declared.flat.FlatDevice.{FlatDevice}
use Rattle.fb_flat.specs.Tables.{IsResource, AreResources, IsDevice, AreDevices}
use Rattle.fb_model.specs.Finding.{begins_of}
use Rattle.fb_faults.specs.declared.no_bound.NoBound.{NoBound}
use Rattle.fb_faults.specs.declared.no_bound.NoBound.TheVariants.{OutOfMemory, Cycle, NoRange, Limit}
use Rattle.fb_find_rows.specs.Needs.{AreFresh, all_rows, device_rows, IsPastFault, paths, resource_texts, rows_from, with_more}
use Rattle.fb_model.specs.Finding.{IsPastAmong, IsPastHere, IsPastIn, most_arrival, needed_depth}

-- ---- one row

stands : (t : Name) (rows : Table ℕ) → has_path t rows ≡ is_in t (paths rows)
stands t [] = refl
stands t (r ∷ rows) = ap (λ b. bytes_eq t r.0 || b) (stands t rows)

le_true : (m n : ℕ) → m ≤ n → nat_le m n ≡ true
le_true m n h = grind (arith, h)

sayable : (t : Name) (n : ℕ) → is_upper_path t ≡ true → 1 ≤ n → n ≤ 4096 → is_sayable (depth t n) ≡ true
sayable t n u a b = rw (u, le_true 1 n a, le_true n 4096 b) refl

row_put : (t : Name) (n d : ℕ) (old new : Rows) (said : Bool) → is_upper_path t ≡ true → is_in t (paths old.depths) ≡ false → d ≡ min n 18446744073709551615 → d ≤ 4096 → 1 ≤ n
    → said ≡ (is_sayable (depth t d) && not (has_row (depth t d) old)) → new ≡ (if said then with_row (depth t d) old else old) → new ≡ with_more ((t, n) ∷ []) old
row_put t n d old new said u f e few some tells made =
    let same : d ≡ n = omega (arith, e, few) in
    let yes : said ≡ true = tells ∙ ap (λ b. is_sayable (depth t d) && not b) (stands t old.depths ∙ f) ∙ ap (λ b. b && true) (sayable t d u (omega (arith, same, some)) few) in
    made ∙ ap (λ (b : Bool). if b then with_row (depth t d) old else old) yes ∙ ap (λ m. with_more ((t, m) ∷ []) old) same

-- the same where the path is read by another name
pub row_read : (t u : Name) (n d : ℕ) (old new : Rows) (said : Bool) → u ≡ t → is_upper_path t ≡ true → is_in t (paths old.depths) ≡ false → d ≡ min n 18446744073709551615 → d ≤ 4096 → 1 ≤ n
    → said ≡ (is_sayable (depth u d) && not (has_row (depth u d) old)) → new ≡ (if said then with_row (depth u d) old else old) → new ≡ with_more ((t, n) ∷ []) old
row_read t u n d old new said same up f e few some tells made =
    row_put t n d old new said up f e few some (tells ∙ ap (λ x. is_sayable (depth x d) && not (has_row (depth x d) old)) same) (made ∙ ap (λ x. if said then with_row (depth x d) old else old) same)

pub some_needed : (cert : certs.Certificate) (all : List Leaf) → 1 ≤ needed_depth cert all
some_needed cert all =
    let a = le-max_left 1 (most_arrival cert all) in
    let b = le-max_left (Rattle.std.specs.Prelude.max 1 (most_arrival cert all)) (begins_of cert all) in
    omega (arith, a, b)

-- ---- resources

abbrev text : FlatResource → Name
text f = string_bytes f.path

-- some rows are there, and those of these resources make the whole
pub record IsOn (old now : Rows) (P : Name → Type 0) (n : ℕ) (path : Path) (fs : List FlatResource) (rs : List book.Resource) (whole : Table ℕ) : Type 0 where
  pub are : AreResources n path fs rs
  pub done : Table ℕ
  pub is : now ≡ with_more done old
  pub rest : done ++ rows_from (book_of old) n path fs rs ≡ whole
  pub fresh : AreFresh (paths now.depths) (map text fs)
  pub past : (t : Name) → IsPastIn (book_of old) t n path rs → P t

more_twice : (old : Rows) (a b : Table ℕ) → with_more b (with_more a old) ≡ with_more (a ++ b) old
more_twice old a b = ap (λ (ds : Table ℕ). record old { depths = ds }) (append_assoc old.depths a b)

need_same : (old now : Rows) (done : Table ℕ) (all : List Leaf) → now ≡ with_more done old → needed_depth (book_of now) all ≡ needed_depth (book_of old) all
need_same old now done all is = ap (λ (rows : Rows). needed_depth (book_of rows) all) is

pub resource_on : (old now new : Rows) (P : Name → Type 0) (n : ℕ) (path : Path) (f : FlatResource) (fs : List FlatResource) (r : book.Resource) (rs : List book.Resource) (whole : Table ℕ) → IsOn old now P n path (f ∷ fs) (r ∷ rs) whole
    → new ≡ with_more ((text f, needed_depth (book_of now) (resource_leaves n path r)) ∷ []) now → IsOn old new P (n + 1) path fs rs whole
resource_on old now new P n path f fs r rs whole on made =
    let row : Name × ℕ = (text f, needed_depth (book_of old) (resource_leaves n path r)) in
    let made' : new ≡ with_more (row ∷ []) now = made ∙ ap (λ m. with_more ((text f, m) ∷ []) now) (need_same old now on.done (resource_leaves n path r) on.is) in
    record {
      are = on.are.1;
      done = on.done ++ row ∷ [];
      is = made' ∙ ap (λ (rows : Rows). with_more (row ∷ []) rows) on.is ∙ more_twice old on.done (row ∷ []);
      rest = append_assoc on.done (row ∷ []) (rows_from (book_of old) (n + 1) path fs rs) ∙ on.rest;
      fresh = subst (λ (ts : List Name). AreFresh ts (map text fs)) (sym (ap (λ (rows : Rows). paths rows.depths) made' ∙ map-append (λ (p : Name × ℕ). p.0) now.depths (row ∷ []))) on.fresh.2;
      past = λ t h. on.past t (inr h);
    }

pub resource_past : (old now : Rows) (P : Name → Type 0) (n : ℕ) (path : Path) (f : FlatResource) (fs : List FlatResource) (r : book.Resource) (rs : List book.Resource) (whole : Table ℕ) → IsOn old now P n path (f ∷ fs) (r ∷ rs) whole
    → (fault : NoBound) → IsPastFault (λ t. IsPastHere (book_of now) t n path r) fault → IsPastFault P fault
resource_past old now P n path f fs r rs whole on OutOfMemory h = tt
resource_past old now P n path f fs r rs whole on (Cycle places) h = h
resource_past old now P n path f fs r rs whole on (NoRange at) h = h
resource_past old now P n path f fs r rs whole on (Limit at) h = on.past (string_bytes at) (inl (h.0, subst (λ m. 4096 < m) (need_same old now on.done (resource_leaves n path r) on.is) h.1))

pub resources_first : (old : Rows) (n : ℕ) (path : Path) (fs : List FlatResource) (rs : List book.Resource) → AreResources n path fs rs → AreFresh (paths old.depths) (map text fs)
    → IsOn old old (λ t. IsPastIn (book_of old) t n path rs) n path fs rs (rows_from (book_of old) n path fs rs)
resources_first old n path fs rs a f = record { are = a; done = []; is = ap (λ (ds : Table ℕ). record old { depths = ds }) (sym (append-nil old.depths)); rest = refl; fresh = f; past = λ t h. h }

pub resources_last : (old now : Rows) (P : Name → Type 0) (n : ℕ) (path : Path) (rs : List book.Resource) (whole : Table ℕ) → IsOn old now P n path [] rs whole → now ≡ with_more whole old
resources_last old now P n path rs whole on = on.is ∙ ap (λ (ds : Table ℕ). with_more ds old) (sym (append-nil on.done) ∙ on.rest)

-- ---- devices

pub record IsOver (old now : Rows) (P : Name → Type 0) (fs : List FlatDevice) (ds : List book.Device) (whole : Table ℕ) : Type 0 where
  pub are : AreDevices fs ds
  pub done : Table ℕ
  pub is : now ≡ with_more done old
  pub rest : done ++ all_rows (book_of old) fs ds ≡ whole
  pub fresh : AreFresh (paths now.depths) (flat_map resource_texts fs)
  pub past : (t : Name) → IsPastAmong (book_of old) t ds → P t

pub fresh_first : (before xs ys : List Name) → AreFresh before (xs ++ ys) → AreFresh before xs
fresh_first before [] ys h = tt
fresh_first before (x ∷ xs) ys h = (h.0, h.1, fresh_first (before ++ x ∷ []) xs ys h.2)

pub fresh_rest : (before xs ys : List Name) → AreFresh before (xs ++ ys) → AreFresh (before ++ xs) ys
fresh_rest before [] ys h = subst (λ (ts : List Name). AreFresh ts ys) (sym (append-nil before)) h
fresh_rest before (x ∷ xs) ys h = subst (λ (ts : List Name). AreFresh ts ys) (append_assoc before (x ∷ []) xs) (fresh_rest (before ++ x ∷ []) xs ys h.2)

pub paths_from : (cert : certs.Certificate) (n : ℕ) (path : Path) (fs : List FlatResource) (rs : List book.Resource) → AreResources n path fs rs → paths (rows_from cert n path fs rs) ≡ map text fs
paths_from cert n path [] rs a = refl
paths_from cert n path (f ∷ fs) [] a = absurd a
paths_from cert n path (f ∷ fs) (r ∷ rs) a = ap (λ (ts : List Name). text f ∷ ts) (paths_from cert (n + 1) path fs rs a.1)

rows_same : (old now : Rows) (done : Table ℕ) (n : ℕ) (path : Path) (fs : List FlatResource) (rs : List book.Resource) → now ≡ with_more done old → rows_from (book_of now) n path fs rs ≡ rows_from (book_of old) n path fs rs
rows_same old now done n path [] rs is = refl
rows_same old now done n path (f ∷ fs) [] is = refl
rows_same old now done n path (f ∷ fs) (r ∷ rs) is =
    ap (λ m. (text f, m) ∷ rows_from (book_of now) (n + 1) path fs rs) (need_same old now done (resource_leaves n path r) is) ∙ ap (λ (t : Table ℕ). (text f, needed_depth (book_of old) (resource_leaves n path r)) ∷ t) (rows_same old now done (n + 1) path fs rs is)

pub device_on : (old now new : Rows) (P : Name → Type 0) (f : FlatDevice) (fs : List FlatDevice) (d : book.Device) (ds : List book.Device) (whole : Table ℕ) → IsOver old now P (f ∷ fs) (d ∷ ds) whole
    → new ≡ with_more (device_rows (book_of now) f d) now → IsOver old new P fs ds whole
device_on old now new P f fs d ds whole on made =
    let rows = device_rows (book_of old) f d in
    let made' : new ≡ with_more rows now = made ∙ ap (λ (t : Table ℕ). with_more t now) (rows_same old now on.done 0 (d.name ∷ []) f.resources.items d.resources on.is) in
    record {
      are = on.are.1;
      done = on.done ++ rows;
      is = made' ∙ ap (λ (r : Rows). with_more rows r) on.is ∙ more_twice old on.done rows;
      rest = append_assoc on.done rows (all_rows (book_of old) fs ds) ∙ on.rest;
      fresh =
          subst (λ (ts : List Name). AreFresh ts (flat_map resource_texts fs))
          (sym (ap (λ (r : Rows). paths r.depths) made' ∙ map-append (λ (p : Name × ℕ). p.0) now.depths rows ∙ ap (λ (ts : List Name). paths now.depths ++ ts) (paths_from (book_of old) 0 (d.name ∷ []) f.resources.items d.resources on.are.0.resources)))
          (fresh_rest (paths now.depths) (resource_texts f) (flat_map resource_texts fs) on.fresh);
      past = λ t h. on.past t (inr h);
    }

past_same : (old now : Rows) (done : Table ℕ) (t : Name) (n : ℕ) (path : Path) (rs : List book.Resource) → now ≡ with_more done old → IsPastIn (book_of now) t n path rs → IsPastIn (book_of old) t n path rs
past_same old now done t n path [] is h = h
past_same old now done t n path (r ∷ rs) is (inl h) = inl (h.0, subst (λ m. 4096 < m) (need_same old now done (resource_leaves n path r) is) h.1)
past_same old now done t n path (r ∷ rs) is (inr h) = inr (past_same old now done t (n + 1) path rs is h)

pub device_past : (old now : Rows) (P : Name → Type 0) (f : FlatDevice) (fs : List FlatDevice) (d : book.Device) (ds : List book.Device) (whole : Table ℕ) → IsOver old now P (f ∷ fs) (d ∷ ds) whole
    → (fault : NoBound) → IsPastFault (λ t. IsPastIn (book_of now) t 0 (d.name ∷ []) d.resources) fault → IsPastFault P fault
device_past old now P f fs d ds whole on OutOfMemory h = tt
device_past old now P f fs d ds whole on (Cycle places) h = h
device_past old now P f fs d ds whole on (NoRange at) h = h
device_past old now P f fs d ds whole on (Limit at) h = on.past (string_bytes at) (inl (past_same old now on.done (string_bytes at) 0 (d.name ∷ []) d.resources on.is h))

pub devices_first : (old : Rows) (fs : List FlatDevice) (ds : List book.Device) → AreDevices fs ds → AreFresh (paths old.depths) (flat_map resource_texts fs) → IsOver old old (λ t. IsPastAmong (book_of old) t ds) fs ds (all_rows (book_of old) fs ds)
devices_first old fs ds a f = record { are = a; done = []; is = ap (λ (ds : Table ℕ). record old { depths = ds }) (sym (append-nil old.depths)); rest = refl; fresh = f; past = λ t h. h }

pub devices_last : (old now : Rows) (P : Name → Type 0) (ds : List book.Device) (whole : Table ℕ) → IsOver old now P [] ds whole → now ≡ with_more whole old
devices_last old now P ds whole on = on.is ∙ ap (λ (t : Table ℕ). with_more t old) (sym (append-nil on.done) ∙ on.rest)

-- ---- from an index on

pub tail_of : {X : Type 0} (xs : List X) (i : ℕ) (y : X) (ys : List X) → drop i xs ≡ y ∷ ys → drop (i + 1) xs ≡ ys
tail_of xs i y ys h = rw add-one (by xs i y ys h) where
  by : {X : Type 0} (xs : List X) (i : ℕ) (y : X) (ys : List X) → drop i xs ≡ y ∷ ys → drop (suc i) xs ≡ ys
  by [] zero y ys h = absurd cc
  by [] (suc i) y ys h = absurd cc
  by (x ∷ xs) zero y ys h = let e : xs ≡ ys = cc in e
  by (x ∷ xs) (suc i) y ys h = by xs i y ys h

rest_of : {X : Type 0} (xs ys : List X) (i : ℕ) (x : X) → ys ≡ xs → i < length ys → x ≡ get_or ys i x → drop i xs ≡ x ∷ drop (i + 1) xs
rest_of xs ys i x same l e =
    let next : i + 1 ≡ suc i = omega arith in
    let plain : drop i xs ≡ x ∷ drop (suc i) xs = drop-cons xs i x (subst (λ zs. i < length zs) same l) ∙ ap (λ y. y ∷ drop (suc i) xs) (sym (subst (λ zs. x ≡ get_or zs i x) same e)) in
    plain ∙ ap (λ k. x ∷ drop k xs) (sym next)

-- what is said of the first of these resources
pub record Turn (old now : Rows) (P : Name → Type 0) (n : ℕ) (path : Path) (f : FlatResource) (fs : List FlatResource) (rs : List book.Resource) (whole : Table ℕ) : Type 0 where
  pub r : book.Resource
  pub others : List book.Resource
  pub here : rs ≡ r ∷ others
  pub is : IsResource n path f r
  pub fresh : AreFresh (paths now.depths) (text f ∷ [])
  pub on : IsOn old now P n path (f ∷ fs) (r ∷ others) whole

turn_of : (old now : Rows) (P : Name → Type 0) (n : ℕ) (path : Path) (f : FlatResource) (fs : List FlatResource) (rs : List book.Resource) (whole : Table ℕ) → IsOn old now P n path (f ∷ fs) rs whole → Turn old now P n path f fs rs whole
turn_of old now P n path f fs [] whole on = absurd on.are
turn_of old now P n path f fs (r ∷ rs) whole on = record { r = r; others = rs; here = refl; is = on.are.0; fresh = (on.fresh.0, on.fresh.1, tt); on = on }

module _ (old now : Rows) (P : Name → Type 0) (path : Path) (fs ys : List FlatResource) (rs : List book.Resource) (whole : Table ℕ) (i : ℕ) (f : FlatResource) (same : ys ≡ fs) (lt : i < length ys) (e : f ≡ get_or ys i f)
    (on : IsOn old now P i path (drop i fs) (drop i rs) whole) where
  turn : Turn old now P i path f (drop (i + 1) fs) (drop i rs) whole
  turn = turn_of old now P i path f (drop (i + 1) fs) (drop i rs) whole (subst (λ (zs : List FlatResource). IsOn old now P i path zs (drop i rs) whole) (rest_of fs ys i f same lt e) on)

  pub next_resource : (new : Rows) → ((n : ℕ) (p : Path) (r : book.Resource) → IsResource n p f r → AreFresh (paths now.depths) (text f ∷ []) → new ≡ with_more ((text f, needed_depth (book_of now) (resource_leaves n p r)) ∷ []) now)
      → IsOn old new P (i + 1) path (drop (i + 1) fs) (drop (i + 1) rs) whole
  next_resource new made =
      subst (λ (zs : List book.Resource). IsOn old new P (i + 1) path (drop (i + 1) fs) zs whole) (sym (tail_of rs i turn.r turn.others turn.here))
      (resource_on old now new P i path f (drop (i + 1) fs) turn.r turn.others whole turn.on (made i path turn.r turn.is turn.fresh))

  pub past_resource : (fault : NoBound) → ((n : ℕ) (p : Path) (r : book.Resource) → IsResource n p f r → IsPastFault (λ t. IsPastHere (book_of now) t n p r) fault) → IsPastFault P fault
  past_resource fault h = resource_past old now P i path f (drop (i + 1) fs) turn.r turn.others whole turn.on fault (h i path turn.r turn.is)

-- the same of devices
pub record DeviceTurn (old now : Rows) (P : Name → Type 0) (f : FlatDevice) (fs : List FlatDevice) (ds : List book.Device) (whole : Table ℕ) : Type 0 where
  pub d : book.Device
  pub others : List book.Device
  pub here : ds ≡ d ∷ others
  pub is : IsDevice f d
  pub fresh : AreFresh (paths now.depths) (resource_texts f)
  pub on : IsOver old now P (f ∷ fs) (d ∷ others) whole

device_turn_of : (old now : Rows) (P : Name → Type 0) (f : FlatDevice) (fs : List FlatDevice) (ds : List book.Device) (whole : Table ℕ) → IsOver old now P (f ∷ fs) ds whole → DeviceTurn old now P f fs ds whole
device_turn_of old now P f fs [] whole on = absurd on.are
device_turn_of old now P f fs (d ∷ ds) whole on = record { d = d; others = ds; here = refl; is = on.are.0; fresh = fresh_first (paths now.depths) (resource_texts f) (flat_map resource_texts fs) on.fresh; on = on }

module _ (old now : Rows) (P : Name → Type 0) (fs ys : List FlatDevice) (ds : List book.Device) (whole : Table ℕ) (i : ℕ) (f : FlatDevice) (same : ys ≡ fs) (lt : i < length ys) (e : f ≡ get_or ys i f)
    (on : IsOver old now P (drop i fs) (drop i ds) whole) where
  device_turn : DeviceTurn old now P f (drop (i + 1) fs) (drop i ds) whole
  device_turn = device_turn_of old now P f (drop (i + 1) fs) (drop i ds) whole (subst (λ (zs : List FlatDevice). IsOver old now P zs (drop i ds) whole) (rest_of fs ys i f same lt e) on)

  pub next_device : (new : Rows) → ((d : book.Device) → IsDevice f d → AreFresh (paths now.depths) (resource_texts f) → new ≡ with_more (device_rows (book_of now) f d) now) → IsOver old new P (drop (i + 1) fs) (drop (i + 1) ds) whole
  next_device new made =
      subst (λ (zs : List book.Device). IsOver old new P (drop (i + 1) fs) zs whole) (sym (tail_of ds i device_turn.d device_turn.others device_turn.here))
      (device_on old now new P f (drop (i + 1) fs) device_turn.d device_turn.others whole device_turn.on (made device_turn.d device_turn.is device_turn.fresh))

  pub past_device : (fault : NoBound) → ((d : book.Device) → IsDevice f d → AreFresh (paths now.depths) (resource_texts f) → IsPastFault (λ t. IsPastIn (book_of now) t 0 (d.name ∷ []) d.resources) fault) → IsPastFault P fault
  past_device fault h = device_past old now P f (drop (i + 1) fs) device_turn.d device_turn.others whole device_turn.on fault (h device_turn.d device_turn.is device_turn.fresh)
