-- What a leaf samples, by its table and the stores of all leaves.
use Rattle.std.proofs.Common.{◌≡◌, ℕ, ℤ, Bool, true, false, cond, ◌||◌, List, [], ◌∷◌, ◌++◌, map, replicate, slice_get, Option, Some, None, string_bytes, refl, sym, ◌∙◌, ap, subst}
use Rattle.std.proofs.Math.Path.{fun_ext}
use Rattle.std.specs.List.{AllByRecursion}
use Rattle.std.specs.Option.{option_map}
use Rattle.std.specs.Str.{bytes_eq}
use Rattle.fb_model.specs.Names.{Name, is_in}
use Rattle.fb_model.specs.Values.{Value, One, Many, Values}
use Rattle.fb_model.specs.System as book
use Rattle.fb_model.specs.BlockTyping.{extent}
use Rattle.fb_model.specs.Language.{setting}
use Rattle.fb_model.specs.Wires as wires
use Rattle.fb_model.specs.Wires.{Kind, Output_of, Constant, Leaf, leaf_at}
use Rattle.fb_model.specs.Store.{Store, LeafState, variable_names, inputs, outputs, internals, takes, where_in, value_at, sampled, first_cells}
use Rattle.fb_model.specs.Ranges.{Range, variables, length_in, HasLength, Lies, LinkFits, LeafLies}
use Rattle.fb_model.specs.Certificates.{Certificate, IsWired}
use Rattle.fb_model.proofs.Lists.{same_name, all_weaker}
use Rattle.fb_model.proofs.Placed.{name_same}
use Rattle.fb_model_laws.specs.Leaves.{AreApart}
use Rattle.fb_model_laws.proofs.Taking.{TakesInputs}
use Rattle.st_exec.specs.Cells.{Cell, Form, values_of, forms_of, shape_in, filled}
use Rattle.st_exec.specs.Forms.{slot_in}
use Rattle.fb_chart.specs.declared.table.Source.{Source}
use Rattle.fb_chart.specs.declared.table.Source.TheVariants as s
use Rattle.fb_chart.specs.declared.table.Take.{Take}
use Rattle.fb_chart.specs.declared.table.Event.{Event}
use Rattle.fb_chart.specs.declared.table.Block.{Block}
use Rattle.fb_chart.specs.Views.{taken_by, kind_of}
use Rattle.fb_chart.specs.Sampling.{length_among, IsSource, CanTake, output_in, given_to, sampled_by}
use Rattle.fb_chart.specs.declared.standing.Ports.{Ports}
use Rattle.fb_chart.specs.declared.memory.Condition.{Condition}
use Rattle.fb_chart.specs.Conditions.{leaf_state}
use Rattle.fb_device_tables.specs.Tables.{IsFilled, IsOrigin, IsTaken, IsBlock}
use Rattle.fb_device_state.specs.Machines.{standing, store_from}
use Rattle.fb_device_state.specs.Keeping.{IsStanding, AllStand}
use Rattle.fb_lists.proofs.Lists.{all_got}
use Rattle.fb_device_state.proofs.Storing.{stored_at}
use Rattle.fb_device_state.proofs.Blocks.{mapped}

-- ---- values of one length

same_length : (a c : Option ℕ) (v : Value) → HasLength a v → HasLength c v → a ≡ c
same_length None None (One k) p q = refl
same_length None None (Many ks) p q = absurd p
same_length None (Some n) (One k) p q = absurd q
same_length None (Some n) (Many ks) p q = absurd p
same_length (Some n) None (One k) p q = absurd p
same_length (Some n) None (Many ks) p q = absurd q
same_length (Some n) (Some m) (One k) p q = absurd p
same_length (Some n) (Some m) (Many ks) p q = ap Some (sym p ∙ q)

filled_is : (shape : Option (ℤ × ℤ)) (n : ℤ) (v : Value) → IsFilled n v → HasLength (option_map extent shape) v → filled shape n ≡ v
filled_is None n (One k) f h = ap One (sym f)
filled_is None n (Many ks) f h = absurd h
filled_is (Some bounds) n (One k) f h = absurd h
filled_is (Some bounds) n (Many ks) f h = ap (λ c. Many (replicate c n)) (sym h) ∙ ap Many (sym f)

-- ---- inputs that events are WITH

in_first : (vs ws : List book.Variable) (x : Name) → is_in x (variable_names vs) ≡ true → is_in x (variable_names (vs ++ ws)) ≡ true
in_first [] ws x h = cc
in_first (v ∷ vs) ws x h = go (bytes_eq x v.name) h (in_first vs ws x)
  where
    go : (c : Bool) → (c || is_in x (variable_names vs)) ≡ true → (is_in x (variable_names vs) ≡ true → is_in x (variable_names (vs ++ ws)) ≡ true) → (c || is_in x (variable_names (vs ++ ws))) ≡ true
    go true h r = refl
    go false h r = r h

-- ---- lists of names

in_more : (x y : Name) (ns : List Name) → is_in x ns ≡ true → is_in x (y ∷ ns) ≡ true
in_more x y ns h = go (bytes_eq x y)
  where
    go : (c : Bool) → (c || is_in x ns) ≡ true
    go true = refl
    go false = h

all_in_self : (ns : List Name) → AllByRecursion (λ (n : Name). is_in n ns ≡ true) ns
all_in_self [] = tt
all_in_self (n ∷ ns) = (ap (λ c. c || is_in n ns) (name_same n), all_weaker (λ (m : Name). is_in m ns ≡ true) (λ (m : Name). is_in m (n ∷ ns) ≡ true) ns (λ m h. in_more m n ns h) (all_in_self ns))

of_map : {X Y : Type 0} (f : X → Y) (P : Y → Type 0) (xs : List X) → AllByRecursion P (map f xs) → AllByRecursion (λ x. P (f x)) xs
of_map f P [] h = tt
of_map f P (x ∷ xs) h = (h.0, of_map f P xs h.1)

all_two : {X : Type 0} (P Q R : X → Type 0) (xs : List X) → ((x : X) → P x → Q x → R x) → AllByRecursion P xs → AllByRecursion Q xs → AllByRecursion R xs
all_two P Q R [] f p q = tt
all_two P Q R (x ∷ xs) f p q = (f x p.0 q.0, all_two P Q R xs f p.1 q.1)

-- ---- values that are taken one after another

sampled_at : (issued : List (List Cell)) (forms : List Form) (ts : List Take) (values : Values) (source : Name → Value) → AllByRecursion (λ (t : Take). given_to issued forms (string_bytes t.input) t.source ≡ source (string_bytes t.input)) ts
    → (y : Name) → sampled_by issued forms ts values y ≡ where_in (map (λ (t : Take). string_bytes t.input) ts) source values y
sampled_at issued forms [] values source h y = refl
sampled_at issued forms (t ∷ ts) values source h y =
    sampled_at issued forms ts (setting values (string_bytes t.input) (given_to issued forms (string_bytes t.input) t.source)) source h.1 y
    ∙ go (is_in y (map (λ (t : Take). string_bytes t.input) ts)) (bytes_eq (string_bytes t.input) y) refl (bytes_eq y (string_bytes t.input)) refl
  where
    go : (r c : Bool) → bytes_eq (string_bytes t.input) y ≡ c → (d : Bool) → bytes_eq y (string_bytes t.input) ≡ d
        → cond r (source y) (cond c (given_to issued forms (string_bytes t.input) t.source) (values y)) ≡ cond (d || r) (source y) (values y)
    go true c p true q = refl
    go true c p false q = refl
    go false true p true q = h.0 ∙ ap source (same_name (string_bytes t.input) y p)
    go false true p false q =
        let same : y ≡ string_bytes t.input = sym (same_name (string_bytes t.input) y p) in
        let f : true ≡ false = sym (ap (λ k. bytes_eq y k) (sym same) ∙ name_same y) ∙ q in absurd cc
    go false false p true q =
        let same : y ≡ string_bytes t.input = same_name y (string_bytes t.input) q in
        let f : true ≡ false = sym (ap (λ k. bytes_eq (string_bytes t.input) k) same ∙ name_same (string_bytes t.input)) ∙ p in absurd cc
    go false false p false q = refl

-- ---- where values come from

module _ (ranges : List Range) (all : List Leaf) (owns issues : List (List Cell)) (states : List Condition) (apart : AreApart all) (stand : AllStand all owns issues states) (lies : AllByRecursion (LeafLies ranges all) all) (wired : AllByRecursion (IsWired all) all) where
  abbrev store : Store
  store = store_from 0 all (standing owns issues states)

  origin_given : (forms : List Form) (leaf : Leaf) (x : Name) (o : Source) (w : wires.Source) → IsOrigin all (map forms_of issues) o w → LinkFits ranges all leaf.path leaf.kind x w → length_among forms x ≡ length_in (variables leaf.kind) x → given_to issues forms x o ≡ value_at store w
  origin_given forms leaf x (s.Output block y slot) (Output_of path name) o l n =
      let st = stand block o.0 o.1 in
      let at = stored_at all owns issues states block o.0 st.own st.issued st.condition apart o.1 st.own_is st.issued_is st.condition_is in
      ap (λ (r : Option (List Cell)). output_in r (string_bytes y)) st.issued_is ∙ ap (values_of st.issued) o.3 ∙ sym (ap (λ (k : LeafState). k.cells.issued name) (ap store (sym o.2) ∙ at))
  origin_given forms leaf x (s.Output block y slot) (Constant value) o l n = absurd o
  origin_given forms leaf x (s.Number k) (Output_of path name) o l n = absurd o
  origin_given forms leaf x (s.Number k) (Constant value) o l n = filled_is (shape_in forms x) k value o (subst (λ m. HasLength m value) (sym n) l.form)

  origin_can : (forms : List Form) (leaf : Leaf) (x : Name) (o : Source) (w : wires.Source) → IsOrigin all (map forms_of issues) o w → LinkFits ranges all leaf.path leaf.kind x w → length_among forms x ≡ length_in (variables leaf.kind) x → IsSource issues forms x o
  origin_can forms leaf x (s.Output block y slot) (Output_of path name) o l n =
      let st = stand block o.0 o.1 in
      let there : leaf_at all path ≡ Some o.0 = ap (leaf_at all) (sym o.2) ∙ (all_got (IsWired all) all block o.0 wired o.1).found in
      let both : Some l.leaf ≡ Some o.0 = sym l.found ∙ there in
      let same : l.leaf ≡ o.0 = cc in
      let out : is_in (string_bytes y) (variable_names (outputs o.0.kind)) ≡ true = ap (λ k. is_in k (variable_names (outputs o.0.kind))) o.3 ∙ ap (λ (j : Leaf). is_in name (variable_names (outputs j.kind))) (sym same) ∙ l.output in
      let own : Lies ranges o.0.path o.0.kind (string_bytes y) ((first_cells o.0).issued (string_bytes y)) = (all_got (LeafLies ranges all) all block o.0 lies o.1).starts.issued (string_bytes y) out in
      let moved : Lies ranges path l.leaf.kind name ((first_cells o.0).issued (string_bytes y)) =
      subst (λ (j : Leaf). Lies ranges path j.kind name ((first_cells o.0).issued (string_bytes y))) (sym same)
      (subst (λ k. Lies ranges path o.0.kind k ((first_cells o.0).issued (string_bytes y))) o.3 (subst (λ k. Lies ranges k o.0.kind (string_bytes y) ((first_cells o.0).issued (string_bytes y))) o.2 own)) in
      let taken = l.values ((first_cells o.0).issued (string_bytes y)) moved in (
        st.issued,
        st.issued_is,
        record { declared = st.stores.issued_names (string_bytes y) ∙ out; length = n ∙ same_length (length_in (variables leaf.kind) x) (length_in (variables o.0.kind) (string_bytes y)) ((first_cells o.0).issued (string_bytes y)) taken.form own.form ∙ sym (st.stores.issued_lengths (string_bytes y) out) },
        o.4 (forms_of st.issued) (mapped forms_of issues block st.issued st.issued_is) ∙ ap (slot_in (forms_of st.issued)) (sym o.3),
      )
  origin_can forms leaf x (s.Output block y slot) (Constant value) o l n = absurd o
  origin_can forms leaf x (s.Number k) w o l n = tt

  -- ---- one leaf

  module _ (cert : Certificate) (x : Block) (p : Ports) (leaf : Leaf) (inputs_are : TakesInputs leaf.kind) (i k : ℕ) (stands : slice_get all i ≡ Some leaf) (e : Event) (e_is : slice_get x.events.items k ≡ Some e) (st : IsStanding leaf i owns issues states)
      (is : IsBlock cert all (map forms_of issues) (forms_of st.own) (forms_of st.issued) x p leaf) where
    abbrev name : Name
    name = string_bytes e.name

    own_lies : LeafLies ranges all leaf
    own_lies = all_got (LeafLies ranges all) all i leaf lies stands

    names_are : map (λ (t : Take). string_bytes t.input) e.takes.items ≡ takes leaf.kind name
    names_are = all_got (λ (v : Event). taken_by v ≡ takes (kind_of x) (string_bytes v.name)) x.events.items k e is.table.takes e_is ∙ ap (λ (j : Kind). takes j name) is.kind

    listed : AllByRecursion (λ (t : Take). is_in (string_bytes t.input) (takes leaf.kind name) ≡ true) e.takes.items
    listed = of_map (λ (t : Take). string_bytes t.input) (λ (n : Name). is_in n (takes leaf.kind name) ≡ true) e.takes.items
        (subst (λ (ns : List Name). AllByRecursion (λ (n : Name). is_in n (takes leaf.kind name) ≡ true) ns) (sym names_are) (all_in_self (takes leaf.kind name)))

    origins : AllByRecursion (IsTaken all (map forms_of issues) (forms_of st.own) leaf) e.takes.items
    origins = all_got (λ (v : Event). AllByRecursion (IsTaken all (map forms_of issues) (forms_of st.own) leaf) v.takes.items) x.events.items k e is.takes e_is

    known : (y : Name) → is_in y (takes leaf.kind name) ≡ true → is_in y (variable_names (variables leaf.kind)) ≡ true
    known y h = in_first (inputs leaf.kind) (outputs leaf.kind ++ internals leaf.kind) y (inputs_are name y h)

    pub can_take : AllByRecursion (CanTake issues (forms_of st.own)) e.takes.items
    can_take =
        all_two (λ (t : Take). is_in (string_bytes t.input) (takes leaf.kind name) ≡ true) (IsTaken all (map forms_of issues) (forms_of st.own) leaf) (CanTake issues (forms_of st.own)) e.takes.items
        (λ t h o. record {
          declared = st.stores.own_names (string_bytes t.input) ∙ known (string_bytes t.input) h;
          slot = o.slot;
          count = o.count;
          source = origin_can (forms_of st.own) leaf (string_bytes t.input) t.source (leaf.source (string_bytes t.input)) o.origin (own_lies.links name (string_bytes t.input) h) (st.stores.own_lengths (string_bytes t.input));
        })
        listed origins

    given : AllByRecursion (λ (t : Take). given_to issues (forms_of st.own) (string_bytes t.input) t.source ≡ value_at store (leaf.source (string_bytes t.input))) e.takes.items
    given =
        all_two (λ (t : Take). is_in (string_bytes t.input) (takes leaf.kind name) ≡ true) (IsTaken all (map forms_of issues) (forms_of st.own) leaf) (λ (t : Take). given_to issues (forms_of st.own) (string_bytes t.input) t.source ≡ value_at store (leaf.source (string_bytes t.input))) e.takes.items
        (λ t h o. origin_given (forms_of st.own) leaf (string_bytes t.input) t.source (leaf.source (string_bytes t.input)) o.origin (own_lies.links name (string_bytes t.input) h) (st.stores.own_lengths (string_bytes t.input)))
        listed origins

    -- values that were sampled by the table are those that the book samples
    pub sampled_is : (cells : List Cell) → values_of cells ≡ sampled_by issues (forms_of st.own) e.takes.items (values_of st.own) → sampled store leaf name ≡ leaf_state leaf.kind cells st.issued st.condition
    sampled_is cells h =
        let at = stored_at all owns issues states i leaf st.own st.issued st.condition apart stands st.own_is st.issued_is st.condition_is in
        let own : where_in (takes leaf.kind name) (λ y. value_at store (leaf.source y)) (values_of st.own) ≡ values_of cells =
        ap (λ ns. where_in ns (λ y. value_at store (leaf.source y)) (values_of st.own)) (sym names_are)
        ∙ sym (fun_ext (sampled_at issues (forms_of st.own) e.takes.items (values_of st.own) (λ y. value_at store (leaf.source y)) given)) ∙ sym h in
        ap (λ (k : LeafState). record { cells = record { own = where_in (takes leaf.kind name) (λ y. value_at store (leaf.source y)) k.cells.own; issued = k.cells.issued }; condition = k.condition }) at
        ∙ ap (λ (v : Values). record { cells = record { own = v; issued = values_of st.issued }; condition = (leaf_state leaf.kind cells st.issued st.condition).condition }) own
