-- The prices of algorithms under the tables of leaves are what they cost in the book, as far as numbers tell.
use Rattle.std.proofs.Common.{◌≡◌, ℕ, zero, suc, ◌+◌, ◌*◌, ◌<◌, nat_le, Bool, true, false, List, [], ◌∷◌, ◌++◌, add-one, drop, length, map, Option, Some, None, refl, sym, ap, ap₂, subst, ◌∙◌, arith, string_bytes, if◌then◌else◌}
use Rattle.std.specs.Option.{unwrap_or}
use Rattle.std.specs.List.{flat_map, AllByRecursion}
use Rattle.std.specs.Str.{bytes_eq}
use Rattle.std.specs.declared.string.String.{String}
use Rattle.std.specs.declared.alloc.Global.{Global}
use Rattle.std.proofs.lemmas.List.{map-append}
use Rattle.fb_model.specs.Names.{Name}
use Rattle.fb_model.specs.System.{Procedure, Device}
use Rattle.fb_model.specs.Wires as wires
use Rattle.fb_model.specs.Wires.{Kind}
use Rattle.fb_model.specs.Charts.{named}
use Rattle.fb_model.specs.Clear.{Spans, Found, Clear, found_cost, examined}
use Rattle.fb_model.specs.Ranges.{Range, rows, cost_of, IsClearAlgorithm}
use Rattle.fb_model.specs.Certificates.{all_leaves, channels_of}
use Rattle.fb_model_laws.specs.Leaves.{IsClosed}
use Rattle.fb_model.specs.Demands.{Demand, of_kind, channel_demands}
use Rattle.fb_model.specs.Columns.{price_of, demands, network_demands}
use Rattle.fb_find_laws.specs.Nodes.{by_number, capped}
use Rattle.fb_model.specs.FinderRanges.{IsTable}
use Rattle.fb_check_rows.proofs.Names.{bytes_turned}
use Rattle.st_types.specs.CommandViews.{commands_of}
use Rattle.st_types.specs.declared.whole.Algo.{Algo}
use Rattle.fb_ranges.specs.Answers.{most_steps}
use Rattle.fb_flat.specs.declared.flat.Body.{Body}
use Rattle.fb_flat.specs.declared.flat.Body.TheVariants.{Basic, Served}
use Rattle.fb_flat.specs.declared.flat.Leaf.{Leaf}
use Rattle.fb_flat.specs.declared.flat.FlatDevice.{FlatDevice}
use Rattle.fb_flat.specs.Leaves.{kind_of}
use Rattle.fb_flat.specs.Tables.{IsLeaf, AreLeaves, AreDevices}
use Rattle.fb_find_demands.specs.declared.numbered.Numbering.{Numbering}
use Rattle.fb_find_demands.specs.Grounds.{value_at, priced as price_in, algorithms_of}
use Rattle.fb_find_demands.specs.Rights.{numbered, numbers_of}
use Rattle.fb_find_demands.specs.Channels.{channels_ask}
use Rattle.fb_find_demands.specs.Leaves.{leaves_under, AreClosed}
use Rattle.fb_find_demands.specs.Prices.{most, prices, kind_prices, priced_leaf, priced, HasClear, AreTables, AreClear}
use Rattle.fb_find_demands.proofs.Alike.{Same, book_ground, leaf_same}
use Rattle.fb_find_demands.proofs.Systems.{AllClosed, all_are, all_closed, asked_same}

-- ---- one algorithm

capped_many : (n : ℕ) → nat_le n 1000000000000 ≡ false → capped 1000000000001 ≡ capped n
capped_many n h = grind arith

told_same : (n : ℕ) (b : Bool) → nat_le n 1000000000000 ≡ b → Same (unwrap_or (if b then Some n else None) 1000000000001) n
told_same n true h = refl
told_same n false h = capped_many n h

found_same : (found : Found) (end : Spans) (n : ℕ) → found ≡ Clear end n → Same (unwrap_or (most_steps found) 1000000000001) (1 * found_cost found)
found_same found end n e = subst (λ (f : Found). Same (unwrap_or (most_steps f) 1000000000001) (1 * found_cost f)) (sym e) (told_same n (nat_le n 1000000000000) refl ∙ ap capped (once n)) where
  once : (n : ℕ) → n ≡ 1 * n
  once n = omega arith

-- ---- those of a block

abbrev pub procedure : String Global × Algo → Procedure
procedure p = record { name = string_bytes p.0; algorithm = commands_of p.1.statements.items }

-- without a table, one more algorithm has the price of which nothing is told
pub unknown_more : (es : List (String Global × Algo)) (i : ℕ) → i < length es → prices None (map procedure (drop i es)) ≡ 1000000000001 ∷ prices None (map procedure (drop (i + 1) es))
unknown_more es i l = rw add-one (by es i l) where
  by : (es : List (String Global × Algo)) (i : ℕ) → i < length es → prices None (map procedure (drop i es)) ≡ 1000000000001 ∷ prices None (map procedure (drop (suc i) es))
  by [] i l = absurd (omega (arith, l))
  by (e ∷ es) zero l = refl
  by (e ∷ es) (suc i) l = by es i (omega (arith, l))

value_same : (spans : Spans) (es : List (String Global × Algo)) → AllByRecursion (λ (p : Procedure). IsClearAlgorithm spans p.algorithm) (map procedure es) → (x : Name)
    → Same (value_at (map (λ p. string_bytes p.0) es) (prices (Some spans) (map procedure es)) x) (1 * cost_of spans (named (map procedure es) x))
value_same spans [] h x = refl
value_same spans (e ∷ es) h x = by (bytes_eq (string_bytes e.0) x) (bytes_eq x (string_bytes e.0)) (bytes_turned (string_bytes e.0) x (bytes_eq (string_bytes e.0) x) refl) (value_same spans es h.1 x) where
  by : (b c : Bool) → c ≡ b
      → Same (value_at (map (λ p. string_bytes p.0) es) (prices (Some spans) (map procedure es)) x) (1 * cost_of spans (named (map procedure es) x))
      → Same (if c then most (Some spans) (procedure e).algorithm else value_at (map (λ p. string_bytes p.0) es) (prices (Some spans) (map procedure es)) x) (1 * cost_of spans (if b then Some (procedure e).algorithm else named (map procedure es) x))
  by true true k rest = found_same (examined spans (procedure e).algorithm) h.0.0 h.0.1 h.0.2
  by false false k rest = rest
  by true false k rest = absurd (let z : ⊥ = cc in z)
  by false true k rest = absurd (let z : ⊥ = cc in z)

price_same : (spans : Spans) (b : Body) → HasClear spans (kind_of b) → (a : Option Name) → Same (price_in (algorithms_of b) (kind_prices (Some spans) (kind_of b)) a) (price_of 1 spans (kind_of b) a)
price_same spans (Basic block) h None = refl
price_same spans (Basic block) h (Some x) = value_same spans block.value.procedures.entries h x
price_same spans (Served service) h None = refl
price_same spans (Served service) h (Some x) = refl

-- ---- leaves

table_same : (ranges : List Range) (spans : Spans) (leaf : wires.Leaf) (b : Body) → IsTable ranges spans leaf (kind_of b) → HasClear (rows ranges leaf.path leaf.kind) (kind_of b) → (a : Option Name)
    → Same (price_in (algorithms_of b) (kind_prices (Some spans) (kind_of b)) a) (price_of 1 (rows ranges leaf.path leaf.kind) (kind_of b) a)
table_same ranges spans leaf (Basic block) t h a =
    subst (λ (s : Spans). Same (price_in (algorithms_of (Basic block)) (kind_prices (Some s) (kind_of (Basic block))) a) (price_of 1 (rows ranges leaf.path leaf.kind) (kind_of (Basic block)) a)) (sym t)
    (price_same (rows ranges leaf.path leaf.kind) (Basic block) h a)
table_same ranges spans leaf (Served service) t h None = refl
table_same ranges spans leaf (Served service) t h (Some x) = refl

leaf_priced : (n : Numbering) (follows : Bool) (ranges : List Range) (spans : Spans) (l : Leaf) (leaf : wires.Leaf) → IsLeaf l leaf → IsClosed leaf.kind → IsTable ranges spans leaf leaf.kind → HasClear (rows ranges leaf.path leaf.kind) leaf.kind
    → priced_leaf n follows l (Some spans) ≡ numbered n (of_kind (book_ground 1 follows (price_of 1 (rows ranges leaf.path leaf.kind) leaf.kind) leaf) leaf.kind)
leaf_priced n follows ranges spans l leaf is closed t h =
    let R = rows ranges leaf.path leaf.kind in
    let here : IsTable ranges spans leaf (kind_of l.body) = subst (IsTable ranges spans leaf) (sym is.kind) t in
    let clear : HasClear R (kind_of l.body) = subst (HasClear R) (sym is.kind) h in
    leaf_same n 1 follows (kind_prices (Some spans) (kind_of l.body)) (price_of 1 R leaf.kind) l leaf is closed
    (λ a. table_same ranges spans leaf l.body here clear a ∙ ap (λ (k : Kind). capped (price_of 1 R k a)) is.kind)

-- the demands of the book's leaves
abbrev followed : Bool → List Range → wires.Leaf → List Demand
followed follows ranges leaf = of_kind (book_ground 1 follows (price_of 1 (rows ranges leaf.path leaf.kind) leaf.kind) leaf) leaf.kind

leaves_priced : (n : Numbering) (follows : Bool) (ranges : List Range) (ls : List Leaf) (bs : List wires.Leaf) (ts : List Spans) → AreLeaves ls bs → AllClosed bs → AreTables ranges ts bs → AreClear ranges bs → priced n follows ls ts ≡ numbered n (flat_map (followed follows ranges) bs)
leaves_priced n follows ranges [] [] ts a c t h = refl
leaves_priced n follows ranges [] (b ∷ bs) ts a c t h = absurd a
leaves_priced n follows ranges (l ∷ ls) [] ts a c t h = absurd a
leaves_priced n follows ranges (l ∷ ls) (b ∷ bs) [] a c t h = absurd t
leaves_priced n follows ranges (l ∷ ls) (b ∷ bs) (s ∷ ts) a c t h =
    ap (λ rs. rs ++ priced n follows ls ts) (leaf_priced n follows ranges s l b a.0 c.0 t.0 h.0)
    ∙ ap (λ rs. numbered n (followed follows ranges b) ++ rs) (leaves_priced n follows ranges ls bs ts a.1 c.1 t.1 h.1)
    ∙ sym (map-append (by_number (numbers_of n)) (followed follows ranges b) (flat_map (followed follows ranges) bs))

pub priced_same : (n : Numbering) (ranges : List Range) (fs : List FlatDevice) (ds : List Device) (ts : List Spans) → AreDevices fs ds → AreClosed ds → AreTables ranges ts (all_leaves ds) → AreClear ranges (all_leaves ds)
    → priced n false (leaves_under fs) ts ≡ numbered n (demands 1 ranges (all_leaves ds))
priced_same n ranges fs ds ts a c t h = leaves_priced n false ranges (leaves_under fs) (all_leaves ds) ts (all_are fs ds a) (all_closed ds c) t h

-- those of the network: of the leaves, and then of the channels
pub far_same : (n : Numbering) (r : ℕ) (ranges : List Range) (fs : List FlatDevice) (ds : List Device) (ts : List Spans) → AreDevices fs ds → AreClosed ds → n.channels.items ≡ channels_of (all_leaves ds) → AreTables ranges ts (all_leaves ds) → AreClear ranges (all_leaves ds)
    → priced n true (leaves_under fs) ts ++ numbered n (channels_ask r (leaves_under fs) n.channels.items) ≡ numbered n (network_demands r ranges (all_leaves ds))
far_same n r ranges fs ds ts a c e t h =
    let all = all_leaves ds in
    ap₂ (λ xs ys. xs ++ ys) (leaves_priced n true ranges (leaves_under fs) all ts (all_are fs ds a) (all_closed ds c) t h) (asked_same n r fs ds a e)
    ∙ sym (map-append (by_number (numbers_of n)) (flat_map (followed true ranges) all) (channel_demands r all))
