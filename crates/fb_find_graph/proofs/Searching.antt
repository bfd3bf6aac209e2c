-- Each step of the search keeps what it keeps.
use Rattle.std.specs.Global.{Global}
use Rattle.std.specs.Option.{option_to_list}
use Rattle.std.proofs.Common.{MatchOption, Vec, vec_len, true, false, Option, None, Some, IsSome, ℕ, zero, suc, ◌≡◌, ◌≢◌, ◌+◌, ◌-◌, ◌<◌, ◌≤◌, ◌⊎◌, List, [], ◌∷◌, ◌++◌, length, take, drop, length-drop, set, slice_index, slice_index_or, refl, sym, ◌∙◌, ap, subst, inl, inr, arith, length-set, get_or-set_same, get_or-set_other, Contains}
use Rattle.std.proofs.lemmas.Bool.{cases_eq, cases_lt}
use Rattle.std.proofs.lemmas.List.{length-map, get_or-map, get_or_read, get_or_append_left, get_or_push, get_or-drop, get_or-take, get_or-append_right, length-append, length-take-le, get_or_default, length_push, take-append-le, take_at}
use Rattle.std.proofs.lemmas.List.Elements.{Contains-append_left, Contains-push, Contains-push_cases}
use Rattle.fb_find_graph.specs.declared.graph.Mark.{Mark}
use Rattle.fb_find_graph.specs.declared.graph.Mark.TheVariants.{New, Open, Done}
use Rattle.fb_find_graph.specs.Graphs.{row, HasEdge, IsOrder, IsClosed}
use Rattle.fb_find_graph.specs.Searches.{mark, rows_of, IsLast, IsRotated, IsFromLeast, IsSearching, weight, work}

-- the mark of a place after a write
pub mark_cases : (marks : List Mark) (p q : ℕ) (m : Mark) → p < length marks → ((q ≡ p) × (mark (set marks p m) q ≡ m)) ⊎ ((q ≢ p) × (mark (set marks p m) q ≡ mark marks q))
mark_cases marks p q m h =
    elim (cases_eq q p) [
      | inl e ↦ inl (e, ap (λ k. mark (set marks p m) k) e ∙ get_or-set_same marks p m New h)
      | inr n ↦ inr (n, get_or-set_other marks p q m New n)
    ]

-- a place of a longer list: one of the list, or the new one
pub index_push : (xs : List ℕ) (x k : ℕ) → k < length (xs ++ x ∷ []) → ((k < length xs) × (slice_index (xs ++ x ∷ []) k ≡ slice_index xs k)) ⊎ ((k ≡ length xs) × (slice_index (xs ++ x ∷ []) k ≡ x))
index_push xs x k h =
    elim (cases_lt k (length xs)) [
      | inl l ↦ inl (l, get_or_append_left xs (x ∷ []) 0 k l)
      | inr g ↦ let e : k ≡ length xs = omega (arith, length_push xs x) in inr (e, get_or_push xs x 0 k (sym e))
    ]

pub open_kept : (rows : List (List ℕ)) (marks : List Mark) (path order : List ℕ) (next : ℕ) → next < length rows → IsSearching rows marks path order → mark marks next ≡ New → ((k : ℕ) → k + 1 ≡ length path → HasEdge rows (slice_index path k) next) → IsSearching rows (set marks next (Open (length path) 0)) (path ++ next ∷ []) order
open_kept rows marks path order next inn s fresh follows =
    let wide : next < length marks = omega (arith, s.sized) in
    let m = Open (length path) 0 in
    let cases : (q : ℕ) → ((q ≡ next) × (mark (set marks next m) q ≡ m)) ⊎ ((q ≢ next) × (mark (set marks next m) q ≡ mark marks q)) = λ q. mark_cases marks next q m wide in
    record {
      sized = length-set marks next m ∙ s.sized;
      places = λ k h. elim (index_push path next k h) [
        | inl w ↦ rw w.1 (s.places k w.0)
        | inr w ↦ rw w.1 inn
      ];
      on_path = λ k h. elim (index_push path next k h) [
        | inl w ↦ let o = s.on_path k w.0 in rw w.1 (
          o.0,
          elim (cases (slice_index path k)) [
            | inl u ↦ absurd (let z : mark marks next ≡ Open k o.0 = ap (λ x. mark marks x) (sym u.0) ∙ o.1 in let f : ⊥ = cc in f)
            | inr u ↦ u.1 ∙ o.1
          ],
        )
        | inr w ↦ rw w.1 (
          0,
          elim (cases next) [
            | inl u ↦ u.1 ∙ ap (λ x. Open x 0) (sym w.0)
            | inr u ↦ absurd (u.0 refl)
          ],
        )
      ];
      opened = λ p depth seen e. elim (cases p) [
        | inl u ↦ let d : depth ≡ length path = cc in (omega (arith, d, length_push path next), get_or_push path next 0 depth (sym d) ∙ sym u.0)
        | inr u ↦ let o = s.opened p depth seen (sym u.1 ∙ e) in (omega (arith, o.0, length_push path next), get_or_append_left path (next ∷ []) 0 depth o.0 ∙ o.1)
      ];
      short = λ p depth seen e. elim (cases p) [
        | inl u ↦ let d : seen ≡ 0 = cc in omega (arith, d)
        | inr u ↦ s.short p depth seen (sym u.1 ∙ e)
      ];
      seen_done = λ p depth seen k e l. elim (cases p) [
        | inl u ↦ let d : seen ≡ 0 = cc in absurd (omega (arith, d, l))
        | inr u ↦ let o = s.seen_done p depth seen k (sym u.1 ∙ e) l in elim (cases (slice_index (row rows p) k)) [
          | inl v ↦ absurd (let z : mark marks next ≡ Done = ap (λ x. mark marks x) (sym v.0) ∙ o in let f : ⊥ = cc in f)
          | inr v ↦ v.1 ∙ o
        ]
      ];
      chain = λ k h. elim (index_push path next (k + 1) h) [
        | inl w ↦ rw (w.1, get_or_append_left path (next ∷ []) 0 k (omega (arith, w.0))) (s.chain k w.0)
        | inr w ↦ rw (w.1, get_or_append_left path (next ∷ []) 0 k (omega (arith, w.0))) (follows k w.0)
      ];
      known = s.known;
      before = s.before;
      once = s.once;
      listed = λ p e. elim (cases p) [
        | inl u ↦ absurd (let f : ⊥ = cc in f)
        | inr u ↦ s.listed p (sym u.1 ∙ e)
      ];
      done = λ p h. let o = s.done p h in elim (cases p) [
        | inl u ↦ absurd (let z : mark marks next ≡ Done = ap (λ x. mark marks x) (sym u.0) ∙ o in let f : ⊥ = cc in f)
        | inr u ↦ u.1 ∙ o
      ];
    }

-- one more demand of the last place of the path is done
pub see_kept : (rows : List (List ℕ)) (marks : List Mark) (path order : List ℕ) (top depth seen : ℕ) → IsSearching rows marks path order → mark marks top ≡ Open depth seen → seen < length (row rows top) → mark marks (slice_index (row rows top) seen) ≡ Done → top < length rows → IsSearching rows (set marks top (Open depth (seen + 1))) path order
see_kept rows marks path order top depth seen s was more over inn =
    let wide : top < length marks = omega (arith, s.sized) in
    let m = Open depth (seen + 1) in
    let cases : (q : ℕ) → ((q ≡ top) × (mark (set marks top m) q ≡ m)) ⊎ ((q ≢ top) × (mark (set marks top m) q ≡ mark marks q)) = λ q. mark_cases marks top q m wide in
    let still : (q : ℕ) → mark marks q ≡ Done → mark (set marks top m) q ≡ Done = λ q e. elim (cases q) [
      | inl u ↦ absurd (let z : mark marks top ≡ Done = ap (λ x. mark marks x) (sym u.0) ∙ e in let f : ⊥ = cc in f)
      | inr u ↦ u.1 ∙ e
    ] in
    record {
      sized = length-set marks top m ∙ s.sized;
      places = s.places;
      on_path = λ k h. let o = s.on_path k h in elim (cases (slice_index path k)) [
        | inl u ↦ let z : mark marks top ≡ Open k o.0 = ap (λ x. mark marks x) (sym u.0) ∙ o.1 in let d : depth ≡ k = cc in (seen + 1, u.1 ∙ ap (λ x. Open x (seen + 1)) d)
        | inr u ↦ (o.0, u.1 ∙ o.1)
      ];
      opened = λ p d n e. elim (cases p) [
        | inl u ↦ let f : d ≡ depth = cc in let o = s.opened top depth seen was in (omega (arith, f, o.0), ap (λ x. slice_index path x) f ∙ (o.1 ∙ sym u.0))
        | inr u ↦ s.opened p d n (sym u.1 ∙ e)
      ];
      short = λ p d n e. elim (cases p) [
        | inl u ↦ let f : n ≡ seen + 1 = cc in rw u.0 (omega (arith, f, more))
        | inr u ↦ s.short p d n (sym u.1 ∙ e)
      ];
      seen_done = λ p d n k e l. elim (cases p) [
        | inl u ↦ let f : n ≡ seen + 1 = cc in rw u.0 (still (slice_index (row rows top) k) (elim (cases_lt k seen) [
          | inl w ↦ s.seen_done top depth seen k was w
          | inr w ↦ let g : k ≡ seen = omega (arith, f, l, w) in ap (λ x. mark marks (slice_index (row rows top) x)) g ∙ over
        ]))
        | inr u ↦ still (slice_index (row rows p) k) (s.seen_done p d n k (sym u.1 ∙ e) l)
      ];
      chain = s.chain;
      known = s.known;
      before = s.before;
      once = s.once;
      listed = λ p e. elim (cases p) [
        | inl u ↦ absurd (let f : ⊥ = cc in f)
        | inr u ↦ s.listed p (sym u.1 ∙ e)
      ];
      done = λ p h. still p (s.done p h);
    }

-- all that the last place of the path demands is done
pub close_kept : (rows : List (List ℕ)) (marks : List Mark) (path order : List ℕ) (top depth seen : ℕ) → IsSearching rows marks (path ++ top ∷ []) order → mark marks top ≡ Open depth seen → length (row rows top) ≤ seen → IsSearching rows (set marks top Done) path (order ++ top ∷ [])
close_kept rows marks path order top depth seen s was full =
    let last : slice_index (path ++ top ∷ []) (length path) ≡ top = get_or_push path top 0 (length path) refl in
    let inn : top < length rows = subst (λ (x : ℕ). x < length rows) last (s.places (length path) (omega (arith, length_push path top))) in
    let wide : top < length marks = omega (arith, s.sized) in
    let here = s.on_path (length path) (omega (arith, length_push path top)) in
    let at : mark marks top ≡ Open (length path) here.0 = ap (λ x. mark marks x) (sym last) ∙ here.1 in
    let left : (k : ℕ) → k < length path → slice_index (path ++ top ∷ []) k ≡ slice_index path k = λ k h. get_or_append_left path (top ∷ []) 0 k h in
    let cases : (q : ℕ) → ((q ≡ top) × (mark (set marks top Done) q ≡ Done)) ⊎ ((q ≢ top) × (mark (set marks top Done) q ≡ mark marks q)) = λ q. mark_cases marks top q Done wide in
    let still : (q : ℕ) → mark marks q ≡ Done → mark (set marks top Done) q ≡ Done = λ q e. elim (cases q) [
      | inl u ↦ u.1
      | inr u ↦ u.1 ∙ e
    ] in
    let isnt : Contains order top → ⊥ = λ h. let z = s.done top h in let f : ⊥ = cc in f in
    record {
      sized = length-set marks top Done ∙ s.sized;
      places = λ k h. subst (λ (x : ℕ). x < length rows) (left k h) (s.places k (omega (arith, h, length_push path top)));
      on_path = λ k h. let o = s.on_path k (omega (arith, h, length_push path top)) in elim (cases (slice_index path k)) [
        | inl u ↦ absurd (let z : mark marks top ≡ Open k o.0 = ap (λ x. mark marks x) (sym (left k h ∙ u.0)) ∙ o.1 in let d : length path ≡ k = cc in omega (arith, d, h))
        | inr u ↦ (o.0, u.1 ∙ (ap (λ x. mark marks x) (sym (left k h)) ∙ o.1))
      ];
      opened = λ p d n e. elim (cases p) [
        | inl u ↦ absurd (let f : ⊥ = cc in f)
        | inr u ↦ let o = s.opened p d n (sym u.1 ∙ e) in elim (cases_lt d (length path)) [
          | inl w ↦ (w, sym (left d w) ∙ o.1)
          | inr w ↦ absurd (let g : d ≡ length path = omega (arith, w, o.0, length_push path top) in u.0 (sym o.1 ∙ (ap (λ x. slice_index (path ++ top ∷ []) x) g ∙ last)))
        ]
      ];
      short = λ p d n e. elim (cases p) [
        | inl u ↦ absurd (let f : ⊥ = cc in f)
        | inr u ↦ s.short p d n (sym u.1 ∙ e)
      ];
      seen_done = λ p d n k e l. elim (cases p) [
        | inl u ↦ absurd (let f : ⊥ = cc in f)
        | inr u ↦ still (slice_index (row rows p) k) (s.seen_done p d n k (sym u.1 ∙ e) l)
      ];
      chain = λ k h. rw (← left k (omega (arith, h)), ← left (k + 1) h) (s.chain k (omega (arith, h, length_push path top)));
      known = λ k h. elim (index_push order top k h) [
        | inl w ↦ rw w.1 (s.known k w.0)
        | inr w ↦ rw w.1 inn
      ];
      before = λ k q h e. elim (index_push order top k h) [
        | inl w ↦ rw (take-append-le k order (top ∷ []) (omega (arith, w.0))) (s.before k q w.0 (subst (λ (x : ℕ). HasEdge rows x q) w.1 e))
        | inr w ↦ rw (take_at order (top ∷ []) k (sym w.0)) (let g = subst (λ (x : ℕ). HasEdge rows x q) w.1 e in s.listed q (subst (λ (x : ℕ). mark marks x ≡ Done) (get_or_default (row rows top) g.0 0 q g.1 ∙ g.2) (s.seen_done top depth seen g.0 was (omega (arith, g.1, full)))))
      ];
      once = λ k h e. elim (index_push order top k h) [
        | inl w ↦ s.once k w.0 (rw (take-append-le k order (top ∷ []) (omega (arith, w.0)), w.1) at e)
        | inr w ↦ isnt (rw (take_at order (top ∷ []) k (sym w.0), w.1) at e)
      ];
      listed = λ p e. elim (cases p) [
        | inl u ↦ rw u.0 (Contains-push order top)
        | inr u ↦ Contains-append_left order (top ∷ []) p (s.listed p (sym u.1 ∙ e))
      ];
      done = λ p h. elim (Contains-push_cases order top p h) [
        | inl w ↦ still p (s.done p w)
        | inr w ↦ elim (cases p) [
          | inl u ↦ u.1
          | inr u ↦ absurd (u.0 (sym w))
        ]
      ];
    }

-- a demand that is open closes a walk
pub walk_closes : (rows : List (List ℕ)) (marks : List Mark) (path order : List ℕ) (next depth seen last : ℕ) → IsSearching rows marks path order → mark marks next ≡ Open depth seen → last + 1 ≡ length path → HasEdge rows (slice_index path last) next → IsClosed rows (drop depth path ++ next ∷ [])
walk_closes rows marks path order next depth seen last s was end edge =
    let o = s.opened next depth seen was in
    let n : length (drop depth path) ≡ length path - depth = length-drop depth path in
    let at : (k : ℕ) → slice_index (drop depth path) k ≡ slice_index path (depth + k) = λ k. get_or-drop depth path k 0 in
    let read : (k : ℕ) → k < length (drop depth path) → slice_index (drop depth path ++ next ∷ []) k ≡ slice_index path (depth + k) = λ k h. get_or_append_left (drop depth path) (next ∷ []) 0 k h ∙ at k in
    let size = length_push (drop depth path) next in
    record {
      long = omega (arith, size, n, o.0);
      chain = λ k h. elim (index_push (drop depth path) next (k + 1) h) [
        | inl w ↦ rw (read (k + 1) w.0, read k (omega (arith, w.0))) (let e : depth + k + 1 ≡ depth + (k + 1) = omega arith in subst (λ (x : ℕ). HasEdge rows (slice_index path (depth + k)) (slice_index path x)) e (s.chain (depth + k) (omega (arith, w.0, n))))
        | inr w ↦ rw (w.1, read k (omega (arith, w.0))) (let e : last ≡ depth + k = omega (arith, w.0, n, end, o.0) in subst (λ (x : ℕ). HasEdge rows (slice_index path x) next) e edge)
      ];
      closes = read 0 (omega (arith, n, o.0)) ∙ (ap (λ x. slice_index path x) (let e : depth + 0 ≡ depth = omega arith in e) ∙ (o.1 ∙ sym (get_or_push (drop depth path) next 0 (length (drop depth path ++ next ∷ []) - 1) (omega (arith, size)))));
      once = λ j k l h e.
          let a = s.on_path (depth + j) (omega (arith, l, h, size, n)) in
          let b = s.on_path (depth + k) (omega (arith, l, h, size, n)) in
          let f : slice_index path (depth + j) ≡ slice_index path (depth + k) = sym (read j (omega (arith, l, h, size))) ∙ (e ∙ read k (omega (arith, h, size))) in
          let g : mark marks (slice_index path (depth + j)) ≡ Open (depth + k) b.0 = ap (λ x. mark marks x) f ∙ b.1 in
          let i : depth + j ≡ depth + k = cc in
          omega (arith, i, l);
    }

pub nothing_begun : (rows : List (List ℕ)) (marks : List Mark) → length marks ≡ length rows → ((p : ℕ) → mark marks p ≡ New) → IsSearching rows marks [] []
nothing_begun rows marks n new = record {
  sized = n;
  places = λ k h. absurd (omega (arith, h));
  on_path = λ k h. absurd (omega (arith, h));
  opened = λ p depth seen e. absurd (let z = new p in let f : ⊥ = cc in f);
  short = λ p depth seen e. absurd (let z = new p in let f : ⊥ = cc in f);
  seen_done = λ p depth seen k e l. absurd (let z = new p in let f : ⊥ = cc in f);
  chain = λ k h. absurd (omega (arith, h));
  known = λ k h. absurd (omega (arith, h));
  before = λ k q h e. absurd (omega (arith, h));
  once = λ k h e. omega (arith, h);
  listed = λ p e. absurd (let z = new p in let f : ⊥ = cc in f);
  done = λ p h. absurd (omega (arith, h.1));
}

-- with nothing on the path, what was begun is done
pub all_ordered : (rows : List (List ℕ)) (marks : List Mark) (order : List ℕ) → IsSearching rows marks [] order → ((p : ℕ) → p < length rows → mark marks p ≢ New) → IsOrder rows order
all_ordered rows marks order s begun = record {
  known = s.known;
  before = s.before;
  once = s.once;
  every = λ p h. s.listed p (elim_done p (mark marks p) refl h);
}
  where
    elim_done : (p : ℕ) (m : Mark) → mark marks p ≡ m → p < length rows → mark marks p ≡ Done
    elim_done p New e h = absurd (begun p h e)
    elim_done p (Open depth seen) e h = absurd (omega (arith, (s.opened p depth seen e).0))
    elim_done p Done e h = e

-- each step leaves less to do
pub work_falls : (rows : List (List ℕ)) (marks : List Mark) (p : ℕ) (m : Mark) → p < length rows → p < length marks → weight (length (row rows p)) m < weight (length (row rows p)) (mark marks p) → work rows (set marks p m) < work rows marks
work_falls [] marks p m h i l = absurd (omega (arith, h))
work_falls (r ∷ rs) [] p m h i l = absurd (omega (arith, i))
work_falls (r ∷ rs) (x ∷ xs) zero m h i l = omega (arith, l)
work_falls (r ∷ rs) (x ∷ xs) (suc p) m h i l = let e : work rs (set xs p m) < work rs xs = work_falls rs xs p m (omega (arith, h)) (omega (arith, i)) l in omega (arith, e)

-- what pop left, with the last place
pub popped : (path left : List ℕ) (r : Option ℕ) (top : ℕ) → path ≡ left ++ option_to_list r → IsSome r → IsLast path top → path ≡ left ++ top ∷ []
popped path left None top e some last = absurd (let z : false ≡ true = some in let f : ⊥ = cc in f)
popped path left (Some x) top e some last =
    let n : length left + 1 ≡ length path = omega (arith, ap length e, length_push left x) in
    let f : x ≡ top = sym (get_or_push left x 0 (length left) refl) ∙ (ap (λ l. slice_index l (length left)) (sym e) ∙ last (length left) n) in
    e ∙ ap (λ y. left ++ y ∷ []) f

-- the last place of the path is one
pub last_known : (rows : List (List ℕ)) (marks : List Mark) (path order : List ℕ) (top : ℕ) → IsSearching rows marks path order → 0 < length path → IsLast path top → top < length rows
last_known rows marks path order top s some last =
    subst (λ (x : ℕ). x < length rows) (last (length path - 1) (omega (arith, some))) (s.places (length path - 1) (omega (arith, some)))

-- the last place of the path is open
pub last_open : (rows : List (List ℕ)) (marks : List Mark) (path order : List ℕ) (top : ℕ) → IsSearching rows marks path order → 0 < length path → IsLast path top → (seen : ℕ) × (mark marks top ≡ Open (length path - 1) seen)
last_open rows marks path order top s some last =
    let o = s.on_path (length path - 1) (omega (arith, some)) in
    let e = last (length path - 1) (omega (arith, some)) in
    (o.0, ap (λ x. mark marks x) (sym e) ∙ o.1)

-- what was read at a place is its mark
pub mark_read : (marks : List Mark) (p : ℕ) (m : Mark) → p < length marks → m ≡ slice_index_or marks p m → mark marks p ≡ m
mark_read marks p m h e = sym (get_or_read marks p m h e New)

-- what was read at a place is its row
pub row_read : (graph : List (Vec ℕ Global)) (p : ℕ) (v : Vec ℕ Global) → p < length graph → v ≡ slice_index_or graph p v → row (rows_of graph) p ≡ v.items
row_read graph p v h e = get_or-map (λ w. w.items) graph p v [] h ∙ ap (λ w. w.items) (sym e)

-- what was read in the row of the last place is demanded by it
pub edge_read : (graph : List (Vec ℕ Global)) (marks : List Mark) (path order : List ℕ) (top : ℕ) (v : Vec ℕ Global) (k q : ℕ) → IsSearching (rows_of graph) marks path order → 0 < length path → IsLast path top → v ≡ slice_index_or graph top v → k < vec_len v → q ≡ slice_index_or v.items k q → HasEdge (rows_of graph) top q
edge_read graph marks path order top v k q s some last e l r =
    let h = last_known (rows_of graph) marks path order top s some last in
    subst (λ (x : List ℕ). Contains x q) (sym (row_read graph top v (rw length-map at h) e)) (k, omega (arith, l, v.ok.0), sym r)

pub none_from : (o : Option ℕ) (P : Type 0) (Q : ℕ → Type 0) → ((x : ℕ) → o ≡ Some x → ⊥) → MatchOption o P Q → P
none_from None P Q n m = m
none_from (Some x) P Q n m = absurd (n x refl)

-- a closed walk stays one from another of its places on
pub walk_rotates : (rows : List (List ℕ)) (walk : List ℕ) (rotated : Vec ℕ Global) → IsClosed rows walk → IsRotated walk rotated → IsClosed rows rotated.items × IsFromLeast rotated.items
walk_rotates rows walk rotated w t =
    let n = length walk - 1 in
    let at = t.0 in
    let low = take (n - at) (drop at walk) in
    let size : length low ≡ n - at = length-take-le (n - at) (drop at walk) (omega (arith, length-drop at walk)) in
    let whole : length (low ++ take (at + 1) walk) ≡ length walk = omega (arith, length-append low (take (at + 1) walk), length-take-le (at + 1) walk (omega (arith, t.1)), size, t.1) in
    let left : (i : ℕ) → i < n - at → slice_index (low ++ take (at + 1) walk) i ≡ slice_index walk (at + i) = λ i h. get_or_append_left low (take (at + 1) walk) 0 i (omega (arith, h, size)) ∙ (get_or-take (n - at) (drop at walk) i 0 h ∙ get_or-drop at walk i 0) in
    let right : (i : ℕ) → n - at ≤ i → i ≤ n → slice_index (low ++ take (at + 1) walk) i ≡ slice_index walk (i - (n - at)) = λ i h l. get_or-append_right low (take (at + 1) walk) (n - at) i 0 size h ∙ get_or-take (at + 1) walk (i - (n - at)) 0 (omega (arith, h, l, t.1)) in
    let around : slice_index walk 0 ≡ slice_index walk n = w.closes in
    rw t.2 (
      record {
        long = omega (arith, whole, w.long);
        chain = λ k h. elim (cases_lt (k + 1) (n - at)) [
          | inl l ↦ rw (left k (omega (arith, l)), left (k + 1) l) (let e : at + k + 1 ≡ at + (k + 1) = omega arith in subst (λ (i : ℕ). HasEdge rows (slice_index walk (at + k)) (slice_index walk i)) e (w.chain (at + k) (omega (arith, l))))
          | inr g ↦ elim (cases_lt k (n - at)) [
            | inl l ↦ rw (left k l, right (k + 1) g (omega (arith, h, whole))) (let d : k + 1 - (n - at) ≡ 0 = omega (arith, g, l) in let e : at + k + 1 ≡ n = omega (arith, g, l) in rw (d, around) (subst (λ (i : ℕ). HasEdge rows (slice_index walk (at + k)) (slice_index walk i)) e (w.chain (at + k) (omega (arith, l)))))
            | inr m ↦ rw (right k m (omega (arith, h, whole)), right (k + 1) g (omega (arith, h, whole))) (let e : k - (n - at) + 1 ≡ k + 1 - (n - at) = omega (arith, m) in subst (λ (i : ℕ). HasEdge rows (slice_index walk (k - (n - at))) (slice_index walk i)) e (w.chain (k - (n - at)) (omega (arith, h, whole))))
          ]
        ];
        closes = let e : n - (n - at) ≡ at + 0 = omega (arith, t.1) in let f : length (low ++ take (at + 1) walk) - 1 ≡ n = omega (arith, whole) in left 0 (omega (arith, t.1)) ∙ (ap (λ i. slice_index walk i) (sym e) ∙ (sym (right n (omega arith) (omega arith)) ∙ ap (λ i. slice_index (low ++ take (at + 1) walk) i) (sym f)));
        once = λ j k l h. elim (cases_lt k (n - at)) [
          | inl a ↦ rw (left j (omega (arith, l, a)), left k a) (w.once (at + j) (at + k) (omega (arith, l)) (omega (arith, a)))
          | inr a ↦ elim (cases_lt j (n - at)) [
            | inl b ↦ rw (left j b, right k a (omega (arith, h, whole))) (λ e. w.once (k - (n - at)) (at + j) (omega (arith, a, h, whole, l)) (omega (arith, b)) (sym e))
            | inr b ↦ rw (right j b (omega (arith, h, l, whole)), right k a (omega (arith, h, whole))) (w.once (j - (n - at)) (k - (n - at)) (omega (arith, b, l)) (omega (arith, a, h, whole)))
          ]
        ];
      },
      λ k h. elim (cases_lt k (n - at)) [
        | inl a ↦ let e : at + 0 ≡ at = omega arith in rw (left 0 (omega (arith, t.1)), left k a, e) (t.3 (at + k) (omega (arith, a)))
        | inr a ↦ let e : at + 0 ≡ at = omega arith in rw (left 0 (omega (arith, t.1)), right k a (omega (arith, h, whole)), e) (elim (cases_lt (k - (n - at) + 1) (length walk)) [
          | inl b ↦ t.3 (k - (n - at)) b
          | inr b ↦ absurd (omega (arith, b, h, whole, t.1, a))
        ])
      ],
    )
