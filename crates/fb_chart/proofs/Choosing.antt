-- The choice of a transition, by numbers, among those that leave a state.
use Rattle.std.proofs.Common.{◌≡◌, ℕ, zero, suc, ◌<◌, ◌≤◌, Bool, true, false, ◌&&◌, not, ℤ, List, [], ◌∷◌, length, drop, ◌+◌, slice_get, Option, Some, None, IsSome, refl, sym, ap, subst, ◌∙◌, arith}
use Rattle.std.specs.Prelude.{IfSome, if◌then◌else◌}
use Rattle.std.specs.List.{AllByRecursion}
use Rattle.std.specs.Option.{option_map}
use Rattle.std.specs.Str.{bytes_eq}
use Rattle.std.proofs.lemmas.List.{drop_all}
use Rattle.fb_model.specs.Names.{Name, is_in}
use Rattle.fb_model.specs.Language.{Guard, given, is_zero, value_of, holds}
use Rattle.fb_model.specs.Values.{Values}
use Rattle.fb_model.specs.System as book
use Rattle.fb_model.specs.Typing.{AreDistinct}
use Rattle.fb_model.specs.Store.{Cells}
use Rattle.fb_model.specs.Certificates.{names}
use Rattle.fb_model.specs.Charts.{Choice, Cross, Stay, Fail, choice, guarded, tested, is_open, At, Traps, Rests}
use Rattle.fb_model_laws.specs.Leaves.{IsClosedBlock}
use Rattle.st_exec.specs.CodeViews.{code_term}
use Rattle.st_exec.specs.Placed.{placed}
use Rattle.st_exec.specs.Cells.{Form}
use Rattle.fb_chart.specs.declared.table.Transition.{Transition}
use Rattle.fb_chart.specs.declared.table.State.{State}
use Rattle.fb_chart.specs.declared.table.Chart.{Chart}
use Rattle.fb_chart.specs.Views.{named}
use Rattle.fb_chart.specs.Tables.{Each, IsOptional, IsTransition, IsState, IsChart, leaving}
use Rattle.fb_chart.specs.Charting.{block_in, states_in, events_in, outputs_in, IsStateNumber, is_open_to, chosen, phase_of}
use Rattle.fb_lists.proofs.Lists.{all_got, within_got, drop_at}
use Rattle.fb_chart.proofs.Lists.{Both, each_length, each_at}
use Rattle.fb_chart.proofs.Naming.{named_is, names_eq, turned}

pub names_length : (xs : List book.State) → length (names xs) ≡ length xs
names_length [] = refl
names_length (x ∷ xs) = ap suc (names_length xs)

names_at : (xs : List book.State) (n : ℕ) (x : book.State) → slice_get xs n ≡ Some x → slice_get (names xs) n ≡ Some x.name
names_at [] n x h = absurd cc
names_at (y ∷ xs) zero x h = let e : y ≡ x = cc in ap (λ (z : book.State). Some z.name) e
names_at (y ∷ xs) (suc n) x h = names_at xs n x h

-- ---- transitions that leave a state

-- only these are looked at
choice_leaving : (ts : List book.Transition) (s : Name) (w : Option Name) (values : Values) → choice (leaving s ts) s w values ≡ choice ts s w values
choice_leaving [] s w values = refl
choice_leaving (t ∷ ts) s w values = by (bytes_eq t.source s) refl (choice_leaving ts s w values) where
  by : (b : Bool) → bytes_eq t.source s ≡ b → choice (leaving s ts) s w values ≡ choice ts s w values
      → choice (if b then t ∷ leaving s ts else leaving s ts) s w values ≡ (if b && is_open t.event w then guarded (tested t.guard values) t.target (choice ts s w values) else choice ts s w values)
  by true e again =
      ap (λ (c : Bool). if c && is_open t.event w then guarded (tested t.guard values) t.target (choice (leaving s ts) s w values) else choice (leaving s ts) s w values) e
      ∙ ap (λ (k : Choice). if is_open t.event w then guarded (tested t.guard values) t.target k else k) again
  by false e again = again

leaving_all : (s : Name) (ts : List book.Transition) → AllByRecursion (λ (t : book.Transition). bytes_eq t.source s ≡ true) (leaving s ts)
leaving_all s [] = tt
leaving_all s (t ∷ ts) = by (bytes_eq t.source s) refl (leaving_all s ts) where
  by : (b : Bool) → bytes_eq t.source s ≡ b → AllByRecursion (λ (u : book.Transition). bytes_eq u.source s ≡ true) (leaving s ts)
      → AllByRecursion (λ (u : book.Transition). bytes_eq u.source s ≡ true) (if b then t ∷ leaving s ts else leaving s ts)
  by true e again = (e, again)
  by false e again = again

no_transitions : (states : List book.State) (ts : List book.Transition) → length states ≡ 0 → AllByRecursion (λ (t : book.Transition). is_in t.source (names states) ≡ true) ts → ts ≡ []
no_transitions [] [] e h = refl
no_transitions [] (t ∷ ts) e h = let f : false ≡ true = h.0 in absurd cc
no_transitions (s ∷ ss) ts e h = absurd (omega (arith, e))

-- ---- one transition

open_is : (events : List Name) (n : Option Name) (k w : Option ℕ) → AreDistinct events → IsOptional events n k → IfSome w (λ e. e < length events) → is_open n (option_map (named events) w) ≡ is_open_to k w
open_is events None None w d h l = refl
open_is events (Some x) (Some k) None d h l = refl
open_is events (Some x) (Some k) (Some e) d h l = ap (λ y. bytes_eq y (named events e)) (sym (named_is events k x h)) ∙ names_eq events k e d (within_got events k x h) l ∙ turned k e
open_is events None (Some k) w d h l = absurd h
open_is events (Some x) None w d h l = absurd h

-- what is chosen among a transition and those behind it
choice_first : (t : book.Transition) (ts : List book.Transition) (s : Name) (w : Option Name) (values : Values) (b : Bool) → (bytes_eq t.source s && is_open t.event w) ≡ b
    → choice (t ∷ ts) s w values ≡ (if b then guarded (tested t.guard values) t.target (choice ts s w values) else choice ts s w values)
choice_first t ts s w values b e = ap (λ c. if c then guarded (tested t.guard values) t.target (choice ts s w values) else choice ts s w values) e

module _ (forms : List Form) (states events : List Name) (s : Name) (w : Option ℕ) (values : Values) (apart_events : AreDistinct events) (event_in : IfSome w (λ e. e < length events)) where
  abbrev pub choice_in : List book.Transition → Choice
  choice_in ts = choice ts s (option_map (named events) w) values

  module _ (t : book.Transition) (x : Transition) (is : IsTransition forms states events t x) (leaves : bytes_eq t.source s ≡ true) where
    tests : (bytes_eq t.source s && is_open t.event (option_map (named events) w)) ≡ is_open_to x.event w
    tests = ap (λ (b : Bool). b && is_open t.event (option_map (named events) w)) leaves ∙ open_is events t.event x.event w apart_events is.event event_in

    guard_is : tested t.guard values ≡ tested (option_map code_term x.guard) values
    guard_is = ap (λ (g : Option Guard). tested g values) (sym is.guard)

    module _ (ts : List book.Transition) (whole : Choice) (now : choice_in (t ∷ ts) ≡ whole) where
      -- its event is another
      pub passed : is_open_to x.event w ≡ false → choice_in ts ≡ whole
      passed e = sym (choice_first t ts s (option_map (named events) w) values false (tests ∙ e)) ∙ now

      reached : is_open_to x.event w ≡ true → guarded (tested (option_map code_term x.guard) values) t.target (choice_in ts) ≡ whole
      reached e = ap (λ o. guarded o t.target (choice_in ts)) (sym guard_is) ∙ sym (choice_first t ts s (option_map (named events) w) values true (tests ∙ e)) ∙ now

      -- its guard is asked, and does not trap
      pub asked : is_open_to x.event w ≡ true → (whole ≡ Fail → ⊥) → tested (option_map code_term x.guard) values ≡ None → ⊥
      asked e n f = n (sym (reached e) ∙ ap (λ o. guarded o t.target (choice_in ts)) f)

      pub refused : is_open_to x.event w ≡ true → tested (option_map code_term x.guard) values ≡ Some false → choice_in ts ≡ whole
      refused e f = sym (ap (λ o. guarded o t.target (choice_in ts)) f) ∙ reached e

      pub taken : is_open_to x.event w ≡ true → tested (option_map code_term x.guard) values ≡ Some true → whole ≡ chosen states (Some x.target)
      taken e f = sym (reached e) ∙ ap (λ o. guarded o t.target (choice_in ts)) f ∙ ap Cross (sym (named_is states x.target t.target is.target))

-- ---- transitions of a state, at their places

module _ (forms : List Form) (c : Chart) (is : IsChart forms (events_in c) (outputs_in c) (block_in c) c) (apart_events : AreDistinct (events_in c)) (n : ℕ) (w : Option ℕ) (values : Values) (event_in : IfSome w (λ e. e < length (events_in c))) where
  abbrev pub left : ℕ → Choice
  left at = choice_in forms (states_in c) (events_in c) (named (states_in c) n) w values apart_events event_in (drop at (leaving (named (states_in c) n) (block_in c).transitions))

  abbrev pub whole : Choice
  whole = choice_in forms (states_in c) (events_in c) (named (states_in c) n) w values apart_events event_in (block_in c).transitions

  pub left_first : left 0 ≡ whole
  left_first = choice_leaving (block_in c).transitions (named (states_in c) n) (option_map (named (events_in c)) w) values

  -- there is no state
  pub stays : IsClosedBlock (block_in c) → IsStateNumber n (block_in c) → length c.code.value.states.items ≤ n → whole ≡ Stay
  stays closed state_in h =
      let none : length (block_in c).states ≡ 0 = few (length (block_in c).states) state_in (omega (arith, h, each_length (IsState forms (events_in c) (outputs_in c) (block_in c)) (block_in c).states c.code.value.states.items is.states)) in
      ap (choice_in forms (states_in c) (events_in c) (named (states_in c) n) w values apart_events event_in) (no_transitions (block_in c).states (block_in c).transitions none closed.sources)
    where
      few : (k : ℕ) → (0 < k → n < k) → k ≤ n → k ≡ 0
      few zero f g = refl
      few (suc k) f g = absurd (omega (arith, f (omega arith), g))

  module _ (x : State) (x_at : slice_get c.code.value.states.items n ≡ Some x) where
    it : Both (IsState forms (events_in c) (outputs_in c) (block_in c)) (block_in c).states n x
    it = each_at (IsState forms (events_in c) (outputs_in c) (block_in c)) (block_in c).states c.code.value.states.items n x is.states x_at

    its_name : it.x.name ≡ named (states_in c) n
    its_name = sym (named_is (states_in c) n it.x.name (names_at (block_in c).states n it.x it.at))

    each : Each (IsTransition forms (states_in c) (events_in c)) (leaving (named (states_in c) n) (block_in c).transitions) x.transitions.items
    each = subst (λ (s : Name). Each (IsTransition forms (states_in c) (events_in c)) (leaving s (block_in c).transitions) x.transitions.items) its_name it.so.transitions

    module _ (items : List Transition) (items_are : items ≡ x.transitions.items) where
      here : Each (IsTransition forms (states_in c) (events_in c)) (leaving (named (states_in c) n) (block_in c).transitions) items
      here = subst (Each (IsTransition forms (states_in c) (events_in c)) (leaving (named (states_in c) n) (block_in c).transitions)) (sym items_are) each

      pub left_last : (at : ℕ) → length items ≤ at → left at ≡ Stay
      left_last at h =
          ap (choice_in forms (states_in c) (events_in c) (named (states_in c) n) w values apart_events event_in)
          (drop_all at (leaving (named (states_in c) n) (block_in c).transitions) (omega (arith, h, each_length (IsTransition forms (states_in c) (events_in c)) (leaving (named (states_in c) n) (block_in c).transitions) items here)))

      module _ (at : ℕ) (y : Transition) (y_at : slice_get items at ≡ Some y) (so_far : left at ≡ whole) where
        t : Both (IsTransition forms (states_in c) (events_in c)) (leaving (named (states_in c) n) (block_in c).transitions) at y
        t = each_at (IsTransition forms (states_in c) (events_in c)) (leaving (named (states_in c) n) (block_in c).transitions) items at y here y_at

        leaves : bytes_eq t.x.source (named (states_in c) n) ≡ true
        leaves =
            all_got (λ (u : book.Transition). bytes_eq u.source (named (states_in c) n) ≡ true) (leaving (named (states_in c) n) (block_in c).transitions) at t.x (leaving_all (named (states_in c) n) (block_in c).transitions) t.at

        now : choice_in forms (states_in c) (events_in c) (named (states_in c) n) w values apart_events event_in (t.x ∷ drop (at + 1) (leaving (named (states_in c) n) (block_in c).transitions)) ≡ whole
        now = ap (choice_in forms (states_in c) (events_in c) (named (states_in c) n) w values apart_events event_in) (sym (drop_at (leaving (named (states_in c) n) (block_in c).transitions) at t.x t.at)) ∙ so_far

        pub step_placed : IfSome y.guard (λ g. placed forms g ≡ true)
        step_placed = t.so.placed

        pub step_passed : is_open_to y.event w ≡ false → left (at + 1) ≡ whole
        step_passed = passed forms (states_in c) (events_in c) (named (states_in c) n) w values apart_events event_in t.x y t.so leaves (drop (at + 1) (leaving (named (states_in c) n) (block_in c).transitions)) whole now

        pub step_asked : is_open_to y.event w ≡ true → (whole ≡ Fail → ⊥) → tested (option_map code_term y.guard) values ≡ None → ⊥
        step_asked = asked forms (states_in c) (events_in c) (named (states_in c) n) w values apart_events event_in t.x y t.so leaves (drop (at + 1) (leaving (named (states_in c) n) (block_in c).transitions)) whole now

        pub step_refused : is_open_to y.event w ≡ true → tested (option_map code_term y.guard) values ≡ Some false → left (at + 1) ≡ whole
        step_refused = refused forms (states_in c) (events_in c) (named (states_in c) n) w values apart_events event_in t.x y t.so leaves (drop (at + 1) (leaving (named (states_in c) n) (block_in c).transitions)) whole now

        pub step_taken : is_open_to y.event w ≡ true → tested (option_map code_term y.guard) values ≡ Some true → whole ≡ chosen (states_in c) (Some y.target)
        step_taken = taken forms (states_in c) (events_in c) (named (states_in c) n) w values apart_events event_in t.x y t.so leaves (drop (at + 1) (leaving (named (states_in c) n) (block_in c).transitions)) whole now

        pub step_target : y.target < length (states_in c)
        step_target = within_got (states_in c) y.target t.x.target t.so.target

-- ---- guards

pub guard_some : (g : Guard) (values : Values) → (holds g values ≡ None → ⊥) → IsSome (value_of g values)
unfolding holds
guard_some g values h = by (value_of g values) h where
  by : (o : Option ℤ) → (given o (λ v. Some (not (is_zero v))) ≡ None → ⊥) → IsSome o
  by None h = absurd (h refl)
  by (Some v) h = refl

-- ---- at a moment

pub clear_choice : (block : book.Block) (events : List Name) (s : Name) (c : Cells) (w : Option ℕ) (n : ℕ) (out : List Name) → (Traps block (At s c (phase_of events w) n out) → ⊥) → choice block.transitions s (option_map (named events) w) c.own ≡ Fail → ⊥
clear_choice block events s c None n out h e = h e
clear_choice block events s c (Some k) n out h e = h e

pub rests_so : (block : book.Block) (events : List Name) (s : Name) (c : Cells) (w : Option ℕ) → choice block.transitions s (option_map (named events) w) c.own ≡ Stay → Rests block s c (phase_of events w)
rests_so block events s c None e = e
rests_so block events s c (Some k) e = e
