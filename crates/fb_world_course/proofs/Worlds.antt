-- The world of a course in which one device has changed.
use Rattle.std.proofs.Common.{◌≡◌, ℕ, Bool, true, false, cond, eqb, map, slice_get, Some, refl, sym, ◌∙◌, ap}
use Rattle.std.specs.Prelude.{set}
use Rattle.std.proofs.lemmas.Option.{slice_get-map}
use Rattle.std.specs.Option.{option_map}
use Rattle.std.proofs.lemmas.Bool.{eq-eqb, eqb-true}
use Rattle.fb_model.specs.Devices.{put}
use Rattle.fb_verified.specs.declared.verified.Verified.{Verified}
use Rattle.fb_device_state.specs.Machines.{machine_of}
use Rattle.fb_world_course.specs.declared.station.Station.{Station}
use Rattle.fb_world_course.specs.declared.course.Course.{Course}
use Rattle.fb_world_course.specs.Scenes.{site_of, site_machine, site_roots, root_for, world_in}
use Rattle.fb_lists.proofs.Lists.{within_got}
use Rattle.fb_world_course.proofs.Lists.{set_got}

pub cond_ap : {A B : Type 0} (f : A → B) (b : Bool) (x y : A) → f (cond b x y) ≡ cond b (f x) (f y)
cond_ap f true x y = refl
cond_ap f false x y = refl

pub put_here : {A : Type 0} (f : ℕ → A) (d : ℕ) (x : A) → put f d x d ≡ x
put_here f d x = ap (λ t. cond t x (f d)) (eq-eqb d d refl)

-- what is put where it was
pub put_same : {A : Type 0} (f : ℕ → A) (d : ℕ) (x : A) → x ≡ f d → put f d x ≡ f
put_same {A} f d x e = λ i j. at j i
  where
    by : (j : ℕ) (b : Bool) → eqb d j ≡ b → cond b x (f j) ≡ f j
    by j true h = e ∙ ap f (eqb-true d j h)
    by j false h = refl

    at : (j : ℕ) → put f d x j ≡ f j
    at j = by j (eqb d j) refl

module _ (v : Verified) (old new : Course) (d : ℕ) (s t : Station) (stands : slice_get old.stations.items d ≡ Some s) (set_is : new.stations.items ≡ set old.stations.items d t) where
  site_at : (j : ℕ) → slice_get (map site_of new.stations.items) j ≡ cond (eqb d j) (Some (site_of t)) (slice_get (map site_of old.stations.items) j)
  site_at j =
      ap (λ xs. slice_get (map site_of xs) j) set_is
      ∙ slice_get-map site_of (set old.stations.items d t) j
      ∙ ap (option_map site_of) (set_got old.stations.items d j t (within_got old.stations.items d s stands))
      ∙ cond_ap (option_map site_of) (eqb d j) (Some t) (slice_get old.stations.items j)
      ∙ ap (λ o. cond (eqb d j) (Some (site_of t)) o) (sym (slice_get-map site_of old.stations.items j))

  pub machines_put : (world_in v new).machines ≡ put (world_in v old).machines d (machine_of t.device)
  machines_put = λ i j. at j i
    where
      at : (j : ℕ) → site_machine (slice_get (map site_of new.stations.items) j) ≡ put (world_in v old).machines d (machine_of t.device) j
      at j = ap site_machine (site_at j) ∙ cond_ap site_machine (eqb d j) (Some (site_of t)) (slice_get (map site_of old.stations.items) j)

  pub roots_put : (world_in v new).root_of ≡ put (world_in v old).root_of d (root_for t.roots.entries)
  roots_put = λ i j. at j i
    where
      at : (j : ℕ) → site_roots (slice_get (map site_of new.stations.items) j) ≡ put (world_in v old).root_of d (root_for t.roots.entries) j
      at j = ap site_roots (site_at j) ∙ cond_ap site_roots (eqb d j) (Some (site_of t)) (slice_get (map site_of old.stations.items) j)

module _ (v : Verified) (c : Course) (d : ℕ) (s : Station) (stands : slice_get c.stations.items d ≡ Some s) where
  site_here : slice_get (map site_of c.stations.items) d ≡ Some (site_of s)
  site_here = slice_get-map site_of c.stations.items d ∙ ap (option_map site_of) stands

  pub machine_here : (world_in v c).machines d ≡ machine_of s.device
  machine_here = ap site_machine site_here

  pub roots_here : (world_in v c).root_of d ≡ root_for s.roots.entries
  roots_here = ap site_roots site_here
