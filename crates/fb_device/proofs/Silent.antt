-- No timer of a device to which nothing has happened is armed.
use Rattle.std.proofs.Common.{◌≡◌, Bool, true, false, cond, List, [], ◌∷◌, slice_get, Option, None, Some, refl, sym}
use Rattle.fb_model.specs.Names.{Path, path_eq}
use Rattle.fb_model.specs.System.{Input, Output, Publish, Subscribe, Delay, Cycle, Restart}
use Rattle.fb_model.specs.Wires.{Kind, Charted, Serviced, Leaf}
use Rattle.fb_model.specs.Store.{first_store, first_cells, first_condition}
use Rattle.fb_model.specs.Devices.{due, is_timer}
use Rattle.fb_model.specs.Messages.{Stamp}
use Rattle.fb_sched.specs.Expiry.{moment_of, AreArmed}

never_due : (stamp : Stamp) (kind : Kind) → due (first_condition stamp kind) ≡ None
never_due stamp (Charted block) = refl
never_due stamp (Serviced (Input number types)) = refl
never_due stamp (Serviced (Output number types)) = refl
never_due stamp (Serviced (Publish channel types)) = refl
never_due stamp (Serviced (Subscribe channel types)) = refl
never_due stamp (Serviced Delay) = refl
never_due stamp (Serviced Cycle) = refl
never_due stamp (Serviced Restart) = refl

nothing_due : (stamp : Stamp) (ls : List Leaf) (p : Path) → due (first_store stamp ls p).condition ≡ None
nothing_due stamp [] p = refl
nothing_due stamp (leaf ∷ rest) p = go (path_eq leaf.path p) (nothing_due stamp rest p)
  where
    go : (b : Bool) → due (first_store stamp rest p).condition ≡ None → due (cond b (record { cells = first_cells leaf; condition = first_condition stamp leaf.kind }) (first_store stamp rest p)).condition ≡ None
    go true r = never_due stamp leaf.kind
    go false r = r

no_moment : (stamp : Stamp) (ls : List Leaf) (o : Option Leaf) → moment_of (first_store stamp ls) o ≡ None
no_moment stamp ls None = refl
no_moment stamp ls (Some leaf) = go (is_timer leaf.kind) (nothing_due stamp ls leaf.path)
  where
    go : (b : Bool) → due (first_store stamp ls leaf.path).condition ≡ None → cond b (due (first_store stamp ls leaf.path).condition) None ≡ None
    go true r = r
    go false r = refl

pub none_armed : (stamp : Stamp) (ls all : List Leaf) → AreArmed (first_store stamp ls) all []
none_armed stamp ls all = λ k. sym (no_moment stamp ls (slice_get all k))
