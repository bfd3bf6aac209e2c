use Rattle.std.proofs.Common.{◌≡◌, ℕ, List, Option, None, refl, length, subst, sym, arith}
use Rattle.std.specs.Vec.{with_item}
use Rattle.std.proofs.lemmas.Option.{slice_get_read}
use Rattle.fb_model.specs.Wires.{Leaf, leaves}
use Rattle.fb_model.specs.Devices as book
use Rattle.fb_model.specs.Devices.{Happens}
use Rattle.fb_model.specs.World.{At_device, A_dispatch, Answered}
use Rattle.fb_verified.specs.declared.verified.Verified.{Verified}
use Rattle.fb_verified.specs.Checked.{system_in}
use Rattle.fb_device_dispatch.specs.declared.answer.Dispatched.TheVariants.{Idle, Ran}
use Rattle.fb_device_dispatch.specs.declared.answer.Dispatched.{Dispatched}
use Rattle.fb_device_dispatch.specs.Answers.{dispatched_of}
use Rattle.fb_device_state.specs.Machines.{device_in, cert_in, machine_of}
use Rattle.fb_world_course.specs.declared.station.Station.{Station}
use Rattle.fb_world_course.specs.declared.course.Course.{Course}
use Rattle.fb_world_course.specs.Answers.{leaves_at}
use Rattle.fb_world_course.specs.Roots.{with_device}
use Rattle.fb_world_course.specs.Keeping.{Goes}
use Rattle.fb_world_course.specs.Room.{Uses}
use Rattle.fb_world_course.proofs.Dispatches.{idle_goes, bookable, ran_goes, booked_uses}
use Rattle.fb_world_course.proofs.Rooms.{device_kept, uses_set}
use Rattle.fb_world_course.proofs.course.Course.dispatch.Goals as goal

-- what was told is what happened
told : (v : Verified) (old : Course) (n q : ℕ) (all : List Leaf) (result a : Dispatched) (sent o : Option ℕ) (self new : Course) → result ≡ a → sent ≡ o → self ≡ new → Goes v old (At_device n (A_dispatch q)) (Answered (dispatched_of all a) o) new → Goes v old (At_device n (A_dispatch q)) (Answered (dispatched_of all result) sent) self
told v old n q all result a sent o self new e f g h =
    subst (λ (x : Course). Goes v old (At_device n (A_dispatch q)) (Answered (dispatched_of all result) sent) x) (sym g)
    (subst (λ (x : Option ℕ). Goes v old (At_device n (A_dispatch q)) (Answered (dispatched_of all result) x) new) (sym f)
    (subst (λ (x : Dispatched). Goes v old (At_device n (A_dispatch q)) (Answered (dispatched_of all x) o) new) (sym e) h))

pub book-requires-clause-root : goal.book-requires-clause-root
book-requires-clause-root c =
    let stands = slice_get_read c.args.self.now.stations.items (length c.args.self.now.stations.items) c.args.device c.index_mut.result.now refl c.requires.there c.index_mut.ensures.value in
    let s : Station = c.index_mut.result.now in
    let mid : Course = record { stations = with_item c.args.self.now.stations c.args.device (with_device s c.dispatch.new.self); datagrams = c.args.self.now.datagrams; roots = c.args.self.now.roots; dispatches = c.args.self.now.dispatches } in
    bookable c.requires.kept.0 c.args.self.now mid c.requires.kept.1 c.args.device c.args.resource c.index_mut.result.now c.dispatch.new.self stands refl c.dispatch.ensures.same refl refl refl c.in-Ran.ran
    (subst (λ (a : Dispatched). Happens (cert_in c.index_mut.result.now.device) (device_in c.index_mut.result.now.device) (machine_of c.index_mut.result.now.device) (book.Dispatch c.args.resource) (dispatched_of (leaves (device_in c.index_mut.result.now.device)) a) (machine_of c.dispatch.new.self)) c.in-Ran.is c.dispatch.ensures.step)
    c.requires.room.numbers

pub returns-in-Idle-clause-goes : goal.returns-in-Idle-clause-goes
returns-in-Idle-clause-goes c = λ v k.
    let stands = slice_get_read c.args.self.now.stations.items (length c.args.self.now.stations.items) c.args.device c.index_mut.result.now refl c.requires.there c.index_mut.ensures.value in
    let s : Station = c.index_mut.result.now in
    let mid : Course = record { stations = with_item c.args.self.now.stations c.args.device (with_device s c.dispatch.new.self); datagrams = c.args.self.now.datagrams; roots = c.args.self.now.roots; dispatches = c.args.self.now.dispatches } in
    told v c.args.self.now c.args.device c.args.resource (leaves_at (system_in v) c.args.device) c.dispatch.result Idle None None mid mid c.in-Idle.is refl refl
    (idle_goes v c.args.self.now mid k c.args.device c.args.resource c.index_mut.result.now c.dispatch.new.self stands refl c.dispatch.ensures.same refl refl refl
    (subst (λ (a : Dispatched). Happens (cert_in c.index_mut.result.now.device) (device_in c.index_mut.result.now.device) (machine_of c.index_mut.result.now.device) (book.Dispatch c.args.resource) (dispatched_of (leaves (device_in c.index_mut.result.now.device)) a) (machine_of c.dispatch.new.self)) c.in-Idle.is c.dispatch.ensures.step))

pub returns-in-Ran-clause-goes : goal.returns-in-Ran-clause-goes
returns-in-Ran-clause-goes c = λ v k.
    let stands = slice_get_read c.args.self.now.stations.items (length c.args.self.now.stations.items) c.args.device c.index_mut.result.now refl c.requires.there c.index_mut.ensures.value in
    let s : Station = c.index_mut.result.now in
    let mid : Course = record { stations = with_item c.args.self.now.stations c.args.device (with_device s c.dispatch.new.self); datagrams = c.args.self.now.datagrams; roots = c.args.self.now.roots; dispatches = c.args.self.now.dispatches } in
    ran_goes v c.args.self.now mid k c.args.device c.args.resource c.index_mut.result.now c.dispatch.new.self stands refl c.dispatch.ensures.same refl refl refl c.in-Ran.ran
    (subst (λ (a : Dispatched). Happens (cert_in c.index_mut.result.now.device) (device_in c.index_mut.result.now.device) (machine_of c.index_mut.result.now.device) (book.Dispatch c.args.resource) (dispatched_of (leaves (device_in c.index_mut.result.now.device)) a) (machine_of c.dispatch.new.self)) c.in-Ran.is c.dispatch.ensures.step)
    c.book.result c.book.new.self c.book.ensures.booked

pub returns-in-Idle-clause-uses : goal.returns-in-Idle-clause-uses
returns-in-Idle-clause-uses c =
    let stands = slice_get_read c.args.self.now.stations.items (length c.args.self.now.stations.items) c.args.device c.index_mut.result.now refl c.requires.there c.index_mut.ensures.value in
    let s : Station = c.index_mut.result.now in
    let mid : Course = record { stations = with_item c.args.self.now.stations c.args.device (with_device s c.dispatch.new.self); datagrams = c.args.self.now.datagrams; roots = c.args.self.now.roots; dispatches = c.args.self.now.dispatches } in
    uses_set c.args.self.now mid c.args.device 0 1 c.index_mut.result.now (with_device s c.dispatch.new.self) stands refl
    (record { same = device_kept c.index_mut.result.now.device c.dispatch.new.self c.dispatch.ensures.same.0 c.dispatch.ensures.same.1; spare_is = omega arith })
    (omega arith) refl (omega arith) refl (omega arith)

pub returns-in-Ran-clause-uses : goal.returns-in-Ran-clause-uses
returns-in-Ran-clause-uses c =
    let stands = slice_get_read c.args.self.now.stations.items (length c.args.self.now.stations.items) c.args.device c.index_mut.result.now refl c.requires.there c.index_mut.ensures.value in
    let s : Station = c.index_mut.result.now in
    let mid : Course = record { stations = with_item c.args.self.now.stations c.args.device (with_device s c.dispatch.new.self); datagrams = c.args.self.now.datagrams; roots = c.args.self.now.roots; dispatches = c.args.self.now.dispatches } in
    booked_uses c.args.self.now mid c.book.new.self c.args.device c.index_mut.result.now c.dispatch.new.self c.in-Ran.ran c.book.result stands refl c.dispatch.ensures.same refl refl refl
    c.book.ensures.booked c.book.ensures.room.0 c.book.ensures.room.1
