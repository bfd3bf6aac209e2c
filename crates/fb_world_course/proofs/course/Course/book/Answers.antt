use Rattle.std.proofs.Common.{◌≡◌, ◌+◌, ◌-◌, ◌<◌, length, slice_get, refl, sym, ◌∙◌, ap, subst, arith}
use Rattle.std.specs.Prelude.{set}
use Rattle.std.proofs.lemmas.Option.{slice_get_read}
use Rattle.fb_world_course.specs.declared.station.Station.{Station}
use Rattle.fb_world_course.specs.Scenes.{root_for}
use Rattle.fb_world_course.specs.Booking.{posted_in, with_steps}
use Rattle.fb_lists.proofs.Lists.{same_at, within_got}
use Rattle.fb_world_course.proofs.course.Course.book.Goals as goal

pub returns-clause-booked : goal.returns-clause-booked
returns-clause-booked c =
    let stands = slice_get_read c.args.self.now.stations.items (length c.args.self.now.stations.items) c.args.device c.index_mut.result.now refl c.requires.there c.index_mut.ensures.value in
    let is : c.requires.root.station ≡ c.index_mut.result.now = same_at c.args.self.now.stations.items c.args.device c.requires.root.station c.index_mut.result.now c.requires.root.stands stands in
    let root_is : root_for c.requires.root.station.roots.entries c.args.ran.now.cause ≡ c.settle-root.result = ap (λ (x : Station). root_for x.roots.entries c.args.ran.now.cause) is ∙ sym c.settle-root.ensures.root in
    let within : c.settle-root.result - 1 < length c.args.self.now.roots.items = subst (λ n. n - 1 < length c.args.self.now.roots.items) root_is (within_got c.args.self.now.roots.items (root_for c.requires.root.station.roots.entries c.args.ran.now.cause - 1) c.requires.root.root c.requires.root.root_is) in
    let root_stands = slice_get_read c.args.self.now.roots.items (length c.args.self.now.roots.items) (c.settle-root.result - 1) c.index_mut-2.result.now refl within c.index_mut-2.ensures.value in
    record {
      station = c.index_mut.result.now;
      left = c.settle-root.new.self;
      root = c.index_mut-2.result.now;
      stands = stands;
      stations = refl;
      device = c.settle-root.ensures.device;
      causes = c.settle-root.ensures.causes;
      rooted = c.settle-root.ensures.rooted;
      spare_is = c.settle-root.ensures.spare;
      root_is = ap (λ n. slice_get c.args.self.now.roots.items (n - 1)) (sym c.settle-root.ensures.root) ∙ root_stands;
      roots = ap (λ n. set c.args.self.now.roots.items (c.settle-root.result - 1) (record { device = c.index_mut-2.result.now.device; opening = c.index_mut-2.result.now.opening; steps = c.index_mut-2.result.now.steps + n })) c.from.ensures
          ∙ ap (λ n. set c.args.self.now.roots.items (n - 1) (with_steps c.index_mut-2.result.now c.args.ran.now.steps)) c.settle-root.ensures.root;
      datagrams = c.post.ensures.posted ∙ ap (λ n. posted_in c.args.self.now.datagrams.items n c.args.ran.now.effect) c.settle-root.ensures.root;
      sent_is = c.post.ensures.number;
      dispatches = refl;
      few = omega (arith, c.from.ensures);
    }
