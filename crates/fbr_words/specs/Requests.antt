-- What the program's requests are in the terms of its words.
use Rattle.std.specs.Prelude.{◌≡◌, ◌⊎◌, List, map, Option, Some, None, option_map}
use Rattle.clap.specs.Words.{Text, IsAmong, fault_of}
use Rattle.clap.specs.declared.error.kind.ErrorKind.TheVariants.{DisplayHelp, DisplayVersion}
use Rattle.fbr_words.specs.declared.bound.Bound.{Bound as BoundRequest}
use Rattle.fbr_words.specs.declared.bound.Ranges.{Ranges}
use Rattle.fbr_words.specs.declared.bound.Ranges.TheVariants.{Rounds, Searched, Within}
use Rattle.fbr_words.specs.declared.check.Check.{Check as CheckRequest}
use Rattle.fbr_words.specs.declared.play.Play.{Play as PlayRequest}
use Rattle.fbr_words.specs.declared.replay.Replay.{Replay as ReplayRequest}
use Rattle.fbr_words.specs.declared.shown.Explain.{Explain as ExplainRequest}
use Rattle.fbr_words.specs.declared.shown.Draw.{Draw as DrawRequest}
use Rattle.fbr_words.specs.declared.sim.Sim.{Sim as SimRequest}
use Rattle.fbr_words.specs.declared.watched.Watched.{Watched}
use Rattle.fb_addresses.specs.Addresses.{endpoint_of, parts_of}
use Rattle.fbr_words.specs.declared.network.Network.{Network as NetworkRequest}
use Rattle.fbr_words.specs.declared.serve.Boot.{Boot as BootRequest}
use Rattle.fbr_words.specs.declared.serve.Boot.TheVariants.{Number as Numbered, File as FromFile}
use Rattle.fbr_words.specs.declared.guard.Guard.{Guard as GuardRequest}
use Rattle.fbr_words.specs.declared.guard.Guard.TheVariants as guards
use Rattle.fbr_words.specs.declared.serve.Life.{Life as LifeRequest}
use Rattle.fbr_words.specs.declared.serve.Telling.{Telling as TellingRequest}
use Rattle.fbr_words.specs.declared.serve.Serve.{Serve as ServeRequest}
use Rattle.fbr_words.specs.declared.pack.Pack.{Pack as PackRequest}
use Rattle.fbr_words.specs.declared.time.Time.{Time as TimeRequest}
use Rattle.fbr_words.specs.declared.time.Way.{Way}
use Rattle.fbr_words.specs.declared.request.Request.{Request}
use Rattle.fbr_words.specs.declared.request.Request.TheVariants.{Bound, Check, Sim, Play, Explain, Draw, Serve, Replay, Pack, Time, Key}
use Rattle.fbr_words.specs.declared.order.Order.{Order as OrderRequest}
use Rattle.fbr_texts.specs.declared.meant.Meant.{Meant}
use Rattle.fbr_words.specs.declared.reading.Misread.{Misread}
use Rattle.fbr_words.specs.declared.reading.Misread.TheVariants.{Memory, Help, Words, Number}
use Rattle.fbr_words.specs.Program.{program, Sought, Checking, Watching, Simulating, Plays, Question, Drawing, Network, Boot, numbered, in_file, Life, Telling, Guard, unsealed, sealed, Service, Replaying, Packing, Timing, Asked, a_bound, a_check, a_sim, a_play, an_explain, a_draw, a_serve, a_replay, a_pack, a_time, a_key, Order, request_of}

-- which ranges are wanted: the file that is named, or that there is a search
abbrev pub ranges_of : Ranges → Option (Option Text)
ranges_of Rounds = None
ranges_of Searched = Some None
ranges_of (Within name) = Some (Some name.now)

-- the text that is meant, where there is one
abbrev pub meant_of : Option Meant → Option Text
meant_of m = option_map (λ m. m.text.now) m

abbrev pub sought_of : BoundRequest → Sought
sought_of w =
    record {
      app = w.app.now;
      meant = meant_of w.meant;
      repeats = w.repeats;
      into = option_map (λ name. name.now) w.into;
      ranges = ranges_of w.ranges;
      room = w.room;
      strict = w.is_strict;
      allow = option_map (λ names. names.now) w.allowed;
      json = w.is_json;
      every = w.is_all;
    }

abbrev pub checking_of : CheckRequest → Checking
checking_of f =
    record {
      app = f.app.now;
      meant = meant_of f.meant;
      cert = f.cert.now;
      strict = f.is_strict;
      allow = option_map (λ names. names.now) f.allowed;
      json = f.is_json;
      every = f.is_all;
    }

abbrev pub watching_of : Watched → Watching
watching_of w =
    record {
      paths = map (λ path. path.now) w.paths.items;
      dump = option_map (λ name. name.now) w.dump;
      table = option_map (λ name. name.now) w.table;
      timeline = option_map (λ name. name.now) w.timeline;
    }

abbrev pub simulating_of : SimRequest → Simulating
simulating_of s = record { app = s.app.now; meant = meant_of s.meant; cert = s.cert.now; watched = watching_of s.watched; json = s.is_json }

abbrev pub plays_of : PlayRequest → Plays
plays_of p = record { app = p.app.now; meant = meant_of p.meant; files = map (λ name. name.now) p.files.items; watched = watching_of p.watched; report = option_map (λ name. name.now) p.report; json = p.is_json }

abbrev pub replaying_of : ReplayRequest → Replaying
replaying_of r = record { app = r.app.now; meant = meant_of r.meant; cert = r.cert.now; recorded = r.record.now; verbose = r.is_verbose; clock = r.has_clock; watched = watching_of r.watched; json = r.is_json }

abbrev pub question_of : ExplainRequest → Question
question_of q =
    record {
      what = q.what.now;
      meant = meant_of q.meant;
      cert = option_map (λ name. name.now) q.cert;
      repeats = q.repeats;
      strict = q.is_strict;
      allow = option_map (λ names. names.now) q.allowed;
      json = q.is_json;
      every = q.is_all;
    }

abbrev pub drawing_of : DrawRequest → Drawing
drawing_of d =
    record {
      app = d.app.now;
      meant = meant_of d.meant;
      cert = option_map (λ name. name.now) d.cert;
      repeats = d.repeats;
      flat = d.is_flat;
      chart = option_map (λ name. name.now) d.chart;
      into = option_map (λ name. name.now) d.into;
    }

abbrev pub network_of : NetworkRequest → Network
network_of n = record { bind = endpoint_of n.bind; peers = map endpoint_of n.peers; senders = map parts_of n.senders }

abbrev pub boot_of : BootRequest → Boot
boot_of (Numbered n) = numbered n
boot_of (FromFile name) = in_file name.now

abbrev pub life_of : LifeRequest → Life
life_of l = record { boot = boot_of l.boot; turns = l.turns; until_eof = l.until_eof; recorded = option_map (λ name. name.now) l.record; synced = l.is_synced }

abbrev pub telling_of : TellingRequest → Telling
telling_of t = record { verbose = t.is_verbose; summary = t.summary; clock = t.has_clock; strict = t.is_strict }

abbrev pub guard_of : GuardRequest → Guard
guard_of guards.Unsealed = unsealed
guard_of (guards.Sealed s) = sealed s.keys.now s.state.now

abbrev pub service_of : ServeRequest → Service
service_of r = record { app = r.app.now; meant = meant_of r.meant; cert = r.cert.now; device = r.device.now; network = network_of r.network; life = life_of r.life; telling = telling_of r.telling; guard = guard_of r.guard }

abbrev pub packing_of : PackRequest → Packing
packing_of p = record { app = p.app.now; meant = meant_of p.meant; into = option_map (λ name. name.now) p.into }

abbrev pub way_of : Way → Text × Text
way_of w = (w.from.now, w.to.now)

abbrev pub timing_of : TimeRequest → Timing
timing_of t =
    record { app = t.app.now; meant = meant_of t.meant; cert = t.cert.now; prices = option_map (λ name. name.now) t.prices; rates = option_map (λ text. text.now) t.rates; way = option_map way_of t.way; json = t.is_json }

abbrev pub asked_of : Request → Asked
asked_of (Bound b) = a_bound (sought_of b)
asked_of (Check f) = a_check (checking_of f)
asked_of (Sim s) = a_sim (simulating_of s)
asked_of (Play p) = a_play (plays_of p)
asked_of (Explain q) = an_explain (question_of q)
asked_of (Draw d) = a_draw (drawing_of d)
asked_of (Serve s) = a_serve (service_of s)
asked_of (Replay r) = a_replay (replaying_of r)
asked_of (Pack p) = a_pack (packing_of p)
asked_of (Time t) = a_time (timing_of t)
asked_of (Key state) = a_key (option_map (λ name. name.now) state)

abbrev pub order_of : OrderRequest → Order
order_of w = record { texts = map (λ name. name.now) w.texts.items; asked = asked_of w.request }

-- a number is none
abbrev pub IsNumber : Misread → Type 0
IsNumber (Number why) = Unit {0}
IsNumber other = ⊥

-- the words ask for help or the version
abbrev pub AskForHelp : List Text → Type 0
AskForHelp words = IsAmong DisplayHelp (fault_of program words) ⊎ IsAmong DisplayVersion (fault_of program words)

-- why words ask for nothing, unless memory ran out
abbrev pub IsMisread : List Text → Misread → Type 0
IsMisread words Memory = Unit {0}
IsMisread words (Help error) = (request_of words ≡ None) × AskForHelp words
IsMisread words (Words error) = request_of words ≡ None
IsMisread words (Number why) = request_of words ≡ None
