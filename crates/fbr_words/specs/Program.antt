-- The words of the program, in the terms of the crate that reads them.
use Rattle.std.specs.Prelude.{◌≡◌, ℕ, ◌==◌, nat_le, ◌&&◌, ◌||◌, Bool, false, List, [], ◌∷◌, ◌++◌, length, slice_index, Option, Some, None, true, codes, option_map, option_and_then, if◌then◌else◌}
use Rattle.std.specs.Str.{bytes_eq}
use Rattle.clap.specs.Words.{App, Row, Rule, Text, Kinds, first_of, all_of, new_app, new_rule, with_rule, with_subcommand, subcommand_of, fault_of, IsAmong}
use Rattle.clap.specs.declared.builder.action.ArgAction.TheVariants.{Set, SetTrue, Append}
use Rattle.clap.specs.declared.error.kind.ErrorKind.TheVariants.{DisplayHelp, DisplayVersion}
use Rattle.clap.specs.Lexer.{usize_max}
use Rattle.fb_addresses.specs.Addresses.{Endpoint, endpoint_in, ip_in}
use Rattle.fb_numbers.specs.Numbers.{number_in, long_number_in, wide_number_in}

-- a file that has to be named
abbrev pub file : Text → Rule
file id = record (new_rule id) { required = true }

-- an option that may be given again, each time with a value
abbrev pub repeated : Text → Rule
repeated id = record (new_rule id) { long = Some id; action = Some Append; value_names = 1 }

-- a subcommand of this name, its file, and the files of the block types before it
abbrev pub over_file : Text → App
over_file name = with_rule (with_rule (new_app name) (file (codes "APP"))) (repeated (codes "with"))

-- a subcommand of this name and its two files
abbrev pub over_files : Text → App
over_files name = with_rule (over_file name) (file (codes "CERT"))

-- `--repeats` and its number
abbrev pub repeats : Rule
repeats = record (new_rule (codes "repeats")) { long = Some (codes "repeats"); action = Some Set; value_names = 1 }

-- `-o` or `--output`, and the name of a file
abbrev pub output : Rule
output = record (new_rule (codes "output")) { long = Some (codes "output"); short = Some 111; action = Some Set; value_names = 1 }

-- `--ranges` and the name of a file
abbrev pub ranges : Rule
ranges = record (new_rule (codes "ranges")) { long = Some (codes "ranges"); action = Some Set; value_names = 1 }

-- `--search`
abbrev pub search : Rule
search = record (new_rule (codes "search")) { long = Some (codes "search"); action = Some SetTrue }

-- `--room` and its number
abbrev pub room : Rule
room = record (new_rule (codes "room")) { long = Some (codes "room"); action = Some Set; value_names = 1 }

-- `--json`
abbrev pub json : Rule
json = record (new_rule (codes "json")) { long = Some (codes "json"); action = Some SetTrue }

-- `--strict`
abbrev pub strict : Rule
strict = record (new_rule (codes "strict")) { long = Some (codes "strict"); action = Some SetTrue }

-- `--allow` and the names of notes
abbrev pub allow : Rule
allow = record (new_rule (codes "allow")) { long = Some (codes "allow"); action = Some Set; value_names = 1 }

-- `--all`
abbrev pub every : Rule
every = record (new_rule (codes "all")) { long = Some (codes "all"); action = Some SetTrue }

-- `bound`, its file, how often datagrams are delivered, the file that is written, which ranges there are, how much room, `--strict`, `--allow`, `--json`, and `--all`
abbrev pub bound : App
bound =
    with_rule (with_rule (with_rule (with_rule (with_rule (with_rule (with_rule (with_rule (with_rule (over_file (codes "bound")) repeats) output) ranges) search) room) strict) allow) json) every

-- `check`, its two files, `--strict`, `--allow`, `--json`, and `--all`
abbrev pub check : App
check = with_rule (with_rule (with_rule (with_rule (over_files (codes "check")) strict) allow) json) every

-- files, as many as are named
abbrev pub files : Text → Rule
files id = record (new_rule id) { required = true; action = Some Append; range = Some (record { start_inclusive = 1; end_inclusive = usize_max }) }

-- a file that may be named
abbrev pub maybe_file : Text → Rule
maybe_file id = new_rule id

-- `explain`, its file or number, perhaps another file, how often datagrams are delivered, `--strict`, `--allow`, `--json`, and `--all`
abbrev pub explain : App
explain = with_rule (with_rule (with_rule (with_rule (with_rule (with_rule (over_file (codes "explain")) (maybe_file (codes "CERT"))) repeats) strict) allow) json) every

-- `--flat`
abbrev pub flat : Rule
flat = record (new_rule (codes "flat")) { long = Some (codes "flat"); action = Some SetTrue }

-- `--chart` and the name of a block type
abbrev pub chart : Rule
chart = record (new_rule (codes "chart")) { long = Some (codes "chart"); action = Some Set; value_names = 1 }

-- `draw`, its file, perhaps another one, how often datagrams are delivered, `--flat`, the block type whose chart is drawn, and the file that is written
abbrev pub draw : App
draw = with_rule (with_rule (with_rule (with_rule (with_rule (over_file (codes "draw")) (maybe_file (codes "CERT"))) repeats) flat) chart) output

-- an option that takes a number
abbrev pub number : Text → Rule
number id = record (new_rule id) { long = Some id; action = Some Set; value_names = 1 }

-- an option that has to be given one
abbrev pub needed_number : Text → Rule
needed_number id = record (number id) { required = true }

-- the addresses of peers, as many as are named
abbrev pub peers : Rule
peers = record (new_rule (codes "PEER")) { action = Some Append; range = Some (record { start_inclusive = 1; end_inclusive = usize_max }) }

-- an option without a value
abbrev pub set : Text → Rule
set id = record (new_rule id) { long = Some id; action = Some SetTrue }

-- a command with what is watched, and the files into which that is written
abbrev pub watched_by : App → App
watched_by app = with_rule (with_rule (with_rule (with_rule app (repeated (codes "watch"))) (number (codes "vcd"))) (number (codes "csv"))) (number (codes "timeline"))

-- `sim`, its two files, what is watched, and `--json`
abbrev pub sim : App
sim = with_rule (watched_by (over_files (codes "sim"))) json

-- `play`, its file, the files behind it, what is watched, the file of a report, and `--json`
abbrev pub play : App
play = with_rule (with_rule (watched_by (with_rule (over_file (codes "play")) (files (codes "STORY")))) (number (codes "report"))) json

-- `replay`, its two files and the record, what it tells, what is watched, and `--json`
abbrev pub replay : App
replay = with_rule (watched_by (with_rule (with_rule (with_rule (over_files (codes "replay")) (file (codes "RECORD"))) (set (codes "verbose"))) (set (codes "clock")))) json

-- `serve`, its two files, its device, where it receives, and from whom
abbrev pub serve_at : App
serve_at = with_rule (with_rule (with_rule (over_files (codes "serve")) (file (codes "DEVICE"))) (needed_number (codes "bind"))) (repeated (codes "from"))

-- and how long it runs
abbrev pub serve_for : App
serve_for = with_rule (with_rule (with_rule (with_rule serve_at (number (codes "turns"))) (set (codes "until-eof"))) (number (codes "boot"))) (number (codes "boot-file"))

-- and where it is recorded
abbrev pub serve_by : App
serve_by = with_rule (with_rule serve_for (number (codes "record"))) (set (codes "sync"))

-- and what is checked of datagrams
abbrev pub serve_with : App
serve_with = with_rule (with_rule (with_rule serve_by (number (codes "keys"))) (number (codes "state"))) (set (codes "unsealed"))

-- and what it tells, and to whom it sends
abbrev pub serve : App
serve =
    with_rule (with_rule (with_rule (with_rule (with_rule serve_with (set (codes "verbose"))) (number (codes "summary"))) (set (codes "clock")))
    (set (codes "stop-on-lost-output"))) peers

-- `pack`, its file, and the file that is written
abbrev pub pack : App
pack = with_rule (over_file (codes "pack")) output

-- `time`, its two files, the file of prices, both ends of a way, and `--json`
abbrev pub time : App
time =
    with_rule (with_rule (with_rule (with_rule (with_rule (over_files (codes "time")) (number (codes "calibration"))) (number (codes "rate"))) (number (codes "from"))) (number (codes "to"))) json

-- `key`, and the state that it begins
abbrev pub key : App
key = with_rule (new_app (codes "key")) (number (codes "state"))

-- the command without its subcommands: it tells its version, and wants a subcommand
abbrev pub top : App
top = record { top = record (new_app (codes "fbr")).top { has_version = true; subcommand_required = true }; subs = [] }

abbrev pub program : App
program =
    with_subcommand (with_subcommand (with_subcommand (with_subcommand (with_subcommand (with_subcommand (with_subcommand (with_subcommand (with_subcommand (with_subcommand (with_subcommand top bound.top) check.top)
    sim.top) play.top) explain.top) draw.top) serve.top) replay.top) pack.top) time.top) key.top

-- a number of 1 to 255
abbrev pub small_in : Option ℕ → Option ℕ
small_in None = None
small_in (Some n) = if nat_le 1 n && nat_le n 255 then Some n else None

-- how often datagrams are delivered: not said, or so often; nothing where what is said is no number of 1 to 255
abbrev pub repeats_in : Option Text → Option (Option ℕ)
repeats_in None = Some None
repeats_in (Some word) = elim (small_in (number_in word)) [ None ↦ None | Some n ↦ Some (Some n) ]

-- the file that is written: none where no word names one, or where it is `-`
abbrev pub into_in : Option Text → Option Text
into_in None = None
into_in (Some name) = if bytes_eq name (codes "-") then None else Some name

-- the same of all that a subcommand is given
abbrev pub into_of : List Row → Option Text
into_of rows = into_in (first_of (codes "output") rows)

-- ---- what `bound` is asked for

-- `meant` is the text that the application is with the block types before it, where there are some: words alone say none. The same is so below.

-- a certificate of this file, perhaps with steps over the network; the file that is written where there is one; the file whose ranges are kept, or none, where other
-- ranges may be found than those of the rounds; how often there is room for the largest arrival, where that is said; whether notes count; the names of those that are
-- allowed, where some are; whether JSON is printed; and whether all faults are told
pub record Sought : Type 0 where
  pub app : Text
  pub meant : Option Text
  pub repeats : Option ℕ
  pub into : Option Text
  pub ranges : Option (Option Text)
  pub room : Option ℕ
  pub strict : Bool
  pub allow : Option Text
  pub json : Bool
  pub every : Bool

-- the certificate with the least numbers of a file's application, or of the text that is meant, with steps over the network where that is said
abbrev pub least_sought : Text → Option Text → Option ℕ → Sought
least_sought app meant often = record { app = app; meant = meant; repeats = often; into = None; ranges = None; room = None; strict = false; allow = None; json = false; every = false }

abbrev pub is_set : Option Text → Bool
is_set None = false
is_set (Some word) = bytes_eq word (codes "true")

-- which ranges, by the name of a file, and whether there is to be a search
abbrev pub ranges_by : Option Text → Bool → Option (Option Text)
ranges_by (Some name) wish = Some (Some name)
ranges_by None wish = if wish then Some None else None

-- all of it, where nothing is missing
abbrev pub sought_with : Option Text → Option (Option ℕ) → Option Text → Option (Option Text) → Option (Option ℕ) → Bool → Option Text → Bool → Bool → Option Sought
sought_with (Some app) (Some often) into kept (Some times) counts names printed faults =
    Some (record { app = app; meant = None; repeats = often; into = into; ranges = kept; room = times; strict = counts; allow = names; json = printed; every = faults })
sought_with app often into kept times counts names printed faults = None

-- what the words of `bound` ask for; nothing where a number is none
abbrev pub sought_in : List Row → Option Sought
sought_in rows =
    sought_with (first_of (codes "APP") rows) (repeats_in (first_of (codes "repeats") rows)) (into_of rows)
    (ranges_by (first_of (codes "ranges") rows) (is_set (first_of (codes "search") rows))) (repeats_in (first_of (codes "room") rows))
    (is_set (first_of (codes "strict") rows)) (first_of (codes "allow") rows) (is_set (first_of (codes "json") rows)) (is_set (first_of (codes "all") rows))

-- ---- what `check` is asked for

-- the files of an application and of a certificate, whether notes count, the names of those that are allowed, where some are, whether JSON is printed, and whether
-- all faults are told
pub record Checking : Type 0 where
  pub app : Text
  pub meant : Option Text
  pub cert : Text
  pub strict : Bool
  pub allow : Option Text
  pub json : Bool
  pub every : Bool

abbrev pub checking_with : Option Text → Option Text → Bool → Option Text → Bool → Bool → Option Checking
checking_with (Some app) (Some cert) counts names printed faults = Some (record { app = app; meant = None; cert = cert; strict = counts; allow = names; json = printed; every = faults })
checking_with app cert counts names printed faults = None

abbrev pub checking_in : List Row → Option Checking
checking_in rows =
    checking_with (first_of (codes "APP") rows) (first_of (codes "CERT") rows) (is_set (first_of (codes "strict") rows)) (first_of (codes "allow") rows)
    (is_set (first_of (codes "json") rows)) (is_set (first_of (codes "all") rows))

-- ---- what `explain` and `draw` are asked for

-- a number, or the file of an application; perhaps that of a certificate; how often datagrams are delivered, where that is said; whether notes count; the names of
-- those that are allowed, where some are; whether JSON is printed; and whether all faults are told
pub record Question : Type 0 where
  pub what : Text
  pub meant : Option Text
  pub cert : Option Text
  pub repeats : Option ℕ
  pub strict : Bool
  pub allow : Option Text
  pub json : Bool
  pub every : Bool

abbrev pub question_with : Option Text → Option Text → Option (Option ℕ) → Bool → Option Text → Bool → Bool → Option Question
question_with (Some what) cert (Some often) counts names printed faults =
    Some (record { what = what; meant = None; cert = cert; repeats = often; strict = counts; allow = names; json = printed; every = faults })
question_with what cert often counts names printed faults = None

-- how often datagrams are delivered beside a certificate: nothing where both are named, since a certificate has a row REPEATS of its own
abbrev pub often_beside : Option Text → Option Text → Option (Option ℕ)
often_beside None word = repeats_in word
often_beside (Some cert) None = Some None
often_beside (Some cert) (Some word) = None

-- the same beside a number, which is explained alone: nothing where either is named
abbrev pub often_alone : Option Text → Option Text → Option (Option ℕ)
often_alone None None = Some None
often_alone None (Some word) = None
often_alone (Some cert) word = None

-- which of these it is, by the number that is explained
abbrev pub often_asked : Option ℕ → Option Text → Option Text → Option (Option ℕ)
often_asked None cert word = often_beside cert word
often_asked (Some n) cert word = often_alone cert word

abbrev pub question_in : List Row → Option Question
question_in rows =
    question_with (first_of (codes "APP") rows) (first_of (codes "CERT") rows)
    (often_asked (option_and_then number_in (first_of (codes "APP") rows)) (first_of (codes "CERT") rows) (first_of (codes "repeats") rows))
    (is_set (first_of (codes "strict") rows)) (first_of (codes "allow") rows) (is_set (first_of (codes "json") rows)) (is_set (first_of (codes "all") rows))

-- the file of an application, perhaps that of a certificate, how often datagrams are delivered, whether there are no boxes, the block type whose chart is drawn, and
-- the file that is written
pub record Drawing : Type 0 where
  pub app : Text
  pub meant : Option Text
  pub cert : Option Text
  pub repeats : Option ℕ
  pub flat : Bool
  pub chart : Option Text
  pub into : Option Text

abbrev pub drawing_with : Option Text → Option Text → Option (Option ℕ) → Bool → Option Text → Option Text → Option Drawing
drawing_with (Some app) cert (Some often) plain block into = Some (record { app = app; meant = None; cert = cert; repeats = often; flat = plain; chart = block; into = into })
drawing_with app cert often plain block into = None

abbrev pub drawing_in : List Row → Option Drawing
drawing_in rows =
    drawing_with (first_of (codes "APP") rows) (first_of (codes "CERT") rows) (often_beside (first_of (codes "CERT") rows) (first_of (codes "repeats") rows))
    (is_set (first_of (codes "flat") rows)) (first_of (codes "chart") rows) (into_of rows)

-- ---- what `serve` is asked for

-- where a device receives, to whom it sends, and the IP addresses from which it takes datagrams: anybody's, where there are none
pub record Network : Type 0 where
  pub bind : Endpoint
  pub peers : List Endpoint
  pub senders : List (List ℕ)

-- the boot is a number, or is held by a file
pub data Boot : Type 0 where
  numbered : (number : ℕ) → Boot
  in_file : (name : Text) → Boot

-- the boot, the most turns, whether the device also ends where standard input does, the file of its record, where there is one, and whether each line of it goes to
-- the disk at once
pub record Life : Type 0 where
  pub boot : Boot
  pub turns : ℕ
  pub until_eof : Bool
  pub recorded : Option Text
  pub synced : Bool

-- whether each step is told, after how many seconds the sums are, whether lines begin with the clock, and whether one that is lost ends the device
pub record Telling : Type 0 where
  pub verbose : Bool
  pub summary : Option ℕ
  pub clock : Bool
  pub strict : Bool

-- nothing is checked of datagrams; or they are sealed, by the keys of a file, and a file holds the state of their counters
pub data Guard : Type 0 where
  unsealed : Guard
  sealed : (keys state : Text) → Guard

-- a device of two files, its network, how long it runs, what it tells, and what is checked of datagrams
pub record Service : Type 0 where
  pub app : Text
  pub meant : Option Text
  pub cert : Text
  pub device : Text
  pub network : Network
  pub life : Life
  pub telling : Telling
  pub guard : Guard

abbrev pub before : {X : Type 0} → Option X → Option (List X) → Option (List X)
before (Some x) (Some xs) = Some (x ∷ xs)
before one two = None

-- what each of the words is read as; nothing where one is nothing
abbrev pub each_in : {X : Type 0} → (Text → Option X) → List Text → Option (List X)
each_in read [] = Some []
each_in read (word ∷ words) = before (read word) (each_in read words)

-- the same of 64 words at most; none where no word is given
abbrev pub few_in : {X : Type 0} → (Text → Option X) → Option (List Text) → Option (List X)
few_in read None = Some []
few_in read (Some words) = if nat_le (length words) 64 then each_in read words else None

-- ---- what is watched

abbrev pub whole : Text → Option Text
whole word = Some word

abbrev pub names_in : Option (List Text) → Option (List Text)
names_in words = few_in whole words

-- the paths that are watched, and the files that are written, where they are: a value change dump, a table, and a picture of what ran when
pub record Watching : Type 0 where
  pub paths : List Text
  pub dump : Option Text
  pub table : Option Text
  pub timeline : Option Text

abbrev pub watching_with : Option (List Text) → Option Text → Option Text → Option Text → Option Watching
watching_with (Some paths) dump table timeline = Some (record { paths = paths; dump = dump; table = table; timeline = timeline })
watching_with None dump table timeline = None

-- nothing where there are more than 64 paths
abbrev pub watching_in : List Row → Option Watching
watching_in rows = watching_with (names_in (all_of (codes "watch") rows)) (first_of (codes "vcd") rows) (first_of (codes "csv") rows) (first_of (codes "timeline") rows)

-- ---- what `sim` is asked for

-- the files of an application and of a certificate, what is watched, and whether JSON is printed
pub record Simulating : Type 0 where
  pub app : Text
  pub meant : Option Text
  pub cert : Text
  pub watched : Watching
  pub json : Bool

abbrev pub simulating_with : Option Text → Option Text → Option Watching → Bool → Option Simulating
simulating_with (Some app) (Some cert) (Some watched) printed = Some (record { app = app; meant = None; cert = cert; watched = watched; json = printed })
simulating_with app cert watched printed = None

abbrev pub simulating_in : List Row → Option Simulating
simulating_in rows = simulating_with (first_of (codes "APP") rows) (first_of (codes "CERT") rows) (watching_in rows) (is_set (first_of (codes "json") rows))

-- ---- what `play` is asked for

-- the file of an application; those behind it, perhaps that of a certificate first, and stories; what is watched; the file of a report, where one is written;
-- and whether JSON is printed
pub record Plays : Type 0 where
  pub app : Text
  pub meant : Option Text
  pub files : List Text
  pub watched : Watching
  pub report : Option Text
  pub json : Bool

abbrev pub plays_with : Option Text → Option (List Text) → Option Watching → Option Text → Bool → Option Plays
plays_with (Some app) (Some files) (Some watched) report printed = Some (record { app = app; meant = None; files = files; watched = watched; report = report; json = printed })
plays_with app files watched report printed = None

-- what the words of `play` ask for; nothing where there are more than 64 files or paths
abbrev pub plays_in : List Row → Option Plays
plays_in rows =
    plays_with (first_of (codes "APP") rows) (names_in (all_of (codes "STORY") rows)) (watching_in rows) (first_of (codes "report") rows) (is_set (first_of (codes "json") rows))

-- ---- what `replay` is asked for

-- the files of an application, of a certificate and of a record, whether each step is told, whether lines begin with the clock, what is watched, and whether JSON
-- is printed
pub record Replaying : Type 0 where
  pub app : Text
  pub meant : Option Text
  pub cert : Text
  pub recorded : Text
  pub verbose : Bool
  pub clock : Bool
  pub watched : Watching
  pub json : Bool

abbrev pub replaying_with : Option Text → Option Text → Option Text → Bool → Bool → Option Watching → Bool → Option Replaying
replaying_with (Some app) (Some cert) (Some recorded) steps timed (Some watched) printed =
    Some (record { app = app; meant = None; cert = cert; recorded = recorded; verbose = steps; clock = timed; watched = watched; json = printed })
replaying_with app cert recorded steps timed watched printed = None

abbrev pub replaying_in : List Row → Option Replaying
replaying_in rows =
    replaying_with (first_of (codes "APP") rows) (first_of (codes "CERT") rows) (first_of (codes "RECORD") rows) (is_set (first_of (codes "verbose") rows))
    (is_set (first_of (codes "clock") rows)) (watching_in rows) (is_set (first_of (codes "json") rows))

-- ---- the network of `serve`

abbrev pub peers_in : Option (List Text) → Option (List Endpoint)
peers_in words = few_in endpoint_in words

abbrev pub senders_in : Option (List Text) → Option (List (List ℕ))
senders_in words = few_in ip_in words

abbrev pub network_with : Option Endpoint → Option (List Endpoint) → Option (List (List ℕ)) → Option Network
network_with (Some bind) (Some to) (Some from) = Some (record { bind = bind; peers = to; senders = from })
network_with bind to from = None

abbrev pub network_in : List Row → Option Network
network_in rows = network_with (option_and_then endpoint_in (first_of (codes "bind") rows)) (peers_in (all_of (codes "PEER") rows)) (senders_in (all_of (codes "from") rows))

-- a number, a file, or 0 where neither is given; both are none
abbrev pub boot_by : Option Text → Option Text → Option Boot
boot_by None None = Some (numbered 0)
boot_by None (Some name) = Some (in_file name)
boot_by (Some word) None = option_map numbered (long_number_in word)
boot_by (Some word) (Some name) = None

-- as many turns as there can be where nothing is said
abbrev pub turns_by : Option Text → Option ℕ
turns_by None = Some 18446744073709551615
turns_by (Some word) = wide_number_in word

-- a record goes to the disk only where there is one
abbrev pub synced_by : Option Text → Bool → Option Bool
synced_by None true = None
synced_by None false = Some false
synced_by (Some name) sync = Some sync

abbrev pub life_with : Option Boot → Option ℕ → Bool → Option Text → Option Bool → Option Life
life_with (Some boot) (Some turns) eof name (Some sync) = Some (record { boot = boot; turns = turns; until_eof = eof; recorded = name; synced = sync })
life_with boot turns eof name sync = None

abbrev pub life_in : List Row → Option Life
life_in rows =
    life_with (boot_by (first_of (codes "boot") rows) (first_of (codes "boot-file") rows)) (turns_by (first_of (codes "turns") rows)) (is_set (first_of (codes "until-eof") rows))
    (first_of (codes "record") rows) (synced_by (first_of (codes "record") rows) (is_set (first_of (codes "sync") rows)))

abbrev pub nonzero : ℕ → Option ℕ
nonzero n = if n == 0 then None else Some n

-- no seconds where nothing is said; nothing where what is said is no number, or 0
abbrev pub seconds_by : Option Text → Option (Option ℕ)
seconds_by None = Some None
seconds_by (Some word) = option_map (λ n. Some n) (option_and_then nonzero (long_number_in word))

abbrev pub telling_with : Bool → Option (Option ℕ) → Bool → Bool → Option Telling
telling_with steps (Some seconds) timed ends = Some (record { verbose = steps; summary = seconds; clock = timed; strict = ends })
telling_with steps None timed ends = None

abbrev pub telling_in : List Row → Option Telling
telling_in rows =
    telling_with (is_set (first_of (codes "verbose") rows)) (seconds_by (first_of (codes "summary") rows)) (is_set (first_of (codes "clock") rows))
    (is_set (first_of (codes "stop-on-lost-output") rows))

-- an address of this machine alone: 127.x.y.z, or ::1
abbrev pub is_local : Endpoint → Bool
is_local e = if length e.parts == 4 then slice_index e.parts 0 == 127 else bytes_eq e.parts (0 ∷ 0 ∷ 0 ∷ 0 ∷ 0 ∷ 0 ∷ 0 ∷ 1 ∷ [])

abbrev pub is_local_at : Option Endpoint → Bool
is_local_at None = false
is_local_at (Some e) = is_local e

-- keys and a state stand together. Without them a device receives from this machine alone, unless it is said that nothing is to be checked.
abbrev pub guard_by : Option Text → Option Text → Bool → Bool → Option Guard
guard_by None None wish here = if here || wish then Some unsealed else None
guard_by (Some keys) (Some state) wish here = if wish then None else Some (sealed keys state)
guard_by (Some keys) None wish here = None
guard_by None (Some state) wish here = None

abbrev pub guard_in : List Row → Option Guard
guard_in rows =
    guard_by (first_of (codes "keys") rows) (first_of (codes "state") rows) (is_set (first_of (codes "unsealed") rows))
    (is_local_at (option_and_then endpoint_in (first_of (codes "bind") rows)))

-- all of it, where nothing is missing
abbrev pub service_with : Option Text → Option Text → Option Text → Option Life → Option Telling → Option Guard → Option Network → Option Service
service_with (Some app) (Some cert) (Some device) (Some life) (Some telling) (Some guard) (Some network) =
    Some (record { app = app; meant = None; cert = cert; device = device; network = network; life = life; telling = telling; guard = guard })
service_with app cert device life telling guard network = None

-- what the words of `serve` ask for; nothing where a number or an address is none, there are more than 64 peers or senders, or nothing is said of what is
-- checked at an address that others reach
abbrev pub service_in : List Row → Option Service
service_in rows =
    service_with (first_of (codes "APP") rows) (first_of (codes "CERT") rows) (first_of (codes "DEVICE") rows) (life_in rows) (telling_in rows) (guard_in rows)
    (network_in rows)

-- ---- what `pack` is asked for

-- the file of an application, and the file that is written, where there is one
pub record Packing : Type 0 where
  pub app : Text
  pub meant : Option Text
  pub into : Option Text

abbrev pub packing_with : Option Text → Option Text → Option Packing
packing_with (Some app) into = Some (record { app = app; meant = None; into = into })
packing_with None into = None

abbrev pub packing_in : List Row → Option Packing
packing_in rows = packing_with (first_of (codes "APP") rows) (into_of rows)

-- ---- what `time` is asked for

-- the files of an application and of its certificate; the file of prices, the rates of arrivals, and both ends of a way, if they are given; and whether JSON is printed
pub record Timing : Type 0 where
  pub app : Text
  pub meant : Option Text
  pub cert : Text
  pub prices : Option Text
  pub rates : Option Text
  pub way : Option (Text × Text)
  pub json : Bool

-- no way, or one with both its ends; nothing where one end is named alone
abbrev pub way_by : Option Text → Option Text → Option (Option (Text × Text))
way_by None None = Some None
way_by (Some from) (Some to) = Some (Some (from, to))
way_by None (Some to) = None
way_by (Some from) None = None

abbrev pub timing_with : Option Text → Option Text → Option Text → Option Text → Option (Option (Text × Text)) → Bool → Option Timing
timing_with (Some app) (Some cert) prices rates (Some way) json = Some (record { app = app; meant = None; cert = cert; prices = prices; rates = rates; way = way; json = json })
timing_with app cert prices rates way json = None

abbrev pub timing_in : List Row → Option Timing
timing_in rows =
    timing_with (first_of (codes "APP") rows) (first_of (codes "CERT") rows) (first_of (codes "calibration") rows) (first_of (codes "rate") rows)
    (way_by (first_of (codes "from") rows) (first_of (codes "to") rows)) (is_set (first_of (codes "json") rows))

-- ---- what the program is asked for

-- a command, with all that its words say
pub data Asked : Type 0 where
  a_bound : Sought → Asked
  a_check : Checking → Asked
  a_sim : Simulating → Asked
  a_play : Plays → Asked
  an_explain : Question → Asked
  a_draw : Drawing → Asked
  a_serve : Service → Asked
  a_replay : Replaying → Asked
  a_pack : Packing → Asked
  a_time : Timing → Asked
  a_key : Option Text → Asked

-- what the words of a subcommand of this name ask for
abbrev pub request_in : Text × List Row → Option Asked
request_in entered =
    if bytes_eq entered.0 (codes "bound") then option_map a_bound (sought_in entered.1)
    else (if bytes_eq entered.0 (codes "check") then option_map a_check (checking_in entered.1)
    else (if bytes_eq entered.0 (codes "sim") then option_map a_sim (simulating_in entered.1)
    else (if bytes_eq entered.0 (codes "play") then option_map a_play (plays_in entered.1)
    else (if bytes_eq entered.0 (codes "explain") then option_map an_explain (question_in entered.1)
    else (if bytes_eq entered.0 (codes "draw") then option_map a_draw (drawing_in entered.1)
    else (if bytes_eq entered.0 (codes "serve") then option_map a_serve (service_in entered.1)
    else (if bytes_eq entered.0 (codes "replay") then option_map a_replay (replaying_in entered.1)
    else (if bytes_eq entered.0 (codes "pack") then option_map a_pack (packing_in entered.1)
    else (if bytes_eq entered.0 (codes "time") then option_map a_time (timing_in entered.1)
    else (if bytes_eq entered.0 (codes "key") then Some (a_key (first_of (codes "state") entered.1)) else None))))))))))

-- the files of the block types that are to stand before an application, in their order; nothing where there are more than 64
abbrev pub texts_in : List Row → Option (List Text)
texts_in rows = names_in (all_of (codes "with") rows)

-- a command, and the files whose block types stand before its application
pub record Order : Type 0 where
  pub texts : List Text
  pub asked : Asked

abbrev pub order_with : Option (List Text) → Option Asked → Option Order
order_with (Some texts) (Some asked) = Some (record { texts = texts; asked = asked })
order_with texts asked = None

-- all that the words of a subcommand of this name ask for
abbrev pub order_in : Text × List Row → Option Order
order_in entered = order_with (texts_in entered.1) (request_in entered)

-- what is read of words that have these faults: nothing, if there is one
abbrev pub unless_fault : {X : Type 0} → Kinds → Option X → Option X
unless_fault [] x = x
unless_fault (k ∷ ks) x = None

-- what the words ask for: they are the program's, and each number in them is one
abbrev pub request_of : List Text → Option Order
request_of words = unless_fault (fault_of program words) (option_and_then order_in (subcommand_of program words))

-- the words ask for nothing, and neither for help nor for the version
pub record IsMisuse (words : List Text) : Type 0 where
  pub none : request_of words ≡ None
  pub no_help : IsAmong DisplayHelp (fault_of program words) → ⊥
  pub no_version : IsAmong DisplayVersion (fault_of program words) → ⊥

-- how often datagrams are delivered at most, where that is asked for
abbrev pub often_of : Asked → Option ℕ
often_of (a_bound q) = q.repeats
often_of (a_check q) = None
often_of (a_sim q) = None
often_of (a_play q) = None
often_of (an_explain q) = q.repeats
often_of (a_draw q) = q.repeats
often_of (a_serve q) = None
often_of (a_replay q) = None
often_of (a_pack q) = None
often_of (a_time q) = None
often_of (a_key state) = None

-- the file of the application; a key has none
abbrev pub app_of : Asked → Text
app_of (a_bound q) = q.app
app_of (a_check q) = q.app
app_of (a_sim q) = q.app
app_of (a_play q) = q.app
app_of (an_explain q) = q.what
app_of (a_draw q) = q.app
app_of (a_serve q) = q.app
app_of (a_replay q) = q.app
app_of (a_pack q) = q.app
app_of (a_time q) = q.app
app_of (a_key state) = []

-- the same of the text that is meant by it
abbrev pub over : Text → Asked → Asked
over text (a_bound q) = a_bound (record q { meant = Some text })
over text (a_check q) = a_check (record q { meant = Some text })
over text (a_sim q) = a_sim (record q { meant = Some text })
over text (a_play q) = a_play (record q { meant = Some text })
over text (an_explain q) = an_explain (record q { meant = Some text })
over text (a_draw q) = a_draw (record q { meant = Some text })
over text (a_serve q) = a_serve (record q { meant = Some text })
over text (a_replay q) = a_replay (record q { meant = Some text })
over text (a_pack q) = a_pack (record q { meant = Some text })
over text (a_time q) = a_time (record q { meant = Some text })
over text (a_key state) = a_key state

-- the file that holds the boot, where one does
abbrev pub boot_file : Boot → Option Text
boot_file (numbered n) = None
boot_file (in_file name) = Some name

-- the file that holds the state of counters, where one does
abbrev pub state_file : Guard → Option Text
state_file unsealed = None
state_file (sealed keys state) = Some state

abbrev pub if_named : Option Text → List Text
if_named None = []
if_named (Some name) = name ∷ []

-- the files of what is watched
abbrev pub kept_by : Watching → List Text
kept_by w = if_named w.dump ++ (if_named w.table ++ if_named w.timeline)

-- the files that are written, one after another
abbrev pub written_by : Asked → List Text
written_by (a_bound q) = if_named q.into
written_by (a_check q) = []
written_by (a_sim q) = kept_by q.watched
written_by (a_play q) = if_named q.report ++ kept_by q.watched
written_by (an_explain q) = []
written_by (a_draw q) = if_named q.into
written_by (a_serve q) = if_named (boot_file q.life.boot) ++ (if_named (state_file q.guard) ++ if_named q.life.recorded)
written_by (a_replay q) = kept_by q.watched
written_by (a_pack q) = if_named q.into
written_by (a_time q) = []
written_by (a_key state) = if_named state

-- none where words ask for nothing
abbrev pub written_for : Option Order → List Text
written_for None = []
written_for (Some w) = written_by w.asked
