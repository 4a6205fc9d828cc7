-- What is answered over whatever may be seen of the host afterwards holds of the files
-- that it tells, as these don't change; places and soundness follow from that reading.
use Rattle.std.proofs.Common.{Some, Ok, Err, refl, ◌∙◌, ap}
use Rattle.edge_io.specs.Told.{Rose}
use Rattle.conf_parser.specs.Reading.{file_count, nothing_read}
use Rattle.conf_parser.proofs.Readings.Goings.{seen_by, tells-seen_by}
use Rattle.conf_parser.proofs.Readings.Finishing.{first-may, first-goes, whole, stopped_at, loading-whole, told-whole, loading-stopped, told-stopped}
use Rattle.conf_parser.proofs.Readings.Seeing.{told_before, seen_cause}
use Rattle.conf_parser.proofs.Readings.Placing.{hold-in}
use Rattle.conf_parser.proofs.Sound.Reading.{loading-sound}
use Rattle.conf_parser.proofs.loading.load.Goals as goal

pub returns-in-Err-clause-reading_seen : goal.returns-in-Err-clause-reading_seen
returns-in-Err-clause-reading_seen g c = λ seen may. record { seen = seen_by seen; tells = tells-seen_by seen; ends = tt }

pub read_file-requires-clause-name : goal.read_file-requires-clause-name
read_file-requires-clause-name g c =
    first-may c.args.name.now c.in-Ok.first c.args.vars.now c.nothing_read-before.result
    (c.in-Ok.ensures ∙ c.as_bytes.ensures.value)
    (c.nothing_read-before.ensures ∙ ap nothing_read c.replace.ensures.value)
    c.utf8.name

pub returns-in-Ok-read_file-clause-reading_seen : goal.returns-in-Ok-read_file-clause-reading_seen
returns-in-Ok-read_file-clause-reading_seen g c = λ seen may.
    loading-whole (tt {0}) seen (file_count c.in-Ok-read_file.read) c.args.name.now c.args.vars.now c.in-Ok-read_file.read c.hand_out.new.vars c.hand_out.new.out
    (first-goes seen c.args.name.now c.in-Ok.first c.args.vars.now c.nothing_read-before.result (whole c.in-Ok-read_file.read)
    (c.in-Ok.ensures ∙ c.as_bytes.ensures.value) (c.nothing_read-before.ensures ∙ ap nothing_read c.replace.ensures.value) (c.in-Ok-read_file.ensures.goes seen may))
    c.hand_out.ensures.vars c.hand_out.ensures.out

pub returns-in-Ok-read_file-clause-agreed : goal.returns-in-Ok-read_file-clause-agreed
returns-in-Ok-read_file-clause-agreed g c = λ files agree.
    told-whole (tt {0}) (Rose (g.H.Host.faults c.args.host.now) (g.H.Host.faults c.read_file.new.host))
    (Some files) files (file_count c.in-Ok-read_file.read) c.args.name.now c.args.vars.now c.in-Ok-read_file.read
    c.hand_out.new.vars c.hand_out.new.out refl
    (first-goes (Some files) c.args.name.now c.in-Ok.first c.args.vars.now c.nothing_read-before.result
    (whole c.in-Ok-read_file.read)
    (c.in-Ok.ensures ∙ c.as_bytes.ensures.value)
    (c.nothing_read-before.ensures ∙ ap nothing_read c.replace.ensures.value)
    (c.in-Ok-read_file.ensures.goes (Some files) agree))
    c.hand_out.ensures.vars c.hand_out.ensures.out

pub returns-in-Err-read_file-clause-reading_seen : goal.returns-in-Err-read_file-clause-reading_seen
returns-in-Err-read_file-clause-reading_seen g c = λ seen may.
    loading-stopped (Unit {0}) seen c.args.name.now c.args.vars.now c.in-Err-read_file.stopped c.stop_out.result c.replace.new.dest c.stop_out.new.out
    (first-goes seen c.args.name.now c.in-Ok.first c.args.vars.now c.nothing_read-before.result (stopped_at c.in-Err-read_file.stopped)
    (c.in-Ok.ensures ∙ c.as_bytes.ensures.value) (c.nothing_read-before.ensures ∙ ap nothing_read c.replace.ensures.value) (c.in-Err-read_file.ensures.goes seen may))
    c.stop_out.ensures

pub returns-in-Err-read_file-clause-agreed : goal.returns-in-Err-read_file-clause-agreed
returns-in-Err-read_file-clause-agreed g c = λ files agree.
    let host = c.read_file.new.host in
    told-stopped (Unit {0}) (Rose (g.H.Host.faults c.args.host.now) (g.H.Host.faults c.read_file.new.host))
    (Some files) files c.args.name.now c.args.vars.now c.in-Err-read_file.stopped c.stop_out.result c.replace.new.dest
    c.stop_out.new.out refl
    (first-goes (Some files) c.args.name.now c.in-Ok.first c.args.vars.now c.nothing_read-before.result
    (stopped_at c.in-Err-read_file.stopped)
    (c.in-Ok.ensures ∙ c.as_bytes.ensures.value)
    (c.nothing_read-before.ensures ∙ ap nothing_read c.replace.ensures.value)
    (c.in-Err-read_file.ensures.goes (Some files) agree))
    (seen_cause _ (g.H.Host.contents c.args.host.now) (g.H.Host.contents host) (g.H.Host.left host) (g.H.Host.agrees host)
    (g.H.Host.left_of host) c.in-Err-read_file.stopped (Some files)
    (g.met.H.Host.as_told host) c.read_file.ensures.only_loaded.files agree c.in-Err-read_file.ensures.cause) c.stop_out.ensures

pub returns-in-Err-clause-reading : goal.returns-in-Err-clause-reading
returns-in-Err-clause-reading g c = record { seen = seen_by (g.H.Host.contents c.args.host.now); tells = tells-seen_by (g.H.Host.contents c.args.host.now); ends = tt }

pub returns-in-Ok-read_file-clause-reading : goal.returns-in-Ok-read_file-clause-reading
returns-in-Ok-read_file-clause-reading g c =
    let host = c.read_file.new.host in
    returns-in-Ok-read_file-clause-reading_seen g c (g.H.Host.contents c.args.host.now)
    (told_before (g.H.Host.contents c.args.host.now) (g.H.Host.contents host) (g.H.Host.left host) (g.H.Host.agrees host)
    (g.H.Host.left_of host) (g.met.H.Host.as_told host) c.read_file.ensures.only_loaded.files)

pub returns-in-Ok-read_file-clause-told : goal.returns-in-Ok-read_file-clause-told
returns-in-Ok-read_file-clause-told g c = λ files is.
    let host = c.read_file.new.host in
    returns-in-Ok-read_file-clause-agreed g c files
    (rw is at
    (told_before (g.H.Host.contents c.args.host.now) (g.H.Host.contents host) (g.H.Host.left host) (g.H.Host.agrees host)
    (g.H.Host.left_of host) (g.met.H.Host.as_told host) c.read_file.ensures.only_loaded.files))

pub returns-in-Err-read_file-clause-reading : goal.returns-in-Err-read_file-clause-reading
returns-in-Err-read_file-clause-reading g c =
    let host = c.read_file.new.host in
    returns-in-Err-read_file-clause-reading_seen g c (g.H.Host.contents c.args.host.now)
    (told_before (g.H.Host.contents c.args.host.now) (g.H.Host.contents host) (g.H.Host.left host) (g.H.Host.agrees host)
    (g.H.Host.left_of host) (g.met.H.Host.as_told host) c.read_file.ensures.only_loaded.files)

pub returns-in-Err-read_file-clause-told : goal.returns-in-Err-read_file-clause-told
returns-in-Err-read_file-clause-told g c = λ files is.
    let host = c.read_file.new.host in
    returns-in-Err-read_file-clause-agreed g c files
    (rw is at
    (told_before (g.H.Host.contents c.args.host.now) (g.H.Host.contents host) (g.H.Host.left host) (g.H.Host.agrees host)
    (g.H.Host.left_of host) (g.met.H.Host.as_told host) c.read_file.ensures.only_loaded.files))

pub returns-in-Ok-read_file-clause-places : goal.returns-in-Ok-read_file-clause-places
returns-in-Ok-read_file-clause-places g c =
    hold-in (g.H.Host.contents c.args.host.now) c.args.name.now c.args.vars.now (Ok (tt {0})) c.hand_out.new.vars c.hand_out.new.out (returns-in-Ok-read_file-clause-reading g c)

pub returns-in-Err-read_file-clause-places : goal.returns-in-Err-read_file-clause-places
returns-in-Err-read_file-clause-places g c =
    hold-in {A = Unit {0}} (g.H.Host.contents c.args.host.now) c.args.name.now c.args.vars.now (Err c.stop_out.result)
    c.replace.new.dest c.stop_out.new.out (returns-in-Err-read_file-clause-reading g c)

pub returns-in-Ok-read_file-clause-sound : goal.returns-in-Ok-read_file-clause-sound
returns-in-Ok-read_file-clause-sound g c =
    loading-sound (g.H.Host.contents c.args.host.now) c.args.name.now c.args.vars.now (Ok (tt {0})) c.hand_out.new.vars c.hand_out.new.out (returns-in-Ok-read_file-clause-reading g c)
