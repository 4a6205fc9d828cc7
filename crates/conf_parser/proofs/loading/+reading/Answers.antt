-- A file is read line by line, and an included one where its line is, if includes may still nest:
-- each answer is that of the reading's definition over whatever may be seen of the host afterwards.
use Rattle.std.proofs.Common.{refl, ◌∙◌, arith}
use Rattle.std.proofs.lemmas.Result.{err_from_is_err_and}
use Rattle.edge_io.specs.Told.{Rose}
use Rattle.edge_io.proofs.Told.{rose-since}
use Rattle.conf_parser.specs.Reading.{line_at, file_count, file_read}
use Rattle.conf_parser.specs.Loading.{inner}
use Rattle.conf_parser.proofs.Readings.Goings.{goes-refl, goes-then, goes_on-from, line-onward, line-stops, lines-next, lines-stop, lines-end, lines_of, line_of, inner-none, inner-some, if_err-since}
use Rattle.conf_parser.proofs.loading.+reading.Goals as goal

pub included-returns-then-left-eq0-clause-goes : goal.included-returns-then-left-eq0-clause-goes
included-returns-then-left-eq0-clause-goes g t c = λ seen may. inner-none seen c.args.left c.args.name c.args.at c.args.read c.if-left-eq0.true

pub included-returns-clause-goes : goal.included-returns-clause-goes
included-returns-clause-goes g t c = λ seen may.
    inner-some seen c.args.left c.args.name c.args.at c.args.read c.read_file.result (omega (arith, c.if-left-eq0.false))
    (c.read_file.ensures.goes seen may)

pub read_file-returns-clause-goes : goal.read_file-returns-clause-goes
read_file-returns-clause-goes g t c = λ seen may.
    goes-then seen (file_count c.args.read) (file_count c.in_ok-opened.opened.read)
    (λ contents. file_read contents c.args.left c.args.name c.args.at c.args.read)
    (lines_of c.args.left c.in_ok-opened.opened.source c.in_ok-opened.opened.lines c.in_ok-opened.opened.read)
    c.read_lines.result (c.in_ok-opened.ensures.goes seen (c.read_lines.ensures.only_loaded.earlier seen may))
    (rw c.as_slice.ensures at (c.read_lines.ensures.goes seen may))

pub read_file-returns-clause-cause : goal.read_file-returns-clause-cause
read_file-returns-clause-cause g t c =
    if_err-since (Rose (g.H.Host.faults c.args.host.now) (g.H.Host.faults c.read_lines.new.host)) (Rose (g.H.Host.faults c.open_file.new.host) (g.H.Host.faults c.read_lines.new.host))
    (g.H.Host.contents c.args.host.now) (g.H.Host.contents c.open_file.new.host) c.read_lines.result
    (rose-since (g.H.Host.faults c.args.host.now) (g.H.Host.faults c.open_file.new.host) (g.H.Host.faults c.read_lines.new.host) c.open_file.ensures.only_loaded.later)
    c.open_file.ensures.only_loaded.files c.read_lines.ensures.cause

pub read_line-returns-in_err-read-clause-goes : goal.read_line-returns-in_err-read-clause-goes
read_line-returns-in_err-read-clause-goes g t c = λ seen may.
    let p = err_from_is_err_and c.from_residual.result c.from_residual.ensures.1 in
    rw (p.1, p.2) (line-stops seen c.args.left c.args.source.now c.args.line.now c.args.read c.in_err-read.field-0.0 c.in_err-read.ensures.steps)

pub read_line-returns-in-Onward-clause-goes : goal.read_line-returns-in-Onward-clause-goes
read_line-returns-in-Onward-clause-goes g t c = λ seen may.
    line-onward seen c.args.left c.args.source.now c.args.line.now c.args.read c.in-Onward.read
    (rw c.in-Onward.is at c.in_ok-read.ensures.count)
    (λ including. rw c.in-Onward.is at (c.in_ok-read.ensures.steps including))

pub read_line-returns-in-Included-clause-goes : goal.read_line-returns-in-Included-clause-goes
read_line-returns-in-Included-clause-goes g t c = λ seen may.
    goes_on-from seen (file_count c.args.read) (file_count c.in-Included.read)
    (line_of c.args.left c.args.source.now c.args.line.now c.args.read)
    (λ contents. inner contents c.args.left c.in-Included.name (line_at c.args.source.now c.args.line.now) c.in-Included.read)
    c.included.result
    (rw c.in-Included.is at c.in_ok-read.ensures.count)
    (λ contents. rw c.in-Included.is at (c.in_ok-read.ensures.steps (inner contents c.args.left)))
    (c.included.ensures.goes seen may)

pub read_lines-lines-init : goal.read_lines-lines-init
read_lines-lines-init g t c = record {
  goes = λ seen may. goes-refl seen (file_count c.args.read) (lines_of c.args.left c.args.source.now c.args.lines.now c.args.read);
  few = c.requires.few;
  contents = refl;
  left = refl;
  left_of = λ files. refl;
  earlier = λ seen may. may;
  opens = refl;
  quiet = refl;
}

pub read_lines-returns-in_err-read-clause-goes : goal.read_lines-returns-in_err-read-clause-goes
read_lines-returns-in_err-read-clause-goes g t c = λ seen may.
    let p = err_from_is_err_and c.from_residual.result c.from_residual.ensures.1 in
    rw (p.1, p.2) (lines-stop seen (file_count c.args.read) (file_count c.lines.read) c.args.left c.args.source.now
    (lines_of c.args.left c.args.source.now c.args.lines.now c.args.read) c.lines.rest.now c.in-Some.after.now c.in-Some.line.now c.lines.read c.in_err-read.field-0.0
    c.in-Some.ensures.cases.0 (c.lines.invariant.goes seen (c.read_line.ensures.only_loaded.earlier seen may)) (c.in_err-read.ensures.goes seen may))

pub read_lines-lines-preserved : goal.read_lines-lines-preserved
read_lines-lines-preserved g t c = record {
  goes = λ seen may. lines-next seen (file_count c.args.read) (file_count c.lines.read) (file_count c.in_ok-read.read) c.args.left c.args.source.now
      (lines_of c.args.left c.args.source.now c.args.lines.now c.args.read) c.lines.rest.now c.in-Some.after.now c.in-Some.line.now c.lines.read c.in_ok-read.read
      c.in-Some.ensures.cases.0 (c.lines.invariant.goes seen (c.read_line.ensures.only_loaded.earlier seen may)) (c.in_ok-read.ensures.goes seen may);
  few = c.in_ok-read.ensures.few;
  contents = c.read_line.ensures.only_loaded.files ∙ c.lines.invariant.contents;
  left = c.read_line.ensures.only_loaded.left ∙ c.lines.invariant.left;
  left_of = λ files. c.read_line.ensures.only_loaded.left_of files ∙ c.lines.invariant.left_of files;
  earlier = λ seen may. c.lines.invariant.earlier seen (c.read_line.ensures.only_loaded.earlier seen may);
  opens = c.read_line.ensures.only_loaded.opens ∙ c.lines.invariant.opens;
  quiet = c.in_ok-read.ensures.quiet ∙ c.lines.invariant.quiet;
}

pub read_lines-returns-clause-goes : goal.read_lines-returns-clause-goes
read_lines-returns-clause-goes g t c = λ seen may.
    lines-end seen (file_count c.args.read) (file_count c.lines.read) c.args.left c.args.source.now
    (lines_of c.args.left c.args.source.now c.args.lines.now c.args.read) c.lines.rest.now c.lines.read c.in_default.ensures.cases (c.lines.invariant.goes seen may)
