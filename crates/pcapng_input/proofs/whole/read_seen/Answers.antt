-- Each call adds a record or ends the reading; so does the limit.
use Rattle.std.proofs.Common.{Ok, length, ap, ◌∙◌, arith}
use Rattle.std.proofs.lemmas.Result.{err_from_is_err_and}
use Rattle.edge_io.specs.Files.{Lacks, left_by}
use Rattle.pcapng_input.specs.Calls.{IsNextCall}
use Rattle.pcapng_input.specs.Reader.{TakesRecord}
use Rattle.pcapng_input.proofs.Calls.{reads_first}
use Rattle.pcapng_input.proofs.Held.{held-begun, held-more, one-longer, held-unopened, held-reached, held-ended, held-refused, failed-last}
use Rattle.pcapng_input.proofs.whole.read_seen.Goals as goal

pub each-init : goal.each-init
each-init g c = record {
  read = λ seen may. held-begun _ _ c.new-records.result c.in_ok-reader.reader _ c.new-records.ensures
      (record { gives = c.in_ok-reader.ensures.seen_gives seen may; takes = c.in_ok-reader.ensures.seen_takes seen may });
  within = omega (arith, ap length c.new-records.ensures);
  fresh = c.in_ok-reader.ensures.fresh;
  contents = cc;
  earlier = λ seen may. c.in_ok-reader.ensures.earlier seen may;
  opens = cc;
  same = c.in_ok-reader.ensures.quiet (λ e. cc);
}

pub each-preserved : goal.each-preserved
each-preserved g c =
    let pushed = c.in_ok-push-in-Ok-Some.ensures.pushed in
    let taken : TakesRecord c.each.reader c.next.new.self c.in-Ok-Some.given (g.H.Host.left c.each.host) (g.H.Host.left c.next.new.host) =
    rw c.in-Ok-Some.field-0-is at c.in-Ok-Some.ensures.takes in
    record {
      read = λ seen may.
          let call : IsNextCall c.each.reader c.next.new.self (Ok c.in-Ok-Some.field-0) (left_by (g.H.Host.left_of c.each.host) seen) (left_by (g.H.Host.left_of c.next.new.host) seen) =
          record { gives = c.in-Ok-Some.ensures.seen_gives seen may; takes = c.in-Ok-Some.ensures.seen_takes seen may } in
          held-more _ _ c.each.records c.push.new.self c.each.reader c.next.new.self c.in-Ok-Some.given _ _ pushed (c.each.invariant.read seen (c.in-Ok-Some.ensures.earlier seen may))
          (rw c.in-Ok-Some.field-0-is at call);
      within = omega (arith, one-longer c.each.records c.push.new.self c.in-Ok-Some.given pushed, ap length c.as_slice.ensures, c.each-test.true);
      fresh = taken.fresh;
      contents = cc;
      earlier = λ seen may. c.each.invariant.earlier seen (c.in-Ok-Some.ensures.earlier seen may);
      opens = cc;
      same = c.in-Ok-Some.ensures.quiet (λ e. cc) ∙ c.each.invariant.same;
    }

pub each-smaller : goal.each-smaller
each-smaller g c =
    omega (arith, one-longer c.each.records c.push.new.self c.in-Ok-Some.given c.in_ok-push-in-Ok-Some.ensures.pushed, ap length c.as_slice.ensures, c.each-test.true)

pub returns-in_err-reader-clause-held : goal.returns-in_err-reader-clause-held
returns-in_err-reader-clause-held g c = λ seen may.
    let p = err_from_is_err_and c.from_residual.result c.from_residual.ensures.1 in
    rw (p.1, p.2) (held-unopened _ _ c.args.limit c.in_err-reader.field-0.0 _ (record { gives = c.in_err-reader.ensures.seen_gives seen may; takes = c.in_err-reader.ensures.seen_takes seen may }))

pub returns-in_err-push-in-Ok-Some-clause-held : goal.returns-in_err-push-in-Ok-Some-clause-held
returns-in_err-push-in-Ok-Some-clause-held g c = λ seen may bytes tells.
    let p = err_from_is_err_and c.from_residual-in_err-push-in-Ok-Some.result c.from_residual-in_err-push-in-Ok-Some.ensures.1 in
    rw (p.1, p.2) (λ shown. absurd shown)

pub returns-in-Ok-None-clause-held : goal.returns-in-Ok-None-clause-held
returns-in-Ok-None-clause-held g c = λ seen may.
    let call : IsNextCall c.each.reader c.next.new.self (Ok c.in-Ok-None.field-0) (left_by (g.H.Host.left_of c.each.host) seen) (left_by (g.H.Host.left_of c.next.new.host) seen) =
    record { gives = c.in-Ok-None.ensures.seen_gives seen may; takes = c.in-Ok-None.ensures.seen_takes seen may } in
    rw c.new.ensures (held-ended _ _ c.args.limit c.each.records c.each.reader c.next.new.self _ _ (c.each.invariant.read seen (c.in-Ok-None.ensures.earlier seen may))
    (omega (arith, ap length c.as_slice.ensures, c.each-test.true)) (rw c.in-Ok-None.field-0-is at call))

pub returns-in-Err-clause-held : goal.returns-in-Err-clause-held
returns-in-Err-clause-held g c = λ seen may.
    rw c.new-in-Err.ensures (held-refused _ _ c.args.limit c.each.records c.each.reader c.next.new.self c.in-Err.why
    (left_by (g.H.Host.left_of c.each.host) seen) (left_by (g.H.Host.left_of c.next.new.host) seen) (c.each.invariant.read seen (c.in-Err.ensures.earlier seen may))
    (omega (arith, ap length c.as_slice.ensures, c.each-test.true))
    (record { gives = c.in-Err.ensures.seen_gives seen may; takes = c.in-Err.ensures.seen_takes seen may }))

pub returns-clause-held : goal.returns-clause-held
returns-clause-held g c = λ seen may.
    rw c.new-2.ensures (held-reached _ _ c.args.limit c.each.records c.each.reader _ (c.each.invariant.read seen may)
    (omega (arith, c.each.invariant.within, ap length c.as_slice.ensures, c.each-test.false)))

pub returns-in-Ok-None-clause-first : goal.returns-in-Ok-None-clause-first
returns-in-Ok-None-clause-first g c = λ seen may.
    rw c.new.ensures (λ bytes tells. reads_first _ _ bytes c.each.records c.each.reader _ tells (c.each.invariant.read seen (c.in-Ok-None.ensures.earlier seen may)))

pub returns-in-Err-clause-first : goal.returns-in-Err-clause-first
returns-in-Err-clause-first g c = λ seen may.
    rw c.new-in-Err.ensures (λ bytes tells. reads_first _ _ bytes c.each.records c.each.reader _ tells (c.each.invariant.read seen (c.in-Err.ensures.earlier seen may)))

pub returns-clause-first : goal.returns-clause-first
returns-clause-first g c = λ seen may.
    rw c.new-2.ensures (λ bytes tells. reads_first _ _ bytes c.each.records c.each.reader _ tells (c.each.invariant.read seen may))

pub returns-in_err-reader-clause-failed : goal.returns-in_err-reader-clause-failed
returns-in_err-reader-clause-failed g c =
    let p = err_from_is_err_and c.from_residual.result c.from_residual.ensures.1 in
    rw (p.1, p.2) (λ failed. c.in_err-reader.ensures.failed (cc))

pub returns-in-Err-clause-failed : goal.returns-in-Err-clause-failed
returns-in-Err-clause-failed g c =
    rw c.new-in-Err.ensures (λ failed. failed-last (g.H.Host.faults c.args.host.now) (g.H.Host.faults c.each.host) (g.H.Host.faults c.next.new.host) c.each.reader.refused
    (Lacks (g.H.Host.contents c.args.host.now) c.args.name.now) (omega (arith, c.each.invariant.same)) c.each.invariant.fresh (c.in-Err.ensures.failed (cc)))

pub returns-in_err-reader-clause-quiet : goal.returns-in_err-reader-clause-quiet
returns-in_err-reader-clause-quiet g c =
    let p = err_from_is_err_and c.from_residual.result c.from_residual.ensures.1 in
    rw (p.1, p.2) (λ other. c.in_err-reader.ensures.quiet (λ same. other (cc)))

pub returns-in-Err-clause-quiet : goal.returns-in-Err-clause-quiet
returns-in-Err-clause-quiet g c =
    rw c.new-in-Err.ensures (λ other. c.in-Err.ensures.quiet (λ same. other (cc)) ∙ c.each.invariant.same)
