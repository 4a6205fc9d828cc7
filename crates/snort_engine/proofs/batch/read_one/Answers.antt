-- What was reached, by the answer of `next`.
use Rattle.std.proofs.Common.{◌≡◌, [], ◌∷◌, ◌++◌, Some, Err, refl, ap, ◌∙◌, inl, inr}
use Rattle.edge_io.specs.Files.{left_by}
use Rattle.pcapng_input.specs.declared.fault.ReadFault.{ReadFault}
use Rattle.pcapng_input.specs.declared.fault.ReadFault.TheVariants.{Failed, NoMemory}
use Rattle.snort_engine.specs.declared.batch.BatchEnd.TheVariants.{Fault}
use Rattle.snort_engine.specs.Steps.Batch.{Place}
use Rattle.snort_engine.proofs.Records.Batches.{reads_record, reads_end, reads_fault, reads_lacking}
use Rattle.snort_engine.proofs.Headline.Seeing.{told_may}
use Rattle.snort_engine.proofs.batch.read_one.Goals as goal

pub returns-in-Err-clause-reads : goal.returns-in-Err-clause-reads
returns-in-Err-clause-reads g c = λ seen may.
    let old : Place = record { reader = c.args.reader.now; records = c.args.records.now.items; left = left_by (g.H.Host.left_of c.args.host.now) seen } in
    let new : Place = record { reader = c.args.reader.now; records = c.reserve.new.self.items; left = left_by (g.H.Host.left_of c.args.host.now) seen } in
    reads_lacking old new c.reserve.ensures.items refl

pub returns-in-Ok-push-clause-reads : goal.returns-in-Ok-push-clause-reads
returns-in-Ok-push-clause-reads g c = λ seen may.
    let gives = rw c.in-Ok-Some.field-0-is at (c.in-Ok-Some.ensures.gives seen may) in
    let old : Place = record { reader = c.args.reader.now; records = c.args.records.now.items; left = left_by (g.H.Host.left_of c.args.host.now) seen } in
    let new : Place = record { reader = c.next.new.self; records = c.push.new.self.items; left = left_by (g.H.Host.left_of c.next.new.host) seen } in
    reads_record old new c.in-Ok-Some.given gives.0 (c.in-Ok-push.ensures.items ∙ ap (λ records. records ++ c.in-Ok-Some.given ∷ []) c.reserve.ensures.items)

pub returns-in-Ok-push-clause-next : goal.returns-in-Ok-push-clause-next
returns-in-Ok-push-clause-next g c = λ more.
    let may = told_may g.H.Host c.next.new.host (g.met.H.Host.as_told c.next.new.host) in
    let gives = rw c.in-Ok-Some.field-0-is at (c.in-Ok-Some.ensures.gives (g.H.Host.contents c.next.new.host) may) in
    (gives.0.fresh, gives.1)

pub returns-in-Ok-None-clause-reads : goal.returns-in-Ok-None-clause-reads
returns-in-Ok-None-clause-reads g c = λ seen may.
    let gives = rw c.in-Ok-None.field-0-is at (c.in-Ok-None.ensures.gives seen may) in
    let old : Place = record { reader = c.args.reader.now; records = c.args.records.now.items; left = left_by (g.H.Host.left_of c.args.host.now) seen } in
    let new : Place = record { reader = c.next.new.self; records = c.reserve.new.self.items; left = left_by (g.H.Host.left_of c.next.new.host) seen } in
    reads_end old new c.reserve.ensures.items gives.0 gives.1

pub returns-in-Err-next-clause-reads : goal.returns-in-Err-next-clause-reads
returns-in-Err-next-clause-reads g c = λ seen may.
    let old : Place = record { reader = c.args.reader.now; records = c.args.records.now.items; left = left_by (g.H.Host.left_of c.args.host.now) seen } in
    let new : Place = record { reader = c.next.new.self; records = c.reserve.new.self.items; left = left_by (g.H.Host.left_of c.next.new.host) seen } in
    reads_fault old new c.in-Err-next.why c.reserve.ensures.items (c.in-Err-next.ensures.gives seen may).0 (c.in-Err-next.ensures.gives seen may).1

-- why reading stopped there, if it did
pub returns-in-Err-clause-reason : goal.returns-in-Err-clause-reason
returns-in-Err-clause-reason g c = record {
  own = λ why is. let lacking : why ≡ NoMemory = cc in inr (lacking, c.requires);
  failed = λ is. absurd cc;
  quiet = λ other. refl;
}

pub returns-in-Err-next-clause-reason : goal.returns-in-Err-next-clause-reason
returns-in-Err-next-clause-reason g c = record {
  own = λ why is.
      let same : c.in-Err-next.why ≡ why = cc in
      inl (c.in-Err-next.ensures.refused ∙ ap (λ (f : ReadFault). Some f) same);
  failed = λ is.
      let same : c.in-Err-next.why ≡ Failed = cc in
      c.in-Err-next.ensures.failed (ap (λ (f : ReadFault). Err f) same);
  quiet = λ other. c.in-Err-next.ensures.quiet (λ failed. let same : c.in-Err-next.why ≡ Failed = cc in other (ap (λ (f : ReadFault). Fault f) same));
}
