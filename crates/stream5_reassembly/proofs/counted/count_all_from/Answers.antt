-- One run more counts from the base (`map_over_more`), and those after it, untouched, don't begin before it.
use Rattle.std.proofs.Common.{◌<◌, ◌≢◌, length, set, ap, sym, ◌∙◌, arith, get_or-set_other, length-set}
use Rattle.std.proofs.lemmas.List.Edits.{map_over_more}
use Rattle.overlap_core.specs.declared.segment.Run.{Run}
use Rattle.stream5_reassembly.specs.Counted.{counted_from}
use Rattle.stream5_reassembly.proofs.counted.count_all_from.Goals as goal

pub loop-run-preserved : goal.loop-run-preserved
loop-run-preserved c =
    let inside : c.loop-run.run-index < length c.args.runs.now = omega arith in
    record {
      same =
          ap (λ (run : Run). set c.loop-run.runs c.loop-run.run-index (counted_from c.args.base run)) (sym c.run-item.is)
          ∙ map_over_more (counted_from c.args.base) c.args.runs.now c.loop-run.runs c.loop-run.run-index c.run-item.result inside c.loop-run.invariant.same c.run-item.is;
      from = λ k d later within.
          let apart : k ≢ c.loop-run.run-index = omega arith in
          rw get_or-set_other (c.loop-run.invariant.from k d (omega arith) (simp length-set at within));
    }
