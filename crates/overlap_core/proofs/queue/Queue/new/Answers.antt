-- Without a segment nothing is chosen and no place is covered, which is what an empty row of pieces tells.
use Rattle.std.proofs.Common.{ap, sym, ◌∙◌, rules, arith}
use Rattle.std.specs.Option.{option_map}
use Rattle.overlap_core.specs.Pieces.{kept_at, kept_in}
use Rattle.overlap_core.specs.Overlap.{chosen_segment, covered_end}
use Rattle.overlap_core.proofs.Segments.Arrivals.{chosen_segment-none}
use Rattle.overlap_core.proofs.Segments.Ends.{covered_end-none}
use Rattle.overlap_core.proofs.queue.Queue.new.Goals as goal

pub invariant_of-result : goal.invariant_of-result
invariant_of-result c =
    let list = ap (λ p. p.list) c.new.ensures in
    record {
      row = rw list (omega arith);
      holds = λ place from.
          ap (λ ps. kept_in ps place) list
          ∙ ap (option_map (kept_at place))
          (sym (ap (λ segments. chosen_segment c.args.preference segments place) c.new-2.ensures ∙
          chosen_segment-none c.args.preference place));
      top = sym (ap (covered_end c.args.floor) c.new-2.ensures ∙ covered_end-none c.args.floor);
      room = search rules;
    }
