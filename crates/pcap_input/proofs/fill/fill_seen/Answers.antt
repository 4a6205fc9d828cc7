-- What was left of the capture at first is the bytes filled so far and what is left now: a read
-- moves the bytes that it gives from the one to the other, and gives none where no file is open.
use Rattle.std.proofs.Common.{◌≤◌, ◌-◌, ℕ, length, take, arith, ap, subst, ◌∙◌}
use Rattle.std.proofs.lemmas.Grind.{common_steps}
use Rattle.edge_io.specs.Files.{IsUnopened, left_by}
use Rattle.edge_io.specs.Told.{before}
use Rattle.edge_io.proofs.Told.{before-nil}
use Rattle.edge_io.proofs.Hosts.Seeing.{seen_taken, seen_earlier, seen_unopened}
use Rattle.pcap_input.proofs.Pieces.Filling.{before_filled}
use Rattle.pcap_input.proofs.fill.fill_seen.Goals as goal

pub loop-done-preserved : goal.loop-done-preserved
loop-done-preserved g c =
    let buf = c.loop-done.buf in
    let done = c.loop-done.done in
    let mid = c.loop-done.host in
    let new = c.read.new.self in
    let within : c.in-Ok.count ≤ length c.read.new.buf = grind (arith, common_steps) in
    record {
      within = grind (arith, common_steps);
      unopened = λ seen may none.
          let zero =
          c.loop-done.invariant.unopened seen
          (seen_earlier (g.H.Host.contents mid) (g.H.Host.contents new) (g.H.Host.agrees mid) (g.H.Host.agrees new) seen
          c.in-Ok.ensures.same_contents c.in-Ok.ensures.earlier may)
          none in
          let same =
          c.loop-done.invariant.took seen
          (seen_earlier (g.H.Host.contents mid) (g.H.Host.contents new) (g.H.Host.agrees mid) (g.H.Host.agrees new) seen
          c.in-Ok.ensures.same_contents c.in-Ok.ensures.earlier may)
          ∙ ap (λ (n : ℕ). before (take n buf) (left_by (g.H.Host.left_of mid) seen)) zero
          ∙ before-nil (left_by (g.H.Host.left_of mid) seen) in
          let count =
          seen_unopened (g.H.Host.contents new) (g.H.Host.agrees new) (g.H.Host.left_of mid) c.in-Ok.count seen may
          c.in-Ok.ensures.agreed_unopened (subst (IsUnopened seen) same none) in
          omega (arith, zero, count);
      took = λ seen may.
          c.loop-done.invariant.took seen
          (seen_earlier (g.H.Host.contents mid) (g.H.Host.contents new) (g.H.Host.agrees mid) (g.H.Host.agrees new) seen
          c.in-Ok.ensures.same_contents c.in-Ok.ensures.earlier may)
          ∙ ap (before (take done buf))
          (seen_taken (g.H.Host.contents new) (g.H.Host.agrees new) (g.H.Host.left_of mid) (g.H.Host.left_of new)
          (take c.in-Ok.count c.read.new.buf) seen may c.in-Ok.ensures.agreed)
          ∙ before_filled buf c.read.new.buf done (length buf - done) c.in-Ok.count (left_by (g.H.Host.left_of new) seen)
          c.loop-done.invariant.within within;
      contents = c.in-Ok.ensures.same_contents ∙ c.loop-done.invariant.contents;
      earlier = λ seen may.
          c.loop-done.invariant.earlier seen
          (seen_earlier (g.H.Host.contents mid) (g.H.Host.contents new) (g.H.Host.agrees mid) (g.H.Host.agrees new) seen
          c.in-Ok.ensures.same_contents c.in-Ok.ensures.earlier may);
      opens = c.in-Ok.ensures.same_opens ∙ c.loop-done.invariant.opens;
      same = c.in-Ok.ensures.unfailed ∙ c.loop-done.invariant.same;
    }
