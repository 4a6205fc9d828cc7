-- What the workers give away are the parts of a batch's answers.
use Rattle.std.proofs.Common.{◌≡◌, ℕ, ◌<◌, List, [], length, get_or, map, Option, Some, None, Result, Ok, Err, Vec, All, IfOk, refl, sym, ap, subst, ◌∙◌, arith}
use Rattle.std.specs.Prelude.{fold, nat_eq, option_map, slice_get}
use Rattle.std.specs.List.{IsDistinct, flat_map}
use Rattle.std.specs.List.Sorted.{IsPermutation}
use Rattle.std.specs.declared.alloc.Global.{Global}
use Rattle.std.proofs.lemmas.List.{get_or-map, length-map}
use Rattle.std.proofs.lemmas.List.Folds.{flat_map-map}
use Rattle.std.proofs.lemmas.Option.{get_or_from_slice_get, slice_get-get_or, slice_get-map, slice_get_within}
use Rattle.std.proofs.lemmas.Result.{IfOk-at_ok}
use Rattle.edge_io.specs.Along.{AscendsBy}
use Rattle.ordered_merge.specs.declared.numbered.Numbered.{Numbered}
use Rattle.ordered_merge.specs.Merging.{Ascends, joined, numbers}
use Rattle.ordered_merge.proofs.Finding.{apart_permuted}
use Rattle.flow_lanes.specs.declared.answer.JobFound.{JobFound}
use Rattle.flow_lanes.specs.declared.job.Job.{Job}
use Rattle.flow_lanes.specs.declared.worker.Worker.{Worker}
use Rattle.flow_lanes.specs.Given.{Inspection}
use Rattle.flow_lanes.specs.LanesAfter.{AreSoundFor, LaneState, LanesState, LearnsBatch}
use Rattle.flow_lanes.specs.Batching.{AllGoOn, AreParts, AreSoundAmong, AreSoundIn, GoesOn, HaveLearnt, HaveSearched, lanes_of, own_jobs}
use Rattle.flow_lanes.proofs.Jobs.HaveSearched.{AreSoundFor-in, numbers_joined, part_ascends, parts_know, parts_searched}

-- two facts of a value that a call gives
pub both_ok : {T E : Type 0} (r : Result T E) (F G H : T → Type 0) → ((x : T) → F x → G x → H x) → IfOk r F → IfOk r G → IfOk r H
both_ok (Ok x) F G H join f g = join x f g
both_ok (Err e) F G H join f g = tt

-- an element of a list of results is a result of an element
of_element : {X Y : Type 0} (f : X → Y) (o : Option X) (y : Y) → option_map f o ≡ Some y → (x : X) × ((o ≡ Some x) × (f x ≡ y))
of_element f None y is = absurd cc
of_element f (Some x) y is = (x, (refl, cc))

at_element : {X Y : Type 0} (f : X → Y) (xs : List X) (i : ℕ) (y : Y) → slice_get (map f xs) i ≡ Some y → (x : X) × ((slice_get xs i ≡ Some x) × (f x ≡ y))
at_element f xs i y is = of_element f (slice_get xs i) y (sym (slice_get-map f xs i) ∙ is)

-- each worker's jobs are sound, where the batch's are
pub sound_among : (engines : ℕ) (workers : List Worker) (lanes : LanesState) (jobs : List Job) → lanes.lanes ≡ lanes_of workers → AreSoundFor engines lanes jobs → AreSoundAmong engines workers jobs
sound_among engines workers lanes jobs are sound place d within =
    let at : slice_get lanes.lanes place ≡ Some (get_or workers place d).lane =
    ap (λ ls. slice_get ls place) are ∙ (slice_get-map (λ (worker : Worker). worker.lane) workers place
    ∙ ap (option_map (λ (worker : Worker). worker.lane)) (slice_get-get_or workers place d within)) in
    subst (λ count. AreSoundIn engines count place (get_or workers place d).lane jobs) (ap length are ∙ length-map workers (λ (worker : Worker). worker.lane))
    (AreSoundFor-in engines place lanes (get_or workers place d).lane jobs sound at)

-- the parts as lists
abbrev pub lists_of : List (Vec (Numbered JobFound) Global) → List (List (Numbered JobFound))
lists_of parts = map (λ (part : Vec (Numbered JobFound) Global). part.items) parts

module _ {P : Type 0} (by : Inspection P) (olds mids news : List Worker) (jobs : List Job) (parts : List (Vec (Numbered JobFound) Global))
    (count : length mids ≡ length olds) (gone : AllGoOn by olds jobs mids) (taken : map (λ (worker : Worker). worker.outs) mids ≡ map (λ part. Ok part) parts)
    (kept : lanes_of news ≡ lanes_of mids) where
  old_count : length (lanes_of olds) ≡ length olds
  old_count = length-map olds (λ (worker : Worker). worker.lane)

  part_at : (place : ℕ) (worker : Worker) (part : Vec (Numbered JobFound) Global) → slice_get mids place ≡ Some worker → slice_get parts place ≡ Some part → worker.outs ≡ Ok part
  part_at place worker part is_worker is_part =
      let mapped : Some worker.outs ≡ Some (Ok part) =
      sym (slice_get-map (λ (w : Worker). w.outs) mids place ∙ ap (option_map (λ (w : Worker). w.outs)) is_worker)
      ∙ ap (λ outs. slice_get outs place) taken
      ∙ (slice_get-map (λ p. Ok p) parts place ∙ ap (option_map (λ p. Ok p)) is_part) in
      cc

  gone_at : (place : ℕ) (old mid : Worker) (part : Vec (Numbered JobFound) Global) → slice_get olds place ≡ Some old → slice_get mids place ≡ Some mid → slice_get parts place ≡ Some part
      → GoesOn by old.lane (own_jobs (length olds) place jobs) part.items mid.lane
  gone_at place old mid part is_old is_mid is_part =
      let at_old : get_or olds place old ≡ old = get_or_from_slice_get olds place old old is_old in
      let at_mid : get_or mids place old ≡ mid = get_or_from_slice_get mids place mid old is_mid in
      let here_gone = gone place old (slice_get_within olds place old is_old) in
      let goes : Worker → Worker → Type 0 = λ (o n : Worker). IfOk n.outs (λ outs. GoesOn by o.lane (own_jobs (length olds) place jobs) outs.items n.lane) in
      let here : goes old mid = subst (λ (n : Worker). goes old n) at_mid (subst (λ (o : Worker). goes o (get_or mids place old)) at_old here_gone) in
      IfOk-at_ok (λ (outs : Vec (Numbered JobFound) Global). GoesOn by old.lane (own_jobs (length olds) place jobs) outs.items mid.lane) (part_at place mid part is_mid is_part) here

  pub gathered : AreParts by (lanes_of olds) jobs (lists_of parts) (lanes_of news)
  gathered = record {
    news_count = ap length kept ∙ length-map mids (λ (worker : Worker). worker.lane) ∙ count ∙ sym old_count;
    parts_count = length-map parts (λ (part : Vec (Numbered JobFound) Global). part.items)
        ∙ sym (length-map parts (λ part. Ok part)) ∙ sym (ap length taken) ∙ length-map mids (λ (worker : Worker). worker.outs) ∙ count ∙ sym old_count;
    each = λ place old new part is_old is_part is_new.
        let o = at_element (λ (worker : Worker). worker.lane) olds place old is_old in
        let n = at_element (λ (worker : Worker). worker.lane) mids place new (ap (λ lanes. slice_get lanes place) (sym kept) ∙ is_new) in
        let p = at_element (λ (v : Vec (Numbered JobFound) Global). v.items) parts place part is_part in
        let went = gone_at place o.0 n.0 p.0 o.1.0 n.1.0 p.1.0 in
        subst (λ size. GoesOn by old (own_jobs size place jobs) part new) (sym old_count)
        (subst (λ lane. GoesOn by old (own_jobs (length olds) place jobs) part lane) n.1.1
        (subst (λ outs. GoesOn by old (own_jobs (length olds) place jobs) outs n.0.lane) p.1.1
        (subst (λ lane. GoesOn by lane (own_jobs (length olds) place jobs) p.0.items n.0.lane) o.1.1 went)));
  }

  joined-lists : joined parts ≡ flat_map (λ part. part) (lists_of parts)
  joined-lists = sym (flat_map-map (λ part. part) (λ (part : Vec (Numbered JobFound) Global). part.items) parts)

  -- what a merge asks of the parts
  pub parts_ascend : AscendsBy (λ (job : Job). job.number) jobs → All (λ (part : Vec (Numbered JobFound) Global). Ascends part.items) parts
  parts_ascend ascend place part within =
      let size = length-map parts (λ (v : Vec (Numbered JobFound) Global). v.items) in
      subst (λ (outs : List (Numbered JobFound)). Ascends outs) (get_or-map (λ (v : Vec (Numbered JobFound) Global). v.items) parts place part [] within)
      (part_ascends by (lanes_of olds) jobs (lists_of parts) (lanes_of news) gathered ascend place [] (omega arith))

  pub parts_apart : 0 < length olds → AscendsBy (λ (job : Job). job.number) jobs → IsDistinct nat_eq (numbers (joined parts))
  parts_apart some ascend =
      let moved : IsPermutation (map (λ (job : Job). job.number) jobs) (numbers (joined parts)) =
      subst (λ (outs : List (Numbered JobFound)). IsPermutation (map (λ (job : Job). job.number) jobs) (numbers outs)) (sym joined-lists)
      (numbers_joined by (lanes_of olds) jobs (lists_of parts) (lanes_of news) gathered (omega (arith, old_count))) in
      apart_permuted (map (λ (job : Job). job.number) jobs) (numbers (joined parts)) ascend moved

  -- what the merge gives is what is found of the batch
  pub gathered_search : 0 < length olds → AscendsBy (λ (job : Job). job.number) jobs → (merged : List (Numbered JobFound)) → IsPermutation (joined parts) merged → Ascends merged
      → HaveSearched by (lanes_of olds) jobs merged (lanes_of news)
  gathered_search some ascend merged whole ascending =
      let whole' : IsPermutation (flat_map (λ part. part) (lists_of parts)) merged = subst (λ (outs : List (Numbered JobFound)). IsPermutation outs merged) joined-lists whole in
      let some' : 0 < length (lanes_of olds) = omega (arith, old_count) in
      parts_searched by (lanes_of olds) jobs (lists_of parts) (lanes_of news) gathered some' ascend merged whole' ascending

  -- the lanes have learnt of the batch
  pub gathered_learns : 0 < length olds → HaveLearnt (lanes_of olds) jobs (lanes_of news)
  gathered_learns some =
      let some' : 0 < length (lanes_of olds) = omega (arith, old_count) in
      record {
        count = gathered.news_count;
        known = λ old new is_old is_new other. parts_know by (lanes_of olds) jobs (lists_of parts) (lanes_of news) gathered old new is_old is_new some' other;
      }

-- what is learnt of a batch
pub have_learnt : (olds news : List LaneState) (jobs : List Job) (old new : LanesState)
    → HaveLearnt olds jobs news → old.lanes ≡ olds → new.lanes ≡ news → new.greatest ≡ fold (λ most (job : Job). Some job.number) old.greatest jobs → LearnsBatch old jobs new
have_learnt olds news jobs old new have is_old is_new greatest = record {
  known = have.known old new is_old is_new;
  count = ap length is_new ∙ have.count ∙ sym (ap length is_old);
  greatest = greatest;
}
