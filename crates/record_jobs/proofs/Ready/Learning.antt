-- Lanes that know the earlier jobs may run the next ones, and know these too then.
use Rattle.std.proofs.Common.{◌≡◌, ℕ, ◌+◌, ◌<◌, Bool, List, [], ◌∷◌, ◌++◌, length, map, Option, Some, None, refl, sym, ap, ◌∙◌, subst, suc, zero, IfSome, append_assoc, length-append, replicate, arith}
use Rattle.std.specs.Prelude.{All, filter, fold, option_and_then, slice_get}
use Rattle.std.specs.List.{AllByRecursion, range_with_len}
use Rattle.std.specs.List.Sorted.{IsStrictlyIncreasing}
use Rattle.std.proofs.lemmas.List.{map-append}
use Rattle.std.proofs.lemmas.List.Elements.{All-from_recursion, filter-append}
use Rattle.std.proofs.lemmas.List.FromFn.{get_or-range_with_len, length-range_with_len}
use Rattle.std.proofs.lemmas.List.Sums.{fold-append}
use Rattle.flow_lanes.specs.declared.job.Job.{Job}
use Rattle.flow_lanes.specs.Flows.{flow_of, same_flow}
use Rattle.flow_lanes.specs.declared.facts.FlowFacts.{FlowFacts}
use Rattle.flow_lanes.specs.Sound.{IsSoundFor, facts_after, facts_after_one}
use Rattle.flow_lanes.specs.LanesAfter.{AreNew, LaneState, LanesState, LearnsBatch, facts_kept, kept_of, known_in, known_of, lane_of, new_lane}
use Rattle.record_jobs.specs.Ready.{AreNumbered, AreReady, AreSound, HaveLearnt}
use Rattle.record_jobs.proofs.Ready.Running.{head_is, range_with_len-append, tail_is}

-- ---- what is known of flows

more_known : (other : Job) (earlier jobs : List Job)
    → facts_after (facts_after None (filter (same_flow other) earlier)) (filter (same_flow other) jobs) ≡
    facts_after None (filter (same_flow other) (earlier ++ jobs))
more_known other earlier jobs =
    sym (ap (facts_after None) (filter-append (same_flow other) earlier jobs) ∙ fold-append facts_after_one None (filter (same_flow other) earlier) (filter (same_flow other) jobs))

pub learnt : (old new : LanesState) (earlier jobs : List Job) → HaveLearnt old earlier → LearnsBatch old jobs new → HaveLearnt new (earlier ++ jobs)
learnt old new earlier jobs has learns = record {
  known = λ other. learns.known other ∙ ap (λ (facts : Option FlowFacts). facts_after facts (filter (same_flow other) jobs)) (has.known other) ∙ more_known other earlier jobs;
  greatest =
      learns.greatest
      ∙ ap (λ (o : Option ℕ). fold (λ most (job : Job). Some job.number) o jobs) has.greatest
      ∙ sym (fold-append (λ (most : Option ℕ) (job : Job). Some job.number) None earlier jobs);
}

-- a lane of many that know nothing
nothing_known : (lane : LaneState) → lane.flows ≡ [] → (job : Job) → known_of lane job ≡ None
nothing_known lane none job = go (flow_of job)
  where
    go : (o : Option ℕ) → option_and_then (λ flow. facts_kept (kept_of lane flow)) o ≡ None
    go None = refl
    go (Some flow) = ap (λ flows. facts_kept (kept_of (record lane { flows = flows }) flow)) none

none_known : (count place : ℕ) (lane : LaneState) → lane.flows ≡ [] → (job : Job) → option_and_then (λ (lane : LaneState). known_of lane job) (slice_get (replicate count lane) place) ≡ None
none_known zero place lane none job = refl
none_known (suc count) zero lane none job = nothing_known lane none job
none_known (suc count) (suc place) lane none job = none_known count place lane none job

pub new_learnt : (count flush : ℕ) (inserts : Bool) (lanes : LanesState) → AreNew count flush inserts lanes → HaveLearnt lanes []
new_learnt count flush inserts lanes new = record {
  known = λ other.
      ap (λ (l : LanesState). known_in l other) new
      ∙ none_known count (lane_of (length (replicate count (new_lane flush inserts))) (flow_of other)) (new_lane flush inserts) refl other;
  greatest = ap (λ (l : LanesState). l.greatest) new;
}

-- ---- numbers

-- joined lists whose fronts have one length are one part by part
same_parts : {X : Type 0} (xs ys us bs : List X) → length xs ≡ length us → xs ++ ys ≡ us ++ bs → (xs ≡ us) × (ys ≡ bs)
same_parts [] ys [] bs l e = (refl, e)
same_parts [] ys (a ∷ us) bs l e = cc
same_parts (x ∷ xs) ys [] bs l e = cc
same_parts (x ∷ xs) ys (a ∷ us) bs l e =
    let rest = same_parts xs ys us bs (let same : length xs ≡ length us = omega arith in same) (tail_is x a (xs ++ ys) (us ++ bs) e) in
    (ap (λ z. z ∷ xs) (head_is x a (xs ++ ys) (us ++ bs) e) ∙ ap (λ zs. a ∷ zs) rest.0, rest.1)

length-map_number : (jobs : List Job) → length (map (λ (job : Job). job.number) jobs) ≡ length jobs
length-map_number [] = refl
length-map_number (job ∷ jobs) = ap suc (length-map_number jobs)

-- the numbers of a part
part_numbers : (earlier jobs : List Job) → AreNumbered (earlier ++ jobs)
    → (map (λ (job : Job). job.number) earlier ≡ range_with_len 0 (length earlier)) × (map (λ (job : Job). job.number) jobs ≡ range_with_len (0 + length earlier) (length jobs))
part_numbers earlier jobs are =
    same_parts (map (λ (job : Job). job.number) earlier) (map (λ (job : Job). job.number) jobs) (range_with_len 0 (length earlier)) (range_with_len (0 + length earlier) (length jobs))
    (length-map_number earlier ∙ sym (length-range_with_len 0 (length earlier)))
    (sym (map-append (λ (job : Job). job.number) earlier jobs) ∙ are ∙ ap (range_with_len 0) (length-append earlier jobs) ∙ range_with_len-append 0 (length earlier) (length jobs))

range_rises : (a n : ℕ) → IsStrictlyIncreasing (range_with_len a n)
range_rises a n k below =
    let small : k + 1 < n = omega (arith, below, length-range_with_len a n) in
    omega (arith, get_or-range_with_len a n k 0 (omega arith), get_or-range_with_len a n (k + 1) 0 small)

-- numbers from a place on are above those before it
above : (jobs : List Job) (a g : ℕ) → map (λ (job : Job). job.number) jobs ≡ range_with_len a (length jobs) → g < a → AllByRecursion (λ (job : Job). g < job.number) jobs
above [] a g are below = tt
above (job ∷ jobs) a g are below =
    let first : job.number ≡ a = head_is job.number a (map (λ (job : Job). job.number) jobs) (range_with_len (a + 1) (length jobs)) are in
    (omega arith, above jobs (a + 1) g (tail_is job.number a (map (λ (job : Job). job.number) jobs) (range_with_len (a + 1) (length jobs)) are) (omega arith))

greatest_below : (jobs : List Job) (a : ℕ) (o : Option ℕ)
    → map (λ (job : Job). job.number) jobs ≡ range_with_len a (length jobs)
    → IfSome o (λ g. g < a)
    → IfSome (fold (λ most (job : Job). Some job.number) o jobs) (λ g. g < a + length jobs)
greatest_below [] a None are below = tt
greatest_below [] a (Some g) are below = omega (arith, below)
greatest_below (job ∷ jobs) a o are below =
    let first : job.number ≡ a = head_is job.number a (map (λ (job : Job). job.number) jobs) (range_with_len (a + 1) (length jobs)) are in
    let now : job.number < a + 1 = omega arith in
    more (fold (λ most (job : Job). Some job.number) (Some job.number) jobs)
    (greatest_below jobs (a + 1) (Some job.number) (tail_is job.number a (map (λ (job : Job). job.number) jobs) (range_with_len (a + 1) (length jobs)) are) now)
  where
    more : (o : Option ℕ) → IfSome o (λ g. g < a + 1 + length jobs) → IfSome o (λ g. g < a + suc (length jobs))
    more None h = tt
    more (Some g) h = omega (arith, h)

-- ---- a batch

pub ready : (engines : ℕ) (lanes : LanesState) (earlier batch rest : List Job)
    → HaveLearnt lanes earlier
    → AreSound engines (earlier ++ (batch ++ rest))
    → AreNumbered (earlier ++ (batch ++ rest))
    → AreReady engines lanes batch
ready engines lanes earlier batch rest has sound numbered = record {
  sound = λ front job later e.
      subst (λ (facts : Option FlowFacts). IsSoundFor engines facts job)
      (sym (ap (λ (facts : Option FlowFacts). facts_after facts (filter (same_flow job) front)) (has.known job) ∙ more_known job earlier front))
      (sound (earlier ++ front) job (later ++ rest) (whole front job later e));
  next = record {
    ascend = subst IsStrictlyIncreasing (sym batch_numbers) (range_rises (0 + length earlier) (length batch));
    above = highest lanes.greatest has.greatest;
  };
}
  where
    whole : (front : List Job) (job : Job) (later : List Job) → batch ≡ front ++ job ∷ later → earlier ++ (batch ++ rest) ≡ (earlier ++ front) ++ job ∷ (later ++ rest)
    whole front job later e =
        ap (λ (xs : List Job). earlier ++ (xs ++ rest)) e
        ∙ ap (λ (xs : List Job). earlier ++ xs) (append_assoc front (job ∷ later) rest)
        ∙ sym (append_assoc earlier front (job ∷ (later ++ rest)))

    after : (map (λ (job : Job). job.number) earlier ≡ range_with_len 0 (length earlier))
        × (map (λ (job : Job). job.number) (batch ++ rest) ≡ range_with_len (0 + length earlier) (length (batch ++ rest)))
    after = part_numbers earlier (batch ++ rest) numbered

    batch_numbers : map (λ (job : Job). job.number) batch ≡ range_with_len (0 + length earlier) (length batch)
    batch_numbers =
        (same_parts (map (λ (job : Job). job.number) batch) (map (λ (job : Job). job.number) rest)
        (range_with_len (0 + length earlier) (length batch))
        (range_with_len (0 + length earlier + length batch) (length rest))
        (length-map_number batch ∙ sym (length-range_with_len (0 + length earlier) (length batch)))
        (sym (map-append (λ (job : Job). job.number) batch rest) ∙ after.1 ∙
        ap (range_with_len (0 + length earlier)) (length-append batch rest) ∙
        range_with_len-append (0 + length earlier) (length batch) (length rest))).0

    highest : (o : Option ℕ) → o ≡ fold (λ most (job : Job). Some job.number) None earlier → IfSome o (λ greatest. All (λ (job : Job). greatest < job.number) batch)
    highest None e = tt
    highest (Some g) e =
        All-from_recursion (λ (job : Job). g < job.number) batch
        (above batch (0 + length earlier) g batch_numbers
        (subst (λ (o : Option ℕ). IfSome o (λ g. g < 0 + length earlier)) (sym e) (greatest_below earlier 0 None after.0 tt)))
