-- The jobs of a course are sound, and numbered as lanes ask.
use Rattle.std.proofs.Common.{◌≡◌, ℕ, zero, suc, ◌+◌, ◌^◌, ◌<◌, ◌≤◌, Bool, true, false, cond, List, [], ◌∷◌, ◌++◌, length, map}
use Rattle.std.proofs.Common.{get_or, replicate, Option, Some, None, All, IfSome, refl, sym, ap, subst, ◌∙◌, arith, length-append}
use Rattle.std.specs.Prelude.{fold, option_and_then, slice_get}
use Rattle.std.specs.List.{AllByRecursion, filter, range_with_len}
use Rattle.std.specs.List.Sorted.{IsStrictlyIncreasing}
use Rattle.std.proofs.lemmas.List.{get_or-map, get_or-replicate, length-replicate, length_push, map_push}
use Rattle.std.proofs.lemmas.List.FromFn.{get_or-range_with_len, length-range_with_len}
use Rattle.std.proofs.lemmas.Option.{get_or_from_slice_get, slice_get_within}
use Rattle.edge_io.specs.declared.moment.Moment.{Moment}
use Rattle.flow_lanes.specs.declared.job.Job.{Job}
use Rattle.flow_lanes.specs.declared.job.Work.{Work}
use Rattle.flow_lanes.specs.declared.job.Work.TheVariants as work
use Rattle.flow_lanes.specs.Course.{AreFrom, IsCourse, IsFew, IsPlain, IsPlainWork}
use Rattle.flow_lanes.specs.Flows.{flow_of, same_flow}
use Rattle.flow_lanes.specs.Sound.{FlowFacts, IsSoundWork, facts_after, facts_after_one, facts_after_work}
use Rattle.flow_lanes.specs.LanesAfter.{AreNew, AreNext, AreSoundFor, LaneState, LanesState, LearnsBatch, facts_kept, kept_of, known_in, known_of, lane_of, new_lane}

-- one more job of a flow
few_after_one : (bound : ℕ) (facts : Option FlowFacts) (moment : Moment) (w : Work) → IsPlainWork moment w → IfSome facts (IsFew bound) → IfSome (facts_after_work facts moment w) (IsFew (bound + 1))
few_after_one bound None moment (work.Alone head payload) plain few = tt
few_after_one bound (Some facts) moment (work.Alone head payload) plain few = record { ends = few.ends; packets = omega (arith, few.packets) }
few_after_one bound None moment (work.Packet flow head payload to_dst to_src) plain few = record { ends = plain.ends; packets = omega arith }
few_after_one bound (Some facts) moment (work.Packet flow head payload to_dst to_src) plain few = record { ends = plain.ends; packets = omega (arith, few.packets) }
few_after_one bound facts moment (work.Finish flow) plain few = tt

few_more : (bound more : ℕ) (facts : Option FlowFacts) → bound ≤ more → IfSome facts (IsFew bound) → IfSome facts (IsFew more)
few_more bound more None least few = tt
few_more bound more (Some facts) least few = record { ends = few.ends; packets = omega (arith, few.packets) }

few_after : (bound : ℕ) (facts : Option FlowFacts) (jobs : List Job) → AllByRecursion IsPlain jobs → IfSome facts (IsFew bound) → IfSome (facts_after facts jobs) (IsFew (bound + length jobs))
few_after bound facts [] plain few = few_more bound (bound + 0) facts (omega arith) few
few_after bound facts (job ∷ jobs) plain few =
    few_more (bound + 1 + length jobs) (bound + suc (length jobs)) (facts_after (facts_after_one facts job) jobs) (omega arith)
    (few_after (bound + 1) (facts_after_one facts job) jobs plain.1 (few_after_one bound facts job.moment job.work plain.0 few))

-- some of plain jobs
plain_some : (test : Job → Bool) (jobs : List Job) → AllByRecursion IsPlain jobs → AllByRecursion IsPlain (filter test jobs)
plain_some test [] plain = tt
plain_some test (job ∷ jobs) plain = by_test (test job) (plain_some test jobs plain.1)
  where
    by_test : (b : Bool) → AllByRecursion IsPlain (filter test jobs) → AllByRecursion IsPlain (cond b (job ∷ filter test jobs) (filter test jobs))
    by_test true rest = (plain.0, rest)
    by_test false rest = rest

some_length : (test : Job → Bool) (jobs : List Job) → length (filter test jobs) ≤ length jobs
some_length test [] = omega arith
some_length test (job ∷ jobs) = by_test (test job) (some_length test jobs)
  where
    by_test : (b : Bool) → length (filter test jobs) ≤ length jobs → length (cond b (job ∷ filter test jobs) (filter test jobs)) ≤ suc (length jobs)
    by_test true rest = omega arith
    by_test false rest = omega arith

plain_front : (front rest : List Job) → AllByRecursion IsPlain (front ++ rest) → AllByRecursion IsPlain front × AllByRecursion IsPlain rest
plain_front [] rest plain = (tt, plain)
plain_front (job ∷ front) rest plain = ((plain.0, (plain_front front rest plain.1).0), (plain_front front rest plain.1).1)

sound_plain : (bound : ℕ) (facts : Option FlowFacts) (moment : Moment) (w : Work) → bound < 2 ^ 32 → IsPlainWork moment w → IfSome facts (IsFew bound) → IsSoundWork 0 facts moment w
sound_plain bound facts moment (work.Alone head payload) few plain known = tt
sound_plain bound None moment (work.Packet flow head payload to_dst to_src) few plain known =
    record { protocol = plain.protocol; same_ends = tt; few = tt; size = plain.size; to_dst = omega (arith, plain.to_dst); to_src = omega (arith, plain.to_src) }
sound_plain bound (Some facts) moment (work.Packet flow head payload to_dst to_src) few plain known =
    record {
      protocol = plain.protocol;
      same_ends = known.ends ∙ sym plain.ends;
      few = omega (arith, known.packets);
      size = plain.size;
      to_dst = omega (arith, plain.to_dst);
      to_src = omega (arith, plain.to_src);
    }
sound_plain bound facts moment (work.Finish flow) few plain known = tt

pub course_sound : (lanes : LanesState) (done : ℕ) (jobs : List Job) → IsCourse lanes done → AreFrom done jobs → done + length jobs < 2 ^ 32 → AreSoundFor 0 lanes jobs
course_sound lanes done jobs course are room front job rest whole =
    let parts = plain_front front (job ∷ rest) (subst (λ js. AllByRecursion IsPlain js) whole are.plain) in
    let size : length jobs ≡ length (front ++ job ∷ rest) = ap length whole in
    let shorter = some_length (same_flow job) front in
    let known = few_after done (known_in lanes job) (filter (same_flow job) front) (plain_some (same_flow job) front parts.0) (course.known job) in
    sound_plain (done + length (filter (same_flow job) front)) (facts_after (known_in lanes job) (filter (same_flow job) front)) job.moment job.work
    (omega (arith, length-append front (job ∷ rest))) parts.1.0 known

-- a job more
plain_push : (jobs : List Job) (job : Job) → AllByRecursion IsPlain jobs → IsPlain job → AllByRecursion IsPlain (jobs ++ job ∷ [])
plain_push [] job plain one = (one, tt)
plain_push (first ∷ jobs) job plain one = (plain.0, plain_push jobs job plain.1 one)

range_more : (first n : ℕ) → range_with_len first n ++ (first + n) ∷ [] ≡ range_with_len first (suc n)
range_more first zero =
    let same : first + 0 ≡ first = omega arith in
    ap (λ k. k ∷ []) same
range_more first (suc n) =
    let same : first + suc n ≡ first + 1 + n = omega arith in
    ap (λ k. first ∷ (range_with_len (first + 1) n ++ k ∷ [])) same ∙ ap (λ rest. first ∷ rest) (range_more (first + 1) n)

pub AreFrom-none : (first : ℕ) → AreFrom first []
AreFrom-none first = record { plain = tt; numbers = refl }

pub AreFrom-more : (first : ℕ) (jobs more : List Job) (job : Job) → AreFrom first jobs → IsPlain job → job.number ≡ first + length jobs → more ≡ jobs ++ job ∷ [] → AreFrom first more
AreFrom-more first jobs more job are plain number is =
    let size : length (jobs ++ job ∷ []) ≡ suc (length jobs) = omega (arith, length_push jobs job) in
    subst (λ js. AreFrom first js) (sym is) (record {
      plain = plain_push jobs job are.plain plain;
      numbers = map_push (λ (j : Job). j.number) jobs job ∙ ap (λ ns. ns ++ job.number ∷ []) are.numbers ∙ ap (λ n. range_with_len first (length jobs) ++ n ∷ []) number
          ∙ range_more first (length jobs) ∙ ap (range_with_len first) (sym size);
    })

-- numbers
rising_range : (first n : ℕ) → IsStrictlyIncreasing (range_with_len first n)
rising_range first n k within =
    let size = length-range_with_len first n in
    let here = get_or-range_with_len first n k 0 (omega arith) in
    let next = get_or-range_with_len first n (k + 1) 0 (omega arith) in
    omega arith

above_all : (greatest : Option ℕ) (done : ℕ) (jobs : List Job) → IfSome greatest (λ g. g < done) → map (λ (job : Job). job.number) jobs ≡ range_with_len done (length jobs)
    → IfSome greatest (λ g. All (λ (job : Job). g < job.number) jobs)
above_all None done jobs below numbers = tt
above_all (Some g) done jobs below numbers = λ k d within.
    let at = get_or-map (λ (job : Job). job.number) jobs k d 0 within in
    let same = ap (λ ns. get_or ns k 0) numbers ∙ get_or-range_with_len done (length jobs) k 0 within in
    omega (arith, below)

pub course_next : (lanes : LanesState) (done : ℕ) (jobs : List Job) → IsCourse lanes done → AreFrom done jobs → AreNext lanes jobs
course_next lanes done jobs course are = record {
  ascend = subst IsStrictlyIncreasing (sym are.numbers) (rising_range done (length jobs));
  above = above_all lanes.greatest done jobs course.numbers are.numbers;
}

-- the greatest number after a batch is below the number of all jobs so far
greatest_below : (greatest : Option ℕ) (done : ℕ) (jobs : List Job) → IfSome greatest (λ g. g < done) → map (λ (job : Job). job.number) jobs ≡ range_with_len done (length jobs)
    → IfSome (fold (λ most (job : Job). Some job.number) greatest jobs) (λ g. g < done + length jobs)
greatest_below None done [] below numbers = tt
greatest_below (Some g) done [] below numbers = omega (arith, below)
greatest_below greatest done (job ∷ jobs) below numbers =
    let first : job.number ≡ done = cc in
    let rest : map (λ (j : Job). j.number) jobs ≡ range_with_len (done + 1) (length jobs) = cc in
    let size : done + 1 + length jobs ≡ done + suc (length jobs) = omega arith in
    subst (λ bound. IfSome (fold (λ most (j : Job). Some j.number) (Some job.number) jobs) (λ g. g < bound)) size
    (greatest_below (Some job.number) (done + 1) jobs (omega arith) rest)

pub course_goes_on : (old new : LanesState) (done : ℕ) (jobs : List Job) → IsCourse old done → AreFrom done jobs → LearnsBatch old jobs new → IsCourse new (done + length jobs)
course_goes_on old new done jobs course are learns = record {
  known = λ job.
      let shorter = some_length (same_flow job) jobs in
      subst (λ facts. IfSome facts (IsFew (done + length jobs))) (sym (learns.known job))
      (few_more (done + length (filter (same_flow job) jobs)) (done + length jobs) (facts_after (known_in old job) (filter (same_flow job) jobs)) (omega arith)
      (few_after done (known_in old job) (filter (same_flow job) jobs) (plain_some (same_flow job) jobs are.plain) (course.known job)));
  numbers = subst (λ greatest. IfSome greatest (λ g. g < done + length jobs)) (sym learns.greatest) (greatest_below old.greatest done jobs course.numbers are.numbers);
}

-- lanes that stand for no job
pub course_begins : (count flush : ℕ) (inserts : Bool) (lanes : LanesState) → AreNew count flush inserts lanes → IsCourse lanes 0
course_begins count flush inserts lanes new =
    subst (λ (l : LanesState). IsCourse l 0) (sym new) (record {
      known = λ job.
          nothing job
          (slice_get (replicate count (new_lane flush inserts))
          (lane_of (length (replicate count (new_lane flush inserts))) (flow_of job)))
          refl;
      numbers = tt;
    })
  where
    idle_knows : (flow : Option ℕ) → IfSome (option_and_then (λ f. facts_kept (kept_of (new_lane flush inserts) f)) flow) (IsFew 0)
    idle_knows None = tt
    idle_knows (Some flow) = tt

    nothing : (job : Job) (found : Option LaneState) → slice_get (replicate count (new_lane flush inserts)) (lane_of (length (replicate count (new_lane flush inserts))) (flow_of job)) ≡ found
        → IfSome (option_and_then (λ (lane : LaneState). known_of lane job) found) (IsFew 0)
    nothing job None is = tt
    nothing job (Some lane) is =
        let place : ℕ = lane_of (length (replicate count (new_lane flush inserts))) (flow_of job) in
        let within = slice_get_within (replicate count (new_lane flush inserts)) place lane is in
        let same : new_lane flush inserts ≡ lane =
        sym (get_or-replicate count place (new_lane flush inserts) lane
        (omega (arith, length-replicate count (new_lane flush inserts))))
        ∙ get_or_from_slice_get (replicate count (new_lane flush inserts)) place lane lane is in
        subst (λ (l : LaneState). IfSome (known_of l job) (IsFew 0)) same (idle_knows (flow_of job))
