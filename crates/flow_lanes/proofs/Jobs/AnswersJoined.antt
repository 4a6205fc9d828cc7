-- The answers to a batch, put together from those of its lanes, are those to the batch's jobs taken one by one.
use Rattle.std.proofs.Common.{◌≡◌, ℕ, ◌<◌, ◌==◌, Bool, List, length, get_or, map, sym, subst, ◌∙◌}
use Rattle.std.specs.List.{filter, flat_map}
use Rattle.std.specs.List.Sorted.{IsPermutation, IsStrictlyIncreasing}
use Rattle.std.proofs.lemmas.List.Sorted.{IsPermutation-trans}
use Rattle.edge_io.specs.Along.{AscendsBy, IsByClass, IsLocal, along_from, told}
use Rattle.edge_io.proofs.Along.{along_from-class, along_from-plain, along_from-same, map-along_from}
use Rattle.edge_io.proofs.AlongClasses.{AscendsBy-unique, joined_classes}

module _ {J A : Type 0} (same : J → J → Bool) (lane : J → ℕ) (number : J → ℕ) (key : A → ℕ) (f : List J → J → A)
    (local : IsLocal same f) (by_class : (place : ℕ) → IsByClass same (λ job. lane job == place)) (numbered : (before : List J) (job : J) → key (f before job) ≡ number job) where
  -- the jobs of a lane
  abbrev of_lane : ℕ → List J → List J
  of_lane place jobs = filter (λ job. lane job == place) jobs

  -- the numbers of the answers are those of the jobs
  numbers_of : (before jobs : List J) → map key (along_from f before jobs) ≡ map number jobs
  numbers_of before jobs =
      map-along_from key f before jobs
      ∙ along_from-same (λ b job. key (f b job)) (λ b job. number job) numbered before jobs
      ∙ along_from-plain number before jobs

  pub answers_joined : (before jobs : List J) (parts : List (List A)) → ((job : J) → lane job < length parts)
      → ((place : ℕ) (d : List A) → place < length parts → get_or parts place d ≡ along_from f (of_lane place before) (of_lane place jobs))
      → AscendsBy number jobs → (merged : List A) → IsPermutation (flat_map (λ part. part) parts) merged → AscendsBy key merged
      → merged ≡ along_from f before jobs
  answers_joined before jobs parts within are ascend merged whole ascending =
      let tolds : List (J × A) = along_from (told f) before jobs in
      let each = λ (place : ℕ) (d : List A) (below : place < length parts).
      are place d below ∙ along_from-class same (λ job. lane job == place) f local (by_class place) before jobs in
      let joined : IsPermutation (map (λ p. p.1) tolds) (flat_map (λ part. part) parts) =
      joined_classes (λ (p : J × A). lane p.0) (λ (p : J × A). p.1) (λ (part : List A). part) tolds parts (λ p. within p.0)
      each in
      let plain : map (λ p. p.1) tolds ≡ along_from f before jobs = map-along_from (λ (p : J × A). p.1) (told f) before jobs in
      let right : IsPermutation (along_from f before jobs) merged =
      subst (λ (answers : List A). IsPermutation answers merged) plain
      (IsPermutation-trans (map (λ p. p.1) tolds) (flat_map (λ part. part) parts) merged joined whole) in
      sym (AscendsBy-unique key (along_from f before jobs) merged right
      (subst (λ (ns : List ℕ). IsStrictlyIncreasing ns) (sym (numbers_of before jobs)) ascend) ascending)
