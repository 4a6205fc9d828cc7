-- What a rule can extract from a payload: the numbers, the lists of values, and the points after extractions.
use Rattle.std.proofs.Common.{◌≡◌, ℕ, zero, suc, ◌+◌, ◌-◌, ◌*◌, ◌<◌, ◌≤◌, ◌⊎◌, inl, inr, ⊎_elim, pos, ◌+ℤ◌, Bool, true, false}
use Rattle.std.proofs.Common.{not, ◌&&◌, ◌||◌, ◌==◌, cond, List, [], ◌∷◌, length, take, drop, get_or, Option, Some, None}
use Rattle.std.proofs.Common.{Contains, slice_index, slice_set, refl, sym, ap, subst, ◌∙◌, arith, unwrap_or}
use Rattle.std.specs.Prelude.{min, All, nat_le, option_and_then}
use Rattle.std.proofs.lemmas.Bool.{false≢true, eqb-true}
use Rattle.std.proofs.lemmas.Bool.Decides.{nat_tests}
use Rattle.std.proofs.lemmas.List.{drop_more}
use Rattle.std.proofs.lemmas.List.Sums.{sum_by-cons}
use Rattle.edge_io.specs.Bytes.{slice}
use Rattle.rule_types.specs.declared.option.Base.{Base}
use Rattle.rule_types.specs.declared.option.Fetch.{Fetch}
use Rattle.rule_types.specs.declared.option.Num.{Num}
use Rattle.rule_types.specs.declared.option.Num.TheVariants as num
use Rattle.rule_types.specs.declared.option.Opt.{Opt}
use Rattle.rule_types.specs.declared.option.Opt.TheVariants as opt
use Rattle.option_eval.specs.Kept.{gives, is_read, kept_value, kept_values}
use Rattle.option_eval.specs.Numbers.{Point, Fetched, bytes_from, bytes_number, fetched, number_of, origin, place_of, rounded_up}
use Rattle.option_eval.specs.Places.{Means, Leads, is_extract, start}
use Rattle.option_eval.specs.Sets.{point}
use Rattle.option_eval.specs.Values.{is_told, place_count, number_count, extracted_count, reads_both, list_count, other_count, points_after, point_count}
use Rattle.option_eval.specs.Walks.{HasValues, HasEachValueList}
use Rattle.option_eval.proofs.Costs.Few.{Few, list_cases, is_head, is_after, few_one, few_none, few_below, few_or, few_weaker, few_as, few_min, few_map, few_pairs}
use Rattle.option_eval.proofs.Walks.Walking.{values_kept}

-- ---- one extraction

-- the number in bytes, as an extraction leaves it
number_in : Base → ℕ → ℕ → List ℕ → ℕ
number_in base times align bytes = rounded_up align (unwrap_or (bytes_number base bytes) 0 * times)

-- the place where a fetch begins
place_from : Fetch → Point → Option ℕ
place_from fetch before = place_of (pos (origin fetch.relative before) +ℤ number_of before.values fetch.offset)

-- a fetch from some point begins at this place
record Begins (payload : List ℕ) (fetch : Fetch) (from : ℕ) : Type 0 where
  before : Point
  at : place_from fetch before ≡ Some from
  within : from + fetch.bytes ≤ length payload

-- what was fetched
record IsFetched (payload : List ℕ) (fetch : Fetch) (before : Point) (read : Fetched) : Type 0 where
  from : ℕ
  begins : Begins payload fetch from
  number : unwrap_or (bytes_number fetch.base (slice payload from (from + fetch.bytes))) 0 ≡ read.number
  stop : read.stop ≡ from + fetch.bytes

then_some : {A B : Type 0} (value : Option A) (next : A → Option B) (y : B) → option_and_then next value ≡ Some y → (x : A) × (value ≡ Some x) × (next x ≡ Some y)
then_some None next y is = cc
then_some (Some x) next y is = (x, refl, is)

if_some : {A : Type 0} (b : Bool) (x y : A) → cond b (Some x) None ≡ Some y → (b ≡ true) × (x ≡ y)
if_some true x y is = (refl, cc)
if_some false x y is = cc

module _ (payload : List ℕ) (fetch : Fetch) (before : Point) (read : Fetched) where
  ending : ℕ → ℕ → Option Fetched
  ending from number = Some (record { number = number; stop = from + fetch.bytes })

  is_fetched : fetched payload fetch before ≡ Some read → IsFetched payload fetch before read
  unfolding fetched ending place_from
  is_fetched is =
      let at = then_some (place_from fetch before) (λ from. option_and_then (λ bytes. option_and_then (ending from) (bytes_number fetch.base bytes)) (bytes_from payload fetch.bytes from)) read is in
      let there = then_some (bytes_from payload fetch.bytes at.0) (λ bytes. option_and_then (ending at.0) (bytes_number fetch.base bytes)) read at.2 in
      let inside = if_some (nat_le (at.0 + fetch.bytes) (length payload)) (slice payload at.0 (at.0 + fetch.bytes)) there.0 there.1 in
      let given = then_some (bytes_number fetch.base there.0) (ending at.0) read there.2 in
      let same : record { number = given.0; stop = at.0 + fetch.bytes } ≡ read = cc in
      record {
        from = at.0;
        begins = record { before = before; at = at.1; within = grind (arith, nat_tests, inside.0) };
        number = ap (λ (bytes : List ℕ). unwrap_or (bytes_number fetch.base bytes) 0) inside.1 ∙ ap (λ (n : Option ℕ). unwrap_or n 0) given.1 ∙ ap (λ (r : Fetched). r.number) same;
        stop = sym (ap (λ (r : Fetched). r.stop) same);
      }

-- where a fetch can begin
module _ (payload : List ℕ) (fetch : Fetch) where
  few_at : (at : Option ℕ) → ((before : Point) → place_from fetch before ≡ at) → Few ℕ 1 (Begins payload fetch)
  few_at None always = few_weaker ℕ 0 1 (λ n. ⊥) (Begins payload fetch) (omega arith) (λ n begins. absurd (no_place n begins)) (few_none ℕ (λ n. ⊥) (λ n never. never))
    where
      no_place : (n : ℕ) → Begins payload fetch n → ⊥
      no_place n begins = let is = sym (always begins.before) ∙ begins.at in cc
  few_at (Some place) always = few_weaker ℕ 1 1 (λ n. n ≡ place) (Begins payload fetch) (omega arith) same (few_one ℕ place)
    where
      same : (n : ℕ) → Begins payload fetch n → n ≡ place
      same n begins = let is = sym (always begins.before) ∙ begins.at in cc

  few_inside : Few ℕ (length payload + 1 - fetch.bytes) (Begins payload fetch)
  few_inside = few_weaker ℕ (length payload + 1 - fetch.bytes) (length payload + 1 - fetch.bytes) (λ n. n < length payload + 1 - fetch.bytes) (Begins payload fetch) (omega arith)
      (λ n begins. omega (arith, begins.within)) (few_below (length payload + 1 - fetch.bytes))

  by_offset : (relative : Bool) (offset : Num)
      → relative ≡ fetch.relative
      → offset ≡ fetch.offset
      → Few ℕ (cond (not relative && is_told offset) 1 (length payload + 1 - fetch.bytes)) (Begins payload fetch)
  unfolding place_from
  by_offset true offset is same = few_inside
  by_offset false (num.Name name) is same = few_inside
  by_offset false (num.Value number) is same = few_at (place_of (pos 0 +ℤ number)) always
    where
      always : (before : Point) → place_from fetch before ≡ place_of (pos 0 +ℤ number)
      always before = rw (← is, ← same) refl

  few_places : (name times align : ℕ) → Few ℕ (place_count (opt.ByteExtract fetch name times align) (length payload)) (Begins payload fetch)
  few_places name times align = by_offset fetch.relative fetch.offset refl refl

  -- ---- its numbers

  -- what an extraction takes
  Takes : ℕ → ℕ → ℕ → Type 0
  Takes times align x = (before : Point) × (read : Fetched) × (fetched payload fetch before ≡ Some read) × (x ≡ rounded_up align (read.number * times))

  number_at : ℕ → ℕ → ℕ → ℕ
  number_at times align from = number_in fetch.base times align (slice payload from (from + fetch.bytes))

  few_numbers_at : (name times align : ℕ) → Few ℕ (place_count (opt.ByteExtract fetch name times align) (length payload)) (Takes times align)
  unfolding Takes number_at number_in
  few_numbers_at name times align =
      let count = place_count (opt.ByteExtract fetch name times align) (length payload) in
      few_weaker ℕ count count (λ x. (from : ℕ) × Begins payload fetch from × (x ≡ number_at times align from)) (Takes times align) (omega arith)
      (λ x takes.
      let got = is_fetched payload fetch takes.0 takes.1 takes.2 in
      (got.from, got.begins, takes.3 ∙ ap (λ (n : ℕ). rounded_up align (n * times)) (sym got.number)))
      (few_map ℕ (Begins payload fetch) ℕ count (number_at times align) (few_places name times align))

  -- what an extraction of one byte takes
  few_of_one : (times align : ℕ) → fetch.bytes ≡ 1 → All (λ byte. byte < 256) payload → Few ℕ 256 (Takes times align)
  unfolding Takes number_in
  few_of_one times align one bytes = few_weaker ℕ 256 256 (λ x. (byte : ℕ) × (byte < 256) × (x ≡ number_in fetch.base times align (byte ∷ []))) (Takes times align) (omega arith)
      (λ x takes.
      let got = is_fetched payload fetch takes.0 takes.1 takes.2 in
      let below : got.from < length payload = omega (arith, got.begins.within, one) in
      let byte = get_or payload got.from 0 in
      let is : slice payload got.from (got.from + fetch.bytes) ≡ byte ∷ [] = one_byte got.from below one in (
        byte,
        bytes got.from 0 below,
        takes.3 ∙ ap (λ (n : ℕ). rounded_up align (n * times)) (sym got.number) ∙ ap (λ (bytes : List ℕ). rounded_up align (unwrap_or (bytes_number fetch.base bytes) 0 * times)) is,
      ))
      (few_map ℕ (λ byte. byte < 256) ℕ 256 (λ byte. number_in fetch.base times align (byte ∷ [])) (few_below 256))
    where
      one_byte : (from : ℕ) → from < length payload → fetch.bytes ≡ 1 → slice payload from (from + fetch.bytes) ≡ get_or payload from 0 ∷ []
      one_byte from below one =
          let size : from + fetch.bytes - from ≡ 1 = omega (arith, one) in
          ap (λ (n : ℕ). take n (drop from payload)) size ∙ ap (take 1) (drop_more payload from 0 below)

  few_numbers : (name times align : ℕ) → All (λ byte. byte < 256) payload → Few ℕ (number_count (opt.ByteExtract fetch name times align) (length payload)) (Takes times align)
  few_numbers name times align bytes = by_size (fetch.bytes == 1) refl
    where
      by_size : (b : Bool)
          → (fetch.bytes == 1) ≡ b
          → Few ℕ
          (cond b (min (place_count (opt.ByteExtract fetch name times align) (length payload)) 256)
          (place_count (opt.ByteExtract fetch name times align) (length payload)))
          (Takes times align)
      by_size true is =
          few_min ℕ (Takes times align) (place_count (opt.ByteExtract fetch name times align) (length payload)) 256
          (few_numbers_at name times align)
          (few_of_one times align (eqb-true fetch.bytes 1 is) bytes)
      by_size false is = few_numbers_at name times align

-- ---- the values of a name

module _ (payload : List ℕ) where
  -- the option is an extraction that takes this number
  TakenBy : Opt → ℕ → Type 0
  TakenBy (opt.ByteExtract fetch name times align) x = Takes payload fetch times align x
  TakenBy _ x = ⊥

  few_taken : All (λ byte. byte < 256) payload → (o : Opt) → Few ℕ (number_count o (length payload)) (TakenBy o)
  unfolding TakenBy
  few_taken bytes (opt.ByteExtract fetch name times align) = few_numbers payload fetch name times align bytes
  few_taken bytes _ = few_none ℕ (λ x. ⊥) (λ x never. never)

  -- some option gives the name this number
  IsGiven : ℕ → List Opt → ℕ → Type 0
  IsGiven name options x = (o : Opt) × Contains options o × (gives name o ≡ true) × TakenBy o x

  IsGivenBy : ℕ → Opt → ℕ → Type 0
  IsGivenBy name o x = (gives name o ≡ true) × TakenBy o x

  few_given_by : All (λ byte. byte < 256) payload → (name : ℕ) (o : Opt) (b : Bool) → gives name o ≡ b → Few ℕ (cond b (number_count o (length payload)) 0) (IsGivenBy name o)
  unfolding IsGivenBy
  few_given_by bytes name o true is =
      few_weaker ℕ (number_count o (length payload)) (number_count o (length payload)) (TakenBy o) (IsGivenBy name o)
      (omega arith) (λ x given. given.1) (few_taken bytes o)
  few_given_by bytes name o false is = few_none ℕ (IsGivenBy name o) (λ x given. false≢true (sym is ∙ given.0))

  few_given : All (λ byte. byte < 256) payload → (name : ℕ) (options : List Opt) → Few ℕ (extracted_count name options (length payload)) (IsGiven name options)
  unfolding IsGiven IsGivenBy
  few_given bytes name [] = few_none ℕ (IsGiven name []) (λ x given. omega (arith, given.1.1))
  few_given bytes name (o ∷ os) =
      let here = cond (gives name o) (number_count o (length payload)) 0 in
      let later = extracted_count name os (length payload) in
      few_weaker ℕ (here + later) (extracted_count name (o ∷ os) (length payload)) (λ x. IsGivenBy name o x ⊎ IsGiven name os x) (IsGiven name (o ∷ os))
      (omega (arith, sum_by-cons (λ option. cond (gives name option) (number_count option (length payload)) 0) o os))
      (λ x given. ⊎_elim
      (λ (same : given.0 ≡ o). inl (subst (λ (p : Opt). IsGivenBy name p x) same (given.2, given.3)))
      (λ (following : Contains os given.0). inr (given.0, following, given.2, given.3))
      (list_cases o os given.0 given.1))
      (few_or ℕ here later (IsGivenBy name o) (IsGiven name os) (few_given_by bytes name o (gives name o) refl) (few_given bytes name os))

module _ (payload : List ℕ) (all : List Opt) where
  -- a name has this value: 0, or a number that some option of the rule gives it
  IsValue : ℕ → ℕ → Type 0
  IsValue name x = (x ≡ 0) ⊎ IsGiven payload name all x

  few_values : All (λ byte. byte < 256) payload → (name : ℕ) → Few ℕ (1 + extracted_count name all (length payload)) (IsValue name)
  unfolding IsValue
  few_values bytes name = few_or ℕ 1 (extracted_count name all (length payload)) (λ x. x ≡ 0) (IsGiven payload name all) (few_one ℕ 0) (few_given payload bytes name all)

  record AreValues (values : List ℕ) : Type 0 where
    first : ℕ
    second : ℕ
    are : values ≡ first ∷ second ∷ []
    one : IsValue 0 first
    other : IsValue 1 second

  start_values : AreValues start.values
  unfolding IsValue
  start_values = record { first = 0; second = 0; are = refl; one = inl refl; other = inl refl }

  set_values : (fetch : Fetch) (name times align : ℕ)
      → Contains all (opt.ByteExtract fetch name times align)
      → (values : List ℕ) (x : ℕ)
      → AreValues values
      → Takes payload fetch times align x
      → AreValues (slice_set values name x)
  unfolding IsValue IsGiven TakenBy
  set_values fetch zero times align at values x had takes = record {
    first = x;
    second = had.second;
    are = ap (λ (v : List ℕ). slice_set v 0 x) had.are;
    one = inr (opt.ByteExtract fetch zero times align, at, refl, takes);
    other = had.other;
  }
  set_values fetch (suc zero) times align at values x had takes = record {
    first = had.first;
    second = x;
    are = ap (λ (v : List ℕ). slice_set v 1 x) had.are;
    one = had.one;
    other = inr (opt.ByteExtract fetch (suc zero) times align, at, refl, takes);
  }
  set_values fetch (suc (suc more)) times align at values x had takes = record {
    first = had.first;
    second = had.second;
    are = ap (λ (v : List ℕ). slice_set v (suc (suc more)) x) had.are;
    one = had.one;
    other = had.other;
  }

  values_next : (means : Means) (o : Opt) → Contains all o → (before after : Point) → AreValues before.values → Leads means payload o before after → AreValues after.values
  unfolding Leads Takes
  values_next means (opt.ByteExtract fetch name times align) at before after had leads =
      let x = rounded_up align (leads.0.number * times) in
      subst AreValues (sym (ap (λ (s : Point). s.values) leads.2)) (set_values fetch name times align at before.values x had (before, leads.0, leads.1, refl))
  values_next means o at before after had leads = subst AreValues (sym (values_kept means payload o before after refl leads)) had

  -- ---- the lists of values

  -- what is kept of values after some option, or of none
  IsKept : List Opt → List ℕ → Type 0
  IsKept [] v = v ≡ start.values
  IsKept (o ∷ os) v = ((values : List ℕ) × AreValues values × (v ≡ kept_values os values)) ⊎ IsKept os v

  start_kept : (options : List Opt) → IsKept options start.values
  unfolding IsKept
  start_kept [] = refl
  start_kept (o ∷ os) = inr (start_kept os)

  kept_or_none : (name x : ℕ) (b : Bool) → IsValue name x → IsValue name (cond b x 0)
  unfolding IsValue
  kept_or_none name x true had = had
  kept_or_none name x false had = inl refl

  -- each value of the one with each of the other
  Both : List ℕ → Type 0
  Both v = (x : ℕ) × (y : ℕ) × IsValue 0 x × IsValue 1 y × (v ≡ x ∷ y ∷ [])

  kept_both : (options : List Opt) (v : List ℕ) → IsKept options v → Both v
  unfolding IsKept Both IsValue
  kept_both [] v is = (0, 0, inl refl, inl refl, is)
  kept_both (o ∷ os) v is = ⊎_elim
      (λ (here : (values : List ℕ) × AreValues values × (v ≡ kept_values os values)).
      let had = here.1 in (
        cond (is_read 0 os) had.first 0,
        cond (is_read 1 os) had.second 0,
        kept_or_none 0 had.first (is_read 0 os) had.one,
        kept_or_none 1 had.second (is_read 1 os) had.other,
        here.2 ∙ ap (kept_values os) had.are,
      ))
      (λ (later : IsKept os v). kept_both os v later)
      is

  -- a list of the value of one name beside a 0
  One : List ℕ → Type 0
  One v = ((x : ℕ) × IsValue 0 x × (v ≡ x ∷ 0 ∷ [])) ⊎ ((y : ℕ) × IsGiven payload 1 all y × (v ≡ 0 ∷ y ∷ []))

  one_of : (read other_read : Bool) (x y : ℕ) → (read && other_read) ≡ false → IsValue 0 x → IsValue 1 y → One (cond read x 0 ∷ cond other_read y 0 ∷ [])
  unfolding One IsValue
  one_of true true x y apart one other = absurd (false≢true (sym apart))
  one_of true false x y apart one other = inl (x, one, refl)
  one_of false false x y apart one other = inl (0, inl refl, refl)
  one_of false true x y apart one (inl none) = inl (0, inl refl, ap (λ (z : ℕ). 0 ∷ z ∷ []) none)
  one_of false true x y apart one (inr given) = inr (y, given, refl)

  or_false : (a b : Bool) → (a || b) ≡ false → (a ≡ false) × (b ≡ false)
  or_false true b is = absurd (false≢true (sym is))
  or_false false b is = (refl, is)

  kept_one : (options : List Opt) (v : List ℕ) → reads_both options ≡ false → IsKept options v → One v
  unfolding IsKept One IsValue
  kept_one [] v apart is = inl (0, inl refl, is)
  kept_one (o ∷ os) v apart is =
      let both = or_false (is_read 0 os && is_read 1 os) (reads_both os) apart in
      ⊎_elim
      (λ (here : (values : List ℕ) × AreValues values × (v ≡ kept_values os values)).
      let had = here.1 in
      subst One (sym (here.2 ∙ ap (kept_values os) had.are)) (one_of (is_read 0 os) (is_read 1 os) had.first had.second both.0 had.one had.other))
      (λ (later : IsKept os v). kept_one os v both.1 later)
      is

  few_lists : All (λ byte. byte < 256) payload → Few (List ℕ) (list_count all (length payload)) (IsKept all)
  unfolding list_count Both One
  few_lists bytes = by_reading (reads_both all) refl
    where
      by_reading : (b : Bool)
          → reads_both all ≡ b
          → Few (List ℕ)
          (cond b ((1 + extracted_count 0 all (length payload)) * (1 + extracted_count 1 all (length payload)))
          (1 + (extracted_count 0 all (length payload) + extracted_count 1 all (length payload))))
          (IsKept all)
      by_reading true is =
          let count = (1 + extracted_count 0 all (length payload)) * (1 + extracted_count 1 all (length payload)) in
          few_weaker (List ℕ) count count Both (IsKept all) (omega arith) (λ v kept. kept_both all v kept)
          (few_pairs ℕ (IsValue 0) ℕ (List ℕ) (λ x y. x ∷ y ∷ []) (1 + extracted_count 0 all (length payload))
          (1 + extracted_count 1 all (length payload))
          (IsValue 1) (few_values bytes 0) (few_values bytes 1))
      by_reading false is =
          let a = extracted_count 0 all (length payload) in
          let b = extracted_count 1 all (length payload) in
          few_weaker (List ℕ) ((1 + a) + b) (1 + (a + b)) One (IsKept all) (omega arith) (λ v kept. kept_one all v is kept)
          (few_or (List ℕ) (1 + a) b (λ v. (x : ℕ) × IsValue 0 x × (v ≡ x ∷ 0 ∷ [])) (λ v. (y : ℕ) × IsGiven payload 1 all y × (v ≡ 0 ∷ y ∷ []))
          (few_map ℕ (IsValue 0) (List ℕ) (1 + a) (λ x. x ∷ 0 ∷ []) (few_values bytes 0))
          (few_map ℕ (IsGiven payload 1 all) (List ℕ) b (λ y. 0 ∷ y ∷ []) (few_given payload bytes 1 all)))

  -- ---- the points after extractions

  module _ (means : Means) where
    IsAfterOne : Opt → List Opt → Point → Type 0
    IsAfterOne o later s =
        (is_extract o ≡ true)
        × (before : Point)
        × (after : Point)
        × AreValues before.values
        × Leads means payload o before after
        × (s ≡ point (kept_values later after.values) after.place)

    IsAfter : List Opt → Point → Type 0
    IsAfter [] s = ⊥
    IsAfter (o ∷ os) s = IsAfterOne o os s ⊎ IsAfter os s

    -- a value that a name can have besides, where it counts, else 0
    IsOther : Bool → ℕ → ℕ → Type 0
    IsOther true name x = IsValue name x
    IsOther false name x = x ≡ 0

    few_others : All (λ byte. byte < 256) payload → (name : ℕ) (b : Bool) → Few ℕ (cond b (1 + extracted_count name all (length payload)) 1) (IsOther b name)
    unfolding IsOther
    few_others bytes name true = few_values bytes name
    few_others bytes name false = few_one ℕ 0

    is_other : (name x : ℕ) (b : Bool) → IsValue name x → IsOther b name (cond b x 0)
    unfolding IsOther
    is_other name x true had = had
    is_other name x false had = refl

    kept_same : (read given : Bool) (x had : ℕ) → cond read (cond given x had) 0 ≡ cond read (cond given x (cond (not given && read) had 0)) 0
    kept_same true true x had = refl
    kept_same true false x had = refl
    kept_same false true x had = refl
    kept_same false false x had = refl

    set_first : (name first second x : ℕ) → slice_index (slice_set (first ∷ second ∷ []) name x) 0 ≡ cond (name == 0) x first
    set_first zero first second x = refl
    set_first (suc zero) first second x = refl
    set_first (suc (suc more)) first second x =
        let apart : (suc (suc more) == 0) ≡ false = grind (arith, nat_tests) in
        ap (λ (b : Bool). cond b x first) (sym apart)

    set_second : (name first second x : ℕ) → slice_index (slice_set (first ∷ second ∷ []) name x) 1 ≡ cond (name == 1) x second
    set_second zero first second x = refl
    set_second (suc zero) first second x = refl
    set_second (suc (suc more)) first second x =
        let apart : (suc (suc more) == 1) ≡ false = grind (arith, nat_tests) in
        ap (λ (b : Bool). cond b x second) (sym apart)

    module _ (fetch : Fetch) (name times align : ℕ) (later : List Opt) where
      abbrev o : Opt
      o = opt.ByteExtract fetch name times align

      abbrev counts : ℕ → Bool
      counts which = not (gives which o) && is_read which later

      -- what is kept of both names' values where it takes its number here and they had others
      left : ℕ → List ℕ → List ℕ
      left x others =
          cond (is_read 0 later) (cond (name == 0) x (slice_index others 0)) 0 ∷ cond (is_read 1 later) (cond (name == 1) x (slice_index others 1)) 0 ∷ []

      Others : List ℕ → Type 0
      Others others = (x : ℕ) × (y : ℕ) × IsOther (counts 0) 0 x × IsOther (counts 1) 1 y × (others ≡ x ∷ y ∷ [])

      at_place_with : ℕ → List ℕ → Point
      at_place_with from others = point (left (number_at payload fetch times align from) others) (from + fetch.bytes)

      left_is : (first second x : ℕ) → kept_values later (slice_set (first ∷ second ∷ []) name x) ≡ left x (cond (counts 0) first 0 ∷ cond (counts 1) second 0 ∷ [])
      unfolding left
      left_is first second x =
          ap (λ (v : ℕ). cond (is_read 0 later) v 0 ∷ kept_value later (slice_set (first ∷ second ∷ []) name x) 1 ∷ []) (set_first name first second x)
          ∙ ap (λ (v : ℕ). cond (is_read 0 later) (cond (name == 0) x first) 0 ∷ cond (is_read 1 later) v 0 ∷ []) (set_second name first second x)
          ∙ ap (λ (v : ℕ). v ∷ cond (is_read 1 later) (cond (name == 1) x second) 0 ∷ []) (kept_same (is_read 0 later) (name == 0) x first)
          ∙ ap (λ (v : ℕ). cond (is_read 0 later) (cond (name == 0) x (cond (counts 0) first 0)) 0 ∷ v ∷ []) (kept_same (is_read 1 later) (name == 1) x second)

      Placed : Point → Type 0
      Placed s = (from : ℕ) × (others : List ℕ) × Begins payload fetch from × Others others × (s ≡ at_place_with from others)

      after_placed : (s : Point) → IsAfterOne o later s → Placed s
      unfolding IsAfterOne Placed Others at_place_with number_at number_in Leads
      after_placed s following =
          let before = following.1 in
          let had = following.3 in
          let leads = following.4 in
          let got = is_fetched payload fetch before leads.0 leads.1 in
          let x = rounded_up align (leads.0.number * times) in
          let number : number_at payload fetch times align got.from ≡ x = ap (λ (n : ℕ). rounded_up align (n * times)) got.number in
          let others = cond (counts 0) had.first 0 ∷ cond (counts 1) had.second 0 ∷ [] in
          let values = ap (λ (t : Point). t.values) leads.2 ∙ ap (λ (v : List ℕ). slice_set v name x) had.are in
          let place = ap (λ (t : Point). t.place) leads.2 ∙ got.stop in (
            got.from,
            others,
            got.begins,
            (cond (counts 0) had.first 0, cond (counts 1) had.second 0, is_other 0 had.first (counts 0) had.one, is_other 1 had.second (counts 1) had.other, refl),
            following.5 ∙ ap (λ (v : List ℕ). point (kept_values later v) following.2.place) values
                ∙ ap (λ (v : List ℕ). point v following.2.place) (left_is had.first had.second x)
                ∙ ap (λ (p : ℕ). point (left x others) p) place
                ∙ ap (λ (n : ℕ). point (left n others) (got.from + fetch.bytes)) (sym number),
          )

      few_placed : All (λ byte. byte < 256) payload
          → Few Point
          (place_count o (length payload) *
          (other_count 0 o later all (length payload) * other_count 1 o later all (length payload)))
          (IsAfterOne o later)
      unfolding Placed Others
      few_placed bytes =
          let places = place_count o (length payload) in
          let one = other_count 0 o later all (length payload) in
          let other = other_count 1 o later all (length payload) in
          few_weaker Point (places * (one * other)) (places * (one * other)) Placed (IsAfterOne o later) (omega arith) after_placed
          (few_pairs ℕ (Begins payload fetch) (List ℕ) Point at_place_with places (one * other) Others (few_places payload fetch name times align)
          (few_pairs ℕ (IsOther (counts 0) 0) ℕ (List ℕ) (λ x y. x ∷ y ∷ []) one other (IsOther (counts 1) 1) (few_others bytes 0 (counts 0)) (few_others bytes 1 (counts 1))))

    few_after_one : All (λ byte. byte < 256) payload
        → (o : Opt) (later : List Opt)
        → Few Point
        (place_count o (length payload) *
        (other_count 0 o later all (length payload) * other_count 1 o later all (length payload)))
        (IsAfterOne o later)
    unfolding IsAfterOne
    few_after_one bytes (opt.ByteExtract fetch name times align) later = few_placed fetch name times align later bytes
    few_after_one bytes o later =
        few_as Point (IsAfterOne o later) 0
        (0 * (other_count 0 o later all (length payload) * other_count 1 o later all (length payload)))
        (omega arith)
        (few_none Point (IsAfterOne o later) (λ s following. false≢true following.0))

    few_after : All (λ byte. byte < 256) payload → (options : List Opt) → Few Point (points_after all options (length payload)) (IsAfter options)
    unfolding IsAfter
    few_after bytes [] = few_none Point (λ s. ⊥) (λ s never. never)
    few_after bytes (o ∷ os) =
        few_or Point
        (place_count o (length payload) * (other_count 0 o os all (length payload) * other_count 1 o os all (length payload)))
        (points_after all os (length payload)) (IsAfterOne o os) (IsAfter os) (few_after_one bytes o os) (few_after bytes os)

    -- ---- all of it

    has_values : (lists : List (List ℕ)) (listed : List Point) (options : List Opt) → ((o : Opt) → Contains options o → Contains all o)
        → ((v : List ℕ) → IsKept options v → Contains lists v) → ((s : Point) → IsAfter options s → Contains listed s)
        → (before : Point) → AreValues before.values → HasValues means payload lists (Some listed) options before
    unfolding IsKept IsAfter IsAfterOne
    has_values lists listed [] among kept following before had = tt
    has_values lists listed (o ∷ os) among kept following before had = λ after leads.
        let next = values_next means o (among o (is_head o os o refl)) before after had leads in (
          kept (kept_values os after.values) (inl (after.values, next, refl)),
          λ extracts. following (point (kept_values os after.values) after.place) (inl (extracts, before, after, had, leads, refl)),
          has_values lists listed os (λ p has. among p (is_after o os p has)) (λ v later. kept v (inr later)) (λ s later. following s (inr later)) after next,
        )

pub values_few : (means : Means) (payload : List ℕ) (options : List Opt) → All (λ byte. byte < 256) payload
    → (lists : List (List ℕ)) × (listed : List Point) × HasEachValueList means payload options lists (Some listed)
    × (length lists ≤ list_count options (length payload)) × (length listed ≤ point_count options (length payload))
unfolding point_count
values_few means payload options bytes =
    let lists = few_lists payload options bytes in
    let listed = few_after payload options means bytes options in (
      lists.items,
      listed.items,
      (
        lists.has start.values (start_kept payload options options),
        has_values payload options means lists.items listed.items options (λ o has. has) lists.has listed.has start (start_values payload options),
      ),
      lists.few,
      listed.few,
    )
