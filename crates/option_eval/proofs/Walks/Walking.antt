-- Ways through options, one option at a time.
use Rattle.std.proofs.Common.{◌≡◌, ℕ, zero, suc, ◌+◌, ◌-◌, ◌*◌, ◌<◌, ◌≤◌, ⊎_elim, Bool, true, false, ◌&&◌, ◌||◌, cond, List, []}
use Rattle.std.proofs.Common.{◌∷◌, length, take, drop, get_or, slice_set, Option, Some, None, IsTrue, IfOk, Result, ◌==◌}
use Rattle.std.proofs.Common.{MatchBool, Contains, refl, sym, ap, subst, ◌∙◌, arith}
use Rattle.std.specs.List.{AllZip, count_by}
use Rattle.std.proofs.lemmas.Bool.{false≢true}
use Rattle.std.proofs.lemmas.List.{take_all}
use Rattle.std.proofs.lemmas.List.Elements.{Contains-get_or}
use Rattle.std.proofs.lemmas.List.Sums.{sum_by-cons}
use Rattle.edge_io.specs.declared.fault.NoMemory.{NoMemory}
use Rattle.edge_io.specs.declared.pattern.Span.{Span}
use Rattle.rule_types.specs.declared.option.Fetch.{Fetch}
use Rattle.rule_types.specs.declared.option.Opt.{Opt}
use Rattle.rule_types.specs.declared.option.Opt.TheVariants as opt
use Rattle.option_eval.specs.Kinds.{is_relative, is_test, needs_place}
use Rattle.option_eval.specs.Numbers.{Point, Fetched, fetched, rounded_up}
use Rattle.option_eval.specs.Places.{Means, Leads, IsFoundAt, Sought, is_only, sought, is_payload_option, is_extract, at_place}
use Rattle.option_eval.specs.Sets.{LeadsFrom, IsLedTo, IsGot, Gathers, point}
use Rattle.option_eval.specs.Walks.{MatchesFrom, MatchesFromOne, ExtractsNothing, visits_of}
use Rattle.option_eval.proofs.Sets.Rising.{contains_cases, contains_first}
use Rattle.option_eval.proofs.Sets.Asking.{later_of}
use Rattle.option_eval.proofs.Walks.Staying.{test_stays, test_free, fetched_free, sought_free}

-- the first option of some, and those after it
pub after_the_first : {X : Type 0} (xs : List X) (x : X) → 1 ≤ length xs → x ≡ get_or xs 0 x → xs ≡ x ∷ take (length xs - 1) (drop 1 xs)
after_the_first [] x some is = absurd (omega arith)
after_the_first (y ∷ xs) x some is = ap (λ z. z ∷ xs) (sym is) ∙ ap (λ zs. x ∷ zs) (sym (take_all (length (y ∷ xs) - 1) xs (omega arith)))

-- where no option is left, some way leads through from any place
pub passed_none : (means : Means) (payload : List ℕ) (options : List Opt) (values places : List ℕ) → length options < 1 → 0 < length places → MatchesFromOne means payload options values places
passed_none means payload (o ∷ os) values places empty some = absurd (omega arith)
passed_none means payload [] values [] empty some = absurd (omega arith)
passed_none means payload [] values (p ∷ places) empty some = (p, contains_first p places, ([], tt))

module _ (means : Means) (payload : List ℕ) where
  pub way_next : (o : Opt) (os : List Opt) (s : Point) → MatchesFrom means payload (o ∷ os) s → (t : Point) × Leads means payload o s t × MatchesFrom means payload os t
  way_next o os s ([], way) = absurd way
  way_next o os s (t ∷ later, way) = (t, way.0, (later, way.1))

  pub next_way : (o : Opt) (os : List Opt) (s t : Point) → Leads means payload o s t → MatchesFrom means payload os t → MatchesFrom means payload (o ∷ os) s
  next_way o os s t leads m = (t ∷ m.0, (leads, m.1))

  content_values : (negated only : Bool) (A : Type 0) (B : ℕ → Type 0) (s t : Point) (size : ℕ)
      → MatchBool negated (A × (t ≡ s)) ((i : ℕ) × B i × (t ≡ cond only s (at_place s (i + size))))
      → t.values ≡ s.values
  content_values true only A B s t size h = ap (λ (x : Point). x.values) h.1
  content_values false true A B s t size h = ap (λ (x : Point). x.values) h.2
  content_values false false A B s t size h = ap (λ (x : Point). x.values) h.2

  pattern_values : (negated : Bool) (A : Type 0) (B : Span → Type 0) (s t : Point) (from : ℕ)
      → MatchBool negated (A × (t ≡ s)) ((span : Span) × B span × (t ≡ at_place s (from + span.end)))
      → t.values ≡ s.values
  pattern_values true A B s t from h = ap (λ (x : Point). x.values) h.1
  pattern_values false A B s t from h = ap (λ (x : Point). x.values) h.2

  -- an option other than an extraction leaves the values
  pub values_kept : (o : Opt) (s t : Point) → is_extract o ≡ false → Leads means payload o s t → t.values ≡ s.values
  unfolding Leads
  values_kept (opt.Content content) s t plain h =
      content_values content.negated (is_only content.fast) ((i : ℕ) → ¬ IsFoundAt content.bytes payload (sought content s) i)
      (λ i. IsFoundAt content.bytes payload (sought content s) i) s t
      (length content.bytes) h
  values_kept (opt.Pcre text flags relative negated) s t plain h =
      pattern_values negated (means text flags (drop (cond relative s.place 0) payload) ≡ None)
      (λ span. means text flags (drop (cond relative s.place 0) payload) ≡ Some span) s t
      (cond relative s.place 0) h
  values_kept (opt.ByteTest fetch negated how value) s t plain h = ap (λ (x : Point). x.values) h.3
  values_kept (opt.ByteJump fetch times align beginning post) s t plain h = h.2
  values_kept (opt.ByteExtract fetch name times align) s t plain h = absurd (false≢true (sym plain))
  values_kept (opt.IsDataAt at relative negated) s t plain h = ap (λ (x : Point). x.values) h.1
  values_kept _ s t plain h = ap (λ (x : Point). x.values) h

  leads_from : (o : Opt) (values : List ℕ) (p : ℕ) (t : Point) → is_extract o ≡ false → Leads means payload o (point values p) t → t ≡ point values t.place
  leads_from o values p t plain h = ap (λ (vs : List ℕ). point vs t.place) (values_kept o (point values p) t plain h)

  content_move : (negated only : Bool) (A A' : Type 0) (B B' : ℕ → Type 0) (values : List ℕ) (p p' size : ℕ) (t : Point) → ((i : ℕ) → B i → B' i) → (negated || only) ≡ false
      → MatchBool negated A ((i : ℕ) × B i × (t ≡ cond only (point values p) (at_place (point values p) (i + size))))
      → MatchBool negated A' ((i : ℕ) × B' i × (t ≡ cond only (point values p') (at_place (point values p') (i + size))))
  content_move true only A A' B B' values p p' size t up moves h = absurd (false≢true (sym moves))
  content_move false true A A' B B' values p p' size t up moves h = absurd (false≢true (sym moves))
  content_move false false A A' B B' values p p' size t up moves h = (h.0, up h.0 h.1, h.2)

  pattern_move : (finds : List ℕ → Option Span) (relative negated : Bool) (A A' : Type 0) (values : List ℕ) (p p' : ℕ) (t : Point) → negated ≡ false → relative ≡ false
      → MatchBool negated A ((span : Span) × (finds (drop (cond relative p 0) payload) ≡ Some span) × (t ≡ at_place (point values p) (cond relative p 0 + span.end)))
      → MatchBool negated A' ((span : Span) × (finds (drop (cond relative p' 0) payload) ≡ Some span) × (t ≡ at_place (point values p') (cond relative p' 0 + span.end)))
  pattern_move finds relative true A A' values p p' t plain free h = absurd (false≢true (sym plain))
  pattern_move finds true false A A' values p p' t plain free h = absurd (false≢true (sym free))
  pattern_move finds false false A A' values p p' t plain free h = (h.0, h.1, h.2)

  -- what isn't a test and isn't relative leads from each place to the same
  pub move_free : (o : Opt) (values : List ℕ) (p p' : ℕ) (t : Point) → is_test o ≡ false → is_relative o ≡ false → Leads means payload o (point values p) t → Leads means payload o (point values p') t
  unfolding Leads
  move_free (opt.Content content) values p p' t moves free h =
      content_move content.negated (is_only content.fast) _ _
      (λ i. IsFoundAt content.bytes payload (sought content (point values p)) i)
      (λ i. IsFoundAt content.bytes payload (sought content (point values p')) i) values p p'
      (length content.bytes) t
      (λ i here. subst (λ (how : Sought). IsFoundAt content.bytes payload how i) (sought_free content values p p' free) here)
      moves h
  move_free (opt.Pcre text flags relative negated) values p p' t moves free h = pattern_move (means text flags) relative negated _ _ values p p' t moves free h
  move_free (opt.ByteJump fetch times align beginning post) values p p' t moves free h = (h.0, fetched_free payload values fetch p' p free ∙ h.1, h.2, h.3, h.4)
  move_free (opt.ByteExtract fetch name times align) values p p' t moves free h = (h.0, fetched_free payload values fetch p' p free ∙ h.1, h.2)
  move_free _ values p p' t moves free h = absurd (false≢true (sym moves))

  test_plain : (o : Opt) → is_test o ≡ true → is_extract o ≡ false
  test_plain (opt.ByteExtract fetch name times align) test = absurd (false≢true test)
  test_plain _ test = refl

  or_false : (a b : Bool) → (a || b) ≡ false → (a ≡ false) × (b ≡ false)
  or_false true b h = absurd (false≢true (sym h))
  or_false false b h = (refl, h)

  -- where no option needs a place, any place serves
  any_place : (os : List Opt) (values : List ℕ) (p p' : ℕ) → needs_place os ≡ false → MatchesFrom means payload os (point values p) → MatchesFrom means payload os (point values p')
  any_place [] values p p' free m = ([], tt)
  any_place (o ∷ os) values p p' free m =
      let both = or_false (is_relative o) (is_test o && needs_place os) free in
      let next = way_next o os (point values p) m in
      step (is_test o) refl both.1 both.0 next.0 next.1 next.2 (any_place os values p p')
    where
      step : (test : Bool) → test ≡ is_test o → (test && needs_place os) ≡ false → is_relative o ≡ false → (t : Point) → Leads means payload o (point values p) t → MatchesFrom means payload os t
          → (needs_place os ≡ false → MatchesFrom means payload os (point values p) → MatchesFrom means payload os (point values p')) → MatchesFrom means payload (o ∷ os) (point values p')
      step false is rest fixed t leads on again = next_way o os (point values p') t (move_free o values p p' t (sym is) fixed leads) on
      step true is rest fixed t leads on again =
          let from = leads_from o values p t (test_plain o (sym is)) leads in
          let there = subst (λ (s : Point). Leads means payload o (point values p) s) from leads in
          let same = test_stays means payload values o (sym is) p t.place there in
          let here = subst (λ (q : ℕ). LeadsFrom means payload values o p q) same there in
          let back : t ≡ point values p = from ∙ ap (point values) same in
          next_way o os (point values p') (point values p') (test_free means payload values o (sym is) fixed p p' here) (again rest (subst (λ (s : Point). MatchesFrom means payload os s) back on))

  module _ (o : Opt) (os : List Opt) (values places next : List ℕ) (plain : is_extract o ≡ false) where
    -- the places after an option serve in its stead
    pub walk_step : Gathers (needs_place os) (IsLedTo (LeadsFrom means payload values o) places) next
        → (MatchesFromOne means payload (o ∷ os) values places → MatchesFromOne means payload os values next) ×
        (MatchesFromOne means payload os values next → MatchesFromOne means payload (o ∷ os) values places)
    walk_step found = (
      λ m.
          let next_t = way_next o os (point values m.0) m.2 in
          let t = next_t.0 in
          let is = leads_from o values m.0 t plain next_t.1 in
          let there = subst (λ (s : Point). Leads means payload o (point values m.0) s) is next_t.1 in
          let on = subst (λ (s : Point). MatchesFrom means payload os s) is next_t.2 in
          goes (needs_place os) refl t.place on (found.complete t.place (m.0, m.1, there)),
      λ m.
          let from = found.sound m.0 m.1 in
          (from.0, from.1, next_way o os (point values from.0) (point values m.0) from.2 m.2),
    ) where
      goes : (every : Bool) → every ≡ needs_place os → (q : ℕ) → MatchesFrom means payload os (point values q) → IsGot every next q → MatchesFromOne means payload os values next
      goes true is q on got = (q, got, on)
      goes false is q on got =
          let head = Contains-get_or next 0 0 got in
          (get_or next 0 0, head, any_place os values q (get_or next 0 0) (sym is) on)

  -- where no place is left, no way leads through
  pub passed_nowhere : (os : List Opt) (values places : List ℕ) → length places ≡ 0 → ¬ MatchesFromOne means payload os values places
  passed_nowhere os values places empty m = omega (arith, m.1.1)

  module _ (fetch : Fetch) (name times align : ℕ) (os : List Opt) (values : List ℕ) (place : ℕ) where
    pub extract_none : None ≡ fetched payload fetch (point values place) → ¬ MatchesFrom means payload (opt.ByteExtract fetch name times align ∷ os) (point values place)
    unfolding Leads
    extract_none none m =
        let next = way_next (opt.ByteExtract fetch name times align) os (point values place) m in
        let e = next.1.1 in
        cc

    pub extract_some : (read : Fetched) (after : List ℕ) → Some read ≡ fetched payload fetch (point values place) → after ≡ slice_set values name (rounded_up align (read.number * times))
        → (MatchesFrom means payload (opt.ByteExtract fetch name times align ∷ os) (point values place) → MatchesFromOne means payload os after (read.stop ∷ []))
        × (MatchesFromOne means payload os after (read.stop ∷ []) → MatchesFrom means payload (opt.ByteExtract fetch name times align ∷ os) (point values place))
    unfolding Leads
    extract_some read after some is = (
      λ m.
          let next = way_next (opt.ByteExtract fetch name times align) os (point values place) m in
          let e = next.1.1 in
          let same : next.1.0 ≡ read = cc in
          let there : next.0 ≡ point after read.stop =
          next.1.2 ∙ ap (λ (r : Fetched). point (slice_set values name (rounded_up align (r.number * times))) r.stop) same ∙ ap (λ (vs : List ℕ). point vs read.stop) (sym is) in
          (read.stop, contains_first read.stop [], subst (λ (s : Point). MatchesFrom means payload os s) there next.2),
      λ m.
          let at : m.0 ≡ read.stop = ⊎_elim (λ (same : m.0 ≡ read.stop). same) (λ (after_it : Contains [] m.0). absurd (omega (arith, after_it.1))) (contains_cases read.stop [] m.0 m.1) in
          next_way (opt.ByteExtract fetch name times align) os (point values place) (point after m.0)
          (read, sym some, ap (λ (q : ℕ). point after q) at ∙ ap (λ (vs : List ℕ). point vs read.stop) is) m.2,
    )

-- the bound on visits, an option at a time
pub visits_next : (o : Opt) (os : List Opt) (size : ℕ) → cond (is_payload_option o) (size + 1) 0 + visits_of os size ≡ visits_of (o ∷ os) size
visits_next o os size = step (is_payload_option o) (count_by is_payload_option os) ∙ ap (λ (n : ℕ). n * (size + 1)) (sym (sum_by-cons (λ (x : Opt). cond (is_payload_option x) 1 0) o os))
  where
    step : (b : Bool) (count : ℕ) → cond b (size + 1) 0 + count * (size + 1) ≡ (cond b 1 0 + count) * (size + 1)
    step true count = omega arith
    step false count = omega arith

-- what serves the options after the first, and what they mean
pub ready_after : {X Y : Type 0} (R : X → Y → Type 0) (xs xs' : List X) (ys ys' : List Y) (x : X) (y : Y) → xs ≡ x ∷ xs' → ys ≡ y ∷ ys' → AllZip R xs ys → R x y × AllZip R xs' ys'
ready_after R xs xs' ys ys' x y is-x is-y h =
    let first = subst (λ zs. AllZip R zs ys) is-x h in
    subst (λ zs. AllZip R (x ∷ xs') zs) is-y first

-- nothing serves some options
pub ready_none : {X Y : Type 0} (R : X → Y → Type 0) (xs : List X) (ys : List Y) → AllZip R xs ys → 1 ≤ length xs → length ys < 1 → ⊥
ready_none R [] ys h some empty = omega arith
ready_none R (x ∷ xs) [] h some empty = h
ready_none R (x ∷ xs) (y ∷ ys) h some empty = omega arith

-- what is left of the places that were asked
pub extracts_nothing : (options options' : List Opt) (o : Opt) → options ≡ o ∷ options' → ExtractsNothing options → (is_extract o ≡ false) × ExtractsNothing options'
extracts_nothing options options' o is h = subst (λ (os : List Opt). ExtractsNothing os) is h

-- a place that isn't the first is after it
pub left_next : (rest : List ℕ) (p : ℕ) → 1 ≤ length rest → Contains rest p → (p ≡ get_or rest 0 0 → ⊥) → Contains (take (length rest - 1) (drop 1 rest)) p
left_next [] p some has other = absurd (omega arith)
left_next (x ∷ rest) p some has other =
    ⊎_elim (λ (same : p ≡ x). absurd (other same)) (λ (after : Contains rest p). subst (λ (xs : List ℕ). Contains xs p) (sym (later_of x rest)) after) (contains_cases x rest p has)

-- the answer for these options, where they are the same
pub passed_as : (means : Means) (payload : List ℕ) (xs ys : List Opt) (values places : List ℕ) (r : Result Bool NoMemory) → xs ≡ ys
    → IfOk r (λ passed. (IsTrue passed → MatchesFromOne means payload ys values places) × (MatchesFromOne means payload ys values places → IsTrue passed))
    → IfOk r (λ passed. (IsTrue passed → MatchesFromOne means payload xs values places) × (MatchesFromOne means payload xs values places → IsTrue passed))
passed_as means payload xs ys values places r same h =
    subst (λ (zs : List Opt). IfOk r (λ passed. (IsTrue passed → MatchesFromOne means payload zs values places) × (MatchesFromOne means payload zs values places → IsTrue passed))) (sym same) h

pub nonzero : (n : ℕ) → (n == 0) ≡ false → 0 < n
nonzero zero h = absurd (false≢true (sym h))
nonzero (suc n) h = omega arith

pub not_extract : (o : Opt) → ((fetch : Fetch) (name times align : ℕ) → o ≡ opt.ByteExtract fetch name times align → ⊥) → is_extract o ≡ false
not_extract (opt.ByteExtract fetch name times align) other = absurd (other fetch name times align refl)
not_extract _ other = refl
