-- Values that no later option reads make no difference.
use Rattle.std.proofs.Common.{◌≡◌, ℕ, zero, suc, ◌+◌, ◌*◌, ◌<◌, ◌≤◌, ⊎_elim, ℤ, pos, ◌+ℤ◌, ◌<ℤ◌, Bool, true, false, not, ◌&&◌}
use Rattle.std.proofs.Common.{◌||◌, ◌==◌, cond, List, [], ◌∷◌, length, drop, Option, Some, None, MatchBool, Contains, slice_index}
use Rattle.std.proofs.Common.{slice_set, refl, sym, ap, subst, ◌∙◌, arith, option_map, unwrap_or}
use Rattle.std.proofs.lemmas.Bool.{false≢true, eqb-true, cases_lt}
use Rattle.std.proofs.lemmas.Bool.Decides.{nat_tests}
use Rattle.std.proofs.lemmas.List.{get_or-set_same, get_or-set_other, length-set, get_or_past}
use Rattle.edge_io.specs.declared.pattern.Span.{Span}
use Rattle.rule_types.specs.declared.option.Content.{Content}
use Rattle.rule_types.specs.declared.option.Fetch.{Fetch}
use Rattle.rule_types.specs.declared.option.Num.{Num}
use Rattle.rule_types.specs.declared.option.Num.TheVariants as num
use Rattle.rule_types.specs.declared.option.Opt.{Opt}
use Rattle.rule_types.specs.declared.option.Opt.TheVariants as opt
use Rattle.option_eval.specs.Kept.{is_named, is_named_if, reads, gives, is_read, kept_value, kept_values}
use Rattle.option_eval.specs.Numbers.{Point, fetched, number_of, number_if, rounded_up}
use Rattle.option_eval.specs.Places.{Means, Leads, IsFoundAt, Sought, Unless, Compares, is_only, sought, is_extract, at_place}
use Rattle.option_eval.specs.Sets.{point}
use Rattle.option_eval.specs.Walks.{MatchesFrom, IsListed, HasValues}
use Rattle.option_eval.proofs.Walks.Walking.{way_next, next_way, values_kept}

-- two lists of values that the options can't tell apart
pub record Alike (options : List Opt) (vs ws : List ℕ) : Type 0 where
  pub size : length vs ≡ length ws
  pub same : (name : ℕ) → is_read name options ≡ true → slice_index vs name ≡ slice_index ws name

pub alike_sym : (options : List Opt) (vs ws : List ℕ) → Alike options vs ws → Alike options ws vs
alike_sym options vs ws h = record { size = sym h.size; same = λ name is. sym (h.same name is) }

or_left : (a b : Bool) → a ≡ true → (a || b) ≡ true
or_left true b is = refl
or_left false b is = absurd (false≢true is)

or_right : (a b : Bool) → b ≡ true → (a || b) ≡ true
or_right true b is = refl
or_right false b is = is

own_name : (name : ℕ) → (name == name) ≡ true
own_name name = grind (arith, nat_tests)

module _ (vs ws : List ℕ) where
  number_same : (number : Num) → ((name : ℕ) → is_named name number ≡ true → slice_index vs name ≡ slice_index ws name) → number_of vs number ≡ number_of ws number
  number_same (num.Value value) h = refl
  number_same (num.Name name) h = ap pos (h name (own_name name))

  number_if_same : (number : Option Num) → ((name : ℕ) → is_named_if name number ≡ true → slice_index vs name ≡ slice_index ws name) → number_if vs number ≡ number_if ws number
  number_if_same None h = refl
  number_if_same (Some number) h = ap Some (number_same number h)

abbrev sought_of : Bool → Bool → ℕ → Option ℤ → Option ℤ → Sought
sought_of only nocase origin from room =
    cond only (record { nocase = true; from = pos 0; until = None })
    (record { nocase = nocase; from = pos origin +ℤ unwrap_or from (pos 0); until = option_map (λ (room : ℤ). (pos origin +ℤ unwrap_or from (pos 0)) +ℤ room) room })

sought_same : (content : Content) (vs ws : List ℕ) (p : ℕ)
    → number_if vs content.from ≡ number_if ws content.from
    → number_if vs content.room ≡ number_if ws content.room
    → sought content (point vs p) ≡ sought content (point ws p)
sought_same content vs ws p from room =
    ap (λ (f : Option ℤ). sought_of (is_only content.fast) content.nocase (cond content.relative p 0) f (number_if vs content.room)) from
    ∙ ap (λ (r : Option ℤ). sought_of (is_only content.fast) content.nocase (cond content.relative p 0) (number_if ws content.from) r) room

fetched_same : (payload : List ℕ) (fetch : Fetch) (vs ws : List ℕ) (p : ℕ)
    → number_of vs fetch.offset ≡ number_of ws fetch.offset
    → fetched payload fetch (point vs p) ≡ fetched payload fetch (point ws p)
unfolding fetched
fetched_same payload fetch vs ws p same = rw same refl

module _ (vs ws : List ℕ) (p q : ℕ) where
  there : (x : ℕ) → point vs q ≡ point vs x → point ws q ≡ point ws x
  there x is = ap (point ws) (ap (λ (s : Point). s.place) is)

  content_alike : (negated only : Bool) (A B : ℕ → Type 0) (size : ℕ) → ((i : ℕ) → A i → B i) → ((i : ℕ) → B i → A i)
      → MatchBool negated (((i : ℕ) → ¬ A i) × (point vs q ≡ point vs p)) ((i : ℕ) × A i × (point vs q ≡ cond only (point vs p) (at_place (point vs p) (i + size))))
      → MatchBool negated (((i : ℕ) → ¬ B i) × (point ws q ≡ point ws p)) ((i : ℕ) × B i × (point ws q ≡ cond only (point ws p) (at_place (point ws p) (i + size))))
  content_alike true only A B size up down h = (λ i here. h.0 i (down i here), there p h.1)
  content_alike false true A B size up down h = (h.0, up h.0 h.1, there p h.2)
  content_alike false false A B size up down h = (h.0, up h.0 h.1, there (h.0 + size) h.2)

  pattern_alike : (negated : Bool) (A : Type 0) (B : Span → Type 0) (from : ℕ)
      → MatchBool negated (A × (point vs q ≡ point vs p)) ((span : Span) × B span × (point vs q ≡ at_place (point vs p) (from + span.end)))
      → MatchBool negated (A × (point ws q ≡ point ws p)) ((span : Span) × B span × (point ws q ≡ at_place (point ws p) (from + span.end)))
  pattern_alike true A B from h = (h.0, there p h.1)
  pattern_alike false A B from h = (h.0, h.1, there (from + h.0.end) h.2)

-- an option other than an extraction leads on alike
module _ (means : Means) (payload vs ws : List ℕ) (p q : ℕ) where
  pub plain_alike : (o : Opt)
      → is_extract o ≡ false
      → ((name : ℕ) → reads name o ≡ true → slice_index vs name ≡ slice_index ws name)
      → Leads means payload o (point vs p) (point vs q)
      → Leads means payload o (point ws p) (point ws q)
  unfolding Leads
  plain_alike (opt.Content content) plain same h =
      let from =
      number_if_same vs ws content.from
      (λ name is. same name (or_left (is_named_if name content.from) (is_named_if name content.room) is)) in
      let room =
      number_if_same vs ws content.room
      (λ name is. same name (or_right (is_named_if name content.from) (is_named_if name content.room) is)) in
      let how = sought_same content vs ws p from room in
      content_alike vs ws p q content.negated (is_only content.fast)
      (λ i. IsFoundAt content.bytes payload (sought content (point vs p)) i)
      (λ i. IsFoundAt content.bytes payload (sought content (point ws p)) i)
      (length content.bytes)
      (λ i here. subst (λ (how : Sought). IsFoundAt content.bytes payload how i) how here)
      (λ i here. subst (λ (how : Sought). IsFoundAt content.bytes payload how i) (sym how) here)
      h
  plain_alike (opt.Pcre text flags relative negated) plain same h =
      pattern_alike vs ws p q negated (means text flags (drop (cond relative p 0) payload) ≡ None) (λ span. means text flags (drop (cond relative p 0) payload) ≡ Some span) (cond relative p 0) h
  plain_alike (opt.ByteTest fetch negated how value) plain same h =
      let offset = number_same vs ws fetch.offset (λ name is. same name (or_left (is_named name fetch.offset) (is_named name value) is)) in
      let with = number_same vs ws value (λ name is. same name (or_right (is_named name fetch.offset) (is_named name value) is)) in
      (h.0, sym (fetched_same payload fetch vs ws p offset) ∙ h.1, subst (λ (v : ℤ). Unless negated (Compares how h.0.number v)) with h.2, there vs ws p q p h.3)
  plain_alike (opt.ByteJump fetch times align beginning post) plain same h =
      let offset = number_same vs ws fetch.offset same in
      (h.0, sym (fetched_same payload fetch vs ws p offset) ∙ h.1, refl, h.3, h.4)
  plain_alike (opt.ByteExtract fetch name times align) plain same h = absurd (false≢true (sym plain))
  plain_alike (opt.IsDataAt at relative negated) plain same h =
      let number = number_same vs ws at same in
      (subst (λ (v : ℤ). Unless negated ((pos (cond relative p 0) +ℤ v) <ℤ pos (length payload))) number h.0, there vs ws p q p h.1)
  plain_alike _ plain same h = there vs ws p q p h

-- the values after an extraction
after_gives : (name given : ℕ) (vs ws : List ℕ) (x : ℕ) → length vs ≡ length ws → (b : Bool) → b ≡ (given == name) → (b ≡ false → slice_index vs name ≡ slice_index ws name)
    → slice_index (slice_set vs given x) name ≡ slice_index (slice_set ws given x) name
after_gives name given vs ws x size false is other =
    let apart : name ≡ given → ⊥ = λ same. false≢true (is ∙ (subst (λ (n : ℕ). (given == n) ≡ true) (sym same) (own_name given))) in
    get_or-set_other vs given name x 0 apart ∙ other refl ∙ sym (get_or-set_other ws given name x 0 apart)
after_gives name given vs ws x size true is other =
    let same : given ≡ name = eqb-true given name (sym is) in
    subst (λ (g : ℕ). slice_index (slice_set vs g x) name ≡ slice_index (slice_set ws g x) name) (sym same) (⊎_elim
    (λ (below : name < length vs). get_or-set_same vs name x 0 below ∙ sym (get_or-set_same ws name x 0 (omega arith)))
    (λ (past : length vs ≤ name).
    get_or_past (slice_set vs name x) name 0 (omega (arith, length-set vs name x)) ∙ sym (get_or_past (slice_set ws name x) name 0 (omega (arith, length-set ws name x))))
    (cases_lt name (length vs)))

-- two lists whose values are the same where they are still read: the same is kept of both
kept_same : (b : Bool) (x y : ℕ) → (b ≡ true → x ≡ y) → cond b x 0 ≡ cond b y 0
kept_same true x y h = h refl
kept_same false x y h = refl

pub kept_alike : (options : List Opt) (vs ws : List ℕ) → Alike options vs ws → kept_values options vs ≡ kept_values options ws
kept_alike options vs ws h =
    ap (λ (x : ℕ). x ∷ kept_value options vs 1 ∷ []) (kept_same (is_read 0 options) (slice_index vs 0) (slice_index ws 0) (h.same 0))
    ∙ ap (λ (x : ℕ). kept_value options ws 0 ∷ x ∷ []) (kept_same (is_read 1 options) (slice_index vs 1) (slice_index ws 1) (h.same 1))

kept_read : (b : Bool) (x : ℕ) → b ≡ true → x ≡ cond b x 0
kept_read true x is = refl
kept_read false x is = absurd (false≢true is)

-- a list of values is alike with what is kept of it
pub alike_kept : (options : List Opt) (vs : List ℕ) → length vs ≡ 2 → Alike options vs (kept_values options vs)
alike_kept options vs two = record { size = two; same = λ name is. at name is }
  where
    at : (name : ℕ) → is_read name options ≡ true → slice_index vs name ≡ slice_index (kept_values options vs) name
    at zero is = kept_read (is_read 0 options) (slice_index vs 0) is
    at (suc zero) is = kept_read (is_read 1 options) (slice_index vs 1) is
    at (suc (suc more)) is = get_or_past vs (suc (suc more)) 0 (omega arith)

plain_gives : (o : Opt) → is_extract o ≡ false → (name : ℕ) → gives name o ≡ false
plain_gives (opt.ByteExtract fetch given times align) plain name = absurd (false≢true (sym plain))
plain_gives _ plain name = refl

module _ (means : Means) (payload : List ℕ) where
  module _ (os : List Opt) (vs ws : List ℕ) (p : ℕ) where
    reads_same : (o : Opt) → Alike (o ∷ os) vs ws → (name : ℕ) → reads name o ≡ true → slice_index vs name ≡ slice_index ws name
    reads_same o alike name is = alike.same name (or_left (reads name o) (not (gives name o) && is_read name os) is)

    later_same : (o : Opt) → Alike (o ∷ os) vs ws → (name : ℕ) → gives name o ≡ false → is_read name os ≡ true → slice_index vs name ≡ slice_index ws name
    later_same o alike name given is = alike.same name (or_right (reads name o) (not (gives name o) && is_read name os) (subst (λ (b : Bool). (not b && is_read name os) ≡ true) (sym given) is))

    -- a point to which the option leads just as well, and which the options after it can't tell apart
    abbrev LeadsAlike : Opt → Point → Type 0
    LeadsAlike o t = (t' : Point) × Leads means payload o (point ws p) t' × (t'.place ≡ t.place) × Alike os t.values t'.values

    extract_alike : (fetch : Fetch) (given times align : ℕ) (t : Point)
        → Alike (opt.ByteExtract fetch given times align ∷ os) vs ws
        → Leads means payload (opt.ByteExtract fetch given times align) (point vs p) t
        → LeadsAlike (opt.ByteExtract fetch given times align) t
    unfolding Leads
    extract_alike fetch given times align t alike h =
        let offset = number_same vs ws fetch.offset (reads_same (opt.ByteExtract fetch given times align) alike) in
        let x = rounded_up align (h.0.number * times) in
        let values_are : t.values ≡ slice_set vs given x = ap (λ (s : Point). s.values) h.2 in (
          record { place = h.0.stop; values = slice_set ws given x },
          (h.0, sym (fetched_same payload fetch vs ws p offset) ∙ h.1, refl),
          ap (λ (s : Point). s.place) (sym h.2),
          subst (λ (v : List ℕ). Alike os v (slice_set ws given x)) (sym values_are) (record {
            size = length-set vs given x ∙ alike.size ∙ sym (length-set ws given x);
            same = λ name is. after_gives name given vs ws x alike.size (given == name) refl (λ other. later_same (opt.ByteExtract fetch given times align) alike name other is);
          }),
        )

    plain_leads : (o : Opt) → is_extract o ≡ false → (t : Point) → Alike (o ∷ os) vs ws → Leads means payload o (point vs p) t → LeadsAlike o t
    plain_leads o plain t alike h =
        let values_are = values_kept means payload o (point vs p) t plain h in
        let there = subst (λ (s : Point). Leads means payload o (point vs p) s) (ap (λ (v : List ℕ). point v t.place) values_are) h in (
          point ws t.place,
          plain_alike means payload vs ws p t.place o plain (reads_same o alike) there,
          refl,
          subst (λ (v : List ℕ). Alike os v ws) (sym values_are) (record { size = alike.size; same = λ name is. later_same o alike name (plain_gives o plain name) is }),
        )

    -- lists that the options can't tell apart lead on to such
    pub leads_alike : (o : Opt) (t : Point) → Alike (o ∷ os) vs ws → Leads means payload o (point vs p) t → LeadsAlike o t
    leads_alike (opt.ByteExtract fetch given times align) t alike h = extract_alike fetch given times align t alike h
    leads_alike o t alike h = plain_leads o refl t alike h

  pub matches_alike : (os : List Opt) (vs ws : List ℕ) (p : ℕ) → Alike os vs ws → MatchesFrom means payload os (point vs p) → MatchesFrom means payload os (point ws p)
  matches_alike [] vs ws p alike m = ([], tt)
  matches_alike (o ∷ os) vs ws p alike m =
      let next = way_next means payload o os (point vs p) m in
      let on = leads_alike os vs ws p o next.0 alike next.1 in
      let there : MatchesFrom means payload os (point on.0.values next.0.place) = matches_alike os next.0.values on.0.values next.0.place on.3 next.2 in
      next_way means payload o os (point ws p) on.0 on.1 (subst (λ (q : ℕ). MatchesFrom means payload os (point on.0.values q)) (sym on.2) there)

  pub has_values_alike : (lists : List (List ℕ)) (listed : Option (List Point)) (os : List Opt) (vs ws : List ℕ) (p : ℕ) → Alike os vs ws → HasValues means payload lists listed os (point vs p)
      → HasValues means payload lists listed os (point ws p)
  has_values_alike lists listed [] vs ws p alike h = tt
  has_values_alike lists listed (o ∷ os) vs ws p alike h = λ t' leads.
      let on = leads_alike os ws vs p o t' (alike_sym (o ∷ os) vs ws alike) leads in
      let t = on.0 in
      let back = alike_sym os t'.values t.values on.3 in
      let after = h t on.1 in
      let kept = kept_alike os t.values t'.values back in
      let there : HasValues means payload lists listed os (point t'.values t.place) = has_values_alike lists listed os t.values t'.values t.place back after.2 in (
        subst (λ (v : List ℕ). Contains lists v) kept after.0,
        λ extracts. subst (λ (q : ℕ). IsListed listed (kept_values os t'.values) q) on.2 (subst (λ (v : List ℕ). IsListed listed v t.place) kept (after.1 extracts)),
        subst (λ (q : ℕ). HasValues means payload lists listed os (point t'.values q)) on.2 there,
      )
