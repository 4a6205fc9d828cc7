-- The blocks that a list of ports has whole, and where ports lie.
use Rattle.std.proofs.Common.{◌≡◌, ℕ, zero, suc, ◌+◌, ◌-◌, ◌*◌, ◌^◌, ◌<◌, ◌≤◌, ◌==◌, Bool, true, false, not, ◌&&◌, ◌||◌, ltb, leb}
use Rattle.std.proofs.Common.{eqb, List, [], ◌∷◌, ◌++◌, get_or, All, sym, refl, ap, subst, ◌∙◌, arith, ⊎_elim}
use Rattle.std.specs.List.{list_any, list_all}
use Rattle.std.proofs.lemmas.Bool.{false≢true, leb-true, le-leb, lt-ltb, le-ltb, eqb-true, eq-eqb, ne_eqb, cond-true, cond-false}
use Rattle.std.proofs.lemmas.Bool.{and_parts, and_from, or_cases, or_left, or_right, not-true, not_from_false, cases_lt}
use Rattle.std.proofs.lemmas.Bool.{false_from_ne_true}
use Rattle.std.proofs.lemmas.List.{append-nil, append_assoc}
use Rattle.std.proofs.lemmas.List.Elements.{All-nil, All-append}
use Rattle.std.proofs.lemmas.List.Folds.{list_any-append, list_any_none}
use Rattle.std.proofs.lemmas.Nat.{pow_pos}
use Rattle.std.proofs.Math.Nat.{pow-suc}
use Rattle.net_lists.specs.declared.part.ValueBounds.{ValueBounds}
use Rattle.net_lists.specs.declared.part.Part.{Part}
use Rattle.net_lists.specs.Membership.{is_in, has_port}
use Rattle.fast_pattern.specs.Blocks.{number, half_with, lies_in, has_whole, meets, verdict, AddBlocks}

pub doubled : (bits : ℕ) → 2 ^ suc bits ≡ 2 * 2 ^ bits
doubled bits = omega (arith, pow-suc 2 bits)

-- lists that a test passes
any-wider : {X : Type 0} (p q : X → Bool) → ((x : X) → p x ≡ true → q x ≡ true) → (xs : List X) → list_any p xs ≡ true → list_any q xs ≡ true
any-wider p q wider [] e = e
any-wider p q wider (x ∷ xs) e = ⊎_elim
    (λ here. or_left (q x) (list_any q xs) (wider x here))
    (λ later. or_right (q x) (list_any q xs) (any-wider p q wider xs later))
    (or_cases (p x) (list_any p xs) e)

pub any-same : {X : Type 0} (p q : X → Bool) (xs : List X) → All (λ x. p x ≡ q x) xs → list_any p xs ≡ list_any q xs
any-same p q [] same = refl
any-same p q (x ∷ xs) same =
    ap (λ b. b || list_any p xs) (same 0 x (omega arith)) ∙ ap (λ b. q x || b) (any-same p q xs (λ k d h. same (suc k) d (omega arith)))

module _ (wanted barred wider fewer : Part (ValueBounds ℕ) → Bool)
    (more : (part : Part (ValueBounds ℕ)) → wanted part ≡ true → wider part ≡ true)
    (less : (part : Part (ValueBounds ℕ)) → fewer part ≡ true → barred part ≡ true) where
  wanted-more : (part : Part (ValueBounds ℕ)) → (not part.negated && wanted part) ≡ true → (not part.negated && wider part) ≡ true
  wanted-more part e = let parts = and_parts (not part.negated) (wanted part) e in and_from (not part.negated) (wider part) parts.0 (more part parts.1)

  barred-less : (part : Part (ValueBounds ℕ)) → (part.negated && fewer part) ≡ true → (part.negated && barred part) ≡ true
  barred-less part e = let parts = and_parts part.negated (fewer part) e in and_from part.negated (barred part) parts.0 (less part parts.1)

  verdict-wider : (parts : List (Part (ValueBounds ℕ))) → verdict wanted barred parts ≡ true → verdict wider fewer parts ≡ true
  unfolding verdict
  verdict-wider parts e =
      let some = list_any (λ part. not part.negated && wanted part) parts in
      let all = list_all (λ part. part.negated) parts in
      let none = list_any (λ part. part.negated && barred part) parts in
      let some_more = list_any (λ part. not part.negated && wider part) parts in
      let none_less = list_any (λ part. part.negated && fewer part) parts in
      let both = and_parts (some || all) (not none) e in
      and_from (some_more || all) (not none_less)
      (⊎_elim
      (λ a. or_left some_more all
      (any-wider (λ part. not part.negated && wanted part) (λ part. not part.negated && wider part) wanted-more parts a))
      (λ b. or_right some_more all b)
      (or_cases some all both.0))
      (not_from_false none_less
      (false_from_ne_true none_less
      (λ f. false≢true
      (sym (not-true none both.1) ∙
      any-wider (λ part. part.negated && fewer part) (λ part. part.negated && barred part) barred-less parts f))))

port-verdict : (port : ℕ) (parts : List (Part (ValueBounds ℕ))) → has_port parts port ≡ verdict (is_in port) (is_in port) parts
unfolding has_port verdict
port-verdict port parts = refl

module _ (low high port : ℕ) (from : low ≤ port) (to : port ≤ high) where
  whole-in : (part : Part (ValueBounds ℕ)) → has_whole low high part ≡ true → is_in port part ≡ true
  whole-in part e =
      let parts = and_parts (leb part.bounds.low low) (leb high part.bounds.high) e in
      and_from (leb part.bounds.low port) (leb port part.bounds.high)
      (le-leb part.bounds.low port (omega (arith, leb-true part.bounds.low low parts.0)))
      (le-leb port part.bounds.high (omega (arith, leb-true high part.bounds.high parts.1)))

  in-meets : (part : Part (ValueBounds ℕ)) → is_in port part ≡ true → meets low high part ≡ true
  in-meets part e =
      let parts = and_parts (leb part.bounds.low port) (leb port part.bounds.high) e in
      and_from (leb part.bounds.low high) (leb low part.bounds.high)
      (le-leb part.bounds.low high (omega (arith, leb-true part.bounds.low port parts.0)))
      (le-leb low part.bounds.high (omega (arith, leb-true port part.bounds.high parts.1)))

  pub all-listed : (parts : List (Part (ValueBounds ℕ))) → verdict (has_whole low high) (meets low high) parts ≡ true → has_port parts port ≡ true
  all-listed parts e = port-verdict port parts ∙ verdict-wider (has_whole low high) (meets low high) (is_in port) (is_in port) whole-in in-meets parts e

  pub none-listed : (parts : List (Part (ValueBounds ℕ))) → verdict (meets low high) (has_whole low high) parts ≡ false → has_port parts port ≡ false
  none-listed parts e =
      false_from_ne_true (has_port parts port)
      (λ f. false≢true
      (sym e ∙
      verdict-wider (is_in port) (is_in port) (meets low high) (has_whole low high) in-meets whole-in parts
      (sym (port-verdict port parts) ∙ f)))

-- a single port is had whole, or not at all
pub one-listed : (low : ℕ) (parts : List (Part (ValueBounds ℕ))) → verdict (has_whole low low) (meets low low) parts ≡ has_port parts low
unfolding has_port verdict
one-listed low parts = refl

-- the half of a block in which a port lies
pub half-low : (bits low port : ℕ) → port < low + 2 ^ bits → half_with bits low port ≡ low
half-low bits low port h = cond-true (ltb port (low + 2 ^ bits)) low (low + 2 ^ bits) (lt-ltb port (low + 2 ^ bits) h)

pub half-high : (bits low port : ℕ) → low + 2 ^ bits ≤ port → half_with bits low port ≡ low + 2 ^ bits
half-high bits low port h = cond-false (ltb port (low + 2 ^ bits)) low (low + 2 ^ bits) (le-ltb port (low + 2 ^ bits) h)

pub lies-more : (bits low port block : ℕ) → lies_in (suc bits) low port block ≡ ((block == number (suc bits) low) || lies_in bits (half_with bits low port) port block)
unfolding lies_in
lies-more bits low port block = refl

pub lies-one : (low port block : ℕ) → lies_in 0 low port block ≡ (block == number 0 low)
unfolding lies_in
lies-one low port block = refl

lies-own : (bits low port : ℕ) → lies_in bits low port (number bits low) ≡ true
lies-own zero low port = lies-one low port (number 0 low) ∙ eq-eqb (number 0 low) (number 0 low) refl
lies-own (suc bits) low port =
    lies-more bits low port (number (suc bits) low)
    ∙ or_left (eqb (number (suc bits) low) (number (suc bits) low)) (lies_in bits (half_with bits low port) port (number (suc bits) low)) (eq-eqb (number (suc bits) low) (number (suc bits) low) refl)

lies-within : (bits low port block : ℕ) → lies_in bits low port block ≡ true → (2 * low < block) × (block < 2 * low + 2 * 2 ^ bits)
lies-within zero low port block e =
    let is : block ≡ 2 * low + 2 ^ 0 = eqb-true block (number 0 low) (sym (lies-one low port block) ∙ e) in
    let p = pow_pos 0 in
    (omega (arith, is, p), omega (arith, is, p))
lies-within (suc bits) low port block e =
    let p = pow_pos bits in
    let d = doubled bits in
    ⊎_elim
    (λ own. let is : block ≡ 2 * low + 2 ^ suc bits = eqb-true block (number (suc bits) low) own in (omega (arith, is, p, d), omega (arith, is, p, d)))
    (λ deeper. ⊎_elim
    (λ below.
    let P : ℕ → Type 0 = λ half. lies_in bits half port block ≡ true in
    let w = lies-within bits low port block (subst P (half-low bits low port below) deeper) in
    (w.0, omega (arith, w.1, p, d)))
    (λ above.
    let P : ℕ → Type 0 = λ half. lies_in bits half port block ≡ true in
    let w = lies-within bits (low + 2 ^ bits) port block (subst P (half-high bits low port above) deeper) in
    (omega (arith, w.0, p, d), omega (arith, w.1, p, d)))
    (cases_lt port (low + 2 ^ bits)))
    (or_cases (block == number (suc bits) low) (lies_in bits (half_with bits low port) port block) (sym (lies-more bits low port block) ∙ e))

-- what a block adds
or-none : (b : Bool) → (b || false) ≡ b
or-none true = refl
or-none false = refl

module _ (parts : List (Part (ValueBounds ℕ))) (bits low : ℕ) (old : List ℕ) where
  pub add-all : ((port : ℕ) → low ≤ port → port < low + 2 ^ bits → has_port parts port ≡ true) → AddBlocks parts bits low old (old ++ number bits low ∷ [])
  add-all all = record {
    added = number bits low ∷ [];
    is = refl;
    within = λ k d h. one k d h;
    exact = λ port from to. or-none (lies_in bits low port (number bits low)) ∙ lies-own bits low port ∙ sym (all port from to);
  }
    where
      one : All (λ block. (2 * low < block) × (block < 2 * low + 2 * 2 ^ bits)) (number bits low ∷ [])
      one zero d h = let p = pow_pos bits in (omega (arith, p), omega (arith, p))
      one (suc k) d h = absurd (omega arith)

  pub add-none : ((port : ℕ) → low ≤ port → port < low + 2 ^ bits → has_port parts port ≡ false) → AddBlocks parts bits low old old
  add-none none = record {
    added = [];
    is = sym (append-nil old);
    within = All-nil (λ block. (2 * low < block) × (block < 2 * low + 2 * 2 ^ bits));
    exact = λ port from to. sym (none port from to);
  }

  pub add-halves : (mid new : List ℕ) → AddBlocks parts bits low old mid → AddBlocks parts bits (low + 2 ^ bits) mid new → AddBlocks parts (suc bits) low old new
  add-halves mid new left right = record {
    added = left.added ++ right.added;
    is = right.is ∙ ap (λ (xs : List ℕ). xs ++ right.added) left.is ∙ append_assoc old left.added right.added;
    within = All-append (λ block. (2 * low < block) × (block < 2 * low + 2 * 2 ^ suc bits)) left.added right.added
        (λ k d h. let w = left.within k d h in let e = doubled bits in let p = pow_pos bits in (w.0, omega (arith, w.1, e, p)))
        (λ k d h. let w = right.within k d h in let e = doubled bits in (omega (arith, w.0), omega (arith, w.1, e)));
    exact = λ port from to.
        list_any-append (lies_in (suc bits) low port) left.added right.added
        ∙ ⊎_elim
        (λ below.
        ap (λ b. b || list_any (lies_in (suc bits) low port) right.added) (lower port below ∙ left.exact port from below)
        ∙ ap (λ b. has_port parts port || b)
        (list_any_none (lies_in (suc bits) low port) right.added
        (λ k d h. apart port below (get_or right.added k d) (right.within k d h).0))
        ∙ or-none (has_port parts port))
        (λ above.
        ap (λ b. b || list_any (lies_in (suc bits) low port) right.added)
        (list_any_none (lies_in (suc bits) low port) left.added
        (λ k d h. before port above (get_or left.added k d) (left.within k d h).1))
        ∙ upper port above ∙ right.exact port above (omega (arith, doubled bits)))
        (cases_lt port (low + 2 ^ bits));
  }
    where
      p : 0 < 2 ^ bits
      p = pow_pos bits

      e : 2 ^ suc bits ≡ 2 * 2 ^ bits
      e = doubled bits

      deeper : (port half block : ℕ) → half_with bits low port ≡ half → (block ≡ number (suc bits) low → ⊥) → lies_in (suc bits) low port block ≡ lies_in bits half port block
      deeper port half block is ne =
          lies-more bits low port block
          ∙ ap (λ b. b || lies_in bits (half_with bits low port) port block) (ne_eqb block (number (suc bits) low) ne)
          ∙ ap (λ (l : ℕ). lies_in bits l port block) is

      lower : (port : ℕ) → port < low + 2 ^ bits → list_any (lies_in (suc bits) low port) left.added ≡ list_any (lies_in bits low port) left.added
      lower port below =
          any-same (lies_in (suc bits) low port) (lies_in bits low port) left.added
          (λ k d h. deeper port low (get_or left.added k d) (half-low bits low port below)
          (λ same. omega (arith, same, (left.within k d h).1, e, p)))

      upper : (port : ℕ) → low + 2 ^ bits ≤ port → list_any (lies_in (suc bits) low port) right.added ≡ list_any (lies_in bits (low + 2 ^ bits) port) right.added
      upper port above =
          any-same (lies_in (suc bits) low port) (lies_in bits (low + 2 ^ bits) port) right.added
          (λ k d h. deeper port (low + 2 ^ bits) (get_or right.added k d) (half-high bits low port above)
          (λ same. omega (arith, same, (right.within k d h).0, e, p)))

      apart : (port : ℕ) → port < low + 2 ^ bits → (block : ℕ) → 2 * (low + 2 ^ bits) < block → lies_in (suc bits) low port block ≡ false
      apart port below block h =
          deeper port low block (half-low bits low port below) (λ same. omega (arith, same, e))
          ∙ false_from_ne_true (lies_in bits low port block) (λ so. let w = lies-within bits low port block so in omega (arith, w.1))

      before : (port : ℕ) → low + 2 ^ bits ≤ port → (block : ℕ) → block < 2 * low + 2 * 2 ^ bits → lies_in (suc bits) low port block ≡ false
      before port above block h =
          deeper port (low + 2 ^ bits) block (half-high bits low port above) (λ same. omega (arith, same, e))
          ∙ false_from_ne_true (lies_in bits (low + 2 ^ bits) port block) (λ so. let w = lies-within bits (low + 2 ^ bits) port block so in omega (arith, w.0))

-- the parts of a block with more than one port
pub add-parts : (parts : List (Part (ValueBounds ℕ))) (bits low : ℕ) (old mid new : List ℕ)
    → 0 < bits
    → AddBlocks parts (bits - 1) low old mid
    → AddBlocks parts (bits - 1) (low + 2 ^ (bits - 1)) mid new
    → AddBlocks parts bits low old new
add-parts parts bits low old mid new some left right =
    let e : suc (bits - 1) ≡ bits = omega arith in
    let P : ℕ → Type 0 = λ b. AddBlocks parts b low old new in
    subst P e (add-halves parts (bits - 1) low old mid new left right)

-- a block of which the list has nothing: none of its ports, or not the only one
pub add-nothing : (parts : List (Part (ValueBounds ℕ))) (bits low high : ℕ) (old : List ℕ)
    → high + 1 ≡ low + 2 ^ bits
    → verdict (meets low high) (has_whole low high) parts ≡ false
    → AddBlocks parts bits low old old
add-nothing parts bits low high old is none = add-none parts bits low old (λ port from to. none-listed low high port from (omega (arith, is)) parts none)

pub add-not-one : (parts : List (Part (ValueBounds ℕ))) (bits low high : ℕ) (old : List ℕ)
    → bits ≡ 0
    → high + 1 ≡ low + 2 ^ bits
    → verdict (has_whole low high) (meets low high) parts ≡ false
    → AddBlocks parts bits low old old
add-not-one parts bits low high old zero_bits is lacks =
    let one : 2 ^ bits ≡ 1 = ap (λ (b : ℕ). 2 ^ b) zero_bits in
    let same : high ≡ low = omega (arith, is, one) in
    let P : ℕ → Type 0 = λ h. verdict (has_whole low h) (meets low h) parts ≡ false in
    let off : has_port parts low ≡ false = sym (one-listed low parts) ∙ subst P same lacks in
    add-none parts bits low old (λ port from to. let e : port ≡ low = omega (arith, one) in ap (has_port parts) e ∙ off)

pub add-whole : (parts : List (Part (ValueBounds ℕ))) (bits low high : ℕ) (old : List ℕ)
    → high + 1 ≡ low + 2 ^ bits
    → verdict (has_whole low high) (meets low high) parts ≡ true
    → AddBlocks parts bits low old (old ++ number bits low ∷ [])
add-whole parts bits low high old is all = add-all parts bits low old (λ port from to. all-listed low high port from (omega (arith, is)) parts all)
