-- A rule that matches is a candidate, as far as its contents go.
use Rattle.std.proofs.Common.{◌≡◌, ℕ, suc, ◌+◌, ◌<◌, ◌≤◌, Bool, true, false, cond, Option, Some, None, List, [], ◌∷◌, ◌++◌}
use Rattle.std.proofs.Common.{length, take, drop, map, slice_get, slice_index, IfSome, sym, refl, ap, ◌∙◌, arith, append_assoc}
use Rattle.std.proofs.Common.{take-append-drop}
use Rattle.std.specs.List.{find}
use Rattle.std.specs.Option.{option_map}
use Rattle.std.specs.Char.{to_ascii_lowercase}
use Rattle.std.proofs.lemmas.List.{length-map, get_or-map, map-append}
use Rattle.std.proofs.lemmas.List.Prefix.{at_from_reads}
use Rattle.edge_io.specs.Matching.{folded}
use Rattle.memchr.specs.Find.{OccursAt}
use Rattle.rule_types.specs.declared.option.Content.{Content}
use Rattle.rule_types.specs.declared.option.Opt.{Opt}
use Rattle.rule_types.specs.declared.option.Opt.TheVariants as opt
use Rattle.fast_pattern.specs.declared.choice.Sought.{Sought}
use Rattle.fast_pattern.specs.FastPattern.{sought_at, sought_of, with, sought_from, longest, chosen, part_bytes, bytes_of, pattern_of}
use Rattle.pattern_search.specs.Occurring.{occurs}
use Rattle.pattern_search.specs.Letters.{lower}
use Rattle.fast_pattern.specs.Candidates.{occurs_if_any, ContentsOccur}
use Rattle.fast_pattern.proofs.Candidates.Sizes.{AllOf, found, longest-of, either}
use Rattle.pattern_search.proofs.Finding.Occurring.{infix-occurs}

-- what is sought is a content at its place
record IsSought (options : List Opt) (sought : Sought) : Type 0 where
  content : Content
  here : slice_get options sought.place ≡ Some (opt.Content content)
  kept : content.negated ≡ false

module _ (options : List Opt) where
  with-content : (place : ℕ) (content : Content) (later : List Sought) (b : Bool)
      → content.negated ≡ b
      → slice_get options place ≡ Some (opt.Content content)
      → AllOf (IsSought options) later
      → AllOf (IsSought options) (with (cond b None (Some (sought_at place content))) later)
  with-content place content later true e here rest = rest
  with-content place content later false e here rest = (record { content = content; here = here; kept = e }, rest)

  with-option : (place : ℕ) (option : Opt) (later : List Sought)
      → slice_get options place ≡ Some option
      → AllOf (IsSought options) later
      → AllOf (IsSought options) (with (sought_of place option) later)
  with-option place (opt.Content content) later here rest = with-content place content later content.negated refl here rest
  with-option place _ later here rest = rest

  all-sought : (place : ℕ) (rest : List Opt) → ((k : ℕ) → slice_get options (place + k) ≡ slice_get rest k) → AllOf (IsSought options) (sought_from place rest)
  all-sought place [] same = tt
  all-sought place (option ∷ rest) same =
      let e : place ≡ place + 0 = omega arith in
      with-option place option (sought_from (place + 1) rest) (ap (slice_get options) e ∙ same 0)
      (all-sought (place + 1) rest (λ k. let f : place + 1 + k ≡ place + suc k = omega arith in ap (slice_get options) f ∙ same (suc k)))

  chosen-sought : IfSome (chosen options) (IsSought options)
  unfolding chosen
  chosen-sought =
      let all = all-sought 0 options (λ k. let e : 0 + k ≡ k = omega arith in ap (slice_get options) e) in
      either (IsSought options) (find (λ sought. sought.marked) (sought_from 0 options))
      (longest (sought_from 0 options))
      (found (IsSought options) (λ sought. sought.marked) (sought_from 0 options) all)
      (longest-of (IsSought options) (sought_from 0 options) all)

-- a content that occurs in the payload, in lower case
lower-reads : (nocase : Bool) (payload bytes : List ℕ) (start : ℕ)
    → OccursAt (folded nocase payload) (folded nocase bytes) start
    → (start + length bytes ≤ length payload) ×
    ((j : ℕ) → j < length bytes → lower (slice_index payload (start + j)) ≡ lower (slice_index bytes j))
unfolding lower
lower-reads true payload bytes start is =
    let long_payload = length-map payload to_ascii_lowercase in
    let long_bytes = length-map bytes to_ascii_lowercase in (
      omega (arith, is.fits, long_payload, long_bytes),
      λ j h.
          sym (get_or-map to_ascii_lowercase payload (start + j) 0 0 (omega (arith, is.fits, long_payload, long_bytes)))
          ∙ is.reads j (omega (arith, long_bytes))
          ∙ get_or-map to_ascii_lowercase bytes j 0 0 h,
    )
lower-reads false payload bytes start is = (is.fits, λ j h. ap to_ascii_lowercase (is.reads j h))

part-occurs : (nocase : Bool) (payload bytes : List ℕ) (start from len : ℕ) → OccursAt (folded nocase payload) (folded nocase bytes) start → occurs (take len (drop from bytes)) payload ≡ true
part-occurs nocase payload bytes start from len is =
    let reads = lower-reads nocase payload bytes start is in
    let lowered = map lower payload in
    let word = map lower bytes in
    let long_payload = length-map payload lower in
    let long_bytes = length-map bytes lower in
    let holds : drop start lowered ≡ word ++ drop (start + length word) lowered =
    at_from_reads 0 lowered word start (omega (arith, reads.0, long_payload, long_bytes)) (λ j h.
    get_or-map lower payload (start + j) 0 0 (omega (arith, reads.0, long_bytes)) ∙ reads.1 j (omega (arith, long_bytes)) ∙
    sym (get_or-map lower bytes j 0 0 (omega (arith, long_bytes)))) in
    let back = drop (start + length word) lowered in
    let part = take len (drop from bytes) in
    let rest = drop len (drop from bytes) in
    let split : word ≡ map lower (take from bytes) ++ (map lower part ++ map lower rest) =
    ap (map lower)
    (sym (take-append-drop from bytes) ∙
    ap (λ (xs : List ℕ). take from bytes ++ xs) (sym (take-append-drop len (drop from bytes))))
    ∙ map-append lower (take from bytes) (part ++ rest)
    ∙ ap (λ (xs : List ℕ). map lower (take from bytes) ++ xs) (map-append lower part rest) in
    infix-occurs part payload (take start lowered ++ map lower (take from bytes)) (map lower rest ++ back)
    (sym (take-append-drop start lowered)
    ∙ ap (λ (xs : List ℕ). take start lowered ++ xs)
    (holds ∙ ap (λ (xs : List ℕ). xs ++ back) split ∙
    append_assoc (map lower (take from bytes)) (map lower part ++ map lower rest) back ∙
    ap (λ (xs : List ℕ). map lower (take from bytes) ++ xs) (append_assoc (map lower part) (map lower rest) back))
    ∙ sym (append_assoc (take start lowered) (map lower (take from bytes)) (map lower part ++ (map lower rest ++ back))))

needs-by : (options : List Opt) (payload : List ℕ) (choice : Option Sought)
    → IfSome choice (IsSought options)
    → ContentsOccur options payload
    → occurs_if_any (option_map (part_bytes options) choice) payload ≡ true
needs-by options payload None is occur = refl
needs-by options payload (Some sought) is occur =
    let holds = occur.each sought.place is.content is.here is.kept in
    ap (λ o. occurs (take sought.len (drop sought.from (bytes_of o))) payload) is.here ∙ part-occurs holds.0 payload is.content.bytes holds.1 sought.from sought.len holds.2

pub needs-pattern : (options : List Opt) (payload : List ℕ) → ContentsOccur options payload → occurs_if_any (pattern_of options) payload ≡ true
needs-pattern options payload occur = needs-by options payload (chosen options) (chosen-sought options) occur
