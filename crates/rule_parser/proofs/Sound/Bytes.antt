-- Options on numbers in the payload keep a rule sound.
use Rattle.std.proofs.Common.{◌≡◌, ℕ, ◌+◌, ◌-◌, ◌<◌, ◌≤◌, ◌==◌, ◌&&◌, ◌||◌, ◌++◌, ◌⊎◌, Bool, true, false, not, cond, ℤ, pos, []}
use Rattle.std.proofs.Common.{negsuc, Option, Some, None, List, ◌∷◌, length, nat_le, is_some, refl}
use Rattle.std.proofs.Common.{arith, inl, inr, IfSome, IsTrue, Contains}
use Rattle.std.specs.Option.{unwrap_or}
use Rattle.std.proofs.lemmas.Bool.Decides.{nat_tests}
use Rattle.std.proofs.lemmas.Grind.{common_steps}
use Rattle.std.proofs.lemmas.Int.{ints}
use Rattle.std.proofs.lemmas.List.Elements.{Contains-append_right}
use Rattle.net_lists.specs.Cutting.{comma_parts}
use Rattle.net_lists.specs.Numbers.{signed_in}
use Rattle.net_lists.proofs.Steps.{Holds, given, refused, tested, unless, kinded, chained, after_any, folded, ranged, steps}
use Rattle.conf_types.specs.Sound.{IsWithin}
use Rattle.rule_parser.specs.declared.byte_words.Which.{Which}
use Rattle.rule_parser.specs.declared.byte_words.Which.TheVariants.{Test, Jump, Extract}
use Rattle.rule_parser.specs.declared.byte_words.ByteWords.{ByteWords}
use Rattle.rule_parser.specs.declared.draft.RuleDraft.{RuleDraft}
use Rattle.rule_types.specs.declared.option.Base.{Base}
use Rattle.rule_types.specs.declared.option.Base.TheVariants as base
use Rattle.rule_types.specs.declared.option.Num.{Num}
use Rattle.rule_types.specs.declared.option.Opt.{Opt}
use Rattle.rule_parser.specs.ByteOptions.{Part, first_part, no_words, with_times, with_post, with_multiple, next_part, lacks_string}
use Rattle.rule_parser.specs.ByteOptions.{shared_word, jump_word, extract_word, word_of, words_of, fetch_of}
use Rattle.rule_parser.specs.ByteOptions.{extract_of, Comparison, comparison_of, operator_of, offset_of, byte_test}
use Rattle.rule_parser.specs.ByteOptions.{byte_test_option, byte_jump, byte_jump_option, Extraction, with_name, byte_extract}
use Rattle.rule_parser.specs.ByteOptions.{with_extraction, byte_extract_option, isdataat}
use Rattle.rule_parser.specs.ByteOptions.{isdataat_option}
use Rattle.rule_parser.specs.Contents.{negation}
use Rattle.rule_parser.specs.Drafts.{kept}
use Rattle.net_lists.specs.Variables.{is_name}
use Rattle.rule_parser.specs.Names.{place_among}
use Rattle.rule_types.specs.Sound.{IsFetch, IsOption, bytes_of_base, is_test}
use Rattle.rule_parser.proofs.Sound.Drafts.{AreNamed, IsSoundDraft, IsPlain, names_after, kept-more, kept-sound}
use Rattle.rule_parser.proofs.Sound.Values.{IsSignedIn, IsNumBelow, signed_in-within, num-named, place_among-below, signed_or_named-below, number_or_named-below}

-- words whose numbers lie in their ranges
record AreWords (words : ByteWords) : Type 0 where
  base : IfSome words.base (λ base. bytes_of_base base ≡ 10)
  times : IfSome words.times (λ times. times ≤ 65535)
  align : IfSome words.align (λ align. IsTrue (align == 2 || align == 4))
  post : IfSome words.post (IsSignedIn (negsuc 65534) (pos 65535))

none-words : AreWords no_words
none-words = record { base = tt; times = tt; align = tt; post = tt }

times-words : (words : ByteWords) (number : List ℕ) → AreWords words → Holds AreWords (with_times words number)
unfolding with_times
times-words words number h = chained (ranged _ 0 65535 number) (λ times within. search (steps, h, within))

post-words : (words : ByteWords) (number : List ℕ) → AreWords words → Holds AreWords (with_post words number)
unfolding with_post
post-words words number h = chained (kinded _ (signed_in (negsuc 65534) (pos 65535) number) (signed_in-within (negsuc 65534) (pos 65535) number)) (λ post within. search (steps, h, within))

multiple-words : (words : ByteWords) (number : List ℕ) → AreWords words → Holds AreWords (with_multiple words number)
unfolding with_multiple
multiple-words words number h = search (steps, h) depth 12

shared-words : (words : ByteWords) (part : List ℕ) → AreWords words → Holds AreWords (shared_word words part)
unfolding shared_word
shared-words words part h = search (steps, h) depth 20

jump-words : (words : ByteWords) (part : List ℕ) → AreWords words → Holds AreWords (jump_word words part)
unfolding jump_word
jump-words words part h = search (steps, times-words, post-words, shared-words, h) depth 12

extract-words : (words : ByteWords) (part : List ℕ) → AreWords words → Holds AreWords (extract_word words part)
unfolding extract_word
extract-words words part h = search (steps, times-words, multiple-words, shared-words, h) depth 12

word_of-words : (which : Which) (words : ByteWords) (part : List ℕ) → AreWords words → Holds AreWords (word_of which words part)
word_of-words Test words part h = shared-words words part h
word_of-words Jump words part h = jump-words words part h
word_of-words Extract words part h = extract-words words part h

words_of-words : (which : Which) (after : Option (List ℕ)) → Holds AreWords (words_of which after)
unfolding words_of
words_of-words which None = given none-words
words_of-words which (Some text) = folded (word_of-words which) no_words (comma_parts text) none-words

-- as many bytes as the base allows
fetched : (string : Bool) (based : Option Base) (little : Bool) (bytes : ℕ)
    → bytes ≤ 10
    → IfSome based (λ base. bytes_of_base base ≡ 10)
    → (not string && (is_some based || not (nat_le bytes 4))) ≡ false
    → bytes ≤ bytes_of_base (cond string (unwrap_or based base.Dec) (base.Binary little))
fetched true None little bytes ten h e = ten
fetched true (Some which) little bytes ten h e = omega (arith, h)
fetched false None little bytes ten h e = grind (arith, nat_tests)
fetched false (Some which) little bytes ten h e = cc

fetch-of : (names : List ℕ) (count bytes : ℕ) (offset : Num) (words : ByteWords)
    → AreNamed names count
    → IsWithin 1 10 bytes
    → IsNumBelow count (negsuc 65534) (pos 65535) offset
    → AreWords words
    → Holds (IsFetch names) (fetch_of bytes offset words)
unfolding fetch_of
fetch-of names count bytes offset words named within below h =
    unless (lacks_string bytes words) _ (λ e. given (
      (within.0, fetched words.string words.base words.little bytes within.1 h.base e),
      num-named names count (negsuc 65534) (pos 65535) offset named below,
    ))

unwrapped : (o : Option ℕ) (default most : ℕ) → default ≤ most → IfSome o (λ n. n ≤ most) → unwrap_or o default ≤ most
unwrapped None default most h k = h
unwrapped (Some n) default most h k = k

unwrapped_post : (o : Option ℤ) → IfSome o (IsSignedIn (negsuc 65534) (pos 65535)) → IsSignedIn (negsuc 65534) (pos 65535) (unwrap_or o (pos 0))
unwrapped_post None h = (omega (arith, ints), omega (arith, ints))
unwrapped_post (Some n) h = h

unwrapped_align : (o : Option ℕ) → IfSome o (λ align. IsTrue (align == 2 || align == 4)) → IsTrue (unwrap_or o 0 == 0 || (unwrap_or o 0 == 2 || unwrap_or o 0 == 4))
unwrapped_align None h = refl
unwrapped_align (Some align) h = go (align == 0) (align == 2 || align == 4) h
  where
    go : (b c : Bool) → IsTrue c → IsTrue (b || c)
    go true c h = refl
    go false c h = h

-- an operator is a comparison of byte_test
operator-tests : (negated : Bool) (text : List ℕ) → Holds (λ how. IsTrue (is_test how)) (operator_of negated text)
unfolding operator_of
operator-tests negated text = search steps depth 20

module _ (classes : ℕ) (draft : RuleDraft) (sound : IsSoundDraft classes draft) where
  offset_ok : (part : Part) → Holds (IsNumBelow (length draft.names) (negsuc 65534) (pos 65535)) (offset_of draft.names part)
  offset_ok part = signed_or_named-below (negsuc 65534) (pos 65535) draft.names part.left part.text

  IsCompared : Comparison → Type 0
  IsCompared comparison = IsNumBelow (length draft.names) (pos 0) (pos 4294967295) comparison.value × IsTrue (is_test comparison.cmp)

  comparison_ok : (count : Part) → Holds IsCompared (comparison_of draft.names count)
  unfolding comparison_of IsCompared
  comparison_ok count =
      after_any (next_part count) (λ operator.
      chained (operator-tests (negation operator.text).0 (negation operator.text).1) (λ how tests.
      after_any _ (λ against.
      chained (number_or_named-below 0 4294967295 draft.names against.left against.text) (λ number below. given (below, tests)))))

  -- an option that may come after the names of the draft, and is kept
  MayCome : Opt → Type 0
  MayCome option = IsOption (names_after [] draft.opts) option × IsPlain option

  is_given-sound : (option : Opt) → MayCome option → Holds (IsSoundDraft classes) (kept draft option)
  unfolding MayCome
  is_given-sound option h = kept-sound classes draft option sound h.0 h.1

  byte_test-is_given : (left : ℕ) (value : List ℕ) → Holds MayCome (byte_test draft.names left value)
  unfolding byte_test IsCompared MayCome
  byte_test-is_given left value =
      let names = names_after [] draft.opts in
      let count = first_part left value in
      chained (ranged _ 1 10 count.text) (λ bytes within.
      chained (comparison_ok count) (λ comparison compared.
      after_any (next_part comparison.part) (λ place.
      chained (offset_ok place) (λ offset below.
      chained (words_of-words Test place.after) (λ words h.
      chained (fetch-of names (length draft.names) bytes offset words sound.kept.named within below h) (λ fetch is_fetch.
      given ((is_fetch, num-named names (length draft.names) (pos 0) (pos 4294967295) comparison.value sound.kept.named compared.0, compared.1), (refl, λ names. refl))))))))

  pub byte_test-sound : (left : ℕ) (value : List ℕ) → Holds (IsSoundDraft classes) (byte_test_option draft left value)
  unfolding byte_test_option
  byte_test-sound left value = chained (byte_test-is_given left value) is_given-sound

  byte_jump-is_given : (left : ℕ) (value : List ℕ) → Holds MayCome (byte_jump draft.names left value)
  unfolding byte_jump MayCome
  byte_jump-is_given left value =
      let names = names_after [] draft.opts in
      let count = first_part left value in
      chained (ranged _ 1 10 count.text) (λ bytes within.
      after_any (next_part count) (λ place.
      chained (offset_ok place) (λ offset below.
      chained (words_of-words Jump place.after) (λ words h.
      chained (fetch-of names (length draft.names) bytes offset words sound.kept.named within below h) (λ fetch is_fetch.
      let post = unwrapped_post words.post h.post in
      given ((is_fetch, unwrapped words.times 1 65535 (omega arith) h.times, post.0, post.1), (refl, λ names. refl)))))))

  pub byte_jump-sound : (left : ℕ) (value : List ℕ) → Holds (IsSoundDraft classes) (byte_jump_option draft left value)
  unfolding byte_jump_option
  byte_jump-sound left value = chained (byte_jump-is_given left value) is_given-sound

  -- names after one more, and its place: each is one of those before, or the new one
  abbrev IsPlaced : List (List ℕ) × ℕ → Type 0
  IsPlaced found = (length found.0 ≤ 2) × (found.1 < 2) × ((k : ℕ) → k < length found.0 → (k < length draft.names) ⊎ (found.1 ≡ k))

  name_ok : (name : List ℕ) → Holds IsPlaced (with_name draft.names name (place_among name draft.names))
  name_ok name = go (place_among name draft.names) (place_among-below name draft.names)
    where
      few : length draft.names ≤ 2
      few = sound.kept.few

      below : (count : ℕ) → nat_le 2 count ≡ false → count < 2
      below count room = grind (arith, nat_tests)

      pushed : (names : List (List ℕ)) (name : List ℕ) → length (names ++ name ∷ []) ≡ length names + 1
      pushed names name = grind (arith, common_steps)

      last : (k count : ℕ) → k < count + 1 → (k < count) ⊎ (count ≡ k)
      last k count h = grind arith

      go : (o : Option ℕ) → IfSome o (λ place. place < length draft.names) → Holds IsPlaced (with_name draft.names name o)
      go (Some place) h = given (few, omega arith, λ k kh. inl kh)
      go None h =
          unless (nat_le 2 (length draft.names)) _ (λ room.
          let lt = below (length draft.names) room in
          let len = pushed draft.names name in given (omega (arith, lt), lt, λ k kh. last k (length draft.names) (omega arith)))

  -- a name that was extracted, or this one
  named_more : (names : List ℕ) (place k : ℕ) → (k < length draft.names) ⊎ (place ≡ k) → AreNamed names (length draft.names) → Contains (place ∷ names) k
  named_more names place k (inl h) named = Contains-append_right (place ∷ []) names k (named k h)
  named_more names place k (inr e) named = (0, omega arith, e)

  -- a byte_extract whose bytes are told after the names of the draft
  record IsExtraction (found : Extraction) : Type 0 where
    fetch : IsFetch (names_after [] draft.opts) found.fetch
    words : AreWords found.words

  byte_extract-ok : (left : ℕ) (value : List ℕ) → Holds IsExtraction (byte_extract draft.names left value)
  unfolding byte_extract
  byte_extract-ok left value =
      let names = names_after [] draft.opts in
      let count = first_part left value in
      chained (ranged _ 1 10 count.text) (λ bytes within.
      after_any (next_part count) (λ place.
      chained (offset_ok place) (λ offset below.
      after_any (next_part place) (λ name.
      chained (tested (is_name name.text) (λ _. words_of-words Extract name.after) (λ _. refused)) (λ words h.
      chained (fetch-of names (length draft.names) bytes offset words sound.kept.named within below h)
      (λ fetch is_fetch. given (record { fetch = is_fetch; words = h })))))))

  with_extraction-sound : (found : Extraction) → IsExtraction found → Holds (IsSoundDraft classes) (with_extraction draft found)
  unfolding with_extraction kept
  with_extraction-sound found h =
      chained (name_ok found.name) (λ placed ok.
      unless _ _ (λ room.
      let more =
      kept-more draft.opts draft.held draft.names placed.0 draft.fast (extract_of found.fetch placed.1 found.words)
      sound.kept (
        h.fetch,
        ok.1,
        unwrapped found.words.times 1 65535 (omega arith) h.words.times,
        unwrapped_align found.words.align h.words.align,
      ) refl (λ k kh. named_more (names_after [] draft.opts) placed.1 k (ok.2 k kh) sound.kept.named) ok.0 room in
      given (search (more, sound))))

  pub byte_extract-sound : (left : ℕ) (value : List ℕ) → Holds (IsSoundDraft classes) (byte_extract_option draft left value)
  unfolding byte_extract_option
  byte_extract-sound left value = chained (byte_extract-ok left value) with_extraction-sound

  isdataat-is_given : (left : ℕ) (value : List ℕ) → Holds MayCome (isdataat draft.names left value)
  unfolding isdataat MayCome
  isdataat-is_given left value =
      let names = names_after [] draft.opts in
      let place = first_part left value in
      let sign = negation place.text in
      chained (number_or_named-below 0 65535 draft.names (place.left - cond sign.0 1 0) sign.1) (λ at below.
      after_any _ (λ relative. given (num-named names (length draft.names) (pos 0) (pos 65535) at sound.kept.named below, (refl, λ names. refl))))

  pub isdataat-sound : (left : ℕ) (value : List ℕ) → Holds (IsSoundDraft classes) (isdataat_option draft left value)
  unfolding isdataat_option
  isdataat-sound left value = chained (isdataat-is_given left value) is_given-sound
