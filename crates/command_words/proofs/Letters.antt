-- The letters of one word: clap's walk over its characters is the plain reading.
use Rattle.std.proofs.Common.{◌≡◌, ◌∙◌, ◌≤◌, ℕ, zero, suc, Bool, true, false, refl, sym, ap, ap₂, List, [], ◌∷◌, length, drop, Option, Some, None, codes, arith}
use Rattle.std.specs.Prelude.{option_map, find, encode_utf8, encode_utf8_all, slice_get}
use Rattle.std.specs.Str.{all_scalars, chars}
use Rattle.std.proofs.lemmas.Str.{chars-encodes}
use Rattle.std.proofs.lemmas.List.{drop_at}
use Rattle.clap.specs.Walk.{Held, Outcome, Row, Rule, Text, attached_value, bundle_met, bundle_step, done, waits, reacted, short_met}
use Rattle.clap.specs.Faults.{bundle_step_fault, flags_fault, react_fault, short_fault}
use Rattle.clap.specs.Kinds.{Kinds}
use Rattle.clap.proofs.WalkLemmas.{both}
use Rattle.edge_io.specs.OnOption.{◌>>=◌}
use Rattle.command_words.specs.Table.{Choice, Label, is_letter, text_of}
use Rattle.command_words.specs.Uses.{Reading, Use, letter_uses, letters_uses, then_letters, use_of}
use Rattle.command_words.proofs.Rules.{AllFound, IsFound, add, add_all, bind-none, by_short, found_is, guard, guard-or_else, rule, rules, settle}
use Rattle.command_words.proofs.Steps.{after_reading, after_word, flag_step, held, option_step}

module _ {X : Type 0} (known : List Choice) (all : AllFound known known) (out : Held → Outcome → Option X) (next : Option Choice → List Row → Option X)
    (none : (rows : List Row) → out (held rows None) done ≡ next None rows)
    (some : (choice : Choice) → IsFound known choice → choice.takes_value ≡ true → (rows : List Row)
    → out (held rows (Some (text_of choice.label, []))) (waits (text_of choice.label)) ≡ next (Some choice) rows) where
  abbrev c : List Rule
  c = rules known

  abbrev out_of : Held × Outcome → Option X
  out_of met = out met.0 met.1

  -- a flag, and then the letters after it
  flag_then : (use_here : Use) (choice : Choice) (tail : Option Reading) (rows : List Row) → use_here ≡ use_of choice (codes "true")
      → (add use_here rows >>= λ r. tail >>= λ reading. after_reading next reading r) ≡ (option_map (then_letters choice) tail >>= λ reading. after_reading next reading rows)
  flag_then use_here choice None rows is = bind-none (add use_here rows)
  flag_then use_here choice (Some reading) rows is = ap (λ u. add u rows >>= λ r. after_reading next reading r) is ∙ go (add (use_of choice (codes "true")) rows)
    where
      go : (o : Option (List Row)) → (o >>= λ r. add_all reading.uses r >>= next reading.waiting) ≡ ((o >>= add_all reading.uses) >>= next reading.waiting)
      go None = refl
      go (Some r) = refl

  letter_found : (label : Label) (takes : Bool) (rest : List ℕ) (tail : Option Reading) (fault : Held → Kinds) (met : Held → Held × Outcome)
      → ((rows : List Row) → guard (fault (held rows None)) (out_of (met (held rows None))) ≡ (tail >>= λ reading. after_reading next reading rows))
      → (rows : List Row) (pending : Option (Text × List Text)) → IsFound known (record { label = label; takes_value = takes })
      → guard (short_fault c false (Some (rule (record { label = label; takes_value = takes }))) (encode_utf8_all rest) (held rows pending) fault)
      (out_of (short_met c (Some (rule (record { label = label; takes_value = takes }))) (encode_utf8_all rest) (held rows pending) met))
      ≡ after_word next c (held rows pending) (letter_uses (Some (record { label = label; takes_value = takes })) rest tail)
  letter_found label true rest tail fault met following rows pending found =
      option_step known out next none some label (attached_value (encode_utf8_all rest)) rows pending found
  letter_found label false rest tail fault met following rows pending found =
      let a : Rule = rule (record { label = label; takes_value = false }) in
      let h : Held = held rows pending in
      guard-or_else (react_fault c false a [] h) (fault (reacted c a [] h)) (out_of (met (reacted c a [] h)))
      ∙ flag_step known out next none some label rows pending (λ r. guard (fault (held r None)) (out_of (met (held r None))))
      ∙ ap (λ (f : List Row → Option X). settle c h >>= f)
      (λ i r. (ap (λ (f : List Row → Option X). add (record { label = text_of label; value = codes "true" }) r >>= f) (λ j after. following after j)
      ∙ flag_then (record { label = text_of label; value = codes "true" }) (record { label = label; takes_value = false }) tail r refl) i)

  letter_step : (choice : Option Choice) (rest : List ℕ) (tail : Option Reading) (fault : Held → Kinds) (met : Held → Held × Outcome)
      → ((rows : List Row) → guard (fault (held rows None)) (out_of (met (held rows None))) ≡ (tail >>= λ reading. after_reading next reading rows))
      → (rows : List Row) (pending : Option (Text × List Text)) → ((x : Choice) → choice ≡ Some x → IsFound known x)
      → guard (short_fault c false (option_map rule choice) (encode_utf8_all rest) (held rows pending) fault)
      (out_of (short_met c (option_map rule choice) (encode_utf8_all rest) (held rows pending) met))
      ≡ after_word next c (held rows pending) (letter_uses choice rest tail)
  letter_step None rest tail fault met following rows pending found = sym (bind-none (settle c (held rows pending)))
  letter_step (Some choice) rest tail fault met following rows pending found =
      letter_found choice.label choice.takes_value rest tail fault met following rows pending (found choice refl)

  -- the first letter, where those after it are read as they should be
  pub first_letter : (k x : ℕ) (xs : List ℕ) (so_far : Outcome) (rows : List Row) (pending : Option (Text × List Text)) → all_scalars (x ∷ xs) ≡ true
      → ((after : List Row) → guard (flags_fault c false k (encode_utf8_all xs) 0 (held after None)) (out_of (bundle_met c k (encode_utf8_all xs) 0 done (held after None)))
      ≡ (letters_uses known xs >>= λ reading. after_reading next reading after))
      → guard (flags_fault c false (suc k) (encode_utf8_all (x ∷ xs)) 0 (held rows pending)) (out_of (bundle_met c (suc k) (encode_utf8_all (x ∷ xs)) 0 so_far (held rows pending)))
      ≡ after_word next c (held rows pending) (letters_uses known (x ∷ xs))
  unfolding flags_fault bundle_met
  first_letter k x xs so_far rows pending scalars following =
      let h : Held = held rows pending in
      let flags : Text = encode_utf8_all (x ∷ xs) in
      let here : slice_get (chars flags) 0 ≡ Some x = ap (λ (cs : List ℕ). slice_get cs 0) (chars-encodes (x ∷ xs) scalars) in
      let left : drop (length (encode_utf8 x)) flags ≡ encode_utf8_all xs = drop_at (encode_utf8 x) (encode_utf8_all xs) _ refl in
      ap (λ (o : Option ℕ). guard (bundle_step_fault c false o flags 0 h (flags_fault c false k))
      (out_of (bundle_step c o flags 0 so_far h (bundle_met c k)))) here
      ∙ ap₂ (λ (a : Option Rule) (rest : Text). guard (short_fault c false a rest h (flags_fault c false k rest 0))
      (out_of (short_met c a rest h (bundle_met c k rest 0 done)))) (by_short known x) left
      ∙ letter_step (find (λ choice. is_letter x choice.label) known) xs
      (letters_uses known xs)
      (flags_fault c false k (encode_utf8_all xs) 0)
      (bundle_met c k (encode_utf8_all xs) 0 done) following rows pending
      (λ choice e. found_is known (λ choice. is_letter x choice.label) known choice all e)

  -- the letters after a flag
  pub more_letters : (k : ℕ) (xs : List ℕ) → all_scalars xs ≡ true → length xs ≤ k → (rows : List Row)
      → guard (flags_fault c false k (encode_utf8_all xs) 0 (held rows None)) (out_of (bundle_met c k (encode_utf8_all xs) 0 done (held rows None)))
      ≡ (letters_uses known xs >>= λ reading. after_reading next reading rows)
  unfolding flags_fault bundle_met chars
  more_letters zero [] scalars fits rows = none rows
  more_letters (suc k) [] scalars fits rows = none rows
  more_letters zero (x ∷ xs) scalars fits rows = absurd (omega arith)
  more_letters (suc k) (x ∷ xs) scalars fits rows =
      first_letter k x xs done rows None scalars (more_letters k xs (both _ _ scalars).1 (omega arith))
