-- One option or flag in a word, by a name or a letter: clap's step is the plain one.
use Rattle.std.proofs.Common.{◌≡◌, ◌∙◌, Bool, true, false, refl, sym, ap, List, [], ◌∷◌, Option, Some, None, codes}
use Rattle.std.specs.Prelude.{option_map}
use Rattle.clap.specs.Walk.{Held, Outcome, Row, Rule, Text, done, waits, long_met, option_met, settled, used}
use Rattle.clap.specs.Faults.{long_fault, option_fault, react_fault, settle_fault}
use Rattle.edge_io.specs.OnOption.{◌>>=◌}
use Rattle.command_words.specs.Table.{Choice, Label, text_of}
use Rattle.command_words.specs.Uses.{Reading, Use, name_uses, option_uses}
use Rattle.command_words.proofs.Rules.{IsFound, add, add_all, bind-none, flag_used, guard, guard-bind, option_used, reacted_is, rule, rules, settle}

-- what is held between two words
abbrev pub held : List Row → Option (Text × List Text) → Held
held rows pending = record { rows = rows; pending = pending; skip = 0 }

-- the rows after the uses of a reading, and what comes after it
abbrev pub after_reading : {X : Type 0} → (Option Choice → List Row → Option X) → Reading → List Row → Option X
after_reading next reading rows = add_all reading.uses rows >>= next reading.waiting

abbrev pub after_word : {X : Type 0} → (Option Choice → List Row → Option X) → List Rule → Held → Option Reading → Option X
after_word next c h word = settle c h >>= λ rows. word >>= λ reading. after_reading next reading rows

add_one : {X : Type 0} (use_here : Use) (rows : List Row) (next : List Row → Option X) → (add use_here rows >>= next) ≡ (add_all (use_here ∷ []) rows >>= next)
add_one use_here rows next = go (add use_here rows)
  where
    go : (o : Option (List Row)) → (o >>= next) ≡ ((o >>= add_all []) >>= next)
    go None = refl
    go (Some r) = refl

module _ {X : Type 0} (known : List Choice) (out : Held → Outcome → Option X) (next : Option Choice → List Row → Option X)
    (none : (rows : List Row) → out (held rows None) done ≡ next None rows)
    (some : (choice : Choice) → IsFound known choice → choice.takes_value ≡ true → (rows : List Row)
    → out (held rows (Some (text_of choice.label, []))) (waits (text_of choice.label)) ≡ next (Some choice) rows) where
  abbrev c : List Rule
  c = rules known

  -- an option, with its value or without
  pub option_step : (label : Label) (value : Option Text) (rows : List Row) (pending : Option (Text × List Text))
      → IsFound known (record { label = label; takes_value = true })
      → guard (option_fault c false (rule (record { label = label; takes_value = true })) value (held rows pending))
      (out (option_met c (rule (record { label = label; takes_value = true })) value (held rows pending)).0
      (option_met c (rule (record { label = label; takes_value = true })) value (held rows pending)).1)
      ≡ after_word next c (held rows pending) (Some (option_uses (record { label = label; takes_value = true }) value))
  option_step label (Some value) rows pending found =
      let a : Rule = rule (record { label = label; takes_value = true }) in
      let h : Held = held rows pending in
      reacted_is c a (value ∷ []) h (λ after. out (held after None) done)
      ∙ ap (λ (f : List Row → Option X). settle c h >>= f)
      (λ i r. (option_used label value r (λ after. out (held after None) done)
      ∙ ap (λ (f : List Row → Option X). add (record { label = text_of label; value = value }) r >>= f) (λ j after. none after j)
      ∙ add_one (record { label = text_of label; value = value }) r (next None)) i)
  option_step label None rows pending found =
      let h : Held = held rows pending in
      sym (guard-bind (settle_fault c false h) (settled c h).rows (λ r. out (held r (Some (text_of label, []))) (waits (text_of label))))
      ∙ ap (λ (f : List Row → Option X). settle c h >>= f) (λ i r. some (record { label = label; takes_value = true }) found refl r i)

  -- a flag
  pub flag_step : (label : Label) (rows : List Row) (pending : Option (Text × List Text)) (after : List Row → Option X)
      → guard (react_fault c false (rule (record { label = label; takes_value = false })) [] (held rows pending))
      (after (used (rule (record { label = label; takes_value = false })) [] (settled c (held rows pending)).rows))
      ≡ (settle c (held rows pending) >>= λ r. add (record { label = text_of label; value = codes "true" }) r >>= after)
  flag_step label rows pending after =
      reacted_is c (rule (record { label = label; takes_value = false })) [] (held rows pending) after
      ∙ ap (λ (f : List Row → Option X). settle c (held rows pending) >>= f) (λ i r. flag_used label r after i)

  -- `--name` or `--name=value`
  name_found : (label : Label) (takes : Bool) (value : Option Text) (rows : List Row) (pending : Option (Text × List Text))
      → IsFound known (record { label = label; takes_value = takes })
      → guard (long_fault c false (Some (rule (record { label = label; takes_value = takes }))) value (held rows pending))
      (out (long_met c (Some (rule (record { label = label; takes_value = takes }))) value (held rows pending)).0
      (long_met c (Some (rule (record { label = label; takes_value = takes }))) value (held rows pending)).1)
      ≡ after_word next c (held rows pending) (name_uses (Some (record { label = label; takes_value = takes })) value)
  name_found label true value rows pending found = option_step label value rows pending found
  name_found label false (Some value) rows pending found = sym (bind-none (settle c (held rows pending)))
  name_found label false None rows pending found =
      flag_step label rows pending (λ after. out (held after None) done)
      ∙ ap (λ (f : List Row → Option X). settle c (held rows pending) >>= f)
      (λ i r. (ap (λ (f : List Row → Option X). add (record { label = text_of label; value = codes "true" }) r >>= f) (λ j after. none after j)
      ∙ add_one (record { label = text_of label; value = codes "true" }) r (next None)) i)

  pub name_step : (choice : Option Choice) (value : Option Text) (rows : List Row) (pending : Option (Text × List Text)) → ((x : Choice) → choice ≡ Some x → IsFound known x)
      → guard (long_fault c false (option_map rule choice) value (held rows pending))
      (out (long_met c (option_map rule choice) value (held rows pending)).0 (long_met c (option_map rule choice) value (held rows pending)).1)
      ≡ after_word next c (held rows pending) (name_uses choice value)
  name_step None value rows pending found = sym (bind-none (settle c (held rows pending)))
  name_step (Some choice) value rows pending found = name_found choice.label choice.takes_value value rows pending (found choice refl)
