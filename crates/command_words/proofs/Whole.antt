-- The uses in the words, as clap's walk ends.
use Rattle.std.proofs.Common.{◌≡◌, ◌∙◌, ◌≤◌, ◌<◌, ◌&&◌, ℕ, zero, suc, Bool, cond, true, false, not, refl, sym, ap, subst, List}
use Rattle.std.proofs.Common.{[], ◌∷◌, ◌++◌, length, Option, Some, None, codes, arith, true≢false, eqb-true, ◌==◌}
use Rattle.std.specs.Prelude.{IsUtf8, chars, option_and_then, option_map, find, is_some, encode_utf8_all, nat_lt, unwrap_or}
use Rattle.std.specs.Option.{option_map_or}
use Rattle.std.specs.Str.{bytes_eq}
use Rattle.std.proofs.lemmas.Slice.Eq.{bytes_eq-Decides}
use Rattle.std.proofs.lemmas.Str.{IsCharBoundary-after_ascii, IsUtf8-drop, chars-encodes, length-le-encodes}
use Rattle.clap.specs.Lexer.{long_of, short_of, short_of_rest}
use Rattle.clap.specs.Walk.{Held, Outcome, Row, Rule, Text, Waiting, after_flag, after_step, bundle_met, idle, long_met, next as goes_on, option, option_word, plain, used, used_by_id, value as stray}
use Rattle.clap.specs.Faults.{flags_fault, long_fault, positional_fault, stray_fault, use_fault, walk_fault}
use Rattle.edge_io.specs.OnOption.{◌>>=◌}
use Rattle.command_words.specs.Table.{Choice, Label, is_name, text_of}
use Rattle.command_words.specs.Uses.{Reading, Use, if_last, letters_uses, use_of, uses_in, word_uses}
use Rattle.command_words.proofs.Rules.{AllFound, IsFound, add, add_all, bind-none, by_index, by_long, found_is, guard, option_used, rule, rules, settle}
use Rattle.command_words.proofs.Steps.{after_reading, after_word, held, name_step}
use Rattle.command_words.proofs.Letters.{first_letter, more_letters}
use Rattle.command_words.proofs.Turns.{at, ending, idle_turn, option_turn, parts, shape, then_rest, trailed}

-- the words are text
abbrev pub AllText : List Text → Type 0
AllText [] = Unit {0}
AllText (word ∷ rest) = IsUtf8 word × AllText rest

append_uses : (first second : List Use) (rows : List Row) → (add_all first rows >>= add_all second) ≡ add_all (first ++ second) rows
append_uses [] second rows = refl
append_uses (use_here ∷ first) second rows = go (add use_here rows) (append_uses first second)
  where
    go : (o : Option (List Row)) → ((r : List Row) → (add_all first r >>= add_all second) ≡ add_all (first ++ second) r)
        → ((o >>= add_all first) >>= add_all second) ≡ (o >>= add_all (first ++ second))
    go None more = refl
    go (Some r) more = more r

-- the uses of a word, and those of the words after it
joined_uses : (reading : Reading) (following : Option (List Use)) (rows : List Row)
    → (add_all reading.uses rows >>= λ r. following >>= λ uses. add_all uses r) ≡ (option_map (λ uses. reading.uses ++ uses) following >>= λ uses. add_all uses rows)
joined_uses reading None rows = bind-none (add_all reading.uses rows)
joined_uses reading (Some uses) rows = append_uses reading.uses uses rows

-- ---- one word

module _ (known : List Choice) (all : AllFound known known) (waiting : Waiting) (word : Text) (rest : List Text) (next : Option Choice → List Row → Option (List Row))
    (none : (rows : List Row) → ending known (at (held rows None) idle false) rest ≡ next None rows)
    (some : (choice : Choice) → IsFound known choice → choice.takes_value ≡ true → (rows : List Row)
    → ending known (at (held rows (Some (text_of choice.label, []))) (option (text_of choice.label)) false) rest ≡ next (Some choice) rows)
    (rows : List Row) (pending : Option (Text × List Text)) where
  abbrev h : Held
  h = held rows pending

  abbrev out : Held → Outcome → Option (List Row)
  out after outcome = then_rest known word rest h waiting (after_flag (rules known) waiting word after outcome)

  by_name : (p : Text × Option Text) (short : Option Text) → parts known false (Some p) short waiting word h rest ≡ after_word next (rules known) h (word_uses known (Some p) short)
  by_name p short =
      ap (λ (a : Option Rule). guard (long_fault (rules known) false a p.1 h) (out (long_met (rules known) a p.1 h).0 (long_met (rules known) a p.1 h).1)) (by_long known p.0)
      ∙ name_step known out next none some (find (λ choice. is_name p.0 choice.label) known) p.1 rows pending
      (λ choice e. found_is known (λ choice. is_name p.0 choice.label) known choice all e)

  letters_are : (cs : List ℕ) (flags : Text) (n : ℕ) → Rattle.std.specs.Str.all_scalars cs ≡ true → encode_utf8_all cs ≡ flags → 0 < length cs → length cs ≤ n
      → guard (flags_fault (rules known) false n flags 0 h) (out (bundle_met (rules known) n flags 0 plain h).0 (bundle_met (rules known) n flags 0 plain h).1)
      ≡ after_word next (rules known) h (letters_uses known (chars flags))
  letters_are [] flags n scalars is nonempty fits = absurd (omega arith)
  letters_are (x ∷ xs) flags zero scalars is nonempty fits = absurd (omega arith)
  letters_are (x ∷ xs) flags (suc k) scalars is nonempty fits =
      ap (λ (text : Text). guard (flags_fault (rules known) false (suc k) text 0 h)
      (out (bundle_met (rules known) (suc k) text 0 plain h).0 (bundle_met (rules known) (suc k) text 0 plain h).1)) (sym is)
      ∙ first_letter known all out next none some k x xs plain rows pending scalars
      (more_letters known all out next none some k xs (Rattle.clap.proofs.WalkLemmas.both _ _ scalars).1 (omega arith))
      ∙ ap (λ (cs : List ℕ). after_word next (rules known) h (letters_uses known cs))
      (sym (chars-encodes (x ∷ xs) scalars) ∙ ap chars is)

  by_letters : (flags : Text) → IsUtf8 flags → 0 < length flags → parts known false None (Some flags) waiting word h rest ≡ after_word next (rules known) h (word_uses known None (Some flags))
  by_letters flags text nonempty =
      let some_char : 0 < length text.0 = go text.0 text.1.1 in
      letters_are text.0 flags (length flags) text.1.0 text.1.1 some_char (omega (arith, length-le-encodes text.0, ap length text.1.1))
    where
      go : (cs : List ℕ) → encode_utf8_all cs ≡ flags → 0 < length cs
      go [] e = absurd (omega (arith, ap length e))
      go (x ∷ xs) e = omega arith

-- the text after a hyphen is text, and not empty
short_text : (word flags : Text) → IsUtf8 word → short_of word ≡ Some flags → IsUtf8 flags × (0 < length flags)
short_text [] flags text is = absurd (true≢false (sym (ap is_some is)))
short_text (b ∷ bs) flags text is = go (b == 45) refl is
  where
    following : (x : ℕ) (xs : List ℕ) (t : Bool) → IsUtf8 (x ∷ xs) → cond t None (Some (x ∷ xs)) ≡ Some flags → IsUtf8 flags × (0 < length flags)
    following x xs true u e = absurd (true≢false (sym (ap is_some e)))
    following x xs false u e = subst (λ (o : Option (List ℕ)). IsUtf8 (unwrap_or o []) × (0 < length (unwrap_or o []))) e (u, omega arith)

    rest_of : (xs : List ℕ) → IsUtf8 xs → option_and_then short_of_rest (Some xs) ≡ Some flags → IsUtf8 flags × (0 < length flags)
    rest_of [] u e = absurd (true≢false (sym (ap is_some e)))
    rest_of (x ∷ xs) u e = following x xs (x == 45) u e

    go : (t : Bool) → (b == 45) ≡ t → option_and_then short_of_rest (cond t (Some bs) None) ≡ Some flags → IsUtf8 flags × (0 < length flags)
    go false is e = absurd (true≢false (sym (ap is_some e)))
    go true is e =
        let b_is : b ≡ 45 = eqb-true b 45 is in
        rest_of bs (IsUtf8-drop (b ∷ bs) 1 text (IsCharBoundary-after_ascii (b ∷ bs) 0 text (omega arith) (omega arith))) e

-- ---- all words

bind_some : (o : Option (List Row)) → (o >>= λ rows. Some rows) ≡ o
bind_some None = refl
bind_some (Some rows) = refl

module _ (known : List Choice) (all : AllFound known known) where
  abbrev plain_next : List Text → Option Choice → List Row → Option (List Row)
  plain_next rest waiting rows = uses_in known waiting rest >>= λ uses. add_all uses rows

  abbrev plain_after : List Text → Option Reading → Option (List Use)
  plain_after rest word = word >>= λ reading. option_map (λ uses. reading.uses ++ uses) (uses_in known reading.waiting rest)

  joined : (rest : List Text) (word : Option Reading) (rows : List Row)
      → (word >>= λ reading. after_reading (plain_next rest) reading rows) ≡ (plain_after rest word >>= λ uses. add_all uses rows)
  joined rest None rows = refl
  joined rest (Some reading) rows = joined_uses reading (uses_in known reading.waiting rest) rows

  all_joined : (rest : List Text) (word : Option Reading) (h : Held)
      → after_word (plain_next rest) (rules known) h word ≡ (settle (rules known) h >>= λ r. plain_after rest word >>= λ uses. add_all uses r)
  all_joined rest word h = ap (λ (f : List Row → Option (List Row)). settle (rules known) h >>= f) (λ i r. joined rest word r i)

  -- a word where no option waits, by whether it is `--`, its name and its letters
  idle_word : (word : Text) (rest : List Text) (b : Bool) (long : Option (Text × Option Text)) (short : Option Text)
      (rows : List Row) (pending : Option (Text × List Text))
      → IsUtf8 word
      → short_of word ≡ short
      → ((r : List Row) → ending known (at (held r None) idle false) rest ≡ plain_next rest None r)
      → ((choice : Choice) → IsFound known choice → choice.takes_value ≡ true → (r : List Row)
      → ending known (at (held r (Some (text_of choice.label, []))) (option (text_of choice.label)) false) rest ≡
      plain_next rest (Some choice) r)
      → parts known b long short idle word (held rows pending) rest
      ≡ (settle (rules known) (held rows pending) >>=
      λ r.
      cond b (if_last rest)
      (word_uses known long short >>=
      λ reading. option_map (λ uses. reading.uses ++ uses) (uses_in known reading.waiting rest)) >>=
      λ uses. add_all uses r)
  idle_word word rest true long short rows pending text is none some = trailed known (held rows pending) idle rest
  idle_word word rest false (Some p) short rows pending text is none some =
      by_name known all idle word rest (plain_next rest) none some rows pending p short ∙ all_joined rest (word_uses known (Some p) short) (held rows pending)
  idle_word word rest false None (Some flags) rows pending text is none some =
      let following = short_text word flags text is in
      by_letters known all idle word rest (plain_next rest) none some rows pending flags following.0 following.1 ∙ all_joined rest (word_uses known None (Some flags)) (held rows pending)
  idle_word word rest false None None rows pending text is none some =
      let h : Held = held rows pending in
      ap (λ (a : Option Rule). guard (option_map_or (λ x. positional_fault (rules known) false x h) a (stray_fault (shape known)))
      (ending known (after_step (rules known) word (at h idle false) h stray) rest)) (by_index known 1)
      ∙ sym (bind-none (settle (rules known) h))

  -- an option that waits has no value yet, which the end, `--` and a flag word refuse
  settle_waiting : (label : Label) (values : List Text) (rows : List Row) → IsFound known (record { label = label; takes_value = true })
      → settle (rules known) (held rows (Some (text_of label, values)))
      ≡ guard (use_fault false (rule (record { label = label; takes_value = true })) values rows) (Some (used (rule (record { label = label; takes_value = true })) values rows))
  settle_waiting label values rows found =
      ap (λ (o : Option Rule). guard (option_map_or (λ a. use_fault false a values rows) o []) (Some (used_by_id o values rows))) found

  no_value : (label : Label) (rows : List Row) → IsFound known (record { label = label; takes_value = true }) → settle (rules known) (held rows (Some (text_of label, []))) ≡ None
  no_value label rows found = settle_waiting label [] rows found

  one_value : (label : Label) (word : Text) (rows : List Row) → IsFound known (record { label = label; takes_value = true })
      → settle (rules known) (held rows (Some (text_of label, word ∷ []))) ≡ add (record { label = text_of label; value = word }) rows
  one_value label word rows found =
      settle_waiting label (word ∷ []) rows found ∙ option_used label word rows (λ r. Some r) ∙ bind_some (add (record { label = text_of label; value = word }) rows)

  use_then : (use_here : Use) (following : Option (List Use)) (rows : List Row)
      → (add use_here rows >>= λ r. following >>= λ uses. add_all uses r) ≡ (option_map (λ uses. use_here ∷ uses) following >>= λ uses. add_all uses rows)
  use_then use_here None rows = bind-none (add use_here rows)
  use_then use_here (Some uses) rows = refl

  -- the option's value is read: it waits no more
  value_read : (label : Label) (word : Text) (rest : List Text) (rows : List Row) → IsFound known (record { label = label; takes_value = true })
      → parts known false None None (option (text_of label)) word (held rows (Some (text_of label, []))) rest
      ≡ ending known (at (held rows (Some (text_of label, word ∷ []))) idle false) rest
  value_read label word rest rows found =
      ap (λ (o : Option Rule). ending known (after_step (rules known) word (at (held rows (Some (text_of label, []))) (option (text_of label)) false)
      (option_word o (text_of label) word (held rows (Some (text_of label, [])))).0 (goes_on (option_word o (text_of label) word (held rows (Some (text_of label, [])))).1)) rest) found
      ∙ ap (λ (same : Bool). ending known (at (held rows (Some (text_of label, word ∷ []))) (cond (nat_lt (cond same 1 0) 1) (option (text_of label)) idle) false) rest)
      ((bytes_eq-Decides (text_of label) (text_of label)).1 refl)

  abbrev IdleEnds : List Text → Type 0
  IdleEnds words = (rows : List Row) (pending : Option (Text × List Text))
      → ending known (at (held rows pending) idle false) words ≡ (settle (rules known) (held rows pending) >>= λ r. uses_in known None words >>= λ uses. add_all uses r)

  abbrev OptionEnds : List Text → Type 0
  OptionEnds words = (choice : Choice) → IsFound known choice → choice.takes_value ≡ true → (rows : List Row)
      → ending known (at (held rows (Some (text_of choice.label, []))) (option (text_of choice.label)) false) words ≡ (uses_in known (Some choice) words >>= λ uses. add_all uses rows)

  -- a word where an option waits
  option_word_is : (label : Label) (word : Text) (rest : List Text) (b : Bool) (long : Option (Text × Option Text)) (short : Option Text) (rows : List Row) → IsUtf8 word
      → short_of word ≡ short → IsFound known (record { label = label; takes_value = true }) → IdleEnds rest
      → ((r : List Row) → ending known (at (held r None) idle false) rest ≡ plain_next rest None r)
      → ((choice : Choice) → IsFound known choice → choice.takes_value ≡ true → (r : List Row)
      → ending known (at (held r (Some (text_of choice.label, []))) (option (text_of choice.label)) false) rest ≡ plain_next rest (Some choice) r)
      → parts known b long short (option (text_of label)) word (held rows (Some (text_of label, []))) rest
      ≡ (cond (not b && (not (is_some long) && not (is_some short)))
      (option_map (λ uses. use_of (record { label = label; takes_value = true }) word ∷ uses) (uses_in known None rest)) None >>= λ uses. add_all uses rows)
  option_word_is label word rest true long short rows text is found following none some =
      trailed known (held rows (Some (text_of label, []))) (option (text_of label)) rest
      ∙ ap (λ (o : Option (List Row)). o >>= λ r. if_last rest >>= λ uses. add_all uses r) (no_value label rows found)
  option_word_is label word rest false (Some p) short rows text is found following none some =
      by_name known all (option (text_of label)) word rest (plain_next rest) none some rows (Some (text_of label, [])) p short
      ∙ ap (λ (o : Option (List Row)). o >>= λ r. word_uses known (Some p) short >>= λ reading. after_reading (plain_next rest) reading r) (no_value label rows found)
  option_word_is label word rest false None (Some flags) rows text is found following none some =
      let read = short_text word flags text is in
      by_letters known all (option (text_of label)) word rest (plain_next rest) none some rows (Some (text_of label, [])) flags read.0 read.1
      ∙ ap (λ (o : Option (List Row)). o >>= λ r. word_uses known None (Some flags) >>= λ reading. after_reading (plain_next rest) reading r) (no_value label rows found)
  option_word_is label word rest false None None rows text is found following none some =
      value_read label word rest rows found ∙ following rows (Some (text_of label, word ∷ []))
      ∙ ap (λ (o : Option (List Row)). o >>= λ r. uses_in known None rest >>= λ uses. add_all uses r) (one_value label word rows found)
      ∙ use_then (record { label = text_of label; value = word }) (uses_in known None rest) rows

  option_end : (label : Label) (takes : Bool) (word : Text) (rest : List Text) (rows : List Row) → IsUtf8 word → IdleEnds rest → OptionEnds rest
      → IsFound known (record { label = label; takes_value = takes }) → takes ≡ true
      → ending known (at (held rows (Some (text_of label, []))) (option (text_of label)) false) (word ∷ rest)
      ≡ (uses_in known (Some (record { label = label; takes_value = takes })) (word ∷ rest) >>= λ uses. add_all uses rows)
  option_end label false word rest rows text idles options found takes = absurd (true≢false (sym takes))
  option_end label true word rest rows text idles options found takes =
      option_turn known word (text_of label) (held rows (Some (text_of label, []))) rest
      ∙ option_word_is label word rest (bytes_eq word (codes "--")) (long_of word) (short_of word) rows text refl found idles (λ r. idles r None) options

  option_stop : (label : Label) (takes : Bool) (rows : List Row) → IsFound known (record { label = label; takes_value = takes }) → takes ≡ true
      → settle (rules known) (held rows (Some (text_of label, []))) ≡ None
  option_stop label false rows found takes = absurd (true≢false (sym takes))
  option_stop label true rows found takes = no_value label rows found

  -- the walk from a state where no option waits, and from one where one does
  pub ends : (words : List Text) → AllText words → IdleEnds words × OptionEnds words
  unfolding walk_fault
  ends [] text = (
    (λ rows pending. sym (bind_some (settle (rules known) (held rows pending)))),
    (λ choice found takes rows. option_stop choice.label choice.takes_value rows found takes),
  )
  ends (word ∷ rest) text =
      let following = ends rest text.1 in (
        (λ rows pending. idle_turn known word (held rows pending) rest
            ∙ idle_word word rest (bytes_eq word (codes "--")) (long_of word) (short_of word) rows pending text.0 refl (λ r. following.0 r None) following.1),
        (λ choice found takes rows. option_end choice.label choice.takes_value word rest rows text.0 following.0 following.1 found takes),
      )
