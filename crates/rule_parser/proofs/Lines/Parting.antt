-- The fold over options, option by option, as the loop over a rule's options goes through it.
use Rattle.std.proofs.Common.{◌≡◌, ℕ, ◌+◌, ◌-◌, ◌<◌, Bool, true, false, Option, Some, None, Result, Ok, Err, List, [], ◌∷◌}
use Rattle.std.proofs.Common.{length, take, drop, refl, ap, sym, ◌∙◌, cond, arith, length-drop, length-take}
use Rattle.std.proofs.lemmas.List.{take_rest}
use Rattle.std.specs.List.{list_all}
use Rattle.conf_types.specs.declared.classes.Class.{Class}
use Rattle.edge_io.specs.Bytes.{is_blank}
use Rattle.edge_io.specs.OnResult.{◌>>=◌}
use Rattle.net_lists.specs.declared.stop.Stop.{Stop}
use Rattle.net_lists.specs.declared.stop.Stop.TheVariants.{NoMemory, Wrong}
use Rattle.rule_parser.specs.declared.draft.RuleDraft.{RuleDraft}
use Rattle.rule_parser.specs.declared.fault.Fault.{Fault}
use Rattle.rule_parser.specs.declared.fault.Fault.TheVariants.{OptionSyntax}
use Rattle.rule_parser.specs.Bits.{GivesWith}
use Rattle.rule_parser.specs.RuleLine.{rule_options}
use Rattle.rule_parser.specs.RuleOption.{rule_option}
use Rattle.rule_parser.specs.Written.{outside, option_len, option_texts, IsFirstOption}
use Rattle.rule_parser.proofs.Lines.Cutting.{texts_at, option_texts-at}

-- the text that is cut at this place has its first option before it
pub first-cut : (text : List ℕ) (len : ℕ) → option_len outside text ≡ Some len → len < length text → IsFirstOption text (take len text) (take (length text - (len + 1)) (drop (len + 1) text))
first-cut text len found within =
    let rest : take (length text - (len + 1)) (drop (len + 1) text) ≡ drop (len + 1) text = take_rest text (len + 1) in
    record {
      texts = rw found at (option_texts-at outside text) ∙ ap (λ (t : List ℕ). take len text ∷ option_texts outside t) (sym rest);
      lengths = omega (arith, ap length rest, length-take len text, length-drop (len + 1) text);
    }

pub none-cut : (text : List ℕ) → option_len outside text ≡ None → option_texts outside text ≡ text ∷ []
none-cut text none = rw none at (option_texts-at outside text)

pub ruleset first_options = (first-cut, none-cut)

-- the texts are never none
unfoldable has_text : List (List ℕ) → Bool
has_text [] = false
has_text (text ∷ texts) = true

texts_at-has : (text : List ℕ) (len : Option ℕ) → has_text (texts_at text len) ≡ true
unfolding has_text
texts_at-has text None = refl
texts_at-has text (Some len) = refl

option_texts-has : (text : List ℕ) → has_text (option_texts outside text) ≡ true
option_texts-has text = ap has_text (option_texts-at outside text) ∙ texts_at-has text (option_len outside text)

-- a step of the fold, where texts are left after it
options-more : (classes : List Class) (names : List (List ℕ)) (draft : RuleDraft) (left : ℕ) (text : List ℕ) (texts : List (List ℕ)) → has_text texts ≡ true
    → rule_options classes names draft left (text ∷ texts) ≡ (rule_option classes names draft left text >>= λ after. rule_options classes after.1 after.0 (left - (length text + 1)) texts)
unfolding rule_options has_text
options-more classes names draft left text [] h = cc
options-more classes names draft left text (next ∷ more) h = refl

-- the fold over a text's options is the first option and the fold over those after it
pub options-step : (classes : List Class) (names : List (List ℕ)) (draft : RuleDraft) (text option after : List ℕ) (left : ℕ) → left ≡ length text + 1 → IsFirstOption text option after
    → rule_options classes names draft (length text + 1) (option_texts outside text)
    ≡ (rule_option classes names draft left option >>= λ next. rule_options classes next.1 next.0 (length after + 1) (option_texts outside after))
options-step classes names draft text option after left is cut =
    let less : left - (length option + 1) ≡ length after + 1 = omega (arith, cut.lengths) in
    ap (λ (n : ℕ). rule_options classes names draft n (option_texts outside text)) (sym is)
    ∙ ap (rule_options classes names draft left) cut.texts
    ∙ options-more classes names draft left option (option_texts outside after) (option_texts-has after)
    ∙ ap (λ (n : ℕ). rule_option classes names draft left option >>= λ next. rule_options classes next.1 next.0 n (option_texts outside after)) less

-- after an option that is read
pub options-next : (classes : List Class) (whole : Result (RuleDraft × List (List ℕ)) Fault) (names later : List (List ℕ)) (draft next : RuleDraft) (text option after : List ℕ) (left : ℕ)
    → whole ≡ rule_options classes names draft (length text + 1) (option_texts outside text) → left ≡ length text + 1 → IsFirstOption text option after
    → rule_option classes names draft left option ≡ Ok (next, later)
    → whole ≡ rule_options classes later next (length after + 1) (option_texts outside after)
options-next classes whole names later draft next text option after left so_far is cut read = so_far ∙ options-step classes names draft text option after left is cut ∙ rw read refl

-- at an option that stops the reader
pub options-stop : (classes : List Class) (stop : Stop Fault) (whole : Result (RuleDraft × List (List ℕ)) Fault)
    (names later : List (List ℕ)) (draft : RuleDraft) (text option after : List ℕ) (left : ℕ)
    → whole ≡ rule_options classes names draft (length text + 1) (option_texts outside text)
    → left ≡ length text + 1
    → IsFirstOption text option after
    → GivesWith {X = RuleDraft} (Err stop) later (rule_option classes names draft left option)
    → GivesWith {X = RuleDraft} (Err stop) later whole
options-stop classes NoMemory whole names later draft text option after left so_far is cut read = tt
options-stop classes (Wrong why) whole names later draft text option after left so_far is cut read = so_far ∙ options-step classes names draft text option after left is cut ∙ rw read refl

-- after the last option only blanks may come
abbrev pub at_end : Bool → RuleDraft → List (List ℕ) → Result (RuleDraft × List (List ℕ)) Fault
at_end blank draft names = cond blank (Ok (draft, names)) (Err OptionSyntax)

options-last : (classes : List Class) (names : List (List ℕ)) (draft : RuleDraft) (text : List ℕ) (left : ℕ)
    → rule_options classes names draft left (text ∷ []) ≡ at_end (list_all is_blank text) draft names
unfolding rule_options
options-last classes names draft text left = refl

pub options-end : (classes : List Class) (whole : Result (RuleDraft × List (List ℕ)) Fault) (names : List (List ℕ)) (draft : RuleDraft) (text : List ℕ) (blank : Bool)
    → whole ≡ rule_options classes names draft (length text + 1) (option_texts outside text) → option_texts outside text ≡ text ∷ [] → blank ≡ list_all is_blank text
    → whole ≡ at_end blank draft names
options-end classes whole names draft text blank so_far last is =
    so_far ∙ ap (rule_options classes names draft (length text + 1)) last ∙ options-last classes names draft text (length text + 1) ∙ ap (λ (b : Bool). at_end b draft names) (sym is)
