-- Numbers in the payload: byte_test, byte_jump, byte_extract and isdataat (Snort Users Manual 2.9, section 3.5).
--
-- Parts are between commas; the blanks around a part are dropped. The first parts have their places, then
-- words follow in any order, each at most once. A number of 1 to 4 bytes is read, or of 1 to 10 with the
-- word `string`; `dec`, `hex` and `oct` want `string`, at most one of them. Of `big` and `little` together
-- `little` holds (own). The word `dce` and the operator `^` are outside the profile. What needs a later part
-- is looked at last. A rule extracts at most two names.
-- To try it on: `byte_test:4,!>,1000,20,relative` holds of a number that isn't above 1000; `byte_jump:5,0` is a
-- wrong value, and `byte_jump:5,0,string` is read.
use Rattle.std.specs.Prelude.{ℕ, ◌+◌, ◌-◌, ◌==◌, ◌&&◌, ◌||◌, Bool, true, false, not, pos, negsuc, Option, Some, None, Result, Ok, Err, List, [], ◌∷◌, ◌++◌, length, take, drop, bytes_eq, codes, nat_le, is_some, option_copied, unwrap_or, position, if◌then◌else◌}
use Rattle.std.specs.List.{prefix_len}
use Rattle.edge_io.specs.Bytes.{is_blank, trimmed}
use Rattle.edge_io.specs.OnResult.{◌>>=◌}
use Rattle.net_lists.specs.Cutting.{comma_parts, first_word, after_word}
use Rattle.net_lists.specs.Folds.{draft_after}
use Rattle.net_lists.specs.Numbers.{number_in, signed_in}
use Rattle.net_lists.specs.Stops.{or_kind}
use Rattle.rule_parser.specs.declared.byte_options.LentComparison.{LentComparison}
use Rattle.rule_parser.specs.declared.byte_options.LentExtraction.{LentExtraction}
use Rattle.rule_parser.specs.declared.byte_options.LentPart.{LentPart}
use Rattle.rule_parser.specs.declared.byte_words.Which.{Which}
use Rattle.rule_parser.specs.declared.byte_words.Which.TheVariants.{Test, Jump, Extract}
use Rattle.rule_parser.specs.declared.byte_words.ByteWords.{ByteWords}
use Rattle.rule_parser.specs.declared.draft.RuleDraft.{RuleDraft}
use Rattle.rule_parser.specs.declared.fault.Fault.{Fault}
use Rattle.rule_parser.specs.declared.fault.Fault.TheVariants.{OptionValue, OutsideProfile, Limit}
use Rattle.rule_types.specs.declared.option.Base.{Base}
use Rattle.rule_types.specs.declared.option.Base.TheVariants as base
use Rattle.rule_types.specs.declared.option.Cmp.{Cmp}
use Rattle.rule_types.specs.declared.option.Cmp.TheVariants as cmp
use Rattle.rule_types.specs.declared.option.Fetch.{Fetch}
use Rattle.rule_types.specs.declared.option.Num.{Num}
use Rattle.rule_types.specs.declared.option.Opt.{Opt}
use Rattle.rule_types.specs.declared.option.Opt.TheVariants as opt
use Rattle.rule_parser.specs.Contents.{negation}
use Rattle.rule_parser.specs.Drafts.{kept}
use Rattle.net_lists.specs.Variables.{is_name}
use Rattle.rule_parser.specs.Names.{place_among, signed_or_named, number_or_named}

-- A part of a value, with the number of the line's bytes that are left where it begins, and what comes
-- after its comma, if there is a comma (44).
pub record Part : Type 0 where
  pub text : List ℕ
  pub left : ℕ
  pub after : Option (List ℕ)
  pub left_after : ℕ

-- what is seen of a part that the code lends
abbrev pub seen : LentPart → Part
seen part = record { text = part.text.now; left = part.left; after = option_copied part.after; left_after = part.left_after }

-- the place of the first comma
abbrev pub comma : List ℕ → Option ℕ
comma text = position (λ b. b == 44) text

-- the first part of a text
abbrev pub part_to : ℕ → List ℕ → Option ℕ → Part
part_to left text None = record { text = trimmed text; left = left - prefix_len is_blank text; after = None; left_after = 0 }
part_to left text (Some place) = record {
  text = trimmed (take place text);
  left = left - prefix_len is_blank text;
  after = Some (drop (place + 1) text);
  left_after = left - (place + 1);
}

unfoldable pub first_part : ℕ → List ℕ → Part
first_part left text = part_to left text (comma text)

-- the part after one, where there is one
unfoldable pub next_part : Part → Result Part Fault
next_part part = do
  text ← or_kind OptionValue part.after
  Ok (first_part part.left_after text)

-- no words
abbrev pub no_words : ByteWords
no_words = record {
  relative = false;
  big = false;
  little = false;
  string = false;
  base = None;
  times = None;
  align = None;
  beginning = false;
  post = None;
}

-- a word that may be given once
abbrev pub once_only : Bool → ByteWords → Result ByteWords Fault
once_only is_given next = if is_given then Err OptionValue else Ok next

-- the numbers after the words `multiplier`, `post_offset` and `align`
unfoldable pub with_times : ByteWords → List ℕ → Result ByteWords Fault
with_times words number = do
  times ← or_kind OptionValue (number_in 0 65535 number)
  once_only (is_some words.times) (record words { times = Some times })

unfoldable pub with_post : ByteWords → List ℕ → Result ByteWords Fault
with_post words number = do
  post ← or_kind OptionValue (signed_in (negsuc 65534) (pos 65535) number)
  once_only (is_some words.post) (record words { post = Some post })

unfoldable pub with_multiple : ByteWords → List ℕ → Result ByteWords Fault
with_multiple words number =
    if bytes_eq number (codes "2") then once_only (is_some words.align) (record words { align = Some 2 })
    else if bytes_eq number (codes "4") then once_only (is_some words.align) (record words { align = Some 4 })
    else Err OptionValue

-- the words that each of the three options has
unfoldable pub shared_word : ByteWords → List ℕ → Result ByteWords Fault
shared_word words part =
    if bytes_eq part (codes "relative") then once_only words.relative (record words { relative = true })
    else if bytes_eq part (codes "big") then once_only words.big (record words { big = true })
    else if bytes_eq part (codes "little") then once_only words.little (record words { little = true })
    else if bytes_eq part (codes "string") then once_only words.string (record words { string = true })
    else if bytes_eq part (codes "dec") then once_only (is_some words.base) (record words { base = Some base.Dec })
    else if bytes_eq part (codes "hex") then once_only (is_some words.base) (record words { base = Some base.Hex })
    else if bytes_eq part (codes "oct") then once_only (is_some words.base) (record words { base = Some base.Oct })
    else if bytes_eq part (codes "dce") then Err OutsideProfile
    else Err OptionValue

-- the words of byte_jump and byte_extract, with their number or without one
unfoldable pub jump_word : ByteWords → List ℕ → Result ByteWords Fault
jump_word words part =
    if bytes_eq (first_word part) (codes "multiplier") then with_times words (after_word part)
    else if bytes_eq (first_word part) (codes "post_offset") then with_post words (after_word part)
    else if bytes_eq part (codes "align") then once_only (is_some words.align) (record words { align = Some 4 })
    else if bytes_eq part (codes "from_beginning") then once_only words.beginning (record words { beginning = true })
    else shared_word words part

unfoldable pub extract_word : ByteWords → List ℕ → Result ByteWords Fault
extract_word words part =
    if bytes_eq (first_word part) (codes "multiplier") then with_times words (after_word part)
    else if bytes_eq (first_word part) (codes "align") then with_multiple words (after_word part)
    else shared_word words part

-- a word of an option
abbrev pub word_of : Which → ByteWords → List ℕ → Result ByteWords Fault
word_of Test = shared_word
word_of Jump = jump_word
word_of Extract = extract_word

-- all words after the parts that have their places
unfoldable pub words_of : Which → Option (List ℕ) → Result ByteWords Fault
words_of which None = Ok no_words
words_of which (Some text) = draft_after (word_of which) no_words (comma_parts text)

-- how the bytes are read
abbrev pub base_of : ByteWords → Base
base_of words = if words.string then unwrap_or words.base base.Dec else base.Binary words.little

-- what needs a later part: `dec`, `hex` and `oct` want `string`, and so do more than 4 bytes
abbrev pub lacks_string : ℕ → ByteWords → Bool
lacks_string bytes words = not words.string && (is_some words.base || not (nat_le bytes 4))

-- which bytes are read
unfoldable pub fetch_of : ℕ → Num → ByteWords → Result Fetch Fault
fetch_of bytes offset words =
    if lacks_string bytes words then Err OptionValue else Ok
    (record { bytes = bytes; offset = offset; relative = words.relative; base = base_of words })

-- a byte_jump with these words, and a byte_extract with them under the name of this place
abbrev pub jump_of : Fetch → ByteWords → Opt
jump_of fetch words =
    opt.ByteJump fetch (unwrap_or words.times 1) (is_some words.align) words.beginning (unwrap_or words.post (pos 0))

abbrev pub extract_of : Fetch → ℕ → ByteWords → Opt
extract_of fetch name words = opt.ByteExtract fetch name (unwrap_or words.times 1) (unwrap_or words.align 0)

-- an operator of byte_test after its `!`, if there is one
unfoldable pub operator_of : Bool → List ℕ → Result Cmp Fault
operator_of negated text =
    if bytes_eq text (codes "<") then Ok cmp.Lt
    else if bytes_eq text (codes ">") then Ok cmp.Gt
    else if bytes_eq text (codes "=") then Ok cmp.Eq
    else if bytes_eq text (codes "<=") then Ok cmp.Le
    else if bytes_eq text (codes ">=") then Ok cmp.Ge
    else if bytes_eq text (codes "&") then Ok cmp.And
    else if bytes_eq text (codes "^") then Err OutsideProfile
    else if negated && length text == 0 then Ok cmp.Eq
    else Err OptionValue

-- an offset: -65535 to 65535, or a name
abbrev pub offset_of : List (List ℕ) → Part → Result Num Fault
offset_of names part = signed_or_named (negsuc 65534) (pos 65535) names part.left part.text

-- what byte_test compares with, and how: the parts after the first one, with the last of them
pub record Comparison : Type 0 where
  pub negated : Bool
  pub cmp : Cmp
  pub value : Num
  pub part : Part

-- what is seen of a comparison that the code lends
abbrev pub seen_comparison : LentComparison → Comparison
seen_comparison comparison = record {
  negated = comparison.negated;
  cmp = comparison.cmp;
  value = comparison.value;
  part = seen comparison.part;
}

-- the comparison after the first part
unfoldable pub comparison_of : List (List ℕ) → Part → Result Comparison Fault
comparison_of names count = do
  operator ← next_part count
  cmp ← operator_of (negation operator.text).0 (negation operator.text).1
  against ← next_part operator
  number ← number_or_named 0 4294967295 names against.left against.text
  Ok (record { negated = (negation operator.text).0; cmp = cmp; value = number; part = against })

-- what the value of `byte_test:n,[!]op,value,offset[,..]` says, after these names
unfoldable pub byte_test : List (List ℕ) → ℕ → List ℕ → Result Opt Fault
byte_test names left value = do
  let count = first_part left value
  bytes ← or_kind OptionValue (number_in 1 10 count.text)
  comparison ← comparison_of names count
  place ← next_part comparison.part
  offset ← offset_of names place
  words ← words_of Test place.after
  fetch ← fetch_of bytes offset words
  Ok (opt.ByteTest fetch comparison.negated comparison.cmp comparison.value)

unfoldable pub byte_test_option : RuleDraft → ℕ → List ℕ → Result RuleDraft Fault
byte_test_option draft left value = byte_test draft.names left value >>= kept draft

-- what the value of `byte_jump:n,offset[,..]` says, after these names
unfoldable pub byte_jump : List (List ℕ) → ℕ → List ℕ → Result Opt Fault
byte_jump names left value = do
  let count = first_part left value
  bytes ← or_kind OptionValue (number_in 1 10 count.text)
  place ← next_part count
  offset ← offset_of names place
  words ← words_of Jump place.after
  fetch ← fetch_of bytes offset words
  Ok (jump_of fetch words)

unfoldable pub byte_jump_option : RuleDraft → ℕ → List ℕ → Result RuleDraft Fault
byte_jump_option draft left value = byte_jump draft.names left value >>= kept draft

-- the names with this one, and its place: a name that is there keeps its place
abbrev pub with_name : List (List ℕ) → List ℕ → Option ℕ → Result (List (List ℕ) × ℕ) Fault
with_name names name (Some place) = Ok (names, place)
with_name names name None = if nat_le 2 (length names) then Err Limit else Ok (names ++ name ∷ [], length names)

-- A byte_extract before its name has a place among the others.
pub record Extraction : Type 0 where
  pub fetch : Fetch
  pub words : ByteWords
  pub name : List ℕ

-- what is seen of one that the code lends
abbrev pub seen_extraction : LentExtraction → Extraction
seen_extraction found = record { fetch = found.fetch; words = found.words; name = found.name.now }

-- what the value of `byte_extract:n,offset,name[,..]` says, after these names
unfoldable pub byte_extract : List (List ℕ) → ℕ → List ℕ → Result Extraction Fault
byte_extract names left value = do
  let count = first_part left value
  bytes ← or_kind OptionValue (number_in 1 10 count.text)
  place ← next_part count
  offset ← offset_of names place
  name ← next_part place
  words ← if is_name name.text then words_of Extract name.after else Err OptionValue
  fetch ← fetch_of bytes offset words
  Ok (record { fetch = fetch; words = words; name = name.text })

-- the draft with a byte_extract, and its name among the others
unfoldable pub with_extraction : RuleDraft → Extraction → Result RuleDraft Fault
with_extraction draft found = do
  names ← with_name draft.names found.name (place_among found.name draft.names)
  kept (record draft { names = names.0 }) (extract_of found.fetch names.1 found.words)

unfoldable pub byte_extract_option : RuleDraft → ℕ → List ℕ → Result RuleDraft Fault
byte_extract_option draft left value = byte_extract draft.names left value >>= with_extraction draft

-- one word after the number of isdataat: whether it is `relative`
abbrev pub data_word : List ℕ → Result Bool Fault
data_word word =
    if bytes_eq word (codes "relative") then Ok true else if bytes_eq word (codes "rawbytes") then Ok false else Err OptionValue

-- what may follow the number of isdataat: `relative`, and then `rawbytes`
unfoldable pub data_words : List (List ℕ) → Result Bool Fault
data_words [] = Ok false
data_words (first ∷ []) = data_word first
data_words (first ∷ second ∷ []) =
    if bytes_eq first (codes "relative") && bytes_eq second (codes "rawbytes") then Ok true else Err OptionValue
data_words (first ∷ second ∷ third ∷ more) = Err OptionValue

-- the parts of a text that may lack
abbrev pub parts_after : Option (List ℕ) → List (List ℕ)
parts_after None = []
parts_after (Some text) = comma_parts text

-- what the value of `isdataat:[!]n[,relative][,rawbytes]` says, after these names
unfoldable pub isdataat : List (List ℕ) → ℕ → List ℕ → Result Opt Fault
isdataat names left value = do
  let place = first_part left value
  let sign = negation place.text
  at ← number_or_named 0 65535 names (place.left - (if sign.0 then 1 else 0)) sign.1
  relative ← data_words (parts_after place.after)
  Ok (opt.IsDataAt at relative sign.0)

unfoldable pub isdataat_option : RuleDraft → ℕ → List ℕ → Result RuleDraft Fault
isdataat_option draft left value = isdataat draft.names left value >>= kept draft
