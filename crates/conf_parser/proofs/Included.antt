-- A file that a line includes may be read: its name is UTF-8 where the including file's is, and fewer files than
-- the most were read.
use Rattle.std.proofs.Common.{◌≡◌, ℕ, zero, suc, ◌+◌, ◌-◌, ◌<◌, ◌≤◌, ◌==◌, not, Bool, true, false, cond, List, ◌++◌}
use Rattle.std.proofs.Common.{length, get_or, take, Option, Some, None, Result, Ok, refl, ap, subst, ◌∙◌, arith}
use Rattle.std.proofs.Common.{eqb-true}
use Rattle.std.specs.Prelude.{nat_le}
use Rattle.std.specs.List.{suffix_len}
use Rattle.std.specs.Str.{IsUtf8, is_utf8}
use Rattle.std.proofs.lemmas.Bool.Decides.{nat_tests}
use Rattle.std.proofs.lemmas.List.Sums.{suffix_len-take_no, suffix_len-take_yes}
use Rattle.std.proofs.lemmas.List.{take_all}
use Rattle.std.proofs.lemmas.Str.{IsUtf8-append, IsUtf8-take, IsUtf8-nil, IsCharBoundary-after_ascii, IsUtf8-from_is_utf8, is_utf8-from_IsUtf8}
use Rattle.net_lists.specs.Cutting.{first_word, after_word}
use Rattle.net_lists.specs.Variables.{Variables}
use Rattle.net_lists.proofs.Steps.{Holds, given, refused, tested, unless, chained, after_any}
use Rattle.conf_parser.specs.declared.draft.Draft.{Draft}
use Rattle.conf_parser.specs.declared.draft.Settings.{Settings}
use Rattle.conf_parser.specs.declared.given.Onward.{Onward}
use Rattle.conf_parser.specs.declared.line.ConfKind.{ConfKind}
use Rattle.conf_parser.specs.declared.line.ConfKind.TheVariants as kinds
use Rattle.conf_parser.specs.declared.name.Directive.{Directive}
use Rattle.conf_parser.specs.declared.name.Directive.TheVariants as directive
use Rattle.conf_parser.specs.declared.variables.ValueForm.TheVariants as form
use Rattle.conf_parser.specs.Values.{expanded, name_of, or_kind, is_empty}
use Rattle.conf_parser.specs.Spots.{Spot}
use Rattle.conf_parser.specs.Names.{config_name, preprocessor_name, directive_named}
use Rattle.conf_parser.specs.Variables.{directory, is_rooted, beside, within_files, is_file_name, include, definition}
use Rattle.conf_parser.specs.ConfLine.{definition_line, include_line}
use Rattle.conf_parser.specs.ConfLine.{after_draft, named_or_skipped, config_line, preprocessor_line}
use Rattle.conf_parser.specs.ConfLine.{filter_line, suppress_line, directive_line, conf_line}
use Rattle.conf_parser.specs.Steps.{MayBeRead, MayGive}
use Rattle.conf_parser.proofs.Sound.Steps.{changed, free}

-- ---- names

abbrev no_slash : ℕ → Bool
no_slash byte = not (byte == 47)

-- a slash is ASCII
slash_ascii : (byte : ℕ) → no_slash byte ≡ false → byte < 128
slash_ascii byte e = omega (arith, eqb-true byte 47 (is_slash (byte == 47) e))
  where
    is_slash : (b : Bool) → not b ≡ false → b ≡ true
    is_slash true h = refl
    is_slash false h = cc

-- one byte more of a file's name, before its directory part is cut
directory_step : (file : List ℕ) (m : ℕ) → IsUtf8 file → suc m ≤ length file → IsUtf8 (take (m - suffix_len no_slash (take m file)) file)
    → IsUtf8 (take (suc m - suffix_len no_slash (take (suc m) file)) file)
directory_step file m text within before = go (no_slash (get_or file m 0)) refl
  where
    go : (b : Bool) → no_slash (get_or file m 0) ≡ b → IsUtf8 (take (suc m - suffix_len no_slash (take (suc m) file)) file)
    go true e =
        let one : suc m - 1 ≡ m = omega arith in
        let more : suffix_len no_slash (take (suc m) file) ≡ 1 + suffix_len no_slash (take (suc m - 1) file) =
        suffix_len-take_yes no_slash file (suc m) 0 (omega arith) within (ap (λ k. no_slash (get_or file k 0)) one ∙ e) in
        let last : suffix_len no_slash (take (suc m) file) ≡ 1 + suffix_len no_slash (take m file) = more ∙ ap (λ k. 1 + suffix_len no_slash (take k file)) one in
        let same : m - suffix_len no_slash (take m file) ≡ suc m - suffix_len no_slash (take (suc m) file) = omega (arith, last) in
        subst (λ k. IsUtf8 (take k file)) same before
    go false e =
        let one : suc m - 1 ≡ m = omega arith in
        let none : suffix_len no_slash (take (suc m) file) ≡ 0 =
        suffix_len-take_no no_slash file (suc m) 0 (omega arith) within (ap (λ k. no_slash (get_or file k 0)) one ∙ e) in
        let all : m + 1 ≡ suc m - suffix_len no_slash (take (suc m) file) = omega (arith, none) in
        subst (λ k. IsUtf8 (take k file)) all (IsUtf8-take file (m + 1) text (IsCharBoundary-after_ascii file m text (omega arith) (slash_ascii (get_or file m 0) e)))

directory_at : (file : List ℕ) (n : ℕ) → IsUtf8 file → n ≤ length file → IsUtf8 (take (n - suffix_len no_slash (take n file)) file)
directory_at file zero text within =
    let none : 0 ≡ 0 - suffix_len no_slash (take 0 file) = omega arith in
    subst (λ k. IsUtf8 (take k file)) none IsUtf8-nil
directory_at file (suc m) text within = directory_step file m text within (directory_at file m text (omega arith))

-- the directory part of a name
directory-text : (file : List ℕ) → IsUtf8 file → IsUtf8 (directory file)
unfolding directory
directory-text file text =
    let whole : take (length file) file ≡ file = take_all (length file) file (omega arith) in
    subst (λ (t : List ℕ). IsUtf8 (take (length file - suffix_len no_slash t) file)) whole (directory_at file (length file) text (omega arith))

-- the file that a name means in a file
beside-text : (file name : List ℕ) → is_utf8 file ≡ true → is_utf8 name ≡ true → is_utf8 (beside file name) ≡ true
unfolding beside
beside-text file name f n = go (is_rooted name)
  where
    go : (b : Bool) → is_utf8 (cond b name (directory file ++ name)) ≡ true
    go true = n
    go false = is_utf8-from_IsUtf8 _ (IsUtf8-append (directory file) name (directory-text file (IsUtf8-from_is_utf8 file f)) (IsUtf8-from_is_utf8 name n))

-- ---- the lines

is_file_name-text : (name : List ℕ) → Holds (λ n. is_utf8 n ≡ true) (is_file_name name)
is_file_name-text name = tested (is_utf8 name) (λ e. given e) (λ _. refused)

within_files-read : (spot : Spot) (name : List ℕ) → is_utf8 spot.file ≡ true → is_utf8 name ≡ true → Holds (MayBeRead spot.files) (within_files spot name)
unfolding within_files
within_files-read spot name f n =
    unless (nat_le 16 spot.depth) _ (λ _. unless _ _ (λ room. given (record { text = beside-text spot.file name f n; few = few spot.files room })))
  where
    few : (count : ℕ) → nat_le 4096 count ≡ false → count < 4096
    few count room = grind (arith, nat_tests)

include-read : (variables : Variables) (spot : Spot) (rest : List ℕ) → is_utf8 spot.file ≡ true → Holds (MayBeRead spot.files) (include variables spot rest)
unfolding include
include-read variables spot rest f =
    unless (is_empty rest) _ (λ _. chained (after_any (expanded variables rest) is_file_name-text) (λ n h. within_files-read spot n f h))

-- what a line hands on may be read
abbrev Fine : ℕ → Onward → Type 0
Fine count after = MayGive count after.given

drafted-fine : (count : ℕ) (settings : Settings) (r : Result Draft ConfKind) → Holds (Fine count) (after_draft settings r)
drafted-fine count settings r = free _ r (λ draft. tt)

named-fine : {N : Type 0} (count : ℕ) (settings : Settings) (word name : List ℕ) (known : Option N)
    (read : N → Result Draft ConfKind)
    → Holds (Fine count) (named_or_skipped settings word name known read)
named-fine count settings word name None read = given tt
named-fine count settings word name (Some n) read = drafted-fine count settings (read n)

directive_line-fine : (spot : Spot) (settings : Settings) (known : Directive) (word rest : List ℕ) → is_utf8 spot.file ≡ true → Holds (Fine spot.files) (directive_line spot settings known word rest)
unfolding directive_line definition_line include_line config_line preprocessor_line filter_line suppress_line
directive_line-fine spot settings directive.Rule word rest f = given tt
directive_line-fine spot settings directive.Var word rest f = free _ (definition settings.vars form.Any rest) (λ variables. tt)
directive_line-fine spot settings directive.IpVar word rest f = free _ (definition settings.vars form.Addresses rest) (λ variables. tt)
directive_line-fine spot settings directive.PortVar word rest f = free _ (definition settings.vars form.Ports rest) (λ variables. tt)
directive_line-fine spot settings directive.Include word rest f = changed _ (include-read settings.vars spot rest f) (λ n h. h)
directive_line-fine spot settings directive.Config word rest f = named-fine spot.files settings word (name_of rest) (config_name (name_of rest)) _
directive_line-fine spot settings directive.Preprocessor word rest f = named-fine spot.files settings word (name_of rest) (preprocessor_name (name_of rest)) _
directive_line-fine spot settings directive.EventFilter word rest f = drafted-fine spot.files settings _
directive_line-fine spot settings directive.Suppress word rest f = drafted-fine spot.files settings _
directive_line-fine spot settings directive.Skipped word rest f = given tt
directive_line-fine spot settings directive.Outside word rest f = refused

conf_line-fine : (spot : Spot) (settings : Settings) (line : List ℕ) → is_utf8 spot.file ≡ true → Holds (Fine spot.files) (conf_line spot settings line)
unfolding conf_line
conf_line-fine spot settings line f =
    after_any (or_kind kinds.UnknownDirective (directive_named (first_word line))) (λ known. directive_line-fine spot settings known (first_word line) (after_word line) f)

-- what an accepted line hands on may be read
pub given_may : (spot : Spot) (settings : Settings) (line : List ℕ) (after : Onward) → conf_line spot settings line ≡ Ok after → is_utf8 spot.file ≡ true → MayGive spot.files after.given
given_may spot settings line after meant f = (subst (λ (r : Result Onward ConfKind). Holds (Fine spot.files) r) meant (conf_line-fine spot settings line f)).holds
