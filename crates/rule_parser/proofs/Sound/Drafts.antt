-- A rule that is sound as far as its options are read.
use Rattle.std.proofs.Common.{◌≡◌, ℕ, zero, suc, ◌+◌, ◌<◌, ◌≤◌, Bool, false, cond, Option, Some, None, List, ◌∷◌, []}
use Rattle.std.proofs.Common.{◌++◌, length, take, insert, refl, sym, ap, subst, arith, IfSome, Contains, count_by, nat_le}
use Rattle.std.proofs.Common.{is_some}
use Rattle.std.proofs.lemmas.List.{take-append-le}
use Rattle.std.proofs.lemmas.List.Edits.{length-insert}
use Rattle.std.proofs.lemmas.List.Sums.{sum_by-append, sum_by-insert}
use Rattle.std.proofs.lemmas.Bool.Decides.{nat_tests}
use Rattle.std.proofs.lemmas.Grind.{common_steps}
use Rattle.net_lists.proofs.Steps.{Holds, given, unless}
use Rattle.rule_parser.specs.declared.draft.ClassName.{ClassName}
use Rattle.rule_parser.specs.declared.draft.ClassName.TheVariants as class
use Rattle.rule_parser.specs.declared.draft.RuleDraft.{RuleDraft}
use Rattle.rule_parser.specs.declared.draft.LastContent.{LastContent}
use Rattle.rule_types.specs.declared.option.Content.{Content}
use Rattle.rule_types.specs.declared.option.Opt.{Opt}
use Rattle.rule_types.specs.declared.option.Opt.TheVariants as opt
use Rattle.rule_parser.specs.Contents.{is_only}
use Rattle.rule_parser.specs.Drafts.{empty_draft, kept, with_held, kept_count}
use Rattle.rule_types.specs.Sound.{IsContent, IsOption, AreOptions, names_after_one, is_chosen, is_fast}

-- the names that are extracted after these options
abbrev pub names_after : List ℕ → List Opt → List ℕ
names_after names [] = names
names_after names (option ∷ rest) = names_after (names_after_one names option) rest

pub names_after-append : (names : List ℕ) (xs ys : List Opt) → names_after names (xs ++ ys) ≡ names_after (names_after names xs) ys
names_after-append names [] ys = refl
names_after-append names (x ∷ xs) ys = names_after-append (names_after_one names x) xs ys

pub AreOptions-append : (names : List ℕ) (xs ys : List Opt) → AreOptions names xs → AreOptions (names_after names xs) ys → AreOptions names (xs ++ ys)
AreOptions-append names [] ys h k = k
AreOptions-append names (x ∷ xs) ys h k = (h.0, AreOptions-append (names_after_one names x) xs ys h.1 k)

-- a content in its place: it extracts no name
pub AreOptions-insert : (names : List ℕ) (xs : List Opt) (place : ℕ) (content : Content)
    → AreOptions names xs
    → IsContent (names_after names (take place xs)) content
    → AreOptions names (insert xs place (opt.Content content))
AreOptions-insert names xs zero content h k = (k, h)
AreOptions-insert names [] (suc place) content h k = (k, h)
AreOptions-insert names (x ∷ xs) (suc place) content h k = (h.0, AreOptions-insert (names_after_one names x) xs place content h.1 k)

pub names_after-insert : (names : List ℕ) (xs : List Opt) (place : ℕ) (content : Content) → names_after names (insert xs place (opt.Content content)) ≡ names_after names xs
names_after-insert names xs zero content = refl
names_after-insert names [] (suc place) content = refl
names_after-insert names (x ∷ xs) (suc place) content = names_after-insert (names_after_one names x) xs place content

-- each of the first `count` names is extracted
abbrev pub AreNamed : List ℕ → ℕ → Type 0
AreNamed names count = (k : ℕ) → k < count → Contains names k

-- the last content, which is kept apart
pub record IsHeld (opts : List Opt) (held : LastContent) : Type 0 where
  pub place : held.place ≤ length opts
  pub known : AreNamed (names_after [] (take held.place opts)) held.known
  pub content : IsContent (names_after [] (take held.place opts)) held.content
  pub placeless : held.placeless ≡ false → is_only held.content.fast ≡ false

-- how many fast patterns the last content is, one or none
abbrev pub fast_held : Option LastContent → ℕ
fast_held None = 0
fast_held (Some held) = cond (is_chosen held.content.fast) 1 0

-- how many contents are kept apart
abbrev pub count_held : Option LastContent → ℕ
count_held held = cond (is_some held) 1 0

-- the options that are kept, with the names that were extracted; whether there is a fast pattern
pub record AreKept (opts : List Opt) (last : Option LastContent) (names : List (List ℕ)) (fast : Bool) : Type 0 where
  pub options : AreOptions [] opts
  pub named : AreNamed (names_after [] opts) (length names)
  pub few : length names ≤ 2
  pub held : IfSome last (IsHeld opts)
  pub count : length opts + count_held last ≤ 64
  pub chosen : count_by is_fast opts + fast_held last ≤ cond fast 1 0

-- a class that is there, among `classes` classes
abbrev pub IsKnown : ℕ → ClassName → Type 0
IsKnown classes (class.Known place) = place < classes
IsKnown classes class.Unknown = Unit {0}

-- a draft is sound for `classes` classes
pub record IsSoundDraft (classes : ℕ) (draft : RuleDraft) : Type 0 where
  pub kept : AreKept draft.opts draft.held draft.names draft.fast
  pub msg : IfSome draft.msg (λ msg. length msg ≤ 1024)
  pub gid : IfSome draft.gid (λ gid. 1 ≤ gid)
  pub sid : IfSome draft.sid (λ sid. 1 ≤ sid)
  pub class : IfSome draft.class (IsKnown classes)
  pub period : IfSome draft.period (λ period. (1 ≤ period.count) × (1 ≤ period.seconds))

pub empty-sound : (classes : ℕ) → IsSoundDraft classes empty_draft
empty-sound classes = record {
  kept = record {
    options = tt;
    named = λ k h. absurd (omega arith);
    few = omega arith;
    held = tt;
    count = omega arith;
    chosen = omega arith;
  };
  msg = tt;
  gid = tt;
  sid = tt;
  class = tt;
  period = tt;
}

-- an option that is no fast pattern and extracts no name
abbrev pub IsPlain : Opt → Type 0
IsPlain option = (is_fast option ≡ false) × ((names : List ℕ) → names_after_one names option ≡ names)

-- the last content after one more option
held-kept : (opts : List Opt) (option : Opt) (held : Option LastContent) → IfSome held (IsHeld opts) → IfSome held (IsHeld (opts ++ option ∷ []))
held-kept opts option None h = tt
held-kept opts option (Some held) h =
    let front : take held.place (opts ++ option ∷ []) ≡ take held.place opts = take-append-le held.place opts (option ∷ []) h.place in
    let At : List Opt → Type 0 = λ xs. AreNamed (names_after [] xs) held.known in
    let In : List Opt → Type 0 = λ xs. IsContent (names_after [] xs) held.content in
    record {
      place = longer opts option held.place h.place;
      known = subst At (sym front) h.known;
      content = subst In (sym front) h.content;
      placeless = h.placeless;
    }
  where
    longer : (opts : List Opt) (option : Opt) (place : ℕ) → place ≤ length opts → place ≤ length (opts ++ option ∷ [])
    longer opts option place h = grind (arith, common_steps)

-- one more option, which may extract a name
pub kept-more : (opts : List Opt) (held : Option LastContent) (names after : List (List ℕ)) (fast : Bool) (option : Opt) → AreKept opts held names fast
    → IsOption (names_after [] opts) option → is_fast option ≡ false → AreNamed (names_after_one (names_after [] opts) option) (length after) → length after ≤ 2
    → nat_le 64 (length opts + count_held held) ≡ false → AreKept (opts ++ option ∷ []) held after fast
kept-more opts held names after fast option sound is_option plain named few room =
    let following : names_after [] (opts ++ option ∷ []) ≡ names_after_one (names_after [] opts) option = names_after-append [] opts (option ∷ []) in
    let At : List ℕ → Type 0 = λ found. AreNamed found (length after) in
    record {
      options = AreOptions-append [] opts (option ∷ []) sound.options (is_option, tt);
      named = subst At (sym following) named;
      few = few;
      held = held-kept opts option held sound.held;
      count = fits (length opts) (length (opts ++ option ∷ [])) (count_held held) (pushed opts option) room;
      chosen = same (sum_by-append (λ o. cond (is_fast o) 1 0) opts (option ∷ [])) plain sound.chosen;
    }
  where
    pushed : (opts : List Opt) (option : Opt) → length (opts ++ option ∷ []) ≡ length opts + 1
    pushed opts option = grind (arith, common_steps)

    fits : (len more held : ℕ) → more ≡ len + 1 → nat_le 64 (len + held) ≡ false → more + held ≤ 64
    fits len more held e room = grind (arith, nat_tests)

    same : count_by is_fast (opts ++ option ∷ []) ≡ count_by is_fast opts + count_by is_fast (option ∷ []) → is_fast option ≡ false
        → count_by is_fast opts + fast_held held ≤ cond fast 1 0 → count_by is_fast (opts ++ option ∷ []) + fast_held held ≤ cond fast 1 0
    same e plain h = let chosen : Bool → ℕ = λ b. cond b 1 0 in omega (arith, e, ap chosen plain)

-- one more option that extracts no name
pub kept-sound : (classes : ℕ) (draft : RuleDraft) (option : Opt)
    → IsSoundDraft classes draft
    → IsOption (names_after [] draft.opts) option
    → IsPlain option
    → Holds (IsSoundDraft classes) (kept draft option)
unfolding kept
kept-sound classes draft option sound is_option plain =
    unless (nat_le 64 (kept_count draft)) _ (λ room.
    let more =
    kept-more draft.opts draft.held draft.names draft.names draft.fast option sound.kept is_option plain.0
    (subst At (sym (plain.1 (names_after [] draft.opts))) sound.kept.named)
    sound.kept.few room in
    given (search (more, sound)))
  where
    At : List ℕ → Type 0
    At found = AreNamed found (length draft.names)

-- all options of a draft, the last content in its place
pub settled-options : (opts : List Opt) (held : Option LastContent) → AreOptions [] opts → IfSome held (IsHeld opts) → AreOptions [] (with_held opts held)
settled-options opts None h k = h
settled-options opts (Some held) h k = AreOptions-insert [] opts held.place held.content h k.content

pub settled-names : (opts : List Opt) (held : Option LastContent) → names_after [] (with_held opts held) ≡ names_after [] opts
settled-names opts None = refl
settled-names opts (Some held) = names_after-insert [] opts held.place held.content

pub settled-length : (opts : List Opt) (held : Option LastContent) → IfSome held (IsHeld opts) → length (with_held opts held) ≡ length opts + count_held held
settled-length opts None h = omega arith
settled-length opts (Some held) h = length-insert opts held.place (opt.Content held.content) h.place

pub settled-fast : (opts : List Opt) (held : Option LastContent) → count_by is_fast (with_held opts held) ≡ count_by is_fast opts + fast_held held
settled-fast opts None = omega arith
settled-fast opts (Some held) = sum_by-insert (λ o. cond (is_fast o) 1 0) opts held.place (opt.Content held.content)
