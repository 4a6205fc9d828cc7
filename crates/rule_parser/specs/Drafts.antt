-- A rule while its options are read from left to right: what the options so far have made of it.
--
-- An option that is kept goes after those before it. The last content is kept apart until the next one
-- comes, since modifiers after it change it (Snort Users Manual 2.9, section 3.5: a modifier speaks of the
-- content before it). A rule keeps at most 64 options; that limit is our own.
-- To try it on: after `content:"a"; dsize:1; depth:1;` the content, with depth 1, is held with place 0, and
-- the options that are kept are the `dsize` alone.
use Rattle.std.specs.Prelude.{ℕ, ◌+◌, false, Option, Some, None, Result, Ok, Err, List, [], ◌∷◌, ◌++◌, length, insert, nat_le, is_some, if◌then◌else◌}
use Rattle.rule_types.specs.declared.option.Opt.{Opt}
use Rattle.rule_types.specs.declared.option.Opt.TheVariants as opt
use Rattle.rule_parser.specs.declared.draft.RuleDraft.{RuleDraft}
use Rattle.rule_parser.specs.declared.draft.LastContent.{LastContent}
use Rattle.rule_parser.specs.declared.fault.Fault.{Fault}
use Rattle.rule_parser.specs.declared.fault.Fault.TheVariants.{Limit}

-- the draft before the first option
abbrev pub empty_draft : RuleDraft
empty_draft = record {
  opts = [];
  held = None;
  names = [];
  msg = None;
  gid = None;
  sid = None;
  rev = None;
  class = None;
  priority = None;
  noalert = false;
  period = None;
  flow = false;
  dsize = false;
  fast = false;
}

-- how many options there are, the last content among them
abbrev pub kept_count : RuleDraft → ℕ
kept_count draft = length draft.opts + (if is_some draft.held then 1 else 0)

-- the draft with one more option
unfoldable pub kept : RuleDraft → Opt → Result RuleDraft Fault
kept draft option = if nat_le 64 (kept_count draft) then Err Limit else Ok (record draft { opts = draft.opts ++ option ∷ [] })

-- the options with the last content in its place
abbrev pub with_held : List Opt → Option LastContent → List Opt
with_held opts None = opts
with_held opts (Some held) = insert opts held.place (opt.Content held.content)

-- all options that there are, in their order
unfoldable pub settled : RuleDraft → List Opt
settled draft = with_held draft.opts draft.held

-- the answer of a step that changes a draft in its place, with the draft after it
abbrev pub with_new : {A X E : Type 0} → Result A E → X → Result X E
with_new (Ok done) new = Ok new
with_new (Err why) new = Err why
