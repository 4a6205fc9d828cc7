-- The frag3 lines: how fragments are put together. (Snort Users Manual 2.9, section 2.2.1.)
--
-- Settings are words between commas or blanks outside brackets, a name and its value, or a name alone. A
-- setting that is given again replaces the one before.
-- To try it on: `frag3_engine: policy windows, timeout 180 detect_anomalies` is an engine for all hosts; a
-- second line without `bind_to` is Duplicate.
use Rattle.std.specs.Prelude.{ℕ, ◌&&◌, ◌||◌, ◌++◌, Bool, true, false, Option, Some, None, Result, Ok, Err, List, [], ◌∷◌, length, is_some, is_none, codes, nat_le, if◌then◌else◌}
use Rattle.std.specs.List.{list_any}
use Rattle.net_lists.specs.Numbers.{number_in}
use Rattle.net_lists.specs.Variables.{Variables}
use Rattle.conf_types.specs.declared.config.FragEngine.{FragEngine}
use Rattle.conf_types.specs.Defaults.{default_frag_engine}
use Rattle.conf_parser.specs.declared.draft.FragDraft.{FragDraft}
use Rattle.conf_parser.specs.declared.line.ConfKind.{ConfKind}
use Rattle.conf_parser.specs.declared.line.ConfKind.TheVariants.{BadValue, Duplicate, Limit}
use Rattle.conf_parser.specs.Values.{◌>>=◌, or_kind, mapped, is_word, setting_text, expanded_addresses}
use Rattle.edge_io.specs.Policies.{frag_policy}
use Rattle.conf_parser.specs.Options.{settings_after}

-- settings of `frag3_global` that change nothing
unfoldable pub is_unread_global : List ℕ → Bool
is_unread_global name =
    is_word name (codes "memcap") || is_word name (codes "prealloc_memcap") || is_word name (codes "prealloc_frags")

-- one setting of `frag3_global`: the greatest number of fragments after it
unfoldable pub global_setting : ℕ → List ℕ → Option (List ℕ) → Result ℕ ConfKind
global_setting frags name None = Err BadValue
global_setting frags name (Some value) =
    if is_word name (codes "max_frags") then or_kind BadValue (number_in 1 1048576 value)
    else if is_unread_global name then mapped (λ n. frags) (or_kind BadValue (number_in 0 4294967295 value))
    else Err BadValue

-- the global line, which may be given once
unfoldable pub with_max_frags : FragDraft → ℕ → Result FragDraft ConfKind
with_max_frags draft frags = if is_some draft.max_frags then Err Duplicate else Ok (record draft { max_frags = Some frags })

-- `frag3_global`, by what comes after the name
unfoldable pub frag3_global : FragDraft → List ℕ → Result FragDraft ConfKind
frag3_global draft rest = do
  text ← setting_text rest
  frags ← settings_after (λ name. false) global_setting 8192 text
  with_max_frags draft frags

-- the setting of an engine that has no value, and changes nothing
abbrev pub is_alone : List ℕ → Bool
is_alone name = is_word name (codes "detect_anomalies")

-- settings of an engine with a number that change nothing
unfoldable pub is_unread : List ℕ → Bool
is_unread name =
    is_word name (codes "overlap_limit") || is_word name (codes "min_fragment_length") || is_word name (codes "ttl_limit")

-- one setting of an engine
unfoldable pub engine_setting : Variables → FragEngine → List ℕ → Option (List ℕ) → Result FragEngine ConfKind
engine_setting variables engine name None = if is_alone name then Ok engine else Err BadValue
engine_setting variables engine name (Some value) =
    if is_word name (codes "policy") then mapped (λ p. record engine { policy = p }) (or_kind BadValue (frag_policy value))
    else if is_word name (codes "timeout") then mapped (λ n. record engine { timeout = n })
    (or_kind BadValue (number_in 1 3600 value))
    else if is_word name (codes "min_ttl") then mapped (λ n. record engine { min_ttl = n })
    (or_kind BadValue (number_in 1 255 value))
    else if is_word name (codes "bind_to") then mapped (λ list. record engine { bind = Some list })
    (expanded_addresses variables value)
    else if is_unread name then mapped (λ n. engine) (or_kind BadValue (number_in 0 4294967295 value))
    else Err BadValue

-- an engine for all hosts is there
unfoldable pub has_default : List FragEngine → Bool
has_default engines = list_any (λ engine. is_none engine.bind) engines

-- the draft with one engine more: one for all hosts may be given once, and at most 1024 in all
unfoldable pub with_engine : FragDraft → FragEngine → Result FragDraft ConfKind
with_engine draft engine =
    if is_none engine.bind && has_default draft.engines then Err Duplicate
    else if nat_le 1024 (length draft.engines) then Err Limit
    else Ok (record draft { engines = draft.engines ++ engine ∷ [] })

-- `frag3_engine`, by what comes after the name
unfoldable pub frag3_engine : Variables → FragDraft → List ℕ → Result FragDraft ConfKind
frag3_engine variables draft rest = do
  text ← setting_text rest
  engine ← settings_after is_alone (engine_setting variables) default_frag_engine text
  with_engine draft engine
