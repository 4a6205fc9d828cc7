-- The frag3 lines keep a sound draft.
use Rattle.std.proofs.Common.{ℕ, ◌≤◌, List, ◌∷◌, length, Option, Some, None, arith, []}
use Rattle.std.specs.Prelude.{IfSome, All, unwrap_or, is_none, ◌&&◌}
use Rattle.std.proofs.lemmas.List.Elements.{All-push, All-nil}
use Rattle.net_lists.specs.Variables.{Variables}
use Rattle.net_lists.proofs.Steps.{Holds, given, refused, unless, chained, after_any, ranged, steps}
use Rattle.conf_types.specs.declared.config.FragEngine.{FragEngine}
use Rattle.conf_parser.specs.declared.draft.FragDraft.{FragDraft}
use Rattle.conf_parser.specs.Values.{setting_text}
use Rattle.conf_types.specs.Defaults.{default_frag_engine}
use Rattle.conf_parser.specs.Frag3.{global_setting, with_max_frags, frag3_global, is_alone, engine_setting, with_engine, frag3_engine, has_default}
use Rattle.conf_types.specs.Sound.{IsWithin, IsFragEngine, IsFragConfig}
use Rattle.conf_parser.specs.Settings.{frag_of}
use Rattle.conf_parser.proofs.Sound.Steps.{free, numbered, set, pushed-few}

-- what the frag3 lines read so far say
pub record IsFragDraft (draft : FragDraft) : Type 0 where
  pub max_frags : IfSome draft.max_frags (IsWithin 1 1048576)
  pub count : length draft.engines ≤ 1024
  pub engines : All IsFragEngine draft.engines

global_setting-within : (frags : ℕ) (name : List ℕ) (value : Option (List ℕ)) → IsWithin 1 1048576 frags → Holds (IsWithin 1 1048576) (global_setting frags name value)
unfolding global_setting
global_setting-within frags name None within = refused
global_setting-within frags name (Some value) within = search (steps, free, ranged, within) depth 9

pub frag3_global-sound : (draft : FragDraft) (rest : List ℕ) → IsFragDraft draft → Holds IsFragDraft (frag3_global draft rest)
unfolding frag3_global with_max_frags
frag3_global-sound draft rest sound =
    after_any (setting_text rest) (λ text.
    chained (set _ global_setting-within 8192 text (omega arith, omega arith)) (λ frags within. search (steps, sound, within) depth 9))

-- an engine
module _ (variables : Variables) where
  engine_setting-sound : (engine : FragEngine) (name : List ℕ) (value : Option (List ℕ)) → IsFragEngine engine → Holds IsFragEngine (engine_setting variables engine name value)
  unfolding engine_setting
  engine_setting-sound engine name None sound = search (steps, sound) depth 9
  engine_setting-sound engine name (Some value) sound = search (steps, numbered, free, sound) depth 12

  first-sound : IsFragEngine default_frag_engine
  first-sound = record { timeout = (omega arith, omega arith); min_ttl = (omega arith, omega arith) }

  with_engine-sound : (draft : FragDraft) (engine : FragEngine) → IsFragDraft draft → IsFragEngine engine → Holds IsFragDraft (with_engine draft engine)
  unfolding with_engine
  with_engine-sound draft engine sound one =
      unless (is_none engine.bind && has_default draft.engines) _ (λ _.
      unless _ _ (λ few. given (record {
        max_frags = sound.max_frags;
        count = pushed-few draft.engines engine few;
        engines = All-push IsFragEngine draft.engines engine sound.engines one;
      })))

  pub frag3_engine-sound : (draft : FragDraft) (rest : List ℕ) → IsFragDraft draft → Holds IsFragDraft (frag3_engine variables draft rest)
  unfolding frag3_engine
  frag3_engine-sound draft rest sound =
      after_any (setting_text rest) (λ text.
      chained (set is_alone engine_setting-sound default_frag_engine text first-sound) (λ engine one. with_engine-sound draft engine sound one))

-- before the first line
pub first_frag-sound : IsFragDraft (record { max_frags = None; engines = [] })
first_frag-sound = record { max_frags = tt; count = omega arith; engines = All-nil IsFragEngine }

max_frags-within : (frags : Option ℕ) → IfSome frags (IsWithin 1 1048576) → IsWithin 1 1048576 (unwrap_or frags 8192)
max_frags-within None within = (omega arith, omega arith)
max_frags-within (Some frags) within = within

-- after the last line
frag_with : (frags : Option ℕ) (engines : List FragEngine)
    → IfSome frags (IsWithin 1 1048576)
    → length engines ≤ 1024
    → All IsFragEngine engines
    → IfSome (frag_of (record { max_frags = frags; engines = engines })) IsFragConfig
unfolding frag_of
frag_with frags [] within count sound = tt
frag_with frags (engine ∷ rest) within count sound = record { max_frags = max_frags-within frags within; count = (omega arith, count); engines = sound }

pub frag_of-sound : (draft : FragDraft) → IsFragDraft draft → IfSome (frag_of draft) IsFragConfig
frag_of-sound draft sound = frag_with draft.max_frags draft.engines sound.max_frags sound.count sound.engines
