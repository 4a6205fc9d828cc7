-- What comes before the first line, and the configuration that comes after the last.
--
-- (Snort Users Manual 2.9, chapter 2; the defaults are those of its tables, but for those marked as our own.)
-- To try it on: with no line at all all four checksums are checked, 3 of 8 events are written, and neither
-- frag3 nor stream5 works.
use Rattle.std.specs.Prelude.{Bool, true, false, ◌&&◌, not, Option, Some, None, List, [], ◌∷◌, unwrap_or, is_some, if◌then◌else◌}
use Rattle.packet_decode.specs.declared.checks.Checks.{Checks}
use Rattle.conf_types.specs.declared.config.Config.{Config}
use Rattle.conf_types.specs.declared.config.QueueLimits.{QueueLimits}
use Rattle.conf_types.specs.declared.config.FragConfig.{FragConfig}
use Rattle.conf_types.specs.declared.config.StreamConfig.{StreamConfig}
use Rattle.conf_parser.specs.declared.draft.Draft.{Draft}
use Rattle.conf_parser.specs.declared.draft.FragDraft.{FragDraft}
use Rattle.conf_parser.specs.declared.draft.StreamDraft.{StreamDraft}
use Rattle.conf_parser.specs.declared.draft.StreamGlobal.{StreamGlobal}

-- every checksum is checked
abbrev pub all_checks : Checks
all_checks = record { ip = true; tcp = true; udp = true; icmp = true }

-- no checksum is checked
abbrev pub no_checks : Checks
no_checks = record { ip = false; tcp = false; udp = false; icmp = false }

-- 8 events are kept, 3 written, by the length of their contents
abbrev pub default_queue : QueueLimits
default_queue = record { max_queue = 8; log = 3; by_priority = false }

-- the values where there is no `stream5_global` line
abbrev pub default_global : StreamGlobal
default_global = record { track_tcp = true; track_udp = true; max_tcp = 262144; max_udp = 131072 }

-- the draft before the first line
unfoldable pub first_draft : Draft
first_draft = record {
  checks = all_checks;
  classes = [];
  queue = default_queue;
  inserts = true;
  frag = record { max_frags = None; engines = [] };
  stream = record { global = None; udp_timeout = None; engines = [] };
  filters = [];
  suppress = [];
}

-- no element
abbrev pub is_none_of : {X : Type 0} → List X → Bool
is_none_of [] = true
is_none_of (x ∷ xs) = false

-- frag3 works where there is an engine line
unfoldable pub frag_of : FragDraft → Option FragConfig
frag_of draft = if is_none_of draft.engines then None
    else Some (record { max_frags = unwrap_or draft.max_frags 8192; engines = draft.engines })

-- a protocol is tracked where it has a line and `stream5_global` does not say no
unfoldable pub stream_of : StreamDraft → StreamConfig
stream_of draft =
    let global = unwrap_or draft.global default_global in
    record {
      tcp = not (is_none_of draft.engines) && global.track_tcp;
      udp = is_some draft.udp_timeout && global.track_udp;
      max_tcp = global.max_tcp;
      max_udp = global.max_udp;
      udp_timeout = unwrap_or draft.udp_timeout 30;
      engines = draft.engines;
    }

-- the configuration that all lines give
unfoldable pub config_of : Draft → Config
config_of draft = record {
  checks = draft.checks;
  classes = draft.classes;
  queue = draft.queue;
  inserts = draft.inserts;
  frag = frag_of draft.frag;
  stream = stream_of draft.stream;
  filters = draft.filters;
  suppress = draft.suppress;
}
