-- The engines of addresses.
use Rattle.std.proofs.Common.{◌≡◌, ℕ, ◌≤◌, Bool, true, false, cond, ltb, List, length, Option, Some, None, refl, ap, ◌∙◌, arith}
use Rattle.std.specs.List.{find, position_or_len}
use Rattle.std.specs.Option.{is_none, option_or, unwrap_or}
use Rattle.std.proofs.lemmas.Bool.{ltb-true}
use Rattle.edge_io.specs.declared.policy.FragPolicy.{FragPolicy}
use Rattle.edge_io.specs.Policies.{frag_preference}
use Rattle.edge_io.specs.declared.address.Addr.{Addr}
use Rattle.host_table.specs.declared.host_line.HostLine.{HostLine}
use Rattle.host_table.specs.Hosts.{frag_policy_at}
use Rattle.conf_types.specs.declared.config.FragConfig.{FragConfig}
use Rattle.conf_types.specs.declared.config.FragEngine.{FragEngine}
use Rattle.conf_types.specs.declared.config.StreamEngine.{StreamEngine}
use Rattle.conf_types.specs.Defaults.{default_frag_engine}
use Rattle.frag3_core.specs.declared.answer.FragRules.{FragRules}
use Rattle.record_jobs.specs.Way.{frag_engine, frag_rules, is_bound, stream_place}

-- what goes by an engine, where the host table says this
abbrev pub rules_by : Option FragPolicy → FragEngine → FragRules
rules_by host engine = record { preference = frag_preference (unwrap_or host engine.policy); timeout = engine.timeout; min_ttl = engine.min_ttl }

pub rules_by-engine : (hosts : List HostLine) (config : FragConfig) (addr : Addr) (engines : List FragEngine)
    (host : Option FragPolicy) (engine : FragEngine)
    → engines ≡ config.engines
    → host ≡ frag_policy_at hosts addr
    → Some engine ≡
    option_or (find (λ (e : FragEngine). is_bound addr e.bind) engines) (find (λ (e : FragEngine). is_none e.bind) engines)
    → rules_by host engine ≡ frag_rules hosts config addr
unfolding frag_rules frag_engine
rules_by-engine hosts config addr engines host engine all said found =
    ap (λ (h : Option FragPolicy). rules_by h engine) said
    ∙ ap (λ (o : Option FragEngine). rules_by (frag_policy_at hosts addr) (unwrap_or o default_frag_engine))
    (found ∙ ap (λ (es : List FragEngine). option_or (find (λ (e : FragEngine). is_bound addr e.bind) es) (find (λ (e : FragEngine). is_none e.bind) es)) all)

-- an engine's place is within the engines, or their number
pub stream_place-within : (engines : List StreamEngine) (addr : Addr) → stream_place engines addr ≤ length engines
unfolding stream_place
stream_place-within engines addr = go (ltb first count) refl (ltb second count) refl
  where
    count : ℕ
    count = length engines

    first : ℕ
    first = position_or_len (λ (engine : StreamEngine). is_bound addr engine.bind) engines

    second : ℕ
    second = position_or_len (λ (engine : StreamEngine). is_none engine.bind) engines

    go : (a : Bool) → ltb first count ≡ a → (b : Bool) → ltb second count ≡ b → unwrap_or (option_or (cond a (Some first) None) (cond b (Some second) None)) count ≤ count
    go true x b y = omega (arith, ltb-true first count x)
    go false x true y = omega (arith, ltb-true second count y)
    go false x false y = omega arith
