-- Where there is one engine, to all, and nothing is known of hosts, each address goes by the same.
use Rattle.std.proofs.Common.{◌≡◌, ℕ, Bool, true, false, cond, ◌&&◌, eqb, List, [], ◌∷◌, length, Option, Some, None, refl, sym, ap, ◌∙◌, arith}
use Rattle.std.specs.List.{position}
use Rattle.std.specs.Option.{is_none, is_some, option_or, option_and_then, unwrap_or}
use Rattle.std.proofs.lemmas.Bool.{false≢true, eqb-true}
use Rattle.edge_io.specs.declared.address.Addr.{Addr}
use Rattle.edge_io.specs.declared.policy.StreamPolicy.{StreamPolicy}
use Rattle.net_lists.specs.declared.part.AddrBounds.{AddrBounds}
use Rattle.net_lists.specs.declared.part.Part.{Part}
use Rattle.host_table.specs.declared.host_line.HostLine.{HostLine}
use Rattle.host_table.specs.Hosts.{stream_policy_at}
use Rattle.host_table.proofs.Descent.{entry_at-nil}
use Rattle.conf_types.specs.declared.config.StreamEngine.{StreamEngine}
use Rattle.record_jobs.specs.declared.time.Time.{Time}
use Rattle.record_jobs.specs.OneWay.{is_one_for_all, toward_by}
use Rattle.record_jobs.specs.Way.{Way, is_bound, stream_place, stream_preference_at, toward_address}

both : (a b : Bool) → (a && b) ≡ true → (a ≡ true) × (b ≡ true)
both true b is = (refl, is)
both false b is = absurd (false≢true is)

-- whether the one passes
one_position : (test : StreamEngine → Bool) (engine : StreamEngine) → position test (engine ∷ []) ≡ cond (test engine) (Some 0) None
one_position test engine = elim (test engine) as (λ b. position (λ (e : StreamEngine). b) (engine ∷ []) ≡ cond b (Some 0) None) [
  | true ↦ refl
  | false ↦ refl
]

-- an engine to all has no address by its own line
unbound : (addr : Addr) (bind : Option (List (Part AddrBounds))) → is_none bind ≡ true → is_bound addr bind ≡ false
unbound addr None is = refl
unbound addr (Some list) is = cc

to_all : (engine : StreamEngine) → is_some (position (λ (e : StreamEngine). is_none e.bind) (engine ∷ [])) ≡ true → is_none engine.bind ≡ true
to_all engine is = by (is_none engine.bind) (sym (ap is_some (one_position (λ (e : StreamEngine). is_none e.bind) engine)) ∙ is)
  where
    by : (b : Bool) → is_some (cond {A = Option ℕ} b (Some 0) None) ≡ true → b ≡ true
    by true is = refl
    by false is = cc

first_place : (engines : List StreamEngine) (addr : Addr) → length engines ≡ 1 → is_some (position (λ (e : StreamEngine). is_none e.bind) engines) ≡ true → stream_place engines addr ≡ 0
unfolding stream_place
first_place [] addr one is = absurd (omega arith)
first_place (engine ∷ other ∷ engines) addr one is = absurd (omega arith)
first_place (engine ∷ []) addr one is =
    let free : is_none engine.bind ≡ true = to_all engine is in
    let bound : position (λ (e : StreamEngine). is_bound addr e.bind) (engine ∷ []) ≡ None =
    one_position (λ (e : StreamEngine). is_bound addr e.bind) engine ∙ ap (λ (b : Bool). cond {A = Option ℕ} b (Some 0) None) (unbound addr engine.bind free) in
    let first : position (λ (e : StreamEngine). is_none e.bind) (engine ∷ []) ≡ Some 0 =
    one_position (λ (e : StreamEngine). is_none e.bind) engine ∙ ap (λ (b : Bool). cond {A = Option ℕ} b (Some 0) None) free in
    ap (λ (o : Option ℕ). unwrap_or (option_or o (position (λ (e : StreamEngine). is_none e.bind) (engine ∷ []))) 1) bound
    ∙ ap (λ (o : Option ℕ). unwrap_or (option_or None o) 1) first

no_policy : (hosts : List HostLine) (addr : Addr) → length hosts ≡ 0 → stream_policy_at hosts addr ≡ None
no_policy hosts addr none = ap (option_and_then (λ (entry : HostLine). entry.stream)) (sym (entry_at-nil hosts addr none))

pub toward_one : (way : Way) (tcp : Bool) (time : Time) (addr : Addr) → is_one_for_all way ≡ true → toward_by way tcp time 0 None ≡ toward_address way tcp time addr
unfolding toward_address stream_preference_at
toward_one way tcp time addr is =
    let engines = way.stream.engines in
    let all = both (eqb (length engines) 1 && is_some (position (λ (e : StreamEngine). is_none e.bind) engines)) (eqb (length way.hosts) 0) is in
    let one = both (eqb (length engines) 1) (is_some (position (λ (e : StreamEngine). is_none e.bind) engines)) all.0 in
    ap (λ (place : ℕ). toward_by way tcp time place None) (sym (first_place engines addr (eqb-true (length engines) 1 one.0) one.1))
    ∙ ap (λ (host : Option StreamPolicy). toward_by way tcp time (stream_place engines addr) host) (sym (no_policy way.hosts addr (eqb-true (length way.hosts) 0 all.1)))

-- the engine's place and what the host table says give what goes by the address
pub toward_is : (way : Way) (tcp : Bool) (time : Time) (addr : Addr) (place : ℕ) (host : Option StreamPolicy)
    → place ≡ stream_place way.stream.engines addr → host ≡ stream_policy_at way.hosts addr → toward_by way tcp time place host ≡ toward_address way tcp time addr
unfolding toward_address stream_preference_at
toward_is way tcp time addr place host at said =
    ap (λ (n : ℕ). toward_by way tcp time n host) at ∙ ap (λ (o : Option StreamPolicy). toward_by way tcp time (stream_place way.stream.engines addr) o) said
