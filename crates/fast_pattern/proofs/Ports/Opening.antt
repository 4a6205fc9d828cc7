-- Ports that are let in stay so, and a list's ports are let in where those of its parts are.
use Rattle.std.proofs.Common.{◌≡◌, ℕ, zero, suc, ◌+◌, ◌<◌, ◌≤◌, Bool, true, false, cond, not, ◌&&◌, ◌||◌, List, [], ◌∷◌, length, map, get_or, refl, sym, ap, subst, ◌∙◌, ⊎_elim, arith}
use Rattle.std.specs.List.{list_any, list_all}
use Rattle.std.proofs.lemmas.Bool.{cases_lt, false≢true, false_from_ne_true, ltb-true, lt-ltb, and_parts, and_from, or_cases, or_left, or_right}
use Rattle.net_lists.specs.declared.part.ValueBounds.{ValueBounds}
use Rattle.net_lists.specs.declared.part.Part.{Part}
use Rattle.packet_decode.specs.declared.packet.Body.{Body}
use Rattle.packet_decode.specs.declared.packet.Body.TheVariants as body
use Rattle.net_lists.specs.Membership.{is_in, has_port}
use Rattle.fast_pattern.specs.Candidates.{header_fits, ports_fit, fits, occurs_if_any, is_candidate, places_from, candidates}
use Rattle.fast_pattern.specs.declared.header.RuleHead.{RuleHead}
use Rattle.fast_pattern.specs.Grouping.{fits_at, asked_of, AreFor}
use Rattle.fast_pattern.specs.FastPattern.{pattern_of}
use Rattle.fast_pattern.specs.declared.groups.Groups.{Groups}
use Rattle.rule_types.specs.declared.rule.Rule.{Rule}
use Rattle.rule_types.specs.declared.rule.Proto.TheVariants as proto
use Rattle.pattern_search.specs.Slots.{slot_bit, KeepsSlots}
use Rattle.fast_pattern.specs.Doors.{all_slot, port_slot, is_all, is_open, lets_in, LetsIn, Opens, OpensPart}

pub open-all : (table : List ℕ) (part port : ℕ) → is_all table part ≡ true → is_open table part port ≡ true
open-all table part port e = or_left (is_all table part) _ e

pub open-port : (table : List ℕ) (part port : ℕ) → 0 < slot_bit table (port_slot part port) → is_open table part port ≡ true
open-port table part port h = or_right (is_all table part) _ (lt-ltb 0 (slot_bit table (port_slot part port)) h)

pub all-kept : (old new : List ℕ) (part : ℕ) → KeepsSlots old new → is_all old part ≡ true → is_all new part ≡ true
all-kept old new part keeps e = lt-ltb 0 (slot_bit new (all_slot part)) (keeps.kept (all_slot part) (ltb-true 0 (slot_bit old (all_slot part)) e))

pub open-kept : (old new : List ℕ) (part port : ℕ) → KeepsSlots old new → is_open old part port ≡ true → is_open new part port ≡ true
open-kept old new part port keeps e = ⊎_elim
    (λ all. open-all new part port (all-kept old new part keeps all))
    (λ one. open-port new part port (keeps.kept (port_slot part port) (ltb-true 0 (slot_bit old (port_slot part port)) one)))
    (or_cases (is_all old part) _ e)

both-kept : (old new : List ℕ) (a b sport dport : ℕ) → KeepsSlots old new → (is_open old a sport && is_open old b dport) ≡ true → (is_open new a sport && is_open new b dport) ≡ true
both-kept old new a b sport dport keeps e =
    let parts = and_parts (is_open old a sport) (is_open old b dport) e in
    and_from (is_open new a sport) (is_open new b dport) (open-kept old new a sport keeps parts.0) (open-kept old new b dport keeps parts.1)

pub lets-kept : (old new : List ℕ) (carried : Body) → KeepsSlots old new → lets_in old carried ≡ true → lets_in new carried ≡ true
unfolding lets_in
lets-kept old new (body.Tcp head) keeps e = both-kept old new 0 1 head.sport head.dport keeps e
lets-kept old new (body.Stream sport dport) keeps e = both-kept old new 0 1 sport dport keeps e
lets-kept old new (body.Udp sport dport) keeps e = both-kept old new 2 3 sport dport keeps e
lets-kept old new (body.Icmp kind code id seq) keeps e = all-kept old new 4 keeps e
lets-kept old new body.Other keeps e = all-kept old new 5 keeps e
lets-kept old new body.Fragment keeps e = all-kept old new 5 keeps e

module _ (table : List ℕ) (part port : ℕ) where
  any-open : (parts : List (Part (ValueBounds ℕ))) → ((k : ℕ) (d : Part (ValueBounds ℕ)) → k < length parts → OpensPart part table (get_or parts k d))
      → list_any (λ p. not p.negated && is_in port p) parts ≡ true → is_open table part port ≡ true
  any-open [] each e = absurd (false≢true e)
  any-open (x ∷ xs) each e = ⊎_elim
      (λ here. each 0 x (omega arith) port (or_right x.negated (is_in port x) (and_parts (not x.negated) (is_in port x) here).1))
      (λ later. any-open xs (λ k d h. each (suc k) d (omega arith)) later)
      (or_cases (not x.negated && is_in port x) (list_any (λ p. not p.negated && is_in port p) xs) e)

  all-open : (parts : List (Part (ValueBounds ℕ))) → (length parts ≡ 0 → is_all table part ≡ true) → ((k : ℕ) (d : Part (ValueBounds ℕ)) → k < length parts → OpensPart part table (get_or parts k d))
      → list_all (λ p. p.negated) parts ≡ true → is_open table part port ≡ true
  all-open [] none each e = open-all table part port (none refl)
  all-open (x ∷ xs) none each e = each 0 x (omega arith) port (or_left x.negated (is_in port x) (and_parts x.negated (list_all (λ p. p.negated) xs) e).0)

pub opens-list : (table : List ℕ) (part : ℕ) (parts : List (Part (ValueBounds ℕ))) → (length parts ≡ 0 → is_all table part ≡ true)
    → ((k : ℕ) (d : Part (ValueBounds ℕ)) → k < length parts → OpensPart part table (get_or parts k d)) → Opens parts part table
unfolding has_port
opens-list table part parts none each port e =
    let some = list_any (λ p. not p.negated && is_in port p) parts in
    let negated = list_all (λ p. p.negated) parts in
    ⊎_elim (any-open table part port parts each) (all-open table part port parts none each)
    (or_cases some negated (and_parts (some || negated) (not (list_any (λ p. p.negated && is_in port p) parts)) e).0)

-- what a header fits, where the lists of its ports are let in
module _ (table : List ℕ) (a b : ℕ) (sports dports : List (Part (ValueBounds ℕ))) (both : Bool) (sources : Opens sports a table) (targets : Opens dports b table)
    (back : both ≡ true → Opens dports a table × Opens sports b table) where
  pub sides-open : (sport dport : ℕ) → ports_fit sports dports both sport dport ≡ true → (is_open table a sport && is_open table b dport) ≡ true
  sides-open sport dport e = ⊎_elim
      (λ forth. let ps = and_parts (has_port sports sport) (has_port dports dport) forth in
      and_from (is_open table a sport) (is_open table b dport) (sources sport ps.0) (targets dport ps.1))
      (λ other.
      let ps = and_parts both (has_port sports dport && has_port dports sport) other in
      let qs = and_parts (has_port sports dport) (has_port dports sport) ps.1 in
      let bs = back ps.0 in
      and_from (is_open table a sport) (is_open table b dport) (bs.0 sport qs.1) (bs.1 dport qs.0))
      (or_cases (has_port sports sport && has_port dports dport) (both && (has_port sports dport && has_port dports sport)) e)

pub tcp-lets : (table : List ℕ) (sports dports : List (Part (ValueBounds ℕ))) (both : Bool) → Opens sports 0 table → Opens dports 1 table → (both ≡ true → Opens dports 0 table × Opens sports 1 table)
    → (carried : Body) → header_fits proto.Tcp sports dports both carried ≡ true → lets_in table carried ≡ true
unfolding lets_in
tcp-lets table sports dports both s t b (body.Tcp head) e = sides-open table 0 1 sports dports both s t b head.sport head.dport e
tcp-lets table sports dports both s t b (body.Stream sport dport) e = sides-open table 0 1 sports dports both s t b sport dport e
tcp-lets table sports dports both s t b (body.Udp sport dport) e = absurd (false≢true e)
tcp-lets table sports dports both s t b (body.Icmp kind code id seq) e = absurd (false≢true e)
tcp-lets table sports dports both s t b body.Other e = absurd (false≢true e)
tcp-lets table sports dports both s t b body.Fragment e = absurd (false≢true e)

pub udp-lets : (table : List ℕ) (sports dports : List (Part (ValueBounds ℕ))) (both : Bool) → Opens sports 2 table → Opens dports 3 table → (both ≡ true → Opens dports 2 table × Opens sports 3 table)
    → (carried : Body) → header_fits proto.Udp sports dports both carried ≡ true → lets_in table carried ≡ true
unfolding lets_in
udp-lets table sports dports both s t b (body.Udp sport dport) e = sides-open table 2 3 sports dports both s t b sport dport e
udp-lets table sports dports both s t b (body.Tcp head) e = absurd (false≢true e)
udp-lets table sports dports both s t b (body.Stream sport dport) e = absurd (false≢true e)
udp-lets table sports dports both s t b (body.Icmp kind code id seq) e = absurd (false≢true e)
udp-lets table sports dports both s t b body.Other e = absurd (false≢true e)
udp-lets table sports dports both s t b body.Fragment e = absurd (false≢true e)

pub icmp-lets : (table : List ℕ) (sports dports : List (Part (ValueBounds ℕ))) (both : Bool) → is_all table 4 ≡ true
    → (carried : Body) → header_fits proto.Icmp sports dports both carried ≡ true → lets_in table carried ≡ true
unfolding lets_in
icmp-lets table sports dports both all (body.Icmp kind code id seq) e = all
icmp-lets table sports dports both all (body.Tcp head) e = absurd (false≢true e)
icmp-lets table sports dports both all (body.Stream sport dport) e = absurd (false≢true e)
icmp-lets table sports dports both all (body.Udp sport dport) e = absurd (false≢true e)
icmp-lets table sports dports both all body.Other e = absurd (false≢true e)
icmp-lets table sports dports both all body.Fragment e = absurd (false≢true e)

pub ip-lets : (table : List ℕ) → ((part : ℕ) → part < 6 → is_all table part ≡ true) → (carried : Body) → lets_in table carried ≡ true
unfolding lets_in
ip-lets table all (body.Tcp head) =
    and_from (is_open table 0 head.sport) (is_open table 1 head.dport) (open-all table 0 head.sport (all 0 (omega arith)))
    (open-all table 1 head.dport (all 1 (omega arith)))
ip-lets table all (body.Stream sport dport) = and_from (is_open table 0 sport) (is_open table 1 dport) (open-all table 0 sport (all 0 (omega arith))) (open-all table 1 dport (all 1 (omega arith)))
ip-lets table all (body.Udp sport dport) = and_from (is_open table 2 sport) (is_open table 3 dport) (open-all table 2 sport (all 2 (omega arith))) (open-all table 3 dport (all 3 (omega arith)))
ip-lets table all (body.Icmp kind code id seq) = all 4 (omega arith)
ip-lets table all body.Other = all 5 (omega arith)
ip-lets table all body.Fragment = all 5 (omega arith)

-- a rule more
pub rules-more : (rules : List RuleHead) (old new : List ℕ) (n : ℕ) → KeepsSlots old new → ((k : ℕ) (d : RuleHead) → k < n → LetsIn (get_or rules k d) old)
    → ((d : RuleHead) → LetsIn (get_or rules n d) new) → (k : ℕ) (d : RuleHead) → k < n + 1 → LetsIn (get_or rules k d) new
rules-more rules old new n keeps before here k d h = ⊎_elim
    (λ less carried fits. lets-kept old new carried keeps (before k d less carried fits))
    (λ same. let e : k ≡ n = omega arith in subst (λ (m : ℕ). LetsIn (get_or rules m d) new) (sym e) (here d))
    (cases_lt k n)

-- all rules
pub guards-all : (rules : List RuleHead) (table : List ℕ) → ((k : ℕ) (d : RuleHead) → k < length rules → LetsIn (get_or rules k d) table)
    → (carried : Body) (place : ℕ) → fits_at rules carried place ≡ true → lets_in table carried ≡ true
unfolding fits_at
guards-all [] table each carried place e = absurd (false≢true e)
guards-all (x ∷ xs) table each carried zero e = each 0 x (omega arith) carried e
guards-all (x ∷ xs) table each carried (suc place) e = guards-all xs table (λ k d h. each (suc k) d (omega arith)) carried place e

-- where no header fits there is no candidate
none-fits : (carried : Body) (payload : List ℕ) (rules : List Rule) (n : ℕ)
    → ((place : ℕ) → fits_at (map asked_of rules) carried place ≡ false)
    → places_from n (is_candidate carried payload) rules ≡ []
unfolding fits_at is_candidate fits
none-fits carried payload [] n none = refl
none-fits carried payload (x ∷ xs) n none =
    ap (λ (b : Bool). cond (b && occurs_if_any (pattern_of x.opts) payload)
    (n ∷ places_from (n + 1) (is_candidate carried payload) xs)
    (places_from (n + 1) (is_candidate carried payload) xs)) (none 0)
    ∙ none-fits carried payload xs (n + 1) (λ place. none (suc place))

pub none-let-in : (groups : Groups) (rules : List Rule) (carried : Body) (payload : List ℕ) → AreFor groups rules → lets_in groups.doors.items carried ≡ false → candidates rules carried payload ≡ []
unfolding candidates
none-let-in groups rules carried payload hold shut = none-fits carried payload rules 0 (λ place. false_from_ne_true (fits_at (map asked_of rules) carried place)
    (λ fits. false≢true (sym shut ∙ hold.guards.guards carried place (ap (λ rs. fits_at rs carried place) hold.asked ∙ fits))))
