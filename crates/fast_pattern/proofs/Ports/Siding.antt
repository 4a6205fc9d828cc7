-- At which ports rules are asked for, and that a rule that fits is.
use Rattle.std.proofs.Common.{◌≡◌, ℕ, ◌+◌, ◌<◌, ◌≤◌, ◌==◌, Bool, true, false, not, ◌&&◌, ◌||◌, cond, ltb, Option, Some, None}
use Rattle.std.proofs.Common.{slice_get, List, [], ◌∷◌, ◌++◌, length, All, sym, refl, ap, subst, ◌∙◌, arith, ⊎_elim}
use Rattle.std.specs.List.{list_any}
use Rattle.std.proofs.lemmas.Bool.{false≢true, eqb-true, eq-eqb, ne_eqb, lt-ltb, le-ltb, cases_eq, cases_lt, and_parts, and_right, or_cases, or_left, or_right}
use Rattle.std.proofs.lemmas.Option.{slice_get_past}
use Rattle.std.proofs.lemmas.List.Elements.{All-nil, All-append, All-map}
use Rattle.std.proofs.lemmas.List.Folds.{list_any-append}
use Rattle.net_lists.specs.declared.part.ValueBounds.{ValueBounds}
use Rattle.net_lists.specs.declared.part.Part.{Part}
use Rattle.packet_decode.specs.declared.packet.Body.{Body}
use Rattle.packet_decode.specs.declared.packet.Body.TheVariants as body
use Rattle.rule_types.specs.declared.rule.Proto.{Proto}
use Rattle.rule_types.specs.declared.rule.Proto.TheVariants as proto
use Rattle.fast_pattern.specs.declared.header.RuleHead.{RuleHead}
use Rattle.fast_pattern.specs.declared.header.Transport.{Transport}
use Rattle.fast_pattern.specs.declared.index.IndexEntry.{IndexEntry}
use Rattle.fast_pattern.specs.declared.index.PortIndex.{PortIndex}
use Rattle.fast_pattern.specs.declared.sides.PacketSide.{PacketSide}
use Rattle.fast_pattern.specs.declared.sides.PacketSide.TheVariants as side
use Rattle.fast_pattern.specs.declared.sides.Sides.{Sides}
use Rattle.net_lists.specs.Membership.{has_port}
use Rattle.fast_pattern.specs.Candidates.{ports_fit, header_fits}
use Rattle.fast_pattern.specs.Blocks.{lies_in, has, is_filed, entries_of, AddBlocks, AreBlocks, IsChained, AddFiled}
use Rattle.pattern_search.specs.Words.{word_at}
use Rattle.fast_pattern.specs.Kinds.{is_for_some, is_plain}
use Rattle.fast_pattern.specs.Sides.{is_any, key_of, belongs_in, belongs_some, belongs_at, is_asked, is_sought, is_due, AreSoughtAt, AreFiled, IsSide, AddSought}
use Rattle.fast_pattern.proofs.Ports.Filing.{filed-new}

any-none : (ports : List (Part (ValueBounds ℕ))) → is_any ports ≡ true → ports ≡ []
any-none [] e = refl
any-none (part ∷ parts) e = absurd (omega (arith, eqb-true (length (part ∷ parts)) 0 e))

any-has : (port : ℕ) → has_port [] port ≡ true
unfolding has_port
any-has port = refl

none-has : (ports : List (Part (ValueBounds ℕ))) (port : ℕ) → is_any ports ≡ true → has_port ports port ≡ true
none-has ports port e = ap (λ (ps : List (Part (ValueBounds ℕ))). has_port ps port) (any-none ports e) ∙ any-has port

told : (to_any from_any both : Bool) (s t d e : Bool) → (from_any ≡ true → t ≡ true) → ((s && d) || (both && (t && e))) ≡ true
    → ((cond to_any (not from_any) both && cond to_any s e) || ((both || (not to_any || from_any)) && cond to_any t d)) ≡ true
told true true true s t d e all fits = all refl
told true true false s t d e all fits = all refl
told true false true s t d e all fits = ⊎_elim (λ a. or_left s t (and_parts s d a).0) (λ b. or_right s t (and_parts t e b).0) (or_cases (s && d) (t && e) fits)
told true false false true t d e all fits = refl
told true false false false t d e all fits = fits
told false from_any true s t d e all fits = ⊎_elim (λ a. or_right e d (and_parts s d a).1) (λ b. or_left e d (and_parts t e b).1) (or_cases (s && d) (t && e) fits)
told false from_any false true t true e all fits = refl
told false from_any false true t false e all fits = fits
told false from_any false false t d e all fits = absurd (false≢true fits)

module _ (sports dports : List (Part (ValueBounds ℕ))) (both : Bool) (sport dport : ℕ) where
  lifted : (b : Bool) (port : ℕ) → has_port (cond b sports dports) port ≡ cond b (has_port sports port) (has_port dports port)
  lifted true port = refl
  lifted false port = refl

  -- rules of tcp and udp
  pub asked-tcp : ports_fit sports dports both sport dport ≡ true
      → (is_asked side.Source sport (Some (record { proto = proto.Tcp; sports = sports; dports = dports; both = both })) ||
      is_asked side.Destination dport (Some (record { proto = proto.Tcp; sports = sports; dports = dports; both = both }))) ≡
      true
  unfolding key_of belongs_in
  asked-tcp fits =
      ap (λ b. (cond (is_any dports) (not (is_any sports)) both && b) ||
      ((both || (not (is_any dports) || is_any sports)) && has_port (cond (is_any dports) sports dports) dport))
      (lifted (is_any dports) sport)
      ∙ ap (λ b.
      (cond (is_any dports) (not (is_any sports)) both && cond (is_any dports) (has_port sports sport) (has_port dports sport)) ||
      ((both || (not (is_any dports) || is_any sports)) && b)) (lifted (is_any dports) dport)
      ∙ told (is_any dports) (is_any sports) both (has_port sports sport) (has_port sports dport) (has_port dports dport)
      (has_port dports sport) (λ e. none-has sports dport e) fits

  pub asked-udp : ports_fit sports dports both sport dport ≡ true
      → (is_asked side.Source sport (Some (record { proto = proto.Udp; sports = sports; dports = dports; both = both })) ||
      is_asked side.Destination dport (Some (record { proto = proto.Udp; sports = sports; dports = dports; both = both }))) ≡
      true
  unfolding key_of belongs_in
  asked-udp fits =
      ap (λ b. (cond (is_any dports) (not (is_any sports)) both && b) ||
      ((both || (not (is_any dports) || is_any sports)) && has_port (cond (is_any dports) sports dports) dport))
      (lifted (is_any dports) sport)
      ∙ ap (λ b.
      (cond (is_any dports) (not (is_any sports)) both && cond (is_any dports) (has_port sports sport) (has_port dports sport)) ||
      ((both || (not (is_any dports) || is_any sports)) && b)) (lifted (is_any dports) dport)
      ∙ told (is_any dports) (is_any sports) both (has_port sports sport) (has_port sports dport) (has_port dports dport)
      (has_port dports sport) (λ e. none-has sports dport e) fits

  pub asked-ip : (is_asked side.Source sport
      (Some (record { proto = proto.Ip; sports = sports; dports = dports; both = both })) ||
      is_asked side.Destination dport (Some (record { proto = proto.Ip; sports = sports; dports = dports; both = both })))
      ≡ true
  unfolding key_of belongs_in
  asked-ip = none-has [] dport refl

pub fits-due : (sports dports : List (Part (ValueBounds ℕ))) (both : Bool) (protocol : Proto) (carried : Body)
    → header_fits protocol sports dports both carried ≡ true
    → is_due carried (Some (record { proto = protocol; sports = sports; dports = dports; both = both })) ≡ true
fits-due sports dports both protocol body.Other e = refl
fits-due sports dports both protocol body.Fragment e = refl
fits-due sports dports both protocol (body.Icmp kind code id seq) e = refl
fits-due sports dports both proto.Ip (body.Tcp head) e = asked-ip sports dports both head.sport head.dport
fits-due sports dports both proto.Ip (body.Stream sport dport) e = asked-ip sports dports both sport dport
fits-due sports dports both proto.Ip (body.Udp sport dport) e = asked-ip sports dports both sport dport
fits-due sports dports both proto.Tcp (body.Tcp head) e = asked-tcp sports dports both head.sport head.dport e
fits-due sports dports both proto.Tcp (body.Stream sport dport) e = asked-tcp sports dports both sport dport e
fits-due sports dports both proto.Tcp (body.Udp sport dport) e = absurd (false≢true e)
fits-due sports dports both proto.Udp (body.Tcp head) e = absurd (false≢true e)
fits-due sports dports both proto.Udp (body.Stream sport dport) e = absurd (false≢true e)
fits-due sports dports both proto.Udp (body.Udp sport dport) e = asked-udp sports dports both sport dport e
fits-due sports dports both proto.Icmp (body.Tcp head) e = absurd (false≢true e)
fits-due sports dports both proto.Icmp (body.Stream sport dport) e = absurd (false≢true e)
fits-due sports dports both proto.Icmp (body.Udp sport dport) e = absurd (false≢true e)

-- whether the list that tells has a port
abbrev has_key : Option RuleHead → ℕ → Bool
has_key None port = false
has_key (Some asked) port = has_port (key_of asked) port

-- the blocks of one rule
module _ (rules : List RuleHead) (patterns : List (List ℕ)) (kind : Transport) (of : PacketSide) (place : ℕ) where
  pub sought-none : ((port : ℕ) → is_sought rules patterns kind of port place ≡ false) → AreSoughtAt rules patterns kind of place []
  sought-none none = record { within = All-nil (λ block. (0 < block) × (block < 131072)); exact = λ port h. sym (none port) }

  pub sought-some : (parts : List (Part (ValueBounds ℕ))) (blocks : List ℕ)
      → ((port : ℕ) → is_sought rules patterns kind of port place ≡ has_port parts port)
      → AddBlocks parts 16 0 [] blocks
      → AreSoughtAt rules patterns kind of place blocks
  sought-some parts blocks is adds = record {
    within = subst P (sym adds.is) (λ k d h. let w = adds.within k d h in (omega (arith, w.0), omega (arith, w.1)));
    exact = λ port h. ap (list_any (lies_in 16 0 port)) adds.is ∙ adds.exact port (omega arith) (omega arith) ∙ sym (is port);
  }
    where
      P : List ℕ → Type 0
      P = λ bs. All (λ block. (0 < block) × (block < 131072)) bs

  -- what a rule that is in the index is sought at
  asks-some : (some : Option RuleHead) (port : ℕ) → is_asked of port some ≡ (belongs_some of some && has_key some port)
  asks-some None port = refl
  asks-some (Some asked) port = refl

  pub holds-not : belongs_at rules patterns kind of place ≡ false → AreSoughtAt rules patterns kind of place []
  holds-not off =
      sought-none (λ port. ap (λ b. is_plain rules patterns kind place && b) (asks-some (slice_get rules place) port) ∙
      no (is_plain rules patterns kind place) (belongs_some of (slice_get rules place))
      (has_key (slice_get rules place) port) off)
    where
      no : (a b c : Bool) → (a && b) ≡ false → (a && (b && c)) ≡ false
      no true true c e = absurd (false≢true (sym e))
      no true false c e = refl
      no false b c e = refl

  pub holds-so : (asked : RuleHead) (blocks : List ℕ)
      → slice_get rules place ≡ Some asked
      → belongs_at rules patterns kind of place ≡ true
      → AddBlocks (key_of asked) 16 0 [] blocks
      → AreSoughtAt rules patterns kind of place blocks
  holds-so asked blocks is on adds = sought-some (key_of asked) blocks
      (λ port.
      ap (λ b. is_plain rules patterns kind place && b) (asks-some (slice_get rules place) port)
      ∙ yes (is_plain rules patterns kind place) (belongs_some of (slice_get rules place)) (has_key (slice_get rules place) port) on
      ∙ ap (λ o. has_key o port) is)
      adds
    where
      yes : (a b c : Bool) → (a && b) ≡ true → (a && (b && c)) ≡ c
      yes true true c e = refl
      yes true false c e = absurd (false≢true e)
      yes false b c e = absurd (false≢true e)

  -- one rule more
  and-true : (b : Bool) → (b && true) ≡ b
  and-true true = refl
  and-true false = refl

  and-false : (b : Bool) → (b && false) ≡ false
  and-false true = refl
  and-false false = refl

  or-none : (b : Bool) → (b || false) ≡ b
  or-none true = refl
  or-none false = refl

  pub filed-more : (entries more : List IndexEntry) (blocks : List ℕ)
      → AreFiled rules patterns kind of entries place
      → AreSoughtAt rules patterns kind of place blocks
      → more ≡ entries ++ entries_of place blocks
      → AreFiled rules patterns kind of more (place + 1)
  filed-more entries more blocks was sought is = record {
    blocks =
        subst P (sym is)
        (All-append (λ entry. (0 < entry.block) × (entry.block < 131072)) entries
        (entries_of place blocks) was.blocks
        (All-map (λ entry. (0 < entry.block) × (entry.block < 131072))
        (λ block. record { block = block; place = place }) blocks
        sought.within));
    filed = λ port h other.
        ap (λ (es : List IndexEntry). is_filed (lies_in 16 0 port) es other) is
        ∙ list_any-append _ entries (entries_of place blocks)
        ∙ ap (λ b. b || is_filed (lies_in 16 0 port) (entries_of place blocks) other) (was.filed port h other)
        ∙ ap (λ b. (ltb other place && is_sought rules patterns kind of port other) || b)
        (filed-new (lies_in 16 0 port) place blocks other ∙ ap (λ b. b && (place == other)) (sought.exact port h))
        ∙ ⊎_elim
        (λ e.
        ap
        (λ b. (b && is_sought rules patterns kind of port other) ||
        (is_sought rules patterns kind of port place && (place == other)))
        (le-ltb other place (omega (arith, e)))
        ∙ ap (λ b. is_sought rules patterns kind of port place && b) (eq-eqb place other e)
        ∙ and-true (is_sought rules patterns kind of port place)
        ∙ ap (λ (p : ℕ). is_sought rules patterns kind of port p) e
        ∙ sym (ap (λ b. b && is_sought rules patterns kind of port other) (lt-ltb other (place + 1) (omega (arith, e)))))
        (λ ne.
        ap
        (λ b. (ltb other place && is_sought rules patterns kind of port other) ||
        (is_sought rules patterns kind of port place && b))
        (ne_eqb place other ne)
        ∙ ap (λ b. (ltb other place && is_sought rules patterns kind of port other) || b)
        (and-false (is_sought rules patterns kind of port place))
        ∙ or-none (ltb other place && is_sought rules patterns kind of port other)
        ∙ ap (λ b. b && is_sought rules patterns kind of port other)
        (⊎_elim (λ low. lt-ltb other place low ∙ sym (lt-ltb other (place + 1) (omega (arith, low))))
        (λ high. le-ltb other place high ∙ sym (le-ltb other (place + 1) (high_more high (λ e. ne e))))
        (cases_lt other place)))
        (cases_eq place other);
  }
    where
      P : List IndexEntry → Type 0
      P = λ es. AreBlocks es

      high_more : {other : ℕ} → place ≤ other → (place ≡ other → ⊥) → place + 1 ≤ other
      high_more {other = other} h ne = ⊎_elim (λ lt. omega (arith, lt)) (λ ge. absurd (ne (omega (arith, ge, h)))) (cases_lt place other)

pub filed-none : (rules : List RuleHead) (patterns : List (List ℕ)) (kind : Transport) (of : PacketSide) (entries : List IndexEntry) → entries ≡ [] → AreFiled rules patterns kind of entries 0
filed-none rules patterns kind of entries is =
    subst P (sym is) (record {
      blocks = All-nil (λ entry. (0 < entry.block) × (entry.block < 131072));
      filed = λ port h place. sym (ap (λ b. b && is_sought rules patterns kind of port place) (le-ltb place 0 (omega arith)));
    })
  where
    P : List IndexEntry → Type 0
    P = λ es. AreFiled rules patterns kind of es 0

-- no rule is sought past the end
pub plain-past : (rules : List RuleHead) (patterns : List (List ℕ)) (kind : Transport) (place : ℕ) → length rules ≤ place → is_plain rules patterns kind place ≡ false
unfolding is_plain
plain-past rules patterns kind place h =
    and_right (ltb (length (word_at patterns place)) 1) (is_for_some kind (slice_get rules place)) (ap (is_for_some kind) (slice_get_past rules place h))

pub side-made : (rules : List RuleHead) (patterns : List (List ℕ)) (kind : Transport) (of : PacketSide) (index : PortIndex)
    (entries : List IndexEntry)
    → IsChained index
    → index.entries.items ≡ entries
    → AreFiled rules patterns kind of entries (length rules)
    → IsSide rules patterns kind of index
side-made rules patterns kind of index entries chained is are = record {
  chained = chained;
  filed = λ port h place.
      ap (λ (es : List IndexEntry). is_filed (lies_in 16 0 port) es place) is
      ∙ are.filed port h place
      ∙ ⊎_elim
      (λ low. ap (λ b. b && is_sought rules patterns kind of port place) (lt-ltb place (length rules) low))
      (λ high.
      ap (λ b. b && is_sought rules patterns kind of port place) (le-ltb place (length rules) high)
      ∙ sym (ap (λ b. b && is_asked of port (slice_get rules place)) (plain-past rules patterns kind place high)))
      (cases_lt place (length rules));
}

-- two sides
pub sought-both : (sides : Sides) (sport dport : ℕ) (old mid new : List ℕ)
    → sport < 65536
    → dport < 65536
    → AddFiled sides.source (lies_in 16 0 sport) old mid
    → AddFiled sides.destination (lies_in 16 0 dport) mid new
    → AddSought sides sport dport old new
sought-both sides sport dport old mid new small short one other = record {
  added = λ rules patterns kind are place.
      other.added are.destination.chained place
      ∙ ap (λ b. b || is_filed (lies_in 16 0 dport) sides.destination.entries.items place) (one.added are.source.chained place ∙ ap (λ b. has old place || b) (are.source.filed sport small place))
      ∙ ap (λ b. (has old place || is_sought rules patterns kind side.Source sport place) || b) (are.destination.filed dport short place)
      ∙ or-assoc (has old place) (is_sought rules patterns kind side.Source sport place) (is_sought rules patterns kind side.Destination dport place);
}
  where
    or-assoc : (a b c : Bool) → ((a || b) || c) ≡ (a || (b || c))
    or-assoc true b c = refl
    or-assoc false b c = refl
