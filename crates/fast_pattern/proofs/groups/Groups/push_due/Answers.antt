-- With ports the indexes of both sides add the rules that are due (`sides-due`); without ports all rules of the kind's list
-- are (`list-due`).
use Rattle.std.proofs.Common.{◌≡◌, ℕ, List, ◌++◌, ◌||◌, sym, ap, subst, refl, ◌∙◌, ⊎_elim}
use Rattle.packet_decode.specs.declared.packet.Body.{Body}
use Rattle.packet_decode.specs.declared.packet.Body.TheVariants as body
use Rattle.fast_pattern.specs.Blocks.{has}
use Rattle.fast_pattern.specs.Grouping.{texts_of, is_due_at}
use Rattle.fast_pattern.specs.declared.groups.Groups.{Groups}
use Rattle.rule_types.specs.declared.rule.Rule.{Rule}
use Rattle.fast_pattern.proofs.Candidates.Selecting.{list-due, sides-due}
use Rattle.fast_pattern.proofs.groups.Groups.push_due.Goals as goal

-- a place is there afterwards, for an item that carries this
abbrev Added : Groups → List Rule → List ℕ → List ℕ → ℕ → Body → Type 0
Added groups rules old new place carried = has new place ≡ (has old place || is_due_at groups.rules.items (texts_of rules) carried place)

pub returns-in_ok-push_places-in-Tcp : goal.returns-in_ok-push_places-in-Tcp
returns-in_ok-push_places-in-Tcp c = record {
  added = λ rules hold place.
      let groups = c.args.self.now in
      let old = c.args.places.now.items in
      let new = c.push_places.new.places.items in
      let head = c.in-Tcp.head in
      subst (Added groups rules old new place) (sym c.in-Tcp.is)
      (sides-due groups.rules.items (texts_of rules) (body.Tcp head) head.sport head.dport old new groups.tcp hold.tcp
      c.in_ok-push_places-in-Tcp.ensures (λ one. refl) place);
}

pub returns-in_ok-push_places-in-Stream : goal.returns-in_ok-push_places-in-Stream
returns-in_ok-push_places-in-Stream c = record {
  added = λ rules hold place.
      let groups = c.args.self.now in
      let old = c.args.places.now.items in
      let new = c.push_places-in-Stream.new.places.items in
      let sport = c.in-Stream.sport in
      let dport = c.in-Stream.dport in
      subst (Added groups rules old new place) (sym c.in-Stream.is)
      (sides-due groups.rules.items (texts_of rules) (body.Stream sport dport) sport dport old new groups.tcp hold.tcp
      c.in_ok-push_places-in-Stream.ensures (λ one. refl) place);
}

pub returns-in_ok-push_places-in-Udp : goal.returns-in_ok-push_places-in-Udp
returns-in_ok-push_places-in-Udp c = record {
  added = λ rules hold place.
      let groups = c.args.self.now in
      let old = c.args.places.now.items in
      let new = c.push_places-in-Udp.new.places.items in
      let sport = c.in-Udp.sport in
      let dport = c.in-Udp.dport in
      subst (Added groups rules old new place) (sym c.in-Udp.is)
      (sides-due groups.rules.items (texts_of rules) (body.Udp sport dport) sport dport old new groups.udp hold.udp
      c.in_ok-push_places-in-Udp.ensures (λ one. refl) place);
}

pub returns-in_ok-extend_from_slice-in-Icmp : goal.returns-in_ok-extend_from_slice-in-Icmp
returns-in_ok-extend_from_slice-in-Icmp c = record {
  added = λ rules hold place.
      let groups = c.args.self.now in
      let old = c.args.places.now.items in
      let new = c.extend_from_slice.new.self.items in
      let at = c.in-Icmp in
      let pushed = c.in_ok-extend_from_slice-in-Icmp.ensures.items ∙ ap (λ (xs : List ℕ). old ++ xs) c.deref.ensures.value in
      subst (Added groups rules old new place) (sym c.in-Icmp.is)
      (list-due groups rules (body.Icmp at.kind at.code at.id at.seq) groups.icmp.items old new hold hold.icmp (λ asked. refl)
      pushed place);
}

pub returns-in_ok-extend_from_slice-in-Other : goal.returns-in_ok-extend_from_slice-in-Other
returns-in_ok-extend_from_slice-in-Other c = record {
  added = λ rules hold place.
      let groups = c.args.self.now in
      let old = c.args.places.now.items in
      let new = c.extend_from_slice-in-Other.new.self.items in
      let pushed = c.in_ok-extend_from_slice-in-Other.ensures.items ∙ ap (λ (xs : List ℕ). old ++ xs) c.deref-in-Other.ensures.value in
      ⊎_elim
      (λ is. subst (Added groups rules old new place) (sym is) (list-due groups rules body.Other groups.other.items old new hold hold.other (λ asked. refl) pushed place))
      (λ is. subst (Added groups rules old new place) (sym is) (list-due groups rules body.Fragment groups.other.items old new hold hold.other (λ asked. refl) pushed place))
      c.in-Other.is;
}
