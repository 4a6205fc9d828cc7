-- A line is read by its parts.
use Rattle.std.proofs.Common.{◌≡◌, ◌≢◌, ℕ, ◌+◌, ◌<◌, ◌≤◌, List, [], ◌∷◌, ◌++◌, Option, Some, None, is_some, length, refl, sym, ap, subst, ◌∙◌, append_assoc, append-nil, codes, decimal}
use Rattle.std.specs.Prelude.{⊤}
use Rattle.alert_fast.specs.declared.told.LineTime.{LineTime}
use Rattle.alert_fast.specs.declared.told.RuleMark.{RuleMark}
use Rattle.alert_fast.specs.declared.told.LineEnds.{LineEnds}
use Rattle.alert_fast.specs.Ends.{source_text, target_text, AreWords, AreRead, NoEnds}
use Rattle.alert_fast.specs.Line.{rule_mark, marked_msg, priority_text}
use Rattle.alert_fast.specs.Parts.{PartFacts, parts_text, FitParts, IsNoLonger, AreParts, NoParts}
use Rattle.alert_fast.specs.Told.{LineFacts, told_text, IsTold, ArePorts, first_port, second_port, has_ports, IsReading, NoReading}
use Rattle.alert_fast.proofs.ReadBack.Protocols.{IsSomePort, IsOutside, free_end, blank_is_outside, feed_is_outside, bracket_is_outside}

-- the parts of what is told
abbrev parts_of : LineFacts → PartFacts
parts_of told = record {
  time = told.time;
  numbers = (told.mark.gid, (told.mark.sid, told.mark.rev));
  msg = told.msg;
  class = told.class;
  ranked = (told.priority, told.protocol);
  from = source_text told.ends;
  to = target_text told.ends;
}

same_text : (told : LineFacts) → told_text told ≡ parts_text (parts_of told)
unfolding told_text marked_msg rule_mark priority_text
same_text told = simp (append_assoc, append-nil)

ports_fit : (ports : Option (ℕ × ℕ)) → ArePorts ports → IsSomePort (first_port ports) × IsSomePort (second_port ports)
ports_fit None fits = (tt, tt)
ports_fit (Some ports) fits = fits

parts_fit : (told : LineFacts) → IsTold told → FitParts (parts_of told)
parts_fit told h =
    let (time, mark, priority, protocol, ends) = h in
    let (src, dst, ports) = ends in
    let both = ports_fit told.ends.ports ports in
    record {
      head = (time, (mark.0, (mark.1, mark.2)));
      ranked = (priority, protocol);
      from = free_end 32 blank_is_outside told.ends.src (first_port told.ends.ports) src both.0;
      to = free_end 10 feed_is_outside told.ends.dst (second_port told.ends.ports) dst both.1;
      from_bracket = free_end 91 bracket_is_outside told.ends.src (first_port told.ends.ports) src both.0;
      to_bracket = free_end 91 bracket_is_outside told.ends.dst (second_port told.ends.ports) dst both.1;
    }

-- what parts and ends tell
abbrev pub told_of : PartFacts → LineEnds → LineFacts
told_of p ends = record {
  time = p.time;
  mark = record { gid = p.numbers.0; sid = p.numbers.1.0; rev = p.numbers.1.1 };
  msg = p.msg;
  class = p.class;
  priority = p.ranked.0;
  protocol = p.ranked.1;
  ends = ends;
}

pub reading_none : (line : List ℕ) → NoParts line → NoReading line
reading_none line none other fits e = none (parts_of other) (parts_fit other fits) (sym e ∙ same_text other)

module _ (line : List ℕ) (p : PartFacts) (h : AreParts line p) where
  same_parts : (other : LineFacts) → IsTold other → told_text other ≡ line → IsNoLonger (parts_of other) p
  same_parts other fits e = h.others (parts_of other) (parts_fit other fits) (sym e ∙ same_text other)

  same_words : (other : LineFacts) → IsTold other → told_text other ≡ line → AreWords p.from p.to other.ends
  same_words other fits e =
      let same = same_parts other fits e in
      record { fits = fits.4; source = same.from; target = same.to }

  pub reading_no_ends : NoEnds p.from p.to → NoReading line
  reading_no_ends none other fits e = none other.ends (same_words other fits e)

  pub reading_whole : (ends : LineEnds) → AreRead (has_ports p.ranked.1) p.from p.to ends → IsReading line (told_of p ends)
  reading_whole ends r = record {
    fits = (h.head.0, (h.head.1.0, h.head.1.1.0, h.head.1.1.1), h.ranked.0, h.ranked.1, r.words.fits);
    spelled =
        same_text (told_of p ends)
        ∙ ap (λ (t : List ℕ). parts_text (record (parts_of (told_of p ends)) { from = t })) r.words.source
        ∙ ap (λ (t : List ℕ). parts_text (record p { to = t })) r.words.target
        ∙ sym h.spelled;
    longest = λ other fits e. (same_parts other fits e).msg;
    ported = λ other fits e own.
        let same = ap (λ (k : ℕ × ℕ). has_ports k.1) (same_parts other fits e).ranked in
        r.preferred other.ends (same_words other fits e) (own ∙ same);
  }
