-- The line of an item is the text of what it tells.
use Rattle.std.proofs.Common.{◌≡◌, ℕ, List, [], ◌∷◌, ◌++◌, Option, Some, None, option_map, refl, sym, ap, ap₂, ◌∙◌, append_assoc, codes}
use Rattle.packet_decode.specs.declared.item.ItemHead.{ItemHead}
use Rattle.packet_decode.specs.declared.packet.Body.{Body}
use Rattle.packet_decode.specs.declared.packet.Body.TheVariants.{Tcp, Udp, Icmp, Other, Fragment, Stream}
use Rattle.conf_types.specs.declared.classes.Class.{Class}
use Rattle.rule_types.specs.declared.rule.Rule.{Rule}
use Rattle.alert_fast.specs.Calendar.{date_of}
use Rattle.alert_fast.specs.Line.{date_text, clock_text, time_text, class_text, text_of, source_port, destination_port, line_text}
use Rattle.alert_fast.specs.Told.{line_time_text, named_class, first_port, second_port, told_text}
use Rattle.alert_fast.specs.Telling.{time_at, ports_of, told_by}

same_time : (nanos : ℕ) → time_text nanos ≡ line_time_text (time_at nanos)
unfolding time_text date_text clock_text line_time_text
same_time nanos = simp append_assoc

same_class : (classes : List Class) (class : Option ℕ) → class_text classes class ≡ named_class (option_map (λ (place : ℕ). text_of classes place) class)
unfolding class_text named_class
same_class classes None = refl
same_class classes (Some place) = refl

same_source : (body : Body) → source_port body ≡ first_port (ports_of body)
same_source (Tcp head) = refl
same_source (Udp sport dport) = refl
same_source (Stream sport dport) = refl
same_source (Icmp kind code id seq) = refl
same_source Other = refl
same_source Fragment = refl

same_target : (body : Body) → destination_port body ≡ second_port (ports_of body)
same_target (Tcp head) = refl
same_target (Udp sport dport) = refl
same_target (Stream sport dport) = refl
same_target (Icmp kind code id seq) = refl
same_target Other = refl
same_target Fragment = refl

pub line_text-told : (head : ItemHead) (rule : Rule) (classes : List Class) → line_text head rule classes ≡ told_text (told_by head rule classes)
unfolding line_text told_text
line_text-told head rule classes =
    rw (same_time head.moment.nanos, same_class classes rule.class, same_source head.body, same_target head.body) refl
