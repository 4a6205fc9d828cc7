-- The parts of an alert line as the pieces that are appended.
use Rattle.std.proofs.Common.{◌≡◌, ℕ, ◌/◌, ◌%◌, ◌<◌, ◌≤◌, ◌^◌, List, [], ◌∷◌, ◌++◌, get_or, length, take, sym, ap, append_assoc, ◌∙◌, arith}
use Rattle.std.specs.Prelude.{decimal, codes}
use Rattle.std.proofs.lemmas.Grind.{common_steps}
use Rattle.std.proofs.lemmas.List.{append-nil, length-append}
use Rattle.std.proofs.Math.Seq.{take-append_seam}
use Rattle.conf_types.specs.declared.classes.Class.{Class}
use Rattle.packet_decode.specs.declared.item.ItemHead.{ItemHead}
use Rattle.rule_types.specs.declared.rule.Rule.{Rule}
use Rattle.alert_fast.specs.Calendar.{date_of}
use Rattle.alert_fast.specs.Pieces.{digits}
use Rattle.alert_fast.specs.Line.{time_text, date_text, clock_text, rule_mark, marked_msg, class_text, priority_text}
use Rattle.alert_fast.specs.Line.{protocol_text, dotted_text, address_text, source_port, destination_port, port_text, line_text}

pub time_text-pieces : (nanos month day hour minute second micros : ℕ)
    → month ≡ (date_of (nanos / 86_400_000_000_000)).month
    → day ≡ (date_of (nanos / 86_400_000_000_000)).day
    → hour ≡ nanos / 3_600_000_000_000 % 24
    → minute ≡ nanos / 60_000_000_000 % 60
    → second ≡ nanos / 1_000_000_000 % 60
    → micros ≡ nanos / 1_000 % 1_000_000
    → digits 2 month ++
    (47 ∷
    (digits 2 day ++
    (45 ∷
    (digits 2 hour ++ (58 ∷ (digits 2 minute ++ (58 ∷ (digits 2 second ++ (46 ∷ (digits 6 micros ++ (32 ∷ 32 ∷ []))))))))))) ≡
    time_text nanos ++ codes "  "
unfolding time_text date_text clock_text
time_text-pieces nanos month day hour minute second micros m d h n s u =
    rw (m, d, h, n, s, u) (simp (append_assoc, append-nil))

-- the four bytes of an address
abbrev bytes_of : ℕ → List ℕ
bytes_of address = address / 16777216 % 256 ∷ address / 65536 % 256 ∷ address / 256 % 256 ∷ address % 256 ∷ []

-- an address by its bytes
pub dotted_text-pieces : (bytes : List ℕ) (address : ℕ) → address < 2 ^ 32 → bytes ≡ bytes_of address →
    decimal (get_or bytes 0 0) ++ (46 ∷ (decimal (get_or bytes 1 0) ++ (46 ∷ (decimal (get_or bytes 2 0) ++ (46 ∷ (decimal (get_or bytes 3 0) ++ [])))))) ≡ dotted_text address
unfolding dotted_text
dotted_text-pieces bytes address small is =
    let high : address / 16777216 % 256 ≡ address / 16777216 = omega arith in
    rw (is, high) (simp (append_assoc, append-nil))

pub marked_msg-pieces : (gid sid rev : ℕ) (msg : List ℕ) →
    codes "[**] [" ++ (decimal gid ++ (58 ∷ (decimal sid ++ (58 ∷ (decimal rev ++ (93 ∷ 32 ∷ (msg ++ codes " [**] "))))))) ≡ marked_msg gid sid rev msg
unfolding marked_msg rule_mark
marked_msg-pieces gid sid rev msg = simp append_assoc

-- what was there is the front of what was appended to it
pub take-following : (old middle front new : List ℕ) → middle ≡ old ++ front → new ≡ middle → take (length old) new ≡ old
take-following old middle front new is same = ap (take (length old)) (same ∙ is) ∙ take-append_seam old front

-- what was there is the front of what keeps all that began with it
pub take-kept : (old middle front new : List ℕ) → middle ≡ old ++ front → take (length middle) new ≡ middle → take (length old) new ≡ old
take-kept old middle front new is kept =
    let within : length old ≤ length middle = omega (arith, ap length is, length-append old front) in
    let cut : take (length old) (take (length middle) new) ≡ take (length old) new = grind (arith, common_steps) in
    sym cut ∙ ap (take (length old)) (kept ∙ is) ∙ take-append_seam old front

-- a text that was appended to what had been appended before
then : (old middle new front back : List ℕ) → middle ≡ old ++ front → new ≡ middle ++ back → new ≡ old ++ (front ++ back)
then old middle new front back first second =
    second ∙ ap (λ (x : List ℕ). x ++ back) first ∙ append_assoc old front back

-- the parts of a line, appended one after another
pub line_text-parts : (head : ItemHead) (rule : Rule) (classes : List Class) (old timed ruled classed ranked named left arrowed right line : List ℕ) →
    timed ≡ old ++ (time_text head.moment.nanos ++ codes "  ") → ruled ≡ timed ++ marked_msg rule.gid rule.sid rule.rev rule.msg →
    classed ≡ ruled ++ class_text classes rule.class → ranked ≡ classed ++ priority_text rule.priority →
    named ≡ ranked ++ (codes "{" ++ protocol_text head.ip.protocol ++ codes "} ") →
    left ≡ named ++ address_text head.ip.src → arrowed ≡ left ++ (port_text (source_port head.body) ++ codes " -> ") →
    right ≡ arrowed ++ address_text head.ip.dst → line ≡ right ++ (port_text (destination_port head.body) ++ codes "\n") →
    line ≡ old ++ line_text head rule classes
unfolding line_text
line_text-parts head rule classes old timed ruled classed ranked named left arrowed right line h1 h2 h3 h4 h5 h6 h7 h8 h9 =
    let g2 = then old timed ruled _ _ h1 h2 in
    let g3 = then old ruled classed _ _ g2 h3 in
    let g4 = then old classed ranked _ _ g3 h4 in
    let g5 = then old ranked named _ _ g4 h5 in
    let g6 = then old named left _ _ g5 h6 in
    let g7 = then old left arrowed _ _ g6 h7 in
    let g8 = then old arrowed right _ _ g7 h8 in
    then old right line _ _ g8 h9
