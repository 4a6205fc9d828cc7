-- Protocols and ends in a line, and bytes that aren't in them.
use Rattle.std.proofs.Common.{◌≡◌, ◌≢◌, ℕ, zero, suc, ◌+◌, ◌*◌, ◌/◌, ◌%◌, ◌^◌, ◌<◌, ◌≤◌, Bool, true, false, not, ◌&&◌, eqb, List}
use Rattle.std.proofs.Common.{[], ◌∷◌, ◌++◌, Option, Some, None, length, get_or, refl, sym, ap, ◌∙◌, inl, inr, arith, All, codes}
use Rattle.std.proofs.Common.{decimal, true≢false, eq-eqb, ne_eqb}
use Rattle.std.specs.Prelude.{⊤}
use Rattle.std.proofs.lemmas.Bool.{cases_eq}
use Rattle.std.proofs.lemmas.Bool.Decides.{nat_tests}
use Rattle.std.proofs.NetLemmas.Alphabet.{IsHexOrColon, All-hex_groups_text}
use Rattle.std.specs.Net.Text.{hex_groups_text}
use Rattle.edge_io.specs.declared.address.Addr.{Addr}
use Rattle.edge_io.specs.declared.address.Addr.TheVariants.{V4, V6}
use Rattle.alert_fast.specs.Fronts.{Lacks, IsWhole, NoWhole}
use Rattle.alert_fast.specs.Line.{protocol_text, dotted_text, colon_text, address_text, port_text}
use Rattle.alert_fast.specs.Pieces.{digits}
use Rattle.alert_fast.specs.Tails.{IsProtocol, protocol_value}
use Rattle.alert_fast.specs.Told.{IsAddr}
use Rattle.alert_fast.specs.Words.{read_value, IsPort, IsNoDigit}
use Rattle.alert_fast.proofs.ReadBack.Fronts.{lacks-append}
use Rattle.alert_fast.proofs.ReadBack.Places.{lacks_by_place}
use Rattle.alert_fast.proofs.ReadBack.WholeWords.{value_of_three, lacks_digits, free_number}
use Rattle.alert_fast.proofs.ReadBack.EndWords.{eight, eight_small}

-- a port that there may be
abbrev pub IsSomePort : Option ℕ → Type 0
IsSomePort None = ⊤
IsSomePort (Some port) = IsPort port

-- whether no byte of a text is this one
abbrev pub lacking : ℕ → List ℕ → Bool
lacking byte [] = true
lacking byte (a ∷ text) = not (eqb a byte) && lacking byte text

pub lacks_test : (byte : ℕ) (text : List ℕ) → lacking byte text ≡ true → Lacks byte text
lacks_test byte [] e = tt
lacks_test byte (a ∷ text) e =
    elim (cases_eq a byte) [
      | inl same ↦ absurd (true≢false (sym (rw (eq-eqb a byte same) at e)))
      | inr other ↦ (other, lacks_test byte text (rw (ne_eqb a byte other) at e))
    ]

-- the number of a protocol, by its name
pub protocol_back : (n : ℕ) → IsProtocol n → protocol_value (protocol_text n) ≡ n
unfolding protocol_value protocol_text
protocol_back n small =
    elim (cases_eq n 6) [
      | inl tcp ↦ rw tcp refl
      | inr no_tcp ↦ elim (cases_eq n 17) [
        | inl udp ↦ rw udp refl
        | inr no_udp ↦ elim (cases_eq n 1) [
          | inl icmp ↦ rw icmp refl
          | inr no_icmp ↦ rw (ne_eqb n 6 no_tcp, ne_eqb n 17 no_udp, ne_eqb n 1 no_icmp, value_of_three n (omega (arith, small))) (omega (arith, small))
        ]
      ]
    ]

pub protocol_whole : (word : List ℕ) (n : ℕ) → n ≡ protocol_value word → n < 256 → protocol_text n ≡ word → IsWhole IsProtocol protocol_text word n
protocol_whole word n read small same = record {
  fits = small;
  spelled = same;
  only = λ other h e. sym (protocol_back other h) ∙ ap protocol_value e ∙ sym read;
}

pub protocol_none : (word : List ℕ) (n : ℕ) → n ≡ protocol_value word → protocol_text n ≢ word → NoWhole IsProtocol protocol_text word
protocol_none word n read differs other h e = differs (ap protocol_text (read ∙ sym (ap protocol_value e) ∙ protocol_back other h) ∙ e)

-- a byte that no protocol's name has
pub record IsForeign (byte : ℕ) : Type 0 where
  no_digit : IsNoDigit byte
  tcp : lacking byte (codes "TCP") ≡ true
  udp : lacking byte (codes "UDP") ≡ true
  icmp : lacking byte (codes "ICMP") ≡ true
  proto : lacking byte (codes "PROTO:") ≡ true

pub free_protocol : (byte : ℕ) → IsForeign byte → (n : ℕ) → IsProtocol n → Lacks byte (protocol_text n)
unfolding protocol_text
free_protocol byte h n small =
    elim (cases_eq n 6) [
      | inl tcp ↦ rw tcp (lacks_test byte (codes "TCP") h.tcp)
      | inr no_tcp ↦ elim (cases_eq n 17) [
        | inl udp ↦ rw udp (lacks_test byte (codes "UDP") h.udp)
        | inr no_udp ↦ elim (cases_eq n 1) [
          | inl icmp ↦ rw icmp (lacks_test byte (codes "ICMP") h.icmp)
          | inr no_icmp ↦
              rw (ne_eqb n 6 no_tcp, ne_eqb n 17 no_udp, ne_eqb n 1 no_icmp)
              (lacks-append byte (codes "PROTO:") (digits 3 n) (lacks_test byte (codes "PROTO:") h.proto)
              (lacks_digits byte h.no_digit 3 n))
        ]
      ]
    ]

pub brace_is_foreign : IsForeign 125
brace_is_foreign = record { no_digit = refl; tcp = refl; udp = refl; icmp = refl; proto = refl }

pub bracket_is_foreign : IsForeign 91
bracket_is_foreign = record { no_digit = refl; tcp = refl; udp = refl; icmp = refl; proto = refl }

-- a byte that no address and no port has
pub record IsOutside (byte : ℕ) : Type 0 where
  no_digit : IsNoDigit byte
  no_dot : 46 ≢ byte
  no_colon : 58 ≢ byte
  no_hex : (c : ℕ) → IsHexOrColon c → c ≢ byte

-- in a record, so that antt reads the lists off a goal
pub record Free (byte : ℕ) (xs : List ℕ) : Type 0 where
  pub lacks : Lacks byte xs

pub join : {byte : ℕ} {xs ys : List ℕ} → Free byte xs → Free byte ys → Free byte (xs ++ ys)
join {byte} {xs} {ys} h k = record { lacks = lacks-append byte xs ys h.lacks k.lacks }

pub literal : (byte : ℕ) (text : List ℕ) → lacking byte text ≡ true → Free byte text
literal byte text e = record { lacks = lacks_test byte text e }

free_dotted : (byte : ℕ) → IsOutside byte → (n : ℕ) → n < 2 ^ 32 → Lacks byte (dotted_text n)
unfolding dotted_text
free_dotted byte h n small =
    let part : (m : ℕ) → m < 2 ^ 32 → Free byte (decimal m) = λ m fits. record { lacks = free_number byte h.no_digit m fits } in
    let dot : Free byte (codes ".") = record { lacks = (h.no_dot, tt) } in
    let a = part (n / 2 ^ 24) (omega (arith, small)) in
    let b = part (n / 2 ^ 16 % 256) (omega arith) in
    let c = part (n / 2 ^ 8 % 256) (omega arith) in
    let d = part (n % 256) (omega arith) in
    (join (join (join (join (join (join a dot) b) dot) c) dot) d).lacks

free_colons : (byte : ℕ) → IsOutside byte → (n : ℕ) → Lacks byte (colon_text n)
unfolding colon_text
free_colons byte h n =
    let all = All-hex_groups_text (eight n) (eight_small n) in
    lacks_by_place byte (hex_groups_text (eight n)) (λ k lt. h.no_hex (get_or (hex_groups_text (eight n)) k 0) (all k 0 lt))

free_address : (byte : ℕ) → IsOutside byte → (a : Addr) → IsAddr a → Lacks byte (address_text a)
unfolding address_text
free_address byte h (V4 n) small = free_dotted byte h n small
free_address byte h (V6 n) small = free_colons byte h n

pub free_end : (byte : ℕ) → IsOutside byte → (a : Addr) (port : Option ℕ) → IsAddr a → IsSomePort port → Lacks byte (address_text a ++ port_text port)
unfolding port_text
free_end byte h a None fits none = lacks-append byte (address_text a) [] (free_address byte h a fits) tt
free_end byte h a (Some p) fits small = lacks-append byte (address_text a) (58 ∷ decimal p) (free_address byte h a fits) (h.no_colon, free_number byte h.no_digit p (omega (arith, small)))

pub blank_is_outside : IsOutside 32
blank_is_outside = record {
  no_digit = refl;
  no_dot = λ e. absurd (omega (arith, e));
  no_colon = λ e. absurd (omega (arith, e));
  no_hex = λ c h e. elim h [ inl r ↦ omega (arith, r.0, e) | inr r ↦ omega (arith, r.0, e) ];
}

pub feed_is_outside : IsOutside 10
feed_is_outside = record {
  no_digit = refl;
  no_dot = λ e. absurd (omega (arith, e));
  no_colon = λ e. absurd (omega (arith, e));
  no_hex = λ c h e. elim h [ inl r ↦ omega (arith, r.0, e) | inr r ↦ omega (arith, r.0, e) ];
}

pub bracket_is_outside : IsOutside 91
bracket_is_outside = record {
  no_digit = refl;
  no_dot = λ e. absurd (omega (arith, e));
  no_colon = λ e. absurd (omega (arith, e));
  no_hex = λ c h e. elim h [ inl r ↦ omega (arith, r.1, e) | inr r ↦ omega (arith, r.0, e) ];
}
