-- Options on numbers of a header keep a rule sound.
use Rattle.std.proofs.Common.{ℕ, ◌+◌, ◌≤◌, ◌≡◌, ◌==◌, ◌||◌, Bool, true, false, not, cond, Option, Some, None, List, [], is_some}
use Rattle.std.proofs.Common.{length, take, drop, refl, arith, inl, inr, IfSome, IsTrue}
use Rattle.std.proofs.lemmas.Bool.{and_parts}
use Rattle.net_lists.specs.Numbers.{number_in}
use Rattle.net_lists.specs.Stops.{or_kind}
use Rattle.net_lists.proofs.Steps.{Holds, given, refused, tested, unless, weaker, chained, ranged}
use Rattle.conf_types.specs.Sound.{IsWithin}
use Rattle.rule_parser.specs.declared.draft.RuleDraft.{RuleDraft}
use Rattle.rule_parser.specs.declared.fault.Fault.TheVariants.{OptionValue}
use Rattle.rule_parser.specs.declared.fields.Sign.{Sign}
use Rattle.rule_types.specs.declared.option.Cmp.{Cmp}
use Rattle.rule_types.specs.declared.option.Cmp.TheVariants as cmp
use Rattle.rule_types.specs.declared.option.Field.{Field}
use Rattle.rule_types.specs.declared.option.Field.TheVariants as field
use Rattle.rule_types.specs.declared.option.Opt.{Opt}
use Rattle.rule_types.specs.declared.option.Opt.TheVariants as opt
use Rattle.rule_parser.specs.Drafts.{kept}
use Rattle.rule_parser.specs.Fields.{sign_of, cmp_of, is_equals, is_ttl, allows, signed_compare, end_of, ttl_range, dsize_range}
use Rattle.rule_parser.specs.Fields.{place_of, ttl_to, after_above, dsize_to, dsize_at, protocol_of, protocol_to, compare_of}
use Rattle.rule_parser.specs.Fields.{field_option, dsize_option, sameip_option}
use Rattle.rule_types.specs.Sound.{most_of, compares, AreEnds, IsOption}
use Rattle.rule_parser.proofs.Sound.Drafts.{IsSoundDraft, IsPlain, names_after, kept-sound}

-- an option that may come anywhere, and is no fast pattern
pub IsAnywhere : Opt → Type 0
IsAnywhere option = ((names : List ℕ) → IsOption names option) × IsPlain option

-- what any such option keeps
pub anywhere-sound : (classes : ℕ) (draft : RuleDraft) → IsSoundDraft classes draft → (option : Opt) → IsAnywhere option → Holds (IsSoundDraft classes) (kept draft option)
unfolding IsAnywhere
anywhere-sound classes draft sound option h = kept-sound classes draft option sound (h.0 (names_after [] draft.opts)) h.1

pub anywhere : (option : Opt) → ((names : List ℕ) → IsOption names option) → IsPlain option → IsAnywhere option
unfolding IsAnywhere
anywhere option h plain = (h, plain)

compare-anywhere : (field : Field) (how : Cmp) (low high : ℕ)
    → low ≤ most_of field
    → high ≤ most_of field
    → IsTrue (compares field how)
    → AreEnds how low high
    → IsAnywhere (opt.Compare field how low high)
compare-anywhere field how low high least most has ends = anywhere (opt.Compare field how low high) (λ names. (least, most, has, ends)) (refl, λ names. refl)

-- a field compares by each sign that it has
allowed-compares : (field : Field) (sign : Sign) → allows field sign ≡ true → IsTrue (compares field (cmp_of sign))
allowed-compares field sign e = (and_parts (compares field (cmp_of sign)) (is_ttl field || not (is_equals sign)) e).0

signed-anywhere : (field : Field) (text : List ℕ) → Holds IsAnywhere (signed_compare field text)
unfolding signed_compare
signed-anywhere field text =
    let Fits : ℕ → Type 0 = λ number. IsWithin 0 (most_of field) number × (allows field (sign_of text).0 ≡ true) in
    chained {P = Fits} (tested (allows field (sign_of text).0) (λ e. weaker (ranged _ 0 (most_of field) (sign_of text).1) (λ _ within. (within, e))) (λ _. refused)) (λ found fits.
    given (compare-anywhere field (cmp_of (sign_of text).0) found found fits.0.1 fits.0.1 (allowed-compares field (sign_of text).0 fits.1) (inr refl)))

end_of-most : (lacking : ℕ) (text : List ℕ) → lacking ≤ 4294967295 → Holds (λ number. number ≤ 4294967295) (or_kind OptionValue (end_of lacking text))
end_of-most lacking text h = go (length text == 0)
  where
    go : (b : Bool) → Holds (λ number. number ≤ 4294967295) (or_kind OptionValue (cond b (Some lacking) (number_in 0 4294967295 text)))
    go true = given h
    go false = weaker (ranged OptionValue 0 4294967295 text) (λ _ within. within.1)

ttl_range-anywhere : (low high : List ℕ) → Holds IsAnywhere (ttl_range low high)
unfolding ttl_range
ttl_range-anywhere low high =
    chained (end_of-most 0 low (omega arith)) (λ least first.
    chained (end_of-most 4294967295 high (omega arith)) (λ most last.
    unless _ _ (λ _. given (compare-anywhere field.Ttl cmp.Within least most first last refl (inl refl)))))

dsize_range-anywhere : (low high : List ℕ) → Holds IsAnywhere (dsize_range low high)
unfolding dsize_range
dsize_range-anywhere low high =
    chained (ranged _ 0 65535 low) (λ least first.
    chained (ranged _ 0 65535 high) (λ most last.
    given (compare-anywhere field.Dsize cmp.Within least most first.1 last.1 refl (inl refl))))

ttl_to-anywhere : (text : List ℕ) (place : Option ℕ) → Holds IsAnywhere (ttl_to text place)
ttl_to-anywhere text None = signed-anywhere field.Ttl text
ttl_to-anywhere text (Some place) = ttl_range-anywhere (take place text) (drop (place + 1) text)

dsize_to-anywhere : (text low : List ℕ) (high : Option (List ℕ)) → Holds IsAnywhere (dsize_to text low high)
dsize_to-anywhere text low None = signed-anywhere field.Dsize text
dsize_to-anywhere text low (Some high) = dsize_range-anywhere low high

dsize_at-anywhere : (text : List ℕ) (place : Option ℕ) → Holds IsAnywhere (dsize_at text place)
dsize_at-anywhere text None = signed-anywhere field.Dsize text
dsize_at-anywhere text (Some place) = dsize_to-anywhere text (take place text) (after_above (drop (place + 1) text))

protocol_of-most : (name : List ℕ) → IfSome (protocol_of name) (λ number. number ≤ 4294967295)
protocol_of-most name = grind arith

protocol_to-anywhere : (text : List ℕ) (number : Option ℕ) → IfSome number (λ number. number ≤ 4294967295) → Holds IsAnywhere (protocol_to text number)
protocol_to-anywhere text None h = signed-anywhere field.IpProto text
protocol_to-anywhere text (Some number) h = given (compare-anywhere field.IpProto cmp.Eq number number h h refl (inr refl))

compare_of-anywhere : (which : Field) (text : List ℕ) → Holds IsAnywhere (compare_of which text)
unfolding compare_of
compare_of-anywhere field.Ttl text = ttl_to-anywhere text (place_of 45 text)
compare_of-anywhere field.Dsize text = dsize_at-anywhere text (place_of 60 text)
compare_of-anywhere field.IpProto text = protocol_to-anywhere text (protocol_of text) (protocol_of-most text)
compare_of-anywhere field.Tos text = signed-anywhere field.Tos text
compare_of-anywhere field.Window text = signed-anywhere field.Window text
compare_of-anywhere field.FragOffset text = signed-anywhere field.FragOffset text
compare_of-anywhere field.Itype text = signed-anywhere field.Itype text
compare_of-anywhere field.Icode text = signed-anywhere field.Icode text
compare_of-anywhere field.Id text = signed-anywhere field.Id text
compare_of-anywhere field.Seq text = signed-anywhere field.Seq text
compare_of-anywhere field.Ack text = signed-anywhere field.Ack text
compare_of-anywhere field.IcmpId text = signed-anywhere field.IcmpId text
compare_of-anywhere field.IcmpSeq text = signed-anywhere field.IcmpSeq text

pub field-sound : (classes : ℕ) (which : Field) (draft : RuleDraft) → IsSoundDraft classes draft → (value : List ℕ) → Holds (IsSoundDraft classes) (field_option which draft value)
unfolding field_option
field-sound classes which draft sound value = chained (compare_of-anywhere which value) (anywhere-sound classes draft sound)

pub dsize-sound : (classes : ℕ) (draft : RuleDraft) → IsSoundDraft classes draft → (value : List ℕ) → Holds (IsSoundDraft classes) (dsize_option draft value)
unfolding dsize_option
dsize-sound classes draft sound value =
    chained (compare_of-anywhere field.Dsize value) (λ option h.
    unless _ _ (λ _. anywhere-sound classes (record draft { dsize = true }) (search sound) option h))

pub sameip-sound : (classes : ℕ) (draft : RuleDraft) → IsSoundDraft classes draft → (value : Option (List ℕ)) → Holds (IsSoundDraft classes) (sameip_option draft value)
unfolding sameip_option
sameip-sound classes draft sound value = unless (is_some value) _ (λ _. kept-sound classes draft opt.SameIp sound tt (refl, λ names. refl))
