-- The header of a line, a lemma a word: after a word that is right the header's answer is that of the rest, and a
-- word that is wrong ends it.
use Rattle.std.proofs.Common.{◌≡◌, ℕ, Bool, Result, Ok, Err, List, refl, sym, ap, subst, ◌∙◌, inl, inr}
use Rattle.net_lists.specs.declared.part.AddrBounds.{AddrBounds}
use Rattle.net_lists.specs.declared.part.ValueBounds.{ValueBounds}
use Rattle.net_lists.specs.declared.part.Part.{Part}
use Rattle.net_lists.specs.declared.stop.Stop.{Stop}
use Rattle.net_lists.specs.declared.stop.Stop.TheVariants.{NoMemory, Wrong}
use Rattle.net_lists.specs.Cutting.{first_word}
use Rattle.net_lists.specs.Variables.{Variables}
use Rattle.rule_parser.specs.declared.fault.Fault.{Fault}
use Rattle.rule_parser.specs.declared.header.Header.{Header}
use Rattle.rule_parser.specs.declared.header.HeaderTexts.{HeaderTexts}
use Rattle.rule_types.specs.declared.rule.Action.{Action}
use Rattle.rule_types.specs.declared.rule.Proto.{Proto}
use Rattle.rule_parser.specs.Headers.{After, IsGiven, IsWord, IsAddressWord, IsPortWord, IsHeader, from_word, action_of, proto_of, direction_of}
use Rattle.rule_parser.specs.HeaderTexts.{AreTexts}

-- ---- a word, and what follows it

-- how an answer follows from a word's: it is that of the rest, or the word's stop
abbrev pub Follows : {X : Type 0} → Result X (Stop Fault) → (X → Result Header Fault → Type 0) → Result Header (Stop Fault) → Type 0
Follows (Ok x) Rest answer = IsGiven answer (Rest x)
Follows (Err stop) Rest answer = answer ≡ Err stop

-- the same of a word whose reader takes no memory
abbrev pub FollowsWord : {X : Type 0} → Result X Fault → (X → Result Header Fault → Type 0) → Result Header (Stop Fault) → Type 0
FollowsWord (Ok x) Rest answer = IsGiven answer (Rest x)
FollowsWord (Err why) Rest answer = answer ≡ Err (Wrong why)

module _ {X : Type 0} (IsMeant : Result X Fault → Type 0) (Rest : X → Result Header Fault → Type 0) where
  right : (x : X) (answer : Result Header (Stop Fault)) → IsMeant (Ok x) → IsGiven answer (Rest x) → IsGiven answer (After IsMeant Rest)
  right x (Ok header) is rest = inl (x, is, rest)
  right x (Err NoMemory) is rest = tt
  right x (Err (Wrong why)) is rest = inl (x, is, rest)

  wrong : (why : Fault) (answer : Result Header (Stop Fault)) → IsMeant (Err why) → answer ≡ Err (Wrong why) → IsGiven answer (After IsMeant Rest)
  wrong why answer is same = subst (λ (a : Result Header (Stop Fault)). IsGiven a (After IsMeant Rest)) (sym same) (inr (why, is, refl))

  word : (read : Result X Fault) (answer : Result Header (Stop Fault)) → IsMeant read → FollowsWord read Rest answer → IsGiven answer (After IsMeant Rest)
  word (Ok x) answer is rest = right x answer is rest
  word (Err why) answer is same = wrong why answer is same

  list : (read : Result X (Stop Fault)) (answer : Result Header (Stop Fault)) → IsGiven read IsMeant → Follows read Rest answer → IsGiven answer (After IsMeant Rest)
  list (Ok x) answer is rest = right x answer is rest
  list (Err NoMemory) answer is same = subst (λ (a : Result Header (Stop Fault)). IsGiven a (After IsMeant Rest)) (sym same) tt
  list (Err (Wrong why)) answer is same = wrong why answer is same

-- a word's reader answers over the word where it stands in the line
moved : {X : Type 0} (reads : List ℕ → Result X Fault) (word text line : List ℕ) (answer : Result X Fault) → answer ≡ reads word → word ≡ first_word text → text ≡ line → IsWord reads line answer
moved reads word text line answer is at same = is ∙ ap reads (at ∙ ap first_word same)

given : {X : Type 0} (IsMeant : List ℕ → Result X Fault → Type 0) (text line : List ℕ) (answer : Result X (Stop Fault)) → text ≡ line → IsGiven answer (IsMeant text) → IsGiven answer (IsMeant line)
given IsMeant text line answer same h = let At : List ℕ → Type 0 = λ t. IsGiven answer (IsMeant t) in subst At same h

-- ---- the words of a header

abbrev Addresses : Type 0
Addresses = List (Part AddrBounds)

abbrev Ports : Type 0
Ports = List (Part (ValueBounds ℕ))

-- the header of these words
abbrev pub IsMadeOf : Action → Proto → Addresses → Ports → Bool → Addresses → Ports → Result Header Fault → Type 0
IsMadeOf action proto src sports both dst dports answer = answer ≡ Ok (record {
  action = action;
  proto = proto;
  src = src;
  sports = sports;
  dst = dst;
  dports = dports;
  both = both;
})

-- a line that is cut, read with these variables, and the answer of that reading
pub record Reading : Type 0 where
  pub variables : Variables
  pub line : List ℕ
  pub texts : HeaderTexts
  pub cut : AreTexts texts line
  pub answer : Result Header (Stop Fault)

module _ (r : Reading) where
  -- the rest of a header, from this word on, after the words before it
  unfoldable pub FromDports : Action → Proto → Addresses → Ports → Bool → Addresses → Result Header Fault → Type 0
  FromDports action proto src sports both dst = After (IsPortWord r.variables (from_word 6 r.line)) (IsMadeOf action proto src sports both dst)

  unfoldable pub FromDst : Action → Proto → Addresses → Ports → Bool → Result Header Fault → Type 0
  FromDst action proto src sports both = After (IsAddressWord r.variables (from_word 5 r.line)) (FromDports action proto src sports both)

  unfoldable pub FromDirection : Action → Proto → Addresses → Ports → Result Header Fault → Type 0
  FromDirection action proto src sports = After (IsWord direction_of (from_word 4 r.line)) (FromDst action proto src sports)

  unfoldable pub FromSports : Action → Proto → Addresses → Result Header Fault → Type 0
  FromSports action proto src = After (IsPortWord r.variables (from_word 3 r.line)) (FromDirection action proto src)

  unfoldable pub FromSrc : Action → Proto → Result Header Fault → Type 0
  FromSrc action proto = After (IsAddressWord r.variables (from_word 2 r.line)) (FromSports action proto)

  unfoldable pub FromProto : Action → Result Header Fault → Type 0
  FromProto action = After (IsWord proto_of (from_word 1 r.line)) (FromSrc action)

  whole : IsHeader r.variables r.line ≡ After (IsWord action_of (from_word 0 r.line)) FromProto
  unfolding IsHeader FromProto FromSrc FromSports FromDirection FromDst FromDports
  whole = refl

  pub action-read : {text : List ℕ} (read : Result Action Fault) → read ≡ action_of text → text ≡ first_word r.texts.action.now
      → FollowsWord read FromProto r.answer → IsGiven r.answer (IsHeader r.variables r.line)
  action-read {text} read is at next =
      subst (λ (IsMeant : Result Header Fault → Type 0). IsGiven r.answer IsMeant) (sym whole)
      (word (IsWord action_of (from_word 0 r.line)) FromProto read r.answer (moved action_of text _ _ read is at r.cut.action) next)

  pub proto-read : (action : Action) {text : List ℕ} (read : Result Proto Fault) → read ≡ proto_of text → text ≡ first_word r.texts.proto.now
      → FollowsWord read (FromSrc action) r.answer → IsGiven r.answer (FromProto action)
  unfolding FromProto
  proto-read action {text} read is at = word (IsWord proto_of (from_word 1 r.line)) (FromSrc action) read r.answer (moved proto_of text _ _ read is at r.cut.proto)

  pub src-read : (action : Action) (proto : Proto) (read : Result Addresses (Stop Fault)) → IsGiven read (IsAddressWord r.variables r.texts.src.now)
      → Follows read (FromSports action proto) r.answer → IsGiven r.answer (FromSrc action proto)
  unfolding FromSrc
  src-read action proto read is =
      list (IsAddressWord r.variables (from_word 2 r.line)) (FromSports action proto) read r.answer (given (IsAddressWord r.variables) _ _ read r.cut.src is)

  pub sports-read : (action : Action) (proto : Proto) (src : Addresses) (read : Result Ports (Stop Fault)) → IsGiven read (IsPortWord r.variables r.texts.sports.now)
      → Follows read (FromDirection action proto src) r.answer → IsGiven r.answer (FromSports action proto src)
  unfolding FromSports
  sports-read action proto src read is =
      list (IsPortWord r.variables (from_word 3 r.line)) (FromDirection action proto src) read r.answer (given (IsPortWord r.variables) _ _ read r.cut.sports is)

  module _ (action : Action) (proto : Proto) (src : Addresses) (sports : Ports) where
    pub direction-read : {text : List ℕ} (read : Result Bool Fault) → read ≡ direction_of text → text ≡ first_word r.texts.direction.now
        → FollowsWord read (FromDst action proto src sports) r.answer → IsGiven r.answer (FromDirection action proto src sports)
    unfolding FromDirection
    direction-read {text} read is at =
        word (IsWord direction_of (from_word 4 r.line)) (FromDst action proto src sports) read r.answer (moved direction_of text _ _ read is at r.cut.direction)

    pub dst-read : (both : Bool) (read : Result Addresses (Stop Fault)) → IsGiven read (IsAddressWord r.variables r.texts.dst.now)
        → Follows read (FromDports action proto src sports both) r.answer → IsGiven r.answer (FromDst action proto src sports both)
    unfolding FromDst
    dst-read both read is =
        list (IsAddressWord r.variables (from_word 5 r.line)) (FromDports action proto src sports both) read r.answer (given (IsAddressWord r.variables) _ _ read r.cut.dst is)

    pub dports-read : (both : Bool) (dst : Addresses) (read : Result Ports (Stop Fault)) → IsGiven read (IsPortWord r.variables r.texts.dports.now)
        → Follows read (IsMadeOf action proto src sports both dst) r.answer → IsGiven r.answer (FromDports action proto src sports both dst)
    unfolding FromDports
    dports-read both dst read is =
        list (IsPortWord r.variables (from_word 6 r.line)) (IsMadeOf action proto src sports both dst) read r.answer (given (IsPortWord r.variables) _ _ read r.cut.dports is)
