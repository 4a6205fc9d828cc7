-- The draft after settings, one after another.
use Rattle.std.proofs.Common.{◌≡◌, ℕ, Bool, List, [], ◌∷◌, Option, Result, Ok, refl, ap, ◌∙◌}
use Rattle.net_lists.specs.Folds.{draft_after}
use Rattle.net_lists.proofs.Drafts.{draft_after-ok, draft_after-none}
use Rattle.conf_parser.specs.declared.line.ConfKind.{ConfKind}
use Rattle.conf_parser.specs.Options.{Setting, setting, paired}

module _ {D : Type 0} (alone : List ℕ → Bool) (step : D → List ℕ → Option (List ℕ) → Result D ConfKind) where
  -- the draft after the settings that words are
  abbrev pub after_words : D → List (List ℕ) → Result D ConfKind
  after_words draft words = draft_after (λ d setting. step d setting.name setting.value) draft (paired alone words)

  pub after_words-next : (draft next : D) (words rest : List (List ℕ)) (name : List ℕ) (value : Option (List ℕ))
      → paired alone words ≡ setting name value ∷ paired alone rest
      → step draft name value ≡ Ok next
      → after_words draft words ≡ after_words next rest
  after_words-next draft next words rest name value begins ok =
      ap (λ settings. draft_after (λ d s. step d s.name s.value) draft settings) begins
      ∙ draft_after-ok (λ d (s : Setting). step d s.name s.value) draft next (setting name value) (paired alone rest) ok

  pub after_words-end : (draft : D) (words : List (List ℕ)) → words ≡ [] → after_words draft words ≡ Ok draft
  unfolding paired
  after_words-end draft words ended =
      ap (λ ws. draft_after (λ d s. step d s.name s.value) draft (paired alone ws)) ended
      ∙ draft_after-none (λ d (s : Setting). step d s.name s.value) draft
