-- A text without bytes has no words, as it has no settings.
use Rattle.std.proofs.Common.{◌≡◌, ℕ, suc, List, [], ◌∷◌, length, refl}
use Rattle.net_lists.specs.Cutting.{words, words_between, pieces_between}
use Rattle.conf_parser.specs.Stream5.{stream_parts}

pub no_stream_parts : (text : List ℕ) → length text ≡ 0 → words text ≡ stream_parts text
unfolding words_between pieces_between
no_stream_parts [] e = refl
no_stream_parts (x ∷ xs) e = absurd (never (length xs) e)
  where
    never : (n : ℕ) → suc n ≡ 0 → ⊥
    never n h = cc
