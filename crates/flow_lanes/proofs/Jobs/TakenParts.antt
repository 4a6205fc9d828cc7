-- The answers of the workers are taken, one worker after another.
use Rattle.std.proofs.Common.{◌≡◌, ℕ, ◌+◌, ◌<◌, List, [], ◌∷◌, ◌++◌, length, get_or, set, take, drop, map, sym, ap, ◌∙◌, arith}
use Rattle.std.proofs.Math.Seq.{map-set_same}
use Rattle.std.proofs.lemmas.Grind.{drop_more_same}
use Rattle.std.proofs.lemmas.List.{drop-set-lt, get_or-drop, map_more, map_push}

module _ {W : Type 0} (first now : List W) (i : ℕ) (d next : W) where
  pub kept_more : {L : Type 0} (lane : W → L) → map lane now ≡ map lane first → lane next ≡ lane (get_or now i d) → map lane (set now i next) ≡ map lane first
  kept_more lane kept is = map-set_same lane now i next d is ∙ kept

  pub rest_more : drop i now ≡ drop i first → drop (i + 1) (set now i next) ≡ drop (i + 1) first
  rest_more rest = drop-set-lt (i + 1) now i next (omega arith) ∙ drop_more_same now first i rest

  pub taken_more : {R V : Type 0} (outs : W → R) (ok : V → R) → i < length first → drop i now ≡ drop i first
      → (parts more : List V) (part : V) → map outs (take i first) ≡ map ok parts → ok part ≡ outs (get_or now i d) → more ≡ parts ++ part ∷ [] → map outs (take (i + 1) first) ≡ map ok more
  taken_more outs ok within rest parts more part so_far is all =
      let add_zero : i + 0 ≡ i = omega arith in
      let here : get_or first i d ≡ get_or now i d =
      ap (λ k. get_or first k d) (sym add_zero) ∙ sym (get_or-drop i first 0 d) ∙ ap (λ xs. get_or xs 0 d) (sym rest) ∙ get_or-drop i now 0 d ∙ ap (λ k. get_or now k d) add_zero in
      map_more outs first i d within ∙ ap (λ front. front ++ outs (get_or first i d) ∷ []) so_far
      ∙ ap (λ last. map ok parts ++ last ∷ []) (ap outs here ∙ sym is) ∙ sym (map_push ok parts part) ∙ ap (map ok) (sym all)
