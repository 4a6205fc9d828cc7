-- What the reader of a list's symbols does at each symbol.
use Rattle.std.proofs.Common.{◌≡◌, ℕ, suc, ◌+◌, ◌-◌, ◌==◌, ltb, Bool, true, false, cond, List, [], ◌∷◌, ◌++◌, Option, Some, None, refl, sym, ap, ◌∙◌, arith, append_assoc}
use Rattle.std.specs.Option.{option_map, option_and_then, option_to_list}
use Rattle.std.proofs.Math.Dec.{eqb-suc-zero}
use Rattle.std.proofs.lemmas.Bool.{ltb-false, lt-ltb}
use Rattle.std.proofs.lemmas.List.{append-nil}
use Rattle.net_lists.specs.declared.part.Part.{Part}
use Rattle.net_lists.specs.declared.place.Place.{Place}
use Rattle.net_lists.specs.declared.place.ListStep.{ListStep}
use Rattle.net_lists.specs.declared.place.Wanted.{Wanted}
use Rattle.net_lists.specs.declared.place.Wanted.TheVariants as wanted
use Rattle.net_lists.specs.Lists.{signed}
use Rattle.net_lists.specs.Tokens.{Symbol, Open, Close, Comma, Not, Word}
use Rattle.net_lists.specs.Machine.{run, at, before, after_word, after_open, after_close, after_comma, after_not, no_part, step_of, is_end}

pub before-nil : {B : Type 0} (rest : Option (List (Part B))) → before [] rest ≡ rest
before-nil None = refl
before-nil (Some rest) = refl

pub before-before : {B : Type 0} (front back : List (Part B)) (rest : Option (List (Part B))) → before front (before back rest) ≡ before (front ++ back) rest
before-before front back None = refl
before-before front back (Some rest) = ap Some (sym (append_assoc front back rest))

-- what comes after parts that were read
pub before_some : {B : Type 0} (parts : List (Part B)) (rest : Option (List (Part B))) (whole : List (Part B))
    → before parts rest ≡ Some whole
    → (others : List (Part B)) × (rest ≡ Some others) × (whole ≡ parts ++ others)
before_some parts None whole e = cc
before_some parts (Some rest) whole e = (rest, refl, cc)

-- an operand of this sign may come where this is wanted and `negated` brackets are negated
abbrev pub MayCome : Wanted → ℕ → Bool → Type 0
MayCome wanted.Item negated sign = ltb 0 negated ≡ sign
MayCome wanted.Operand negated sign = (negated ≡ 0) × (sign ≡ true)
MayCome wanted.Separator negated sign = ⊥

-- how many brackets are negated after one that opens
abbrev pub opened : Bool → ℕ → ℕ
opened sign negated = cond sign (negated + 1) 0

pub ltb-opened : (sign : Bool) (negated : ℕ) → ltb 0 (opened sign negated) ≡ sign
ltb-opened true negated = lt-ltb 0 (negated + 1) (omega arith)
ltb-opened false negated = refl

pub none_negated : (negated : ℕ) → ltb 0 negated ≡ false → negated ≡ 0
none_negated negated e = let h = ltb-false 0 negated e in omega (arith, h)

pub opened-closed : (w : Wanted) (sign : Bool) (negated : ℕ) → MayCome w negated sign → opened sign negated - 1 ≡ negated
opened-closed wanted.Item true negated s = omega arith
opened-closed wanted.Item false negated s = sym (none_negated negated s)
opened-closed wanted.Operand true negated s = omega arith
opened-closed wanted.Operand false negated s = cc
opened-closed wanted.Separator sign negated s = absurd s

module _ {B : Type 0} (reads : List ℕ → Option B) where
  -- where an operand is wanted
  pub run-word : (w : Wanted) (depth negated : ℕ) (sign : Bool) (word : List ℕ) (rest : List Symbol)
      → MayCome w negated sign
      → run reads (at w depth negated) (Word word ∷ rest) ≡
      option_and_then (λ bounds. before (signed sign bounds ∷ []) (run reads (at wanted.Separator depth negated) rest))
      (reads word)
  unfolding run after_word
  run-word wanted.Item depth negated sign word rest s =
      elim (reads word) as
      (λ o. elim
      (option_map {U = ListStep B}
      (λ bounds. record { place = at wanted.Separator depth negated; part = Some (signed (ltb 0 negated) bounds) }) o)
      as (λ _. Option (List (Part B)))
      [ None ↦ None | Some step ↦ before (option_to_list step.part) (run reads step.place rest) ] ≡
      option_and_then (λ bounds. before (signed sign bounds ∷ []) (run reads (at wanted.Separator depth negated) rest)) o) [
        | None ↦ refl
        | Some bounds ↦ ap (λ b. before (signed b bounds ∷ []) (run reads (at wanted.Separator depth negated) rest)) s
      ]
  run-word wanted.Operand depth negated sign word rest s =
      elim (reads word) as
      (λ o. elim
      (option_map {U = ListStep B} (λ bounds. record { place = at wanted.Separator depth negated; part = Some (signed true bounds) })
      o)
      as (λ _. Option (List (Part B)))
      [ None ↦ None | Some step ↦ before (option_to_list step.part) (run reads step.place rest) ] ≡
      option_and_then (λ bounds. before (signed sign bounds ∷ []) (run reads (at wanted.Separator depth negated) rest)) o) [
        | None ↦ refl
        | Some bounds ↦ ap (λ b. before (signed b bounds ∷ []) (run reads (at wanted.Separator depth negated) rest)) (sym s.1)
      ]
  run-word wanted.Separator depth negated sign word rest s = absurd s

  pub run-open : (w : Wanted) (depth negated : ℕ) (sign : Bool) (rest : List Symbol)
      → MayCome w negated sign
      → run reads (at w depth negated) (Open ∷ rest) ≡ run reads (at wanted.Item (depth + 1) (opened sign negated)) rest
  unfolding run after_open
  run-open wanted.Item depth negated sign rest s = before-nil _ ∙ ap (λ b. run reads (at wanted.Item (depth + 1) (cond b (negated + 1) 0)) rest) s
  run-open wanted.Operand depth negated sign rest s = before-nil _ ∙ ap (λ b. run reads (at wanted.Item (depth + 1) (cond b (negated + 1) 0)) rest) (sym s.1)
  run-open wanted.Separator depth negated sign rest s = absurd s

  pub run-not : (depth negated : ℕ) (rest : List Symbol) → run reads (at wanted.Item depth negated) (Not ∷ rest) ≡ cond (negated == 0) (run reads (at wanted.Operand depth negated) rest) None
  unfolding run after_not
  run-not depth negated rest =
      elim (negated == 0) as
      (λ b. elim (cond b (Some (no_part {B = B} (at wanted.Operand depth negated))) None) as
      (λ _. Option (List (Part B)))
      [ None ↦ None | Some step ↦ before (option_to_list step.part) (run reads step.place rest) ] ≡
      cond b (run reads (at wanted.Operand depth negated) rest) None)
      [ true ↦ before-nil _ | false ↦ refl ]

  -- what may not come at a place
  pub run-end_wanted : (w : Wanted) (depth negated : ℕ) (sign : Bool) → MayCome w negated sign → run reads (at w depth negated) [] ≡ None
  unfolding run
  run-end_wanted wanted.Item depth negated sign s = refl
  run-end_wanted wanted.Operand depth negated sign s = refl
  run-end_wanted wanted.Separator depth negated sign s = absurd s

  pub run-close_wanted : (w : Wanted) (depth negated : ℕ) (sign : Bool) (rest : List Symbol) → MayCome w negated sign → run reads (at w depth negated) (Close ∷ rest) ≡ None
  unfolding run after_close
  run-close_wanted wanted.Item depth negated sign rest s = refl
  run-close_wanted wanted.Operand depth negated sign rest s = refl
  run-close_wanted wanted.Separator depth negated sign rest s = absurd s

  pub run-comma_wanted : (w : Wanted) (depth negated : ℕ) (sign : Bool) (rest : List Symbol) → MayCome w negated sign → run reads (at w depth negated) (Comma ∷ rest) ≡ None
  unfolding run after_comma
  run-comma_wanted wanted.Item depth negated sign rest s = refl
  run-comma_wanted wanted.Operand depth negated sign rest s = refl
  run-comma_wanted wanted.Separator depth negated sign rest s = absurd s

  pub run-not_operand : (depth negated : ℕ) (rest : List Symbol) → run reads (at wanted.Operand depth negated) (Not ∷ rest) ≡ None
  unfolding run after_not
  run-not_operand depth negated rest = refl

  -- where a separator is wanted
  pub run-comma : (depth negated : ℕ) (rest : List Symbol) → run reads (at wanted.Separator depth negated) (Comma ∷ rest) ≡ run reads (at wanted.Item depth negated) rest
  unfolding run after_comma
  run-comma depth negated rest = before-nil _

  pub run-close : (depth negated : ℕ) (rest : List Symbol) → run reads (at wanted.Separator (suc depth) negated) (Close ∷ rest) ≡ run reads (at wanted.Separator depth (negated - 1)) rest
  unfolding run after_close
  run-close depth negated rest =
      let e : suc depth - 1 ≡ depth = omega arith in
      ap (λ b. elim (cond b None (Some (no_part {B = B} (at wanted.Separator (suc depth - 1) (negated - 1))))) as
      (λ _. Option (List (Part B)))
      [ None ↦ None | Some step ↦ before (option_to_list step.part) (run reads step.place rest) ]) (eqb-suc-zero depth)
      ∙ before-nil (run reads (at wanted.Separator (suc depth - 1) (negated - 1)) rest)
      ∙ ap (λ d. run reads (at wanted.Separator d (negated - 1)) rest) e

  pub run-close_outer : (negated : ℕ) (rest : List Symbol) → run reads (at wanted.Separator 0 negated) (Close ∷ rest) ≡ None
  unfolding run after_close
  run-close_outer negated rest = refl

  pub run-end : (negated : ℕ) → run reads (at wanted.Separator 0 negated) [] ≡ Some []
  unfolding run
  run-end negated = refl

  pub run-end_inner : (depth negated : ℕ) → run reads (at wanted.Separator (suc depth) negated) [] ≡ None
  unfolding run
  run-end_inner depth negated = rw eqb-suc-zero refl

  pub run-word_after : (depth negated : ℕ) (word : List ℕ) (rest : List Symbol) → run reads (at wanted.Separator depth negated) (Word word ∷ rest) ≡ None
  unfolding run after_word
  run-word_after depth negated word rest = refl

  pub run-open_after : (depth negated : ℕ) (rest : List Symbol) → run reads (at wanted.Separator depth negated) (Open ∷ rest) ≡ None
  unfolding run after_open
  run-open_after depth negated rest = refl

  pub run-not_after : (depth negated : ℕ) (rest : List Symbol) → run reads (at wanted.Separator depth negated) (Not ∷ rest) ≡ None
  unfolding run after_not
  run-not_after depth negated rest = refl

  -- a symbol of any kind, from where it was read
  pub run-refused : (place : Place) (symbol : Symbol) (rest : List Symbol) → None ≡ step_of reads place symbol → run reads place (symbol ∷ rest) ≡ None
  unfolding run
  run-refused place symbol rest e = ap (λ o. elim o as (λ _. Option (List (Part B))) [ None ↦ None | Some step ↦ before (option_to_list step.part) (run reads step.place rest) ]) (sym e)

  pub run-step : (place : Place) (symbol : Symbol) (rest : List Symbol) (step : ListStep B)
      → Some step ≡ step_of reads place symbol
      → run reads place (symbol ∷ rest) ≡ before (option_to_list step.part) (run reads step.place rest)
  unfolding run
  run-step place symbol rest step e = ap (λ o. elim o as (λ _. Option (List (Part B))) [ None ↦ None | Some step ↦ before (option_to_list step.part) (run reads step.place rest) ]) (sym e)

  pub run-ended : (place : Place) → is_end place ≡ true → run reads place [] ≡ Some []
  unfolding run
  run-ended place e = rw e refl

  pub run-unended : (place : Place) → is_end place ≡ false → run reads place [] ≡ None
  unfolding run
  run-unended place e = rw e refl

  module _ (whole : Option (List (Part B))) (front : List (Part B)) (place : Place) (symbols : List Symbol) (so_far : whole ≡ before front (run reads place symbols)) where
    -- the reader in the code, a symbol on
    pub goes_on : (symbol : Symbol) (rest : List Symbol) (step : ListStep B) (now : List (Part B))
        → symbols ≡ symbol ∷ rest
        → Some step ≡ step_of reads place symbol
        → now ≡ front ++ option_to_list step.part
        → whole ≡ before now (run reads step.place rest)
    goes_on symbol rest step now next e more =
        so_far ∙ ap (λ ss. before front (run reads place ss)) next ∙ ap (before front) (run-step place symbol rest step e)
        ∙ before-before front (option_to_list step.part) (run reads step.place rest) ∙ ap (λ ps. before ps (run reads step.place rest)) (sym more)

    pub stops_at : (symbol : Symbol) (rest : List Symbol) → symbols ≡ symbol ∷ rest → None ≡ step_of reads place symbol → whole ≡ None
    stops_at symbol rest next e = so_far ∙ ap (λ ss. before front (run reads place ss)) next ∙ ap (before front) (run-refused place symbol rest e)

    pub stops_early : symbols ≡ [] → is_end place ≡ false → whole ≡ None
    stops_early none e = so_far ∙ ap (λ ss. before front (run reads place ss)) none ∙ ap (before front) (run-unended place e)

    pub is_done : symbols ≡ [] → is_end place ≡ true → whole ≡ Some front
    is_done none e = so_far ∙ ap (λ ss. before front (run reads place ss)) none ∙ ap (before front) (run-ended place e) ∙ ap Some (append-nil front)
