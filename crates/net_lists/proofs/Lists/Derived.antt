-- What the reader of symbols accepts is derived by the grammar, with the same parts.
use Rattle.std.proofs.Common.{◌≡◌, ℕ, zero, suc, ◌-◌, ◌<◌, ◌≤◌, ◌==◌, ltb, Bool, true, false, cond, List, [], ◌∷◌, ◌++◌, length}
use Rattle.std.proofs.Common.{Option, Some, None, refl, sym, ap, subst, ◌∙◌, arith, append_assoc, add-one}
use Rattle.std.specs.Option.{option_and_then}
use Rattle.std.proofs.lemmas.Bool.{eqb-true}
use Rattle.std.proofs.lemmas.List.{append-nil}
use Rattle.net_lists.specs.declared.part.Part.{Part}
use Rattle.net_lists.specs.declared.place.Wanted.{Wanted}
use Rattle.net_lists.specs.declared.place.Wanted.TheVariants as wanted
use Rattle.net_lists.specs.Tokens.{Symbol, Open, Close, Comma, Not, Word}
use Rattle.net_lists.specs.Lists.{Rule, Operand, Item, Group, Derives, part, bracket, plain, negation, one, more, signed}
use Rattle.net_lists.specs.Machine.{run, at, before}
use Rattle.net_lists.proofs.Lists.Steps.{before_some, MayCome, opened, ltb-opened, opened-closed, run-word, run-open, run-not}
use Rattle.net_lists.proofs.Lists.Steps.{run-close, run-comma, run-end, run-end_wanted, run-close_wanted, run-comma_wanted}
use Rattle.net_lists.proofs.Lists.Steps.{run-not_operand, run-close_outer, run-end_inner, run-word_after, run-open_after}
use Rattle.net_lists.proofs.Lists.Steps.{run-not_after}

none_some : {A : Type 0} {x : A} → None ≡ Some x → ⊥
none_some e = cc

some_same : {B : Type 0} (x y : List (Part B)) → Some x ≡ Some y → x ≡ y
some_same x y e = cc

module _ {B : Type 0} (reads : List ℕ → Option B) where
  -- symbols that begin with what this rule derives, and go on as may come after it
  pub record Begins (rule : Rule) (sign : Bool) (depth negated : ℕ) (symbols : List Symbol) (parts : List (Part B)) : Type 0 where
    pub front : List Symbol
    pub rest : List Symbol
    pub first : List (Part B)
    pub others : List (Part B)
    pub derived : Derives reads rule sign front first
    pub split : symbols ≡ front ++ rest
    pub whole : parts ≡ first ++ others
    pub follows : run reads (at wanted.Separator depth negated) rest ≡ Some others
    pub shorter : length rest < length symbols

  -- items of fewer than `most` symbols begin with what the rule of items derives
  abbrev Items : ℕ → Type 0
  Items most =
      (depth negated : ℕ) (symbols : List Symbol) (parts : List (Part B))
      → length symbols < most
      → run reads (at wanted.Item depth negated) symbols ≡ Some parts
      → Begins Item (ltb 0 negated) depth negated symbols parts

  -- a group that was read, and the rest up to the bracket that closes it
  record Closes (sign : Bool) (depth negated : ℕ) (front symbols : List Symbol) (first parts : List (Part B)) : Type 0 where
    inner : List Symbol
    rest : List Symbol
    spelled : List (Part B)
    others : List (Part B)
    derived : Derives reads Group sign inner spelled
    split : front ++ symbols ≡ inner ++ (Close ∷ rest)
    whole : first ++ parts ≡ spelled ++ others
    follows : run reads (at wanted.Separator depth (negated - 1)) rest ≡ Some others
    shorter : length rest < length symbols

  -- a group goes on after an item
  closes_more : (sign : Bool) (depth negated : ℕ) (front rest : List Symbol) (first parts : List (Part B))
      (b : Begins Item sign (suc depth) negated rest parts)
      → Closes sign depth negated (front ++ (Comma ∷ b.front)) b.rest (first ++ b.first) b.others
      → Closes sign depth negated front (Comma ∷ rest) first parts
  closes_more sign depth negated front rest first parts b c = record {
    inner = c.inner;
    rest = c.rest;
    spelled = c.spelled;
    others = c.others;
    derived = c.derived;
    split = ap (λ xs. front ++ (Comma ∷ xs)) b.split ∙ sym (append_assoc front (Comma ∷ b.front) b.rest) ∙ c.split;
    whole = ap (λ xs. first ++ xs) b.whole ∙ sym (append_assoc first b.first b.others) ∙ c.whole;
    follows = c.follows;
    shorter = omega (arith, c.shorter, b.shorter);
  }

  closes : (most : ℕ)
      → Items most
      → (fuel : ℕ) (sign : Bool) (depth negated : ℕ) (front symbols : List Symbol) (first parts : List (Part B))
      → ltb 0 negated ≡ sign
      → length symbols < fuel
      → length symbols ≤ most
      → Derives reads Group sign front first
      → run reads (at wanted.Separator (suc depth) negated) symbols ≡ Some parts
      → Closes sign depth negated front symbols first parts
  closes most items zero sign depth negated front symbols first parts s l m d e = absurd (omega arith)
  closes most items (suc fuel) sign depth negated front [] first parts s l m d e = absurd (none_some (sym (run-end_inner reads depth negated) ∙ e))
  closes most items (suc fuel) sign depth negated front (Open ∷ rest) first parts s l m d e = absurd (none_some (sym (run-open_after reads (suc depth) negated rest) ∙ e))
  closes most items (suc fuel) sign depth negated front (Not ∷ rest) first parts s l m d e = absurd (none_some (sym (run-not_after reads (suc depth) negated rest) ∙ e))
  closes most items (suc fuel) sign depth negated front (Word word ∷ rest) first parts s l m d e = absurd (none_some (sym (run-word_after reads (suc depth) negated word rest) ∙ e))
  closes most items (suc fuel) sign depth negated front (Close ∷ rest) first parts s l m d e = record {
    inner = front;
    rest = rest;
    spelled = first;
    others = parts;
    derived = d;
    split = refl;
    whole = refl;
    follows = sym (run-close reads depth negated rest) ∙ e;
    shorter = omega arith;
  }
  closes most items (suc fuel) sign depth negated front (Comma ∷ rest) first parts s l m d e =
      let item : Begins Item sign (suc depth) negated rest parts =
      subst (λ b. Begins Item b (suc depth) negated rest parts) s
      (items (suc depth) negated rest parts (omega arith) (sym (run-comma reads (suc depth) negated rest) ∙ e)) in
      closes_more sign depth negated front rest first parts item
      (closes most items fuel sign depth negated (front ++ (Comma ∷ item.front)) item.rest (first ++ item.first) item.others s
      (omega (arith, item.shorter)) (omega (arith, item.shorter)) (more d item.derived) item.follows)

  -- a group in brackets is an operand where one is wanted
  bracketed : (most : ℕ)
      → Items most
      → (w : Wanted) (depth negated : ℕ) (sign : Bool) (rest : List Symbol) (parts : List (Part B))
      → MayCome w negated sign
      → length rest < most
      → run reads (at w depth negated) (Open ∷ rest) ≡ Some parts
      → Begins Operand sign depth negated (Open ∷ rest) parts
  bracketed most items w depth negated sign rest parts s l e =
      let inside = opened sign negated in
      let item : Begins Item sign (suc depth) inside rest parts =
      subst (λ b. Begins Item b (suc depth) inside rest parts)
      (ltb-opened sign negated)
      (items (suc depth) inside rest parts l
      (ap (λ d. run reads (at wanted.Item d inside) rest) (sym (add-one depth)) ∙
      sym (run-open reads w depth negated sign rest s) ∙ e)) in
      let end : Closes sign depth inside item.front item.rest item.first item.others =
      closes most items (suc (length item.rest)) sign depth inside item.front item.rest item.first item.others
      (ltb-opened sign negated) (omega arith) (omega (arith, item.shorter)) (one item.derived) item.follows in
      record {
        front = Open ∷ (end.inner ++ Close ∷ []);
        rest = end.rest;
        first = end.spelled;
        others = end.others;
        derived = bracket end.derived;
        split = ap (λ xs. Open ∷ xs) (item.split ∙ end.split ∙ sym (append_assoc end.inner (Close ∷ []) end.rest));
        whole = item.whole ∙ end.whole;
        follows = ap (λ n. run reads (at wanted.Separator depth n) end.rest) (sym (opened-closed w sign negated s)) ∙ end.follows;
        shorter = omega (arith, item.shorter, end.shorter);
      }

  worded : (w : Wanted) (depth negated : ℕ) (sign : Bool) (word : List ℕ) (rest : List Symbol) (parts : List (Part B))
      → (read : Option B)
      → reads word ≡ read
      → option_and_then (λ bounds. before (signed sign bounds ∷ []) (run reads (at wanted.Separator depth negated) rest)) read ≡
      Some parts
      → Begins Operand sign depth negated (Word word ∷ rest) parts
  worded w depth negated sign word rest parts None r e = absurd (none_some e)
  worded w depth negated sign word rest parts (Some bounds) r e =
      let after = before_some (signed sign bounds ∷ []) (run reads (at wanted.Separator depth negated) rest) parts e in
      record {
        front = Word word ∷ [];
        rest = rest;
        first = signed sign bounds ∷ [];
        others = after.0;
        derived = part r;
        split = refl;
        whole = after.2;
        follows = after.1;
        shorter = omega arith;
      }

  operand : (most : ℕ)
      → Items most
      → (w : Wanted) (depth negated : ℕ) (sign : Bool) (symbol : Symbol) (rest : List Symbol) (parts : List (Part B))
      → MayCome w negated sign
      → (symbol ≡ Not → ⊥)
      → length rest < most
      → run reads (at w depth negated) (symbol ∷ rest) ≡ Some parts
      → Begins Operand sign depth negated (symbol ∷ rest) parts
  operand most items w depth negated sign Open rest parts s n l e = bracketed most items w depth negated sign rest parts s l e
  operand most items w depth negated sign Close rest parts s n l e = absurd (none_some (sym (run-close_wanted reads w depth negated sign rest s) ∙ e))
  operand most items w depth negated sign Comma rest parts s n l e = absurd (none_some (sym (run-comma_wanted reads w depth negated sign rest s) ∙ e))
  operand most items w depth negated sign Not rest parts s n l e = absurd (n refl)
  operand most items w depth negated sign (Word word) rest parts s n l e =
      worded w depth negated sign word rest parts (reads word) refl (sym (run-word reads w depth negated sign word rest s) ∙ e)

  -- an operand alone is an item
  plain_item : (sign : Bool) (depth negated : ℕ) (symbols : List Symbol) (parts : List (Part B)) → Begins Operand sign depth negated symbols parts → Begins Item sign depth negated symbols parts
  plain_item sign depth negated symbols parts b = record {
    front = b.front;
    rest = b.rest;
    first = b.first;
    others = b.others;
    derived = plain b.derived;
    split = b.split;
    whole = b.whole;
    follows = b.follows;
    shorter = b.shorter;
  }

  -- an operand after a `!` is an item
  negated_item : (depth negated : ℕ) (rest : List Symbol) (parts : List (Part B)) → Begins Operand true depth negated rest parts → Begins Item false depth negated (Not ∷ rest) parts
  negated_item depth negated rest parts b = record {
    front = Not ∷ b.front;
    rest = b.rest;
    first = b.first;
    others = b.others;
    derived = negation b.derived;
    split = ap (λ xs. Not ∷ xs) b.split;
    whole = b.whole;
    follows = b.follows;
    shorter = omega (arith, b.shorter);
  }

  -- after a `!` an operand is wanted
  after_not : (most : ℕ)
      → Items most
      → (depth negated : ℕ) (rest : List Symbol) (parts : List (Part B))
      → negated ≡ 0
      → length rest ≤ most
      → run reads (at wanted.Operand depth negated) rest ≡ Some parts
      → Begins Operand true depth negated rest parts
  after_not most items depth negated [] parts z l e = absurd (none_some (sym (run-end_wanted reads wanted.Operand depth negated true (z, refl)) ∙ e))
  after_not most items depth negated (Not ∷ rest) parts z l e = absurd (none_some (sym (run-not_operand reads depth negated rest) ∙ e))
  after_not most items depth negated (symbol ∷ rest) parts z l e = operand most items wanted.Operand depth negated true symbol rest parts (z, refl) (λ same. cc) (omega arith) e

  negation_at : (most : ℕ)
      → Items most
      → (depth negated : ℕ) (rest : List Symbol) (parts : List (Part B)) (none : Bool)
      → (negated == 0) ≡ none
      → length rest ≤ most
      → cond none (run reads (at wanted.Operand depth negated) rest) None ≡ Some parts
      → Begins Item (ltb 0 negated) depth negated (Not ∷ rest) parts
  negation_at most items depth negated rest parts false z l e = absurd (none_some e)
  negation_at most items depth negated rest parts true z l e =
      let zeroed : negated ≡ 0 = eqb-true negated 0 z in
      subst (λ n. Begins Item (ltb 0 n) depth negated (Not ∷ rest) parts) (sym zeroed) (negated_item depth negated rest parts (after_not most items depth negated rest parts zeroed l e))

  item_at : (most : ℕ) → Items most → Items (suc most)
  item_at most items depth negated [] parts l e = absurd (none_some (sym (run-end_wanted reads wanted.Item depth negated (ltb 0 negated) refl) ∙ e))
  item_at most items depth negated (Not ∷ rest) parts l e =
      negation_at most items depth negated rest parts (negated == 0) refl (omega arith) (sym (run-not reads depth negated rest) ∙ e)
  item_at most items depth negated (symbol ∷ rest) parts l e =
      plain_item (ltb 0 negated) depth negated (symbol ∷ rest) parts (operand most items wanted.Item depth negated (ltb 0 negated) symbol rest parts refl (λ same. cc) (omega arith) e)

  items_of : (most : ℕ) → Items most
  items_of zero = λ depth negated symbols parts l e. absurd (omega arith)
  items_of (suc most) = item_at most (items_of most)

  -- the rest of a group that no bracket closes
  ends : (fuel : ℕ) (sign : Bool) (negated : ℕ) (front symbols : List Symbol) (first parts : List (Part B))
      → ltb 0 negated ≡ sign
      → length symbols < fuel
      → Derives reads Group sign front first
      → run reads (at wanted.Separator 0 negated) symbols ≡ Some parts
      → Derives reads Group sign (front ++ symbols) (first ++ parts)
  ends zero sign negated front symbols first parts s l d e = absurd (omega arith)
  ends (suc fuel) sign negated front [] first parts s l d e =
      let none : parts ≡ [] = some_same parts [] (sym e ∙ run-end reads negated) in
      subst (λ xs. Derives reads Group sign xs (first ++ parts))
      (sym (append-nil front))
      (subst (λ ps. Derives reads Group sign front (first ++ ps))
      (sym none)
      (subst (λ ps. Derives reads Group sign front ps) (sym (append-nil first)) d))
  ends (suc fuel) sign negated front (Open ∷ rest) first parts s l d e = absurd (none_some (sym (run-open_after reads 0 negated rest) ∙ e))
  ends (suc fuel) sign negated front (Not ∷ rest) first parts s l d e = absurd (none_some (sym (run-not_after reads 0 negated rest) ∙ e))
  ends (suc fuel) sign negated front (Word word ∷ rest) first parts s l d e = absurd (none_some (sym (run-word_after reads 0 negated word rest) ∙ e))
  ends (suc fuel) sign negated front (Close ∷ rest) first parts s l d e = absurd (none_some (sym (run-close_outer reads negated rest) ∙ e))
  ends (suc fuel) sign negated front (Comma ∷ rest) first parts s l d e =
      let item : Begins Item sign 0 negated rest parts =
      subst (λ b. Begins Item b 0 negated rest parts) s
      (items_of (suc (length rest)) 0 negated rest parts (omega arith) (sym (run-comma reads 0 negated rest) ∙ e)) in
      let whole : Derives reads Group sign ((front ++ (Comma ∷ item.front)) ++ item.rest) ((first ++ item.first) ++ item.others) =
      ends fuel sign negated (front ++ (Comma ∷ item.front)) item.rest (first ++ item.first) item.others s
      (omega (arith, item.shorter)) (more d item.derived) item.follows in
      subst (λ xs. Derives reads Group sign xs (first ++ parts))
      (append_assoc front (Comma ∷ item.front) item.rest ∙ ap (λ xs. front ++ (Comma ∷ xs)) (sym item.split))
      (subst (λ ps. Derives reads Group sign ((front ++ (Comma ∷ item.front)) ++ item.rest) ps)
      (append_assoc first item.first item.others ∙ ap (λ ps. first ++ ps) (sym item.whole)) whole)

  -- what is read as a group is one
  pub derives_group : (sign : Bool) (negated : ℕ) (symbols : List Symbol) (parts : List (Part B))
      → ltb 0 negated ≡ sign
      → run reads (at wanted.Item 0 negated) symbols ≡ Some parts
      → Derives reads Group sign symbols parts
  derives_group sign negated symbols parts s e =
      let item : Begins Item sign 0 negated symbols parts =
      subst (λ b. Begins Item b 0 negated symbols parts) s
      (items_of (suc (length symbols)) 0 negated symbols parts (omega arith) e) in
      let whole : Derives reads Group sign (item.front ++ item.rest) (item.first ++ item.others) =
      ends (suc (length item.rest)) sign negated item.front item.rest item.first item.others s (omega arith) (one item.derived)
      item.follows in
      subst (λ xs. Derives reads Group sign xs parts)
      (sym item.split)
      (subst (λ ps. Derives reads Group sign (item.front ++ item.rest) ps) (sym item.whole) whole)
