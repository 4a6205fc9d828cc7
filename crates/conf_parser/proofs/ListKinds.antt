-- What a reader of lists answers is what the grammar gives, with its kind.
use Rattle.std.proofs.Common.{◌≡◌, ℕ, ◌<◌, ◌≤◌, Bool, true, false, cond, leb, List, length, Option, Some, None, Result, Ok, Err, refl, sym, ap, ◌∙◌, arith}
use Rattle.std.proofs.lemmas.Bool.{le-leb, lt-leb}
use Rattle.edge_io.specs.OnResult.{◌>>=◌}
use Rattle.net_lists.specs.Stops.{or_kind}
use Rattle.net_lists.specs.declared.part.Part.{Part}
use Rattle.net_lists.specs.Lists.{IsList, IsTooLong}
use Rattle.net_lists.specs.Machine.{list_parts}
use Rattle.net_lists.proofs.Lists.Starts.{AreParts}
use Rattle.net_lists.proofs.Lists.Parts.{spelled, read}
use Rattle.conf_parser.specs.declared.line.ConfKind.{ConfKind}
use Rattle.conf_parser.specs.declared.line.ConfKind.TheVariants.{Limit}
use Rattle.conf_parser.specs.Values.{within_limit}

module _ {B : Type 0} (reads : List ℕ → Option B) (are_parts : AreParts reads) (kind : ConfKind) where
  -- the parts, or the kind where there are none
  abbrev pub list_or : List ℕ → Result (List (Part B)) ConfKind
  list_or text = or_kind kind (list_parts reads text) >>= within_limit

  pub list_or-ok : (text : List ℕ) (parts : List (Part B)) → IsList reads text parts → length parts ≤ 1024 → list_or text ≡ Ok parts
  list_or-ok text parts is few = ap (λ o. or_kind kind o >>= within_limit) (read reads are_parts is) ∙ ap (λ b. cond b (Ok parts) (Err Limit)) (le-leb (length parts) 1024 few)

  pub list_or-bad : (text : List ℕ) → ((parts : List (Part B)) → IsList reads text parts → ⊥) → list_or text ≡ Err kind
  list_or-bad text none = go (list_parts reads text) refl
    where
      go : (o : Option (List (Part B))) → list_parts reads text ≡ o → (or_kind kind o >>= within_limit) ≡ Err kind
      go None e = refl
      go (Some parts) e = absurd (none parts (spelled reads text parts e))

  pub list_or-long : (text : List ℕ) → IsTooLong reads text → list_or text ≡ Err Limit
  list_or-long text long = ap (λ o. or_kind kind o >>= within_limit) (read reads are_parts long.1) ∙ ap (λ b. cond b (Ok long.0) (Err Limit)) (lt-leb (length long.0) 1024 long.2)
