-- The text of a value is read back as that value.
use Rattle.std.proofs.Common.{◌≡◌, ℕ, suc, ◌≤◌, max, List, [], ◌++◌, Some, option_map, option_and_then, refl, sym, ap, ap₂, ◌∙◌, subst, arith, append-nil}
use Rattle.std.specs.Str.{IsUtf8}
use Rattle.json.specs.Lex.{tokens}
use Rattle.json.specs.Json as json
use Rattle.json.specs.Print.{print}
use Rattle.json.specs.Tree as tree
use Rattle.json.proofs.Printed.Decimals.{IsNumber-decimal}
use Rattle.json.proofs.Printed.Tokens.{tokens-print}
use Rattle.json.proofs.Printed.Trees.{value-json_tokens, ArePrintable-json_tokens, document-print}
use Rattle.serde_json.specs.Data.{unsigned, negative, float, Data, null, boolean, number, string, array, object, Items, no_items}
use Rattle.serde_json.specs.Data.{item, Members, no_members, member, put, depth, items_depth, members_depth}
use Rattle.serde_json.specs.Read.{of_json, of_items, of_members, max_depth}
use Rattle.serde_json.specs.Written.{outline, items_outline, members_outline, compact_text}
use Rattle.serde_json.proofs.Numbers.{number_of-decimal}
use Rattle.serde_json.proofs.Texts.{print-outline}
use Rattle.alert_json.specs.Reading.{settled, settled_items, put_all, IsTextOf, IsWhole, ItemsAreWhole, MembersAreWhole}
use Rattle.alert_json.proofs.OneLine.{one_line}

mutual
  pub of_json-outline : (d : Data) → IsWhole d → of_json (outline d) ≡ Some (settled d)
  of_json-outline null h = refl
  of_json-outline (boolean b) h = refl
  of_json-outline (number (unsigned n)) h = ap (option_map number) (number_of-decimal n h)
  of_json-outline (number (negative z)) h = absurd h
  of_json-outline (number (float x)) h = absurd h
  of_json-outline (string s) h = refl
  of_json-outline (array ds) h = ap (option_map array) (of_items-outline ds h)
  of_json-outline (object ms) h = ap (option_map object) (of_members-outline ms no_members h)

  of_items-outline : (ds : Items) → ItemsAreWhole ds → of_items (items_outline ds) ≡ Some (settled_items ds)
  of_items-outline no_items h = refl
  of_items-outline (item d ds) h =
      ap (option_and_then (λ (x : Data). option_map (item x) (of_items (items_outline ds)))) (of_json-outline d h.0)
      ∙ ap (option_map (item (settled d))) (of_items-outline ds h.1)

  of_members-outline : (ms found : Members) → MembersAreWhole ms → of_members (members_outline ms) found ≡ Some (put_all ms found)
  of_members-outline no_members found h = refl
  of_members-outline (member k d ms) found h =
      ap (option_and_then (λ (x : Data). of_members (members_outline ms) (put k x found))) (of_json-outline d h.0)
      ∙ of_members-outline ms (put k (settled d) found) h.1

mutual
  pub numbers-outline : (d : Data) → IsWhole d → tree.HasNumbers (outline d)
  numbers-outline null h = tt
  numbers-outline (boolean b) h = tt
  numbers-outline (number (unsigned n)) h = IsNumber-decimal n h
  numbers-outline (number (negative z)) h = absurd h
  numbers-outline (number (float x)) h = absurd h
  numbers-outline (string s) h = tt
  numbers-outline (array ds) h = items-outline ds h
  numbers-outline (object ms) h = members-outline ms h

  items-outline : (ds : Items) → ItemsAreWhole ds → tree.ItemsHaveNumbers (items_outline ds)
  items-outline no_items h = tt
  items-outline (item d ds) h = (numbers-outline d h.0, items-outline ds h.1)

  members-outline : (ms : Members) → MembersAreWhole ms → tree.MembersHaveNumbers (members_outline ms)
  members-outline no_members h = tt
  members-outline (member k d ms) h = (numbers-outline d h.0, members-outline ms h.1)

mutual
  pub depth-outline : (d : Data) → tree.depth (outline d) ≡ depth d
  depth-outline null = refl
  depth-outline (boolean b) = refl
  depth-outline (number n) = refl
  depth-outline (string s) = refl
  depth-outline (array ds) = ap suc (items_depth-outline ds)
  depth-outline (object ms) = ap suc (members_depth-outline ms)

  items_depth-outline : (ds : Items) → tree.items_depth (items_outline ds) ≡ items_depth ds
  items_depth-outline no_items = refl
  items_depth-outline (item d ds) = ap₂ max (depth-outline d) (items_depth-outline ds)

  members_depth-outline : (ms : Members) → tree.members_depth (members_outline ms) ≡ members_depth ms
  members_depth-outline no_members = refl
  members_depth-outline (member k d ms) = ap₂ max (depth-outline d) (members_depth-outline ms)

-- the printed tokens of a value are its text, JSON, and read back
pub text_of_value : (d : Data) (text : List ℕ) → text ≡ print (tree.json_tokens (outline d)) → IsUtf8 text → IsWhole d → depth d ≤ max_depth → IsTextOf d (compact_text d)
text_of_value d text is utf8 whole shallow =
    let same : compact_text d ≡ print (tree.json_tokens (outline d)) = sym (print-outline d) in
    let numbers = numbers-outline d whole in
    let found : tokens (compact_text d) ≡ tree.json_tokens (outline d) ++ [] =
    ap tokens same ∙ tokens-print (tree.json_tokens (outline d)) (ArePrintable-json_tokens (outline d) numbers) ∙ sym (append-nil (tree.json_tokens (outline d))) in
    let low : tree.depth (outline d) ≤ max_depth = omega (arith, depth-outline d) in
    record {
      utf8 = subst IsUtf8 (is ∙ sym same) utf8;
      one_line = one_line d whole;
      holds = ap json.document same ∙ document-print (outline d) numbers (omega arith);
      reads = ap (option_and_then of_json)
          (ap (option_and_then (λ p. json.if_last p.0 p.1)) (ap (json.value max_depth) found ∙ value-json_tokens (outline d) max_depth [] low))
          ∙ of_json-outline d whole;
    }
