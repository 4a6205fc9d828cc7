-- What byte_jump and byte_test say where each of their parts is read.
use Rattle.std.proofs.Common.{◌≡◌, ℕ, Some, Ok, List, refl, pos, negsuc}
use Rattle.net_lists.specs.Numbers.{number_in}
use Rattle.rule_parser.specs.declared.byte_words.Which.TheVariants.{Test, Jump}
use Rattle.rule_parser.specs.declared.byte_words.ByteWords.{ByteWords}
use Rattle.rule_types.specs.declared.option.Fetch.{Fetch}
use Rattle.rule_types.specs.declared.option.Num.{Num}
use Rattle.rule_types.specs.declared.option.Opt.TheVariants as opt
use Rattle.rule_parser.specs.ByteOptions.{Part, first_part, next_part, words_of, fetch_of, jump_of, Comparison, comparison_of, byte_test, byte_jump}
use Rattle.rule_parser.specs.Names.{signed_or_named}

pub jump-read : (names : List (List ℕ)) (left : ℕ) (value : List ℕ) (count place : Part) (bytes : ℕ) (offset : Num)
    (words : ByteWords) (fetch : Fetch)
    → count ≡ first_part left value
    → number_in 1 10 count.text ≡ Some bytes
    → next_part count ≡ Ok place
    → signed_or_named (negsuc 65534) (pos 65535) names place.left place.text ≡ Ok offset
    → words_of Jump place.after ≡ Ok words
    → fetch_of bytes offset words ≡ Ok fetch
    → byte_jump names left value ≡
    Ok (jump_of fetch words)
unfolding byte_jump
jump-read names left value count place bytes offset words fetch first number next at after fetched = rw (← first, number, next, at, after, fetched) refl

pub test-read : (names : List (List ℕ)) (left : ℕ) (value : List ℕ) (count place : Part) (bytes : ℕ) (comparison : Comparison)
    (offset : Num) (words : ByteWords) (fetch : Fetch)
    → count ≡ first_part left value
    → number_in 1 10 count.text ≡ Some bytes
    → comparison_of names count ≡ Ok comparison
    → next_part comparison.part ≡ Ok place
    → signed_or_named (negsuc 65534) (pos 65535) names place.left place.text ≡
    Ok offset
    → words_of Test place.after ≡ Ok words
    → fetch_of bytes offset words ≡ Ok fetch
    → byte_test names left value ≡ Ok (opt.ByteTest fetch comparison.negated comparison.cmp comparison.value)
unfolding byte_test
test-read names left value count place bytes comparison offset words fetch first number compared next at after fetched = rw (← first, number, compared, next, at, after, fetched) refl
