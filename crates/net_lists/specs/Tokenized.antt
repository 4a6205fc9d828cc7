-- How the code holds a symbol: as a token, whose word is lent by the text.
--
-- To try it on: the token of the word `80` is the symbol Word 80.
use Rattle.net_lists.specs.declared.token.Token.{Token}
use Rattle.net_lists.specs.declared.token.Token.TheVariants as tokens
use Rattle.net_lists.specs.Tokens.{Symbol, Open, Close, Comma, Not, Word}

-- the symbol that a token stands for
abbrev pub symbol_of : Token → Symbol
symbol_of tokens.Open = Open
symbol_of tokens.Close = Close
symbol_of tokens.Comma = Comma
symbol_of tokens.Not = Not
symbol_of (tokens.Word word) = Word word.now
