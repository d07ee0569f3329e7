-- The symbols and the keywords. A token has the place of its own in one of these lists, from 0.
use Rattle.std.specs.Prelude.{ℕ, List, [], ◌∷◌, codes, bytes_eq, Option, position}

unfoldable pub symbols : List (List ℕ)
symbols =
    codes "=" ∷ codes ";" ∷ codes "," ∷ codes "(" ∷ codes ")" ∷ codes "[" ∷ codes "]" ∷ codes "{" ∷ codes "}"
    ∷ codes "+" ∷ codes "-" ∷ codes "*" ∷ codes "/" ∷ codes "%" ∷ codes "++"
    ∷ codes "==" ∷ codes "!=" ∷ codes "<" ∷ codes "<=" ∷ codes ">" ∷ codes ">=" ∷ []

unfoldable pub keywords : List (List ℕ)
keywords =
    codes "and" ∷ codes "or" ∷ codes "not" ∷ codes "true" ∷ codes "false" ∷ codes "int" ∷ codes "text" ∷ codes "bool" ∷ codes "len"
    ∷ codes "if" ∷ codes "else" ∷ codes "while" ∷ codes "read" ∷ codes "write" ∷ codes "to" ∷ codes "map" ∷ codes "filter" ∷ codes "where"
    ∷ codes "flat" ∷ codes "words" ∷ codes "range" ∷ codes "join" ∷ codes "with" ∷ codes "reduce" ∷ codes "by" ∷ codes "union"
    ∷ codes "distinct" ∷ codes "only" ∷ codes "count" ∷ codes "sum" ∷ codes "min" ∷ codes "max" ∷ codes "row" ∷ codes "empty" ∷ []

-- where these bytes stand in a list
abbrev pub place_of : List ℕ → List (List ℕ) → Option ℕ
place_of bytes list = position (λ listed. bytes_eq listed bytes) list
