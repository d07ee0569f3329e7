-- The printed tokens of an operator spell it over the same arguments.
use Rattle.std.proofs.Common.{◌≡◌, ◌≤◌, ◌<◌, ℕ, zero, suc, pos, neg_ℤ, append_assoc, List, [], ◌∷◌, ◌++◌, drop, take, map, length, get_or, true, Some, slice_get, unwrap_or, refl, sym, ap, ◌∙◌, arith, inl, inr}
use Rattle.std.specs.List.{AllByRecursion as Each, join_by}
use Rattle.std.specs.Option.{option_and_then, option_map}
use Rattle.std.proofs.lemmas.Bool.{cases_lt}
use Rattle.std.proofs.lemmas.List.{append-nil, drop_all}
use Rattle.std.proofs.lemmas.Option.{slice_get-map}
use Rattle.mit_rows.specs.declared.value.ColType.{ColType}
use Rattle.mit_rows.specs.declared.value.Value.TheVariants as value
use Rattle.mit_expr.specs.declared.expr.Expr.{Expr}
use Rattle.mit_expr.specs.declared.expr.Expr.TheVariants as expr
use Rattle.mit_ops.specs.Kinds.{bag_inputs_of}
use Rattle.mit_ops.specs.declared.kinds.OpSpec.{OpSpec}
use Rattle.mit_lex.specs.Valid.{IsName, IsToken}
use Rattle.mit_lex.specs.declared.token.TokenKind.TheVariants.{Name, Text, Symbol, Keyword}
use Rattle.mit_lex.specs.declared.symbol.TheConstants as symbol
use Rattle.mit_lex.specs.declared.keyword.TheConstants as word
use Rattle.mit_script.specs.Grammar.{Kinds, Listed, single_item, and_more, SpellsExpr, SpellsType, SpellsColumn, SpellsRight, SpellsWrite, SpellsCondition, SpellsOver, each_once, is_name, names_in, number_in, read_form, map_form, filter_form, words_form, range_form, join_form, reduce_form, union_form, distinct_form, only_form, count_form, sum_form, row_form, empty_form, copy_form, scalar_form, write_form, condition_form, stronger, binary, negated, positive, negative, text_literal, truth_literal, column_place, captured_name, function_call, enclosed}
use Rattle.mit_grammar.specs.NamesSingle.{is_name-Bin, is_name-Call, is_name-Capture, is_name-Column, is_name-Lit, is_name-Not}
use Rattle.mit_grammar.specs.NamesOnce.{names_in-append}
use Rattle.mit_print.specs.PrintedTokens.{column_tokens, columns_tokens, comma, expr_tokens, argument_name, op_tokens, type_tokens}
use Rattle.mit_print.proofs.PrintNames.{IsFound, each_back, each_both, each_front, each_drop, names_in-cons, names_in-enclosed, names_in-name, once_found}
use Rattle.mit_print.proofs.PrintExprs.{FindsName, expr_reprint, weaken}
use Rattle.mit_print.proofs.PrintSame.{Reprint, reprint, same_append, same_cons, same_refl}

-- ---- parts

expr_part : (names : List (List ℕ)) (captured : List ℕ) (number : List ℕ → ℕ) {e : Expr} {tokens : Kinds} → SpellsExpr number 0 e tokens
    → Each (FindsName names captured number) (names_in tokens) → Reprint (SpellsExpr number 0 e) (expr_tokens names captured e) tokens
expr_part names captured number spelled known = expr_reprint names captured number spelled known 0 (omega arith)

pub names_front : (P : List ℕ → Type 0) (tokens others : Kinds) → Each P (names_in (tokens ++ others)) → Each P (names_in tokens)
names_front P tokens others each = each_front P (names_in tokens) (names_in others) (rw names_in-append at each)

pub names_back : (P : List ℕ → Type 0) (tokens others : Kinds) → Each P (names_in (tokens ++ others)) → Each P (names_in others)
names_back P tokens others each = each_back P (names_in tokens) (names_in others) (rw names_in-append at each)

-- ---- lists

joined : {A : Type 0} (Item : A → Kinds → Type 0) (f : A → Kinds) (item : A) {items : List A} {tokens : Kinds} → Listed Item items tokens
    → join_by f comma (item ∷ items) ≡ f item ++ Symbol symbol.COMMA ∷ join_by f comma items
joined Item f item (single_item first) = refl
joined Item f item (and_more first more) = refl

listed_reprint : {A : Type 0} (Item : A → Kinds → Type 0) (f : A → Kinds) (P : List ℕ → Type 0)
    → ((item : A) (tokens : Kinds) → Item item tokens → Each P (names_in tokens) → Reprint (Item item) (f item) tokens)
    → {items : List A} {tokens : Kinds} → Listed Item items tokens → Each P (names_in tokens) → Reprint (Listed Item items) (join_by f comma items) tokens
listed_reprint Item f P each (single_item {item = item} {tokens = tokens} spelled) known =
    let one = each item tokens spelled known in rw (append-nil (f item)) (reprint (single_item one.spelled) one.same)
listed_reprint Item f P each (and_more {item = item} {tokens = tokens} {others = others} spelled listed) known =
    let rest = Symbol symbol.COMMA ∷ others in
    let one = each item tokens spelled (names_front P tokens rest known) in
    let two = listed_reprint Item f P each listed (rw names_in-cons at (names_back P tokens rest known)) in
    rw (joined Item f item listed) (reprint (and_more one.spelled two.spelled) (same_append one.same (same_cons two.same)))

exprs_part : (names : List (List ℕ)) (captured : List ℕ) (number : List ℕ → ℕ) {exprs : List Expr} {tokens : Kinds} → Listed (SpellsExpr number 0) exprs tokens
    → Each (FindsName names captured number) (names_in tokens)
    → Reprint (Listed (SpellsExpr number 0) exprs) (join_by (expr_tokens names captured) comma exprs) tokens
exprs_part names captured number listed known =
    listed_reprint (SpellsExpr number 0) (expr_tokens names captured) (FindsName names captured number)
    (λ item tokens spelled each. expr_part names captured number spelled each) listed known

-- what is asked of no name
each_any : (names : List (List ℕ)) → Each (λ name. Unit {0}) names
each_any [] = tt
each_any (name ∷ names) = (tt, each_any names)

types_part : {types : List ColType} {tokens : Kinds} → Listed SpellsType types tokens → Reprint (Listed SpellsType types) (join_by type_tokens comma types) tokens
types_part {tokens = tokens} listed =
    listed_reprint SpellsType type_tokens (λ name. Unit {0})
    (λ type found is each. rw is (reprint refl same_refl)) listed (each_any (names_in tokens))

columns_part : {columns : List ℕ} {tokens : Kinds} → Listed SpellsColumn columns tokens → Reprint (Listed SpellsColumn columns) (columns_tokens columns) tokens
columns_part {tokens = tokens} listed =
    listed_reprint SpellsColumn column_tokens (λ name. Unit {0})
    (λ column found is each. rw is (reprint refl same_refl)) listed (each_any (names_in tokens))

-- columns have no names
columns_nameless : {columns : List ℕ} {tokens : Kinds} → Listed SpellsColumn columns tokens → names_in tokens ≡ []
unfolding names_in
columns_nameless (single_item is) = rw is refl
columns_nameless (and_more {tokens = tokens} {others = others} is listed) =
    names_in-append tokens (Symbol symbol.COMMA ∷ others) ∙ rw (is, columns_nameless listed) refl

-- ---- single names

captured_low : (number : List ℕ → ℕ) (name : List ℕ) → SpellsExpr number 0 (expr.Capture (number name)) (Name name ∷ [])
captured_low number name = weaken number 7 0 (expr.Capture (number name)) (Name name ∷ []) (omega arith) (captured_name name)

-- tokens that spell a single name have that name alone
record Single (tokens : Kinds) : Type 0 where
  name : List ℕ
  alone : names_in tokens ≡ name ∷ []
  valid : Each IsToken tokens → IsName name

single_name : {number : List ℕ → ℕ} {rank : ℕ} {e : Expr} {tokens : Kinds} → SpellsExpr number rank e tokens → is_name e ≡ true → Single tokens
single_name (stronger spelled) is = single_name spelled is
single_name (binary {left = a} {right = b} op left right) is = cc (is_name-Bin op a b)
single_name (negated {e = a} spelled) is = cc (is_name-Not a)
single_name (positive size small) is = cc (is_name-Lit (value.Int (pos size)))
single_name (negative size most) is = cc (is_name-Lit (value.Int (neg_ℤ (pos size))))
single_name (text_literal bytes) is = cc (is_name-Lit (value.Text bytes))
single_name (truth_literal holds) is = cc (is_name-Lit (value.Bool holds))
single_name (column_place place) is = cc (is_name-Column place)
single_name (captured_name name) is = record { name = name; alone = names_in-name name; valid = λ valid. valid.0 }
single_name (function_call {e = a} function spelled) is = cc (is_name-Call function a)
single_name (enclosed {tokens = inner} spelled) is =
    let one = single_name spelled is in
    record {
      name = one.name;
      alone = names_in-enclosed inner ∙ one.alone;
      valid = λ valid. one.valid (each_front IsToken inner (Symbol symbol.RIGHT_PAREN ∷ []) valid.1);
    }

-- the name of each bag is printed for its argument
abbrev FindsBags : List (List ℕ) → List ℕ → ℕ → List (List ℕ) → Type 0
FindsBags names args bags found = (place : ℕ) → place < bags → place < length found → argument_name names args place ≡ get_or found place []

-- what an operator is spelled by
abbrev Form : Type 1
Form = (List ℕ → ℕ) → OpSpec → Kinds → Type 0

-- the words of an operator of this form are tokens of this form, where each name is printed for its number
abbrev Reprints : Form → List (List ℕ) → List ℕ → OpSpec → Kinds → Type 0
Reprints Spelled names args op tokens =
    (number : List ℕ → ℕ) → Spelled number op tokens
    → Each (FindsName names (drop (bag_inputs_of op) args) number) (drop (bag_inputs_of op) (names_in tokens))
    → FindsBags names args (bag_inputs_of op) (names_in tokens) → Reprint (Spelled number op) (op_tokens names args op) tokens

-- ---- right sides

right_reprint : (names : List (List ℕ)) (args : List ℕ) {op : OpSpec} {tokens : Kinds} → Reprints SpellsRight names args op tokens
unfolding names_in
right_reprint names args number (read_form {name = e} {types = types} {tokens = ts} {others = os} spelled listed) known bags =
    let finds = FindsName names (drop 0 args) number in
    let end = Symbol symbol.RIGHT_PAREN ∷ [] in
    let rest = Symbol symbol.LEFT_PAREN ∷ os in
    let one = expr_part names (drop 0 args) number spelled (names_front finds ts rest (names_front finds (ts ++ rest) end known)) in
    let two = types_part listed in
    let printed = Symbol symbol.LEFT_PAREN ∷ join_by type_tokens comma types in
    rw (append_assoc ts rest end) (reprint (rw (append_assoc (expr_tokens names (drop 0 args) e) printed end) at (read_form one.spelled two.spelled))
    (same_cons (same_append one.same (same_cons (same_append two.same same_refl)))))
right_reprint names args number (map_form {tokens = ts} bag listed) known bags =
    let finds = FindsName names (drop 1 args) number in
    let one = exprs_part names (drop 1 args) number listed (names_front finds ts (Symbol symbol.RIGHT_BRACKET ∷ []) known) in
    rw (bags 0 (omega arith) (omega arith)) (reprint (map_form bag one.spelled)
    (same_cons (same_cons (same_cons (same_append one.same same_refl)))))
right_reprint names args number (filter_form bag spelled) known bags =
    let one = expr_part names (drop 1 args) number spelled known in
    rw (bags 0 (omega arith) (omega arith)) (reprint (filter_form bag one.spelled) (same_cons (same_cons (same_cons one.same))))
right_reprint names args number (words_form {tokens = ts} bag separator spelled) known bags =
    let finds = FindsName names (drop 1 args) number in
    let one = expr_part names (drop 1 args) number spelled (names_front finds ts (Symbol symbol.COMMA ∷ Text separator ∷ []) known) in
    rw (bags 0 (omega arith) (omega arith)) (reprint (words_form bag separator one.spelled)
    (same_cons (same_cons (same_cons (same_append one.same same_refl)))))
right_reprint names args number (range_form {tokens = ts} {others = os} bag from to) known bags =
    let finds = FindsName names (drop 1 args) number in
    let rest = Symbol symbol.COMMA ∷ os in
    let one = expr_part names (drop 1 args) number from (names_front finds ts rest known) in
    let two = expr_part names (drop 1 args) number to (names_back finds ts rest known) in
    rw (bags 0 (omega arith) (omega arith)) (reprint (range_form bag one.spelled two.spelled)
    (same_cons (same_cons (same_cons (same_append one.same (same_cons two.same))))))
right_reprint names args number (join_form {tokens = ts} {others = os} bag other first second) known bags =
    let rest = Keyword word.WITH ∷ Name other ∷ os in
    let one = columns_part first in
    let two = columns_part second in
    let all : names_in (ts ++ rest) ≡ other ∷ [] = names_in-append ts rest ∙ rw (columns_nameless first, columns_nameless second) refl in
    let later = rw all at (bags 1 (omega arith)) in
    rw (bags 0 (omega arith) (omega arith), later (omega arith)) (reprint (join_form bag other one.spelled two.spelled)
    (same_cons (same_cons (same_append one.same (same_cons (same_cons two.same))))))
right_reprint names args number (reduce_form bag by listed) known bags =
    let one = columns_part listed in
    rw (bags 0 (omega arith) (omega arith)) (reprint (reduce_form bag by one.spelled)
    (same_cons (same_cons (same_cons (same_append one.same same_refl)))))
right_reprint names args number (union_form bag other) known bags =
    rw (bags 0 (omega arith) (omega arith), bags 1 (omega arith) (omega arith))
    (reprint (union_form bag other) same_refl)
right_reprint names args number (distinct_form bag) known bags =
    rw (bags 0 (omega arith) (omega arith)) (reprint (distinct_form bag) same_refl)
right_reprint names args number (only_form bag) known bags =
    rw (bags 0 (omega arith) (omega arith)) (reprint (only_form bag) same_refl)
right_reprint names args number (count_form bag) known bags =
    rw (bags 0 (omega arith) (omega arith)) (reprint (count_form bag) same_refl)
right_reprint names args number (sum_form bag column) known bags =
    rw (bags 0 (omega arith) (omega arith)) (reprint (sum_form bag column) same_refl)
right_reprint names args number (row_form {tokens = ts} listed) known bags =
    let finds = FindsName names (drop 0 args) number in
    let one = exprs_part names (drop 0 args) number listed (names_front finds ts (Symbol symbol.RIGHT_BRACKET ∷ []) known) in
    reprint (row_form one.spelled) (same_cons (same_cons (same_append one.same same_refl)))
right_reprint names args number (empty_form listed) known bags =
    let one = types_part listed in
    reprint (empty_form one.spelled) (same_cons (same_cons (same_append one.same same_refl)))
right_reprint names args number (copy_form is spelled) known bags =
    let alone = single_name spelled is in
    let later = rw alone.alone at (bags 0 (omega arith)) in
    rw (later (omega arith)) (reprint (copy_form (is_name-Capture (number alone.name)) (captured_low number alone.name))
    (record { names = sym alone.alone; valid = λ valid. (alone.valid valid, tt) }))
right_reprint names args number (scalar_form is spelled) known bags =
    let one = expr_part names (drop 0 args) number spelled known in reprint (scalar_form is one.spelled) one.same

-- ---- the other forms

write_reprint : (names : List (List ℕ)) (args : List ℕ) {op : OpSpec} {tokens : Kinds} → Reprints SpellsWrite names args op tokens
unfolding names_in
write_reprint names args number (write_form bag spelled) known bags =
    let one = expr_part names (drop 1 args) number spelled known in
    rw (bags 0 (omega arith) (omega arith)) (reprint (write_form bag one.spelled) (same_cons (same_cons (same_cons one.same))))

condition_reprint : (names : List (List ℕ)) (args : List ℕ) {op : OpSpec} {tokens : Kinds} → Reprints SpellsCondition names args op tokens
condition_reprint names args number (condition_form spelled) known bags =
    let one = expr_part names (drop 0 args) number spelled known in reprint (condition_form one.spelled) one.same

-- ---- arguments

behind_bags : (f : List ℕ → ℕ) (bags : ℕ) (found once : List (List ℕ)) → bags ≤ length found → drop bags (map f (take bags found ++ once)) ≡ map f once
behind_bags f zero found once inside = refl
behind_bags f (suc bags) [] once inside = absurd (omega arith)
behind_bags f (suc bags) (name ∷ found) once inside = behind_bags f bags found once (omega arith)

at_bag : (f : List ℕ → ℕ) (bags place : ℕ) (found once : List (List ℕ)) → place < bags → place < length found
    → slice_get (map f (take bags found ++ once)) place ≡ Some (f (get_or found place []))
at_bag f zero place found once before inside = absurd (omega arith)
at_bag f (suc bags) place [] once before inside = absurd (omega arith)
at_bag f (suc bags) zero (name ∷ found) once before inside = refl
at_bag f (suc bags) (suc place) (name ∷ found) once before inside = at_bag f bags place found once (omega arith) (omega arith)

each_at : (P : List ℕ → Type 0) (xs : List (List ℕ)) (place : ℕ) → place < length xs → Each P xs → P (get_or xs place [])
each_at P [] place inside each = absurd (omega arith)
each_at P (x ∷ xs) zero inside each = each.0
each_at P (x ∷ xs) (suc place) inside each = each_at P xs place (omega arith) each.1

name_printed : (names once : List (List ℕ)) (captured : List ℕ) (name : List ℕ) → captured ≡ map (number_in names) once → IsFound once name → IsFound names name
    → FindsName names captured (number_in once) name
name_printed names once captured name is among whole =
    let here : slice_get captured (number_in once name) ≡ Some (number_in names name) =
    rw is (slice_get-map (number_in names) once (number_in once name) ∙ ap (option_map (number_in names)) among) in
    ap (λ o. unwrap_or (option_and_then (slice_get names) o) []) here ∙ ap (λ o. unwrap_or o []) whole

captured_found : (names found : List (List ℕ)) (bags : ℕ) (args : List ℕ) → args ≡ map (number_in names) (take bags found ++ each_once (drop bags found))
    → Each (IsFound names) found → Each (FindsName names (drop bags args) (number_in (each_once (drop bags found)))) (drop bags found)
captured_found names found bags args is known =
    let once = each_once (drop bags found) in
    elim (cases_lt (length found) bags) [
      | inr inside ↦
          let captured : drop bags args ≡ map (number_in names) once = ap (drop bags) is ∙ behind_bags (number_in names) bags found once inside in
          each_both (IsFound once) (IsFound names) (FindsName names (drop bags args) (number_in once))
          (λ name among whole. name_printed names once (drop bags args) name captured among whole) (drop bags found)
          (once_found (drop bags found)) (each_drop (IsFound names) bags found known)
      | inl beyond ↦ let none : drop bags found ≡ [] = drop_all bags found (omega arith) in rw none tt
    ]

bags_found : (names found once : List (List ℕ)) (bags : ℕ) (args : List ℕ) → args ≡ map (number_in names) (take bags found ++ once)
    → Each (IsFound names) found → FindsBags names args bags found
bags_found names found once bags args is known place before inside =
    let here : slice_get args place ≡ Some (number_in names (get_or found place [])) = rw is (at_bag (number_in names) bags place found once before inside) in
    ap (λ o. unwrap_or (option_and_then (slice_get names) o) []) here
    ∙ ap (λ o. unwrap_or o []) (each_at (IsFound names) found place inside known)

-- ---- an operator over its arguments

over_reprint : (Spelled : Form) (names : List (List ℕ)) (op : OpSpec) (args : List ℕ) (tokens : Kinds) → Reprints Spelled names args op tokens
    → SpellsOver Spelled names op args tokens → Each (IsFound names) (names_in tokens) → Reprint (SpellsOver Spelled names op args) (op_tokens names args op) tokens
over_reprint Spelled names op args tokens each over known =
    let bags = bag_inputs_of op in
    let found = names_in tokens in
    let once = each_once (drop bags found) in
    let one = each (number_in once) over.form (captured_found names found bags args over.over known) (bags_found names found once bags args over.over known) in
    let same = one.same.names in
    reprint (record { form = rw same one.spelled; over = rw same over.over }) one.same

pub right_over : {names : List (List ℕ)} {op : OpSpec} {args : List ℕ} {tokens : Kinds} → SpellsOver SpellsRight names op args tokens
    → Each (IsFound names) (names_in tokens) → Reprint (SpellsOver SpellsRight names op args) (op_tokens names args op) tokens
right_over {names = names} {op = op} {args = args} {tokens = tokens} = over_reprint SpellsRight names op args tokens (right_reprint names args)

pub write_over : {names : List (List ℕ)} {op : OpSpec} {args : List ℕ} {tokens : Kinds} → SpellsOver SpellsWrite names op args tokens
    → Each (IsFound names) (names_in tokens) → Reprint (SpellsOver SpellsWrite names op args) (op_tokens names args op) tokens
write_over {names = names} {op = op} {args = args} {tokens = tokens} = over_reprint SpellsWrite names op args tokens (write_reprint names args)

pub condition_over : {names : List (List ℕ)} {op : OpSpec} {args : List ℕ} {tokens : Kinds} → SpellsOver SpellsCondition names op args tokens
    → Each (IsFound names) (names_in tokens) → Reprint (SpellsOver SpellsCondition names op args) (op_tokens names args op) tokens
condition_over {names = names} {op = op} {args = args} {tokens = tokens} = over_reprint SpellsCondition names op args tokens (condition_reprint names args)
