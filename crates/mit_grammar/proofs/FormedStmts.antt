-- What statements spell is formed, and names variables in the order of the text.
use Rattle.std.proofs.Common.{◌≡◌, ℕ, ◌+◌, ◌<◌, ◌≤◌, List, [], ◌∷◌, ◌++◌, length, map, take, drop, true, false, refl, sym, ap, ◌∙◌, subst, All, arith}
use Rattle.std.specs.Prelude.{flat_map}
use Rattle.std.proofs.lemmas.List.{append-nil, length-append, length-map, length-take-le, map-append, take-append-drop}
use Rattle.std.proofs.Math.Seq.{drop-nil, take-nil}
use Rattle.std.proofs.lemmas.List.Concat.{flat_map-append}
use Rattle.std.proofs.lemmas.List.Elements.{All-append, All-cons, All-map, All-nil}
use Rattle.std.proofs.lemmas.List.Sums.{sum_by-cons}
use Rattle.mit_ops.specs.Kinds.{bag_inputs_of}
use Rattle.mit_ops.specs.declared.kinds.OpSpec.{OpSpec}
use Rattle.mit_lex.specs.declared.token.TokenKind.{TokenKind}
use Rattle.mit_lex.specs.declared.token.TokenKind.TheVariants.{Keyword, Name, Symbol}
use Rattle.mit_lex.specs.declared.symbol.TheConstants as symbol
use Rattle.mit_lex.specs.declared.keyword.TheConstants as word
use Rattle.mit_script.specs.Grammar
use Rattle.mit_script.specs.Grammar.{Kinds, SpellsBody, SpellsCondition, SpellsElse, SpellsOver, SpellsRight, SpellsStmt, SpellsWrite, arguments_in, captured_in, each_once, name_in, names_in, number_in}
use Rattle.mit_script.specs.Trees.{AreArgs, Head, IsFormedHead, assigns, count_of, count_of_all, decides, is_scalar, is_write, variables_of, writes, heads_in}
use Rattle.mit_script.specs.declared.tree.Stmt.{Stmt}
use Rattle.mit_grammar.proofs.FormedOps.{CountedOp, condition_counted, right_counted, write_counted}
use Rattle.mit_grammar.proofs.Heads.{count_of-Assign, count_of-If, count_of-While, count_of-Write, heads_in-Assign, heads_in-If, heads_in-While, heads_in-Write}
use Rattle.mit_grammar.specs.NamesOnce.{each_once_joined, each_once_twice, names_in-append}
use Rattle.mit_grammar.proofs.NamesOrder.{bound_of, bound_of-names, names_in_order, number_in_below}

-- ---- one operator

-- where tokens name something, there is a variable
abbrev pub HasNames : List (List ℕ) → Kinds → Type 0
HasNames names tokens = 0 < length (names_in tokens) → 0 < length names

-- the names of an operator's arguments
abbrev words_of : ℕ → List (List ℕ) → List (List ℕ)
words_of bags names = take bags names ++ each_once (drop bags names)

-- numbers of names are below the number of names
all_below : (names words : List (List ℕ)) (bags : ℕ) → (0 < length words → 0 < length names)
    → All (λ variable. variable < length names) (map (number_in names) (words_of bags words))
unfolding each_once
all_below names [] bags some = rw (take-nil, drop-nil) (All-nil (λ variable. variable < length names))
all_below names (word ∷ words) bags some =
    All-map (λ variable. variable < length names) (number_in names) (words_of bags (word ∷ words))
    (λ k d inside. number_in_below names _ (some (omega arith)))

-- an operator's arguments are those of its kind
args_formed : (names : List (List ℕ)) (op : OpSpec) (args : List ℕ) (tokens : Kinds)
    → CountedOp (number_in (captured_in (bag_inputs_of op) tokens)) op (names_in tokens) → args ≡ arguments_in names (bag_inputs_of op) tokens
    → HasNames names tokens → AreArgs (length names) op args
args_formed names op args tokens counted over some =
    let bags = bag_inputs_of op in
    let words = names_in tokens in
    let bags_length : length (take bags words) ≡ bags = length-take-le bags words counted.enough in
    let captured : bound_of (map (number_in (captured_in bags tokens)) (drop bags words)) ≡ length (captured_in bags tokens) = bound_of-names (drop bags words) in
    record {
      known = rw over (all_below names words bags some);
      complete = rw (over, length-map, length-append, bags_length, counted.captures, captured) refl;
      in_order = rw counted.uses (names_in_order (drop bags words));
    }

-- the arguments' names appear first in the order of the tokens' names
words_in_order : (bags : ℕ) (words : List (List ℕ)) → each_once (words_of bags words) ≡ each_once words
words_in_order bags words =
    each_once_joined (take bags words) (take bags words) (each_once (drop bags words)) (drop bags words) refl (each_once_twice (drop bags words))
    ∙ ap each_once (take-append-drop bags words)

-- ---- statements

-- the tokens spell statements with these heads, so many of them
pub record Good (names : List (List ℕ)) (heads : List Head) (count : ℕ) (tokens : Kinds) : Type 0 where
  pub few : count ≤ length tokens
  pub formed : HasNames names tokens → All (IsFormedHead (length names)) heads
  pub words : List (List ℕ)
  pub numbered : flat_map variables_of heads ≡ map (number_in names) words
  pub alike : each_once words ≡ each_once (names_in tokens)

good_joined : {names : List (List ℕ)} {heads others : List Head} {count more : ℕ} {tokens rest : Kinds}
    → Good names heads count tokens → Good names others more rest → Good names (heads ++ others) (count + more) (tokens ++ rest)
good_joined {names} {heads} {others} {count} {more} {tokens} {rest} one two = record {
  few = let few = one.few in let few' = two.few in rw length-append (omega arith);
  formed = λ some. All-append (IsFormedHead (length names)) heads others
      (one.formed (λ named. some (rw (names_in-append, length-append) (omega arith))))
      (two.formed (λ named. some (rw (names_in-append, length-append) (omega arith))));
  words = one.words ++ two.words;
  numbered = flat_map-append variables_of heads others ∙ rw (one.numbered, two.numbered) (sym (map-append (number_in names) one.words two.words));
  alike = each_once_joined one.words (names_in tokens) two.words (names_in rest) one.alike two.alike ∙ ap each_once (sym (names_in-append tokens rest));
}

-- a token in front that is no name
good_behind : {names : List (List ℕ)} {heads : List Head} {count : ℕ} {token : TokenKind} {tokens : Kinds} → name_in token ≡ []
    → Good names heads count tokens → Good names heads count (token ∷ tokens)
unfolding names_in
good_behind unnamed rest = record {
  few = let few = rest.few in omega arith;
  formed = λ some. rest.formed (λ named. some (rw unnamed named));
  words = rest.words;
  numbered = rest.numbered;
  alike = rw unnamed rest.alike;
}

good_none : {names : List (List ℕ)} → Good names [] 0 []
unfolding names_in
good_none {names} = record {
  few = omega arith;
  formed = λ some. All-nil (IsFormedHead (length names));
  words = [];
  numbered = refl;
  alike = refl;
}

-- the last token of a statement
good_last : {names : List (List ℕ)} {heads : List Head} {count : ℕ} {tokens : Kinds} (last : TokenKind) → name_in last ≡ []
    → Good names heads count tokens → Good names heads count (tokens ++ last ∷ [])
good_last {names} {heads} {count} {tokens} last unnamed one =
    let whole = good_joined one (good_behind unnamed good_none) in
    subst (λ heads. Good names heads count (tokens ++ last ∷ [])) (append-nil heads)
    (subst (λ count. Good names (heads ++ []) count (tokens ++ last ∷ [])) (omega arith) whole)

-- the kinds of operators by their forms
right_writes_none : {number : List ℕ → ℕ} {op : OpSpec} {tokens : Kinds} → SpellsRight number op tokens → is_write op ≡ false
right_writes_none (Grammar.read_form name types) = refl
right_writes_none (Grammar.map_form bag exprs) = refl
right_writes_none (Grammar.filter_form bag e) = refl
right_writes_none (Grammar.words_form bag separator e) = refl
right_writes_none (Grammar.range_form bag from to) = refl
right_writes_none (Grammar.join_form bag other left right) = refl
right_writes_none (Grammar.reduce_form bag by keys) = refl
right_writes_none (Grammar.union_form bag other) = refl
right_writes_none (Grammar.distinct_form bag) = refl
right_writes_none (Grammar.only_form bag) = refl
right_writes_none (Grammar.count_form bag) = refl
right_writes_none (Grammar.sum_form bag column) = refl
right_writes_none (Grammar.row_form exprs) = refl
right_writes_none (Grammar.empty_form types) = refl
right_writes_none (Grammar.copy_form named e) = refl
right_writes_none (Grammar.scalar_form unnamed e) = refl

write_writes : {number : List ℕ → ℕ} {op : OpSpec} {tokens : Kinds} → SpellsWrite number op tokens → is_write op ≡ true
write_writes (Grammar.write_form bag name) = refl

condition_scalar : {number : List ℕ → ℕ} {op : OpSpec} {tokens : Kinds} → SpellsCondition number op tokens → is_scalar op ≡ true
condition_scalar (Grammar.condition_form e) = refl

-- each head by itself, with the tokens up to the end of its run
assign_good : (names : List (List ℕ)) (target : List ℕ) (op : OpSpec) (args : List ℕ) (tokens : Kinds) → SpellsOver SpellsRight names op args tokens
    → Good names (assigns (number_in names target) op args ∷ []) 1 (Name target ∷ Symbol symbol.EQUALS ∷ tokens)
unfolding names_in
assign_good names target op args tokens over =
    let words = words_of (bag_inputs_of op) (names_in tokens) in
    record {
      few = omega arith;
      formed = λ some. All-cons (IsFormedHead (length names)) (assigns (number_in names target) op args) [] (
        number_in_below names target (some (omega arith)),
        right_writes_none over.form,
        args_formed names op args tokens (right_counted over.form) over.over (λ named. some (omega arith)),
      )
          (All-nil (IsFormedHead (length names)));
      words = target ∷ words;
      numbered = ap (λ rest. number_in names target ∷ rest) (append-nil args ∙ over.over);
      alike = each_once_joined (target ∷ []) (target ∷ []) words (names_in tokens) refl (words_in_order (bag_inputs_of op) (names_in tokens));
    }

write_good : (names : List (List ℕ)) (op : OpSpec) (args : List ℕ) (tokens : Kinds) → SpellsOver SpellsWrite names op args tokens
    → Good names (writes op args ∷ []) 1 (tokens ++ Symbol symbol.SEMICOLON ∷ [])
unfolding names_in
write_good names op args tokens over =
    let words = words_of (bag_inputs_of op) (names_in tokens) in
    let same : names_in (tokens ++ Symbol symbol.SEMICOLON ∷ []) ≡ names_in tokens = names_in-append tokens (Symbol symbol.SEMICOLON ∷ []) ∙ append-nil (names_in tokens) in
    record {
      few = rw length-append (omega arith);
      formed = rw same (λ some. All-cons (IsFormedHead (length names)) (writes op args) []
          (write_writes over.form, args_formed names op args tokens (write_counted over.form) over.over some)
          (All-nil (IsFormedHead (length names))));
      words = words;
      numbered = append-nil args ∙ over.over;
      alike = rw same (words_in_order (bag_inputs_of op) (names_in tokens));
    }

condition_good : (names : List (List ℕ)) (op : OpSpec) (args : List ℕ) (place : ℕ) (tokens : Kinds) → SpellsOver SpellsCondition names op args tokens
    → Good names (decides op args ∷ []) 1 (Keyword place ∷ tokens)
unfolding names_in
condition_good names op args place tokens over = record {
  few = omega arith;
  formed = λ some. All-cons (IsFormedHead (length names)) (decides op args) []
      (condition_scalar over.form, args_formed names op args tokens (condition_counted over.form) over.over some)
      (All-nil (IsFormedHead (length names)));
  words = words_of (bag_inputs_of op) (names_in tokens);
  numbered = append-nil args ∙ over.over;
  alike = words_in_order (bag_inputs_of op) (names_in tokens);
}

mutual
  stmt_good : {names : List (List ℕ)} {s : Stmt} {tokens : Kinds} → SpellsStmt names s tokens → Good names (heads_in s) (count_of s) tokens
  stmt_good {names} (Grammar.assign {op = op} {args = args} {tokens = tokens} target over) =
      rw (heads_in-Assign, count_of-Assign) (good_last (Symbol symbol.SEMICOLON) refl (assign_good names target op args tokens over))
  stmt_good {names} (Grammar.write {op = op} {args = args} {tokens = tokens} over) =
      rw (heads_in-Write, count_of-Write) (write_good names op args tokens over)
  stmt_good {names} (Grammar.branch {op = op} {args = args} {tokens = tokens} over then alternative) =
      rw (heads_in-If, count_of-If) (good_joined (good_joined (condition_good names op args word.IF tokens over)
      (good_behind refl (body_good then))) (good_behind refl (else_good alternative)))
  stmt_good {names} (Grammar.loop {op = op} {args = args} {tokens = tokens} over body) =
      rw (heads_in-While, count_of-While) (good_last (Symbol symbol.RIGHT_BRACE) refl (good_joined (condition_good names op args word.WHILE tokens over)
      (good_behind refl (body_good body))))

  else_good : {names : List (List ℕ)} {body : List Stmt} {tokens : Kinds} → SpellsElse names body tokens
      → Good names (flat_map heads_in body) (count_of_all body) tokens
  else_good Grammar.without = good_none
  else_good (Grammar.otherwise body) = good_last (Symbol symbol.RIGHT_BRACE) refl (good_behind refl (good_behind refl (body_good body)))

  pub body_good : {names : List (List ℕ)} {body : List Stmt} {tokens : Kinds} → SpellsBody names body tokens
      → Good names (flat_map heads_in body) (count_of_all body) tokens
  body_good Grammar.no_more = good_none
  body_good (Grammar.followed {first = first} {body = body} one more) =
      rw (sum_by-cons (λ x. x) (count_of first) (map count_of body)) (good_joined (stmt_good one) (body_good more))
