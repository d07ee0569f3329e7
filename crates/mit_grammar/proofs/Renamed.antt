-- What is spelled with some numbers of names is spelled with any others too: as another tree of the same form.
use Rattle.std.proofs.Common.{◌≡◌, ℕ, List, [], ◌∷◌, refl, sym, ◌∙◌, pos, neg_ℤ}
use Rattle.mit_rows.specs.declared.value.Value.TheVariants as value
use Rattle.mit_expr.specs.declared.expr.Expr.{Expr}
use Rattle.mit_expr.specs.declared.expr.Expr.TheVariants as expr
use Rattle.mit_ops.specs.Kinds.{bag_inputs_of}
use Rattle.mit_ops.specs.declared.kinds.Flat.TheVariants as flat
use Rattle.mit_ops.specs.declared.kinds.OpSpec.{OpSpec}
use Rattle.mit_ops.specs.declared.kinds.OpSpec.TheVariants as kind
use Rattle.mit_script.specs.Grammar
use Rattle.mit_script.specs.Grammar.{Kinds, Listed, SpellsExpr, SpellsRight, SpellsWrite, SpellsCondition, SpellsOver, SpellsStmt, SpellsElse, SpellsBody, arguments_in, captured_in, is_name, number_in}
use Rattle.mit_script.specs.declared.tree.Stmt.{Stmt}
use Rattle.mit_script.specs.declared.tree.Stmt.TheVariants as stmt
use Rattle.mit_grammar.specs.NamesSingle.{is_name-Bin, is_name-Call, is_name-Capture, is_name-Not}

-- another expression of these tokens
record RenamedExpr (other : List ℕ → ℕ) (rank : ℕ) (e : Expr) (tokens : Kinds) : Type 0 where
  tree : Expr
  spelled : SpellsExpr other rank tree tokens
  alike : is_name tree ≡ is_name e

expr_by : {number : List ℕ → ℕ} (other : List ℕ → ℕ) {rank : ℕ} {e : Expr} {tokens : Kinds} → SpellsExpr number rank e tokens
    → RenamedExpr other rank e tokens
expr_by other (Grammar.stronger e) =
    let inner = expr_by other e in
    record { tree = inner.tree; spelled = Grammar.stronger inner.spelled; alike = inner.alike }
expr_by other (Grammar.binary op left right) =
    let one = expr_by other left in
    let two = expr_by other right in
    record { tree = expr.Bin op one.tree two.tree; spelled = Grammar.binary op one.spelled two.spelled; alike = is_name-Bin _ _ _ ∙ sym (is_name-Bin _ _ _) }
expr_by other (Grammar.negated e) =
    let inner = expr_by other e in
    record { tree = expr.Not inner.tree; spelled = Grammar.negated inner.spelled; alike = is_name-Not _ ∙ sym (is_name-Not _) }
expr_by other (Grammar.positive size fits) =
    record { tree = expr.Lit (value.Int (pos size)); spelled = Grammar.positive size fits; alike = refl }
expr_by other (Grammar.negative size fits) =
    record { tree = expr.Lit (value.Int (neg_ℤ (pos size))); spelled = Grammar.negative size fits; alike = refl }
expr_by other (Grammar.text_literal bytes) =
    record { tree = expr.Lit (value.Text bytes); spelled = Grammar.text_literal bytes; alike = refl }
expr_by other (Grammar.truth_literal holds) =
    record { tree = expr.Lit (value.Bool holds); spelled = Grammar.truth_literal holds; alike = refl }
expr_by other (Grammar.column_place place) = record { tree = expr.Column place; spelled = Grammar.column_place place; alike = refl }
expr_by other (Grammar.captured_name name) =
    record { tree = expr.Capture (other name); spelled = Grammar.captured_name name; alike = is_name-Capture _ ∙ sym (is_name-Capture _) }
expr_by other (Grammar.function_call function e) =
    let inner = expr_by other e in
    record { tree = expr.Call function inner.tree; spelled = Grammar.function_call function inner.spelled; alike = is_name-Call _ _ ∙ sym (is_name-Call _ _) }
expr_by other (Grammar.enclosed e) =
    let inner = expr_by other e in
    record { tree = inner.tree; spelled = Grammar.enclosed inner.spelled; alike = inner.alike }

pub expr_renamed : (number other : List ℕ → ℕ) (rank : ℕ) (e : Expr) (tokens : Kinds) → SpellsExpr number rank e tokens
    → (e' : Expr) × SpellsExpr other rank e' tokens × (is_name e' ≡ is_name e)
expr_renamed number other rank e tokens spelled = let found = expr_by other spelled in (found.tree, found.spelled, found.alike)

-- other expressions with commas between
record RenamedExprs (other : List ℕ → ℕ) (tokens : Kinds) : Type 0 where
  trees : List Expr
  spelled : Listed (SpellsExpr other 0) trees tokens

exprs_by : {number : List ℕ → ℕ} (other : List ℕ → ℕ) {exprs : List Expr} {tokens : Kinds}
    → Listed (SpellsExpr number 0) exprs tokens → RenamedExprs other tokens
exprs_by other (Grammar.single_item e) =
    let first = expr_by other e in
    record { trees = first.tree ∷ []; spelled = Grammar.single_item first.spelled }
exprs_by other (Grammar.and_more e more) =
    let first = expr_by other e in
    let rest = exprs_by other more in
    record { trees = first.tree ∷ rest.trees; spelled = Grammar.and_more first.spelled rest.spelled }

-- another operator of these tokens
record RenamedOp (Form : (List ℕ → ℕ) → OpSpec → Kinds → Type 0) (other : List ℕ → ℕ) (op : OpSpec) (tokens : Kinds) : Type 0 where
  tree : OpSpec
  spelled : Form other tree tokens
  alike : bag_inputs_of tree ≡ bag_inputs_of op

right_by : {number : List ℕ → ℕ} (other : List ℕ → ℕ) {op : OpSpec} {tokens : Kinds} → SpellsRight number op tokens
    → RenamedOp SpellsRight other op tokens
right_by other (Grammar.read_form {types = types} name listed) =
    let found = expr_by other name in
    record { tree = kind.Read found.tree types; spelled = Grammar.read_form found.spelled listed; alike = refl }
right_by other (Grammar.map_form bag exprs) =
    let found = exprs_by other exprs in
    record { tree = kind.Map found.trees; spelled = Grammar.map_form bag found.spelled; alike = refl }
right_by other (Grammar.filter_form bag e) =
    let found = expr_by other e in
    record { tree = kind.Filter found.tree; spelled = Grammar.filter_form bag found.spelled; alike = refl }
right_by other (Grammar.words_form bag separator e) =
    let found = expr_by other e in
    record { tree = kind.FlatMap (flat.Words found.tree separator); spelled = Grammar.words_form bag separator found.spelled; alike = refl }
right_by other (Grammar.range_form bag from to) =
    let one = expr_by other from in
    let two = expr_by other to in
    record { tree = kind.FlatMap (flat.Range one.tree two.tree); spelled = Grammar.range_form bag one.spelled two.spelled; alike = refl }
right_by other (Grammar.join_form {left = left} {right = right} bag bag' one two) =
    record { tree = kind.Join left right; spelled = Grammar.join_form bag bag' one two; alike = refl }
right_by other (Grammar.reduce_form {keys = keys} bag by listed) =
    record { tree = kind.Reduce keys by; spelled = Grammar.reduce_form bag by listed; alike = refl }
right_by other (Grammar.union_form bag bag') = record { tree = kind.Union; spelled = Grammar.union_form bag bag'; alike = refl }
right_by other (Grammar.distinct_form bag) = record { tree = kind.Distinct; spelled = Grammar.distinct_form bag; alike = refl }
right_by other (Grammar.only_form bag) = record { tree = kind.Only; spelled = Grammar.only_form bag; alike = refl }
right_by other (Grammar.count_form bag) = record { tree = kind.Count; spelled = Grammar.count_form bag; alike = refl }
right_by other (Grammar.sum_form bag column) = record { tree = kind.Sum column; spelled = Grammar.sum_form bag column; alike = refl }
right_by other (Grammar.row_form exprs) =
    let found = exprs_by other exprs in
    record { tree = kind.MakeRow found.trees; spelled = Grammar.row_form found.spelled; alike = refl }
right_by other (Grammar.empty_form {types = types} listed) = record { tree = kind.Empty types; spelled = Grammar.empty_form listed; alike = refl }
right_by other (Grammar.copy_form named e) =
    let found = expr_by other e in
    record { tree = kind.Copy; spelled = Grammar.copy_form (found.alike ∙ named) found.spelled; alike = refl }
right_by other (Grammar.scalar_form unnamed e) =
    let found = expr_by other e in
    record { tree = kind.Scalar found.tree; spelled = Grammar.scalar_form (found.alike ∙ unnamed) found.spelled; alike = refl }

write_by : {number : List ℕ → ℕ} (other : List ℕ → ℕ) {op : OpSpec} {tokens : Kinds} → SpellsWrite number op tokens
    → RenamedOp SpellsWrite other op tokens
write_by other (Grammar.write_form bag name) =
    let found = expr_by other name in
    record { tree = kind.Write found.tree; spelled = Grammar.write_form bag found.spelled; alike = refl }

condition_by : {number : List ℕ → ℕ} (other : List ℕ → ℕ) {op : OpSpec} {tokens : Kinds} → SpellsCondition number op tokens
    → RenamedOp SpellsCondition other op tokens
condition_by other (Grammar.condition_form e) =
    let found = expr_by other e in
    record { tree = kind.Scalar found.tree; spelled = Grammar.condition_form found.spelled; alike = refl }

pub right_renamed : (number other : List ℕ → ℕ) (op : OpSpec) (tokens : Kinds) → SpellsRight number op tokens
    → (op' : OpSpec) × SpellsRight other op' tokens × (bag_inputs_of op' ≡ bag_inputs_of op)
right_renamed number other op tokens spelled = let found = right_by other spelled in (found.tree, found.spelled, found.alike)

pub write_renamed : (number other : List ℕ → ℕ) (op : OpSpec) (tokens : Kinds) → SpellsWrite number op tokens
    → (op' : OpSpec) × SpellsWrite other op' tokens × (bag_inputs_of op' ≡ bag_inputs_of op)
write_renamed number other op tokens spelled = let found = write_by other spelled in (found.tree, found.spelled, found.alike)

pub condition_renamed : (number other : List ℕ → ℕ) (op : OpSpec) (tokens : Kinds) → SpellsCondition number op tokens
    → (op' : OpSpec) × SpellsCondition other op' tokens × (bag_inputs_of op' ≡ bag_inputs_of op)
condition_renamed number other op tokens spelled = let found = condition_by other spelled in (found.tree, found.spelled, found.alike)

-- another operator of these tokens, and its arguments among other names
record RenamedOver (Form : (List ℕ → ℕ) → OpSpec → Kinds → Type 0) (others : List (List ℕ)) (tokens : Kinds) : Type 0 where
  tree : OpSpec
  args : List ℕ
  spelled : SpellsOver Form others tree args tokens

over_by : (Form : (List ℕ → ℕ) → OpSpec → Kinds → Type 0)
    → ((number other : List ℕ → ℕ) (op : OpSpec) (tokens : Kinds) → Form number op tokens → RenamedOp Form other op tokens)
    → (others : List (List ℕ)) (op : OpSpec) (tokens : Kinds) → Form (number_in (captured_in (bag_inputs_of op) tokens)) op tokens
    → RenamedOver Form others tokens
over_by Form renamed others op tokens form =
    let found = renamed _ (number_in (captured_in (bag_inputs_of op) tokens)) op tokens form in
    record {
      tree = found.tree;
      args = arguments_in others (bag_inputs_of found.tree) tokens;
      spelled = record { form = rw found.alike found.spelled; over = refl };
    }

-- other statements of these tokens
record RenamedStmt (others : List (List ℕ)) (tokens : Kinds) : Type 0 where
  tree : Stmt
  spelled : SpellsStmt others tree tokens

record RenamedElse (others : List (List ℕ)) (tokens : Kinds) : Type 0 where
  trees : List Stmt
  spelled : SpellsElse others trees tokens

record RenamedBody (others : List (List ℕ)) (tokens : Kinds) : Type 0 where
  trees : List Stmt
  spelled : SpellsBody others trees tokens

mutual
  stmt_by : {names : List (List ℕ)} (others : List (List ℕ)) {s : Stmt} {tokens : Kinds} → SpellsStmt names s tokens
      → RenamedStmt others tokens
  stmt_by others (Grammar.assign {op = op} {tokens = tokens} target made) =
      let found = over_by SpellsRight (λ number other op tokens form. right_by other form) others op tokens made.form in
      record { tree = stmt.Assign (number_in others target) found.tree found.args; spelled = Grammar.assign target found.spelled }
  stmt_by others (Grammar.write {op = op} {tokens = tokens} made) =
      let found = over_by SpellsWrite (λ number other op tokens form. write_by other form) others op tokens made.form in
      record { tree = stmt.Write found.tree found.args; spelled = Grammar.write found.spelled }
  stmt_by others (Grammar.branch {op = op} {tokens = tokens} made then alternative) =
      let found = over_by SpellsCondition (λ number other op tokens form. condition_by other form) others op tokens made.form in
      let one = body_by others then in
      let two = else_by others alternative in
      record { tree = stmt.If found.tree found.args one.trees two.trees; spelled = Grammar.branch found.spelled one.spelled two.spelled }
  stmt_by others (Grammar.loop {op = op} {tokens = tokens} made body) =
      let found = over_by SpellsCondition (λ number other op tokens form. condition_by other form) others op tokens made.form in
      let inside = body_by others body in
      record { tree = stmt.While found.tree found.args inside.trees; spelled = Grammar.loop found.spelled inside.spelled }

  else_by : {names : List (List ℕ)} (others : List (List ℕ)) {no : List Stmt} {tokens : Kinds} → SpellsElse names no tokens
      → RenamedElse others tokens
  else_by others Grammar.without = record { trees = []; spelled = Grammar.without }
  else_by others (Grammar.otherwise body) =
      let inside = body_by others body in
      record { trees = inside.trees; spelled = Grammar.otherwise inside.spelled }

  body_by : {names : List (List ℕ)} (others : List (List ℕ)) {body : List Stmt} {tokens : Kinds} → SpellsBody names body tokens
      → RenamedBody others tokens
  body_by others Grammar.no_more = record { trees = []; spelled = Grammar.no_more }
  body_by others (Grammar.followed first more) =
      let one = stmt_by others first in
      let rest = body_by others more in
      record { trees = one.tree ∷ rest.trees; spelled = Grammar.followed one.spelled rest.spelled }

-- statements among some names of variables are statements among any others
pub body_renamed : (names others : List (List ℕ)) (body : List Stmt) (tokens : Kinds) → SpellsBody names body tokens
    → (body' : List Stmt) × SpellsBody others body' tokens
body_renamed names others body tokens spelled = let found = body_by others spelled in (found.trees, found.spelled)
