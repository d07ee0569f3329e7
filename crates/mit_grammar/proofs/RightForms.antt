-- The readers of the forms of operators.
use Rattle.std.proofs.Common.{◌≡◌, ℕ, [], ◌∷◌, ◌++◌, false, ◌==◌, if◌then◌else◌, Option, Ok, Err, inl, inr, refl, sym, subst, arith}
use Rattle.std.proofs.lemmas.Bool.Decides.{eqb_tells}
use Rattle.mit_ops.specs.declared.kinds.Agg.{Agg}
use Rattle.mit_ops.specs.declared.kinds.Agg.TheVariants as agg
use Rattle.mit_ops.specs.declared.kinds.Flat.TheVariants as flat
use Rattle.mit_ops.specs.declared.kinds.OpSpec.{OpSpec}
use Rattle.mit_ops.specs.declared.kinds.OpSpec.TheVariants as kind
use Rattle.mit_lex.specs.declared.token.TokenKind.{TokenKind}
use Rattle.mit_lex.specs.declared.token.TokenKind.TheVariants.{Name, Column, Text, Symbol, Keyword}
use Rattle.mit_lex.specs.declared.symbol.TheConstants as symbol
use Rattle.mit_lex.specs.declared.keyword.TheConstants as word
use Rattle.mit_script.specs.Grammar.{Kinds, agg_tokens, SpellsWrite, write_form, SpellsCondition, condition_form}
use Rattle.mit_script.specs.Reading.{Reading, ◌>>=◌, expect_word, sees_word, after_next, column_at, of_column, agg_at, read_at, map_at, filter_at, words_at, range_at, flat_by, flat_at, join_at, reduce_at, union_at, of_bag_at, sum_at, row_form_at, empty_at, copy_or_scalar, scalar_at, write_form_at, condition_at}
use Rattle.mit_grammar.proofs.Readers.{first_of}
use Rattle.mit_grammar.proofs.StmtReaders.{Spelling, Reader, IsReader, One, one, Bind, both, Made, made, make, along, convert, Pure, pure, reads_pure, Or, this, other}
use Rattle.mit_grammar.proofs.StmtTokens.{Whatever, SymbolOf, WordOf, reads_one_name, reads_one_column, reads_one_text, AfterWord, AfterSymbol, after_word, after_symbol, choose_word, EndsList}
use Rattle.mit_grammar.proofs.RightReaders.{Numbers, EndsExpr, begins_one, begins_both, begins_made, follow, then_any, ends_so, AnExpr, reads_expr, Exprs, reads_exprs, Types, reads_types, Columns, reads_columns}

-- a keyword and what is after it, or the token is refused
word_or_none : {A : Type 0} (wanted : ℕ) (tokens : Kinds) (next : Kinds → Reading A)
    → Path (Reading A) (expect_word wanted tokens >>= λ end. next end.1) (if sees_word wanted tokens then next (after_next tokens) else Err tokens)
unfolding expect_word sees_word
word_or_none wanted [] next = refl
word_or_none wanted (Keyword place ∷ rest) next = elim (eqb_tells place wanted) [ inl e ↦ rw e.0 refl | inr e ↦ rw e.0 refl ]
word_or_none wanted (_ ∷ rest) next = refl

-- what is read after the last keyword that may stand there
last_word : {P A : Type 0} {top slack : ℕ} (wanted : ℕ) {R : Spelling P A} {F : Option TokenKind → Type 0} {r : Reader P A} → IsReader top slack R F r
    → IsReader top slack (AfterWord wanted R) F (λ p left most tokens. if sees_word wanted tokens then r p left most (after_next tokens) else Err tokens)
last_word {slack = slack} wanted {r = r} reads =
    convert (after_word slack wanted (omega arith) reads) (λ p a tokens x. x) (λ p a tokens x. x) (λ next e. e) (λ p left most tokens. word_or_none wanted tokens (r p left most))

-- after one keyword, another one is not seen
pub word_unseen : {P A : Type 0} (seen wanted : ℕ) (R : Spelling P A) → (seen == wanted) ≡ false → (p : P) (a : A) (tokens after : Kinds) → AfterWord seen R p a tokens
    → sees_word wanted (tokens ++ after) ≡ false
unfolding sees_word
word_unseen seen wanted R differ p a tokens after (both one x) = differ

-- the same of one of two
pub or_unseen : {P A : Type 0} (wanted : ℕ) (R S : Spelling P A) → ((p : P) (a : A) (tokens after : Kinds) → R p a tokens → sees_word wanted (tokens ++ after) ≡ false)
    → ((p : P) (a : A) (tokens after : Kinds) → S p a tokens → sees_word wanted (tokens ++ after) ≡ false)
    → (p : P) (a : A) (tokens after : Kinds) → Or R S p a tokens → sees_word wanted (tokens ++ after) ≡ false
or_unseen wanted R S one_unseen other_unseen p a tokens after (this x) = one_unseen p a tokens after x
or_unseen wanted R S one_unseen other_unseen p a tokens after (other x) = other_unseen p a tokens after x

-- ---- the values of a key

abbrev AColumn : {P A : Type 0} → (ℕ → A) → Spelling P A
AColumn make_one = Made (One Column) (λ p column. make_one column)

abbrev Maxed : {P : Type 0} → Spelling P Agg
Maxed = AfterWord word.MAX (AColumn agg.Max)

abbrev MinMaxed : {P : Type 0} → Spelling P Agg
MinMaxed = Or (AfterWord word.MIN (AColumn agg.Min)) Maxed

abbrev SumMinMaxed : {P : Type 0} → Spelling P Agg
SumMinMaxed = Or (AfterWord word.SUM (AColumn agg.Sum)) MinMaxed

-- one of the four, by its keyword
abbrev AggForm : {P : Type 0} → Spelling P Agg
AggForm = Or (AfterWord word.COUNT (Pure (λ p. agg.Count))) SumMinMaxed

-- the reader, by the keyword that is seen
agg_by_words : Kinds → Reading Agg
agg_by_words tokens =
    if sees_word word.COUNT tokens then Ok (agg.Count, after_next tokens)
    else (if sees_word word.SUM tokens then of_column agg.Sum (column_at (after_next tokens))
    else (if sees_word word.MIN tokens then of_column agg.Min (column_at (after_next tokens))
    else (if sees_word word.MAX tokens then of_column agg.Max (column_at (after_next tokens)) else Err tokens)))

agg_same : (tokens : Kinds) → agg_by_words tokens ≡ agg_at tokens
unfolding agg_by_words agg_at sees_word
agg_same [] = refl
agg_same (Keyword place ∷ rest) = refl
agg_same (_ ∷ rest) = refl

-- the words of the four are those of the grammar
agg_form : {P : Type 0} (p : P) (by : Agg) (tokens : Kinds) → AggForm p by tokens → tokens ≡ agg_tokens by
agg_form p by tokens (this (both one pure)) = refl
agg_form p by tokens (other (this (both one (made one)))) = refl
agg_form p by tokens (other (other (this (both one (made one))))) = refl
agg_form p by tokens (other (other (other (both one (made one))))) = refl

-- and the other way round
agg_formed : {P : Type 0} (p : P) (by : Agg) → AggForm p by (agg_tokens by)
agg_formed p agg.Count = this (both one pure)
agg_formed p (agg.Sum column) = other (this (both one (made one)))
agg_formed p (agg.Min column) = other (other (this (both one (made one))))
agg_formed p (agg.Max column) = other (other (other (both one (made one))))

abbrev AnAgg : {P : Type 0} → Spelling P Agg
AnAgg p by tokens = tokens ≡ agg_tokens by

reads_agg : {P : Type 0} {top slack : ℕ} → IsReader {P = P} top slack AnAgg Whatever (λ p left most. agg_at)
unfolding agg_by_words
reads_agg {slack = slack} = convert
    (choose_word slack word.COUNT (omega arith) (reads_pure Whatever (λ p. agg.Count))
    (choose_word slack word.SUM (omega arith) (make reads_one_column (λ p column. agg.Sum column))
    (choose_word slack word.MIN (omega arith) (make reads_one_column (λ p column. agg.Min column))
    (last_word word.MAX (make reads_one_column (λ p column. agg.Max column)))
    (λ p a tokens after x e. word_unseen word.MAX word.MIN (AColumn agg.Max) refl p a tokens after x))
    (λ p a tokens after x e. or_unseen word.SUM (AfterWord word.MIN (AColumn agg.Min)) Maxed (word_unseen word.MIN word.SUM (AColumn agg.Min) refl) (word_unseen word.MAX word.SUM (AColumn agg.Max) refl) p a tokens after x))
    (λ p a tokens after x e. or_unseen word.COUNT (AfterWord word.SUM (AColumn agg.Sum)) MinMaxed (word_unseen word.SUM word.COUNT (AColumn agg.Sum) refl)
    (or_unseen word.COUNT (AfterWord word.MIN (AColumn agg.Min)) Maxed (word_unseen word.MIN word.COUNT (AColumn agg.Min) refl) (word_unseen word.MAX word.COUNT (AColumn agg.Max) refl)) p a tokens after x))
    agg_form (λ p by tokens is. subst (λ t. AggForm p by t) (sym is) (agg_formed p by)) (λ next e. e) (λ p left most tokens. agg_same tokens)

-- ---- the forms, from the token after the keyword on

abbrev pub ReadForm : Spelling Numbers OpSpec
ReadForm = Bind AnExpr (Made Types (λ q types. kind.Read q.1 types))

pub reads_read : {top slack : ℕ} → IsReader top slack ReadForm Whatever (λ number left most. read_at number most)
unfolding read_at
reads_read = follow reads_expr (make reads_types (λ q types. kind.Read q.1 types))
    (begins_made Types (λ q types. kind.Read q.1 types) EndsExpr (begins_both (SymbolOf symbol.LEFT_PAREN) _ EndsExpr (begins_one (λ u. Symbol symbol.LEFT_PAREN) EndsExpr (λ u. refl))))

abbrev pub MapForm : Spelling Numbers OpSpec
MapForm = Bind (One Name) (Made (λ q. Exprs q.0) (λ q exprs. kind.Map exprs))

pub reads_map : {top slack : ℕ} → IsReader top slack MapForm Whatever (λ number left most. map_at number most)
unfolding map_at
reads_map = then_any reads_one_name (make (along (λ q. q.0) reads_exprs) (λ q exprs. kind.Map exprs))

abbrev pub FilterForm : Spelling Numbers OpSpec
FilterForm = Bind (One Name) (AfterWord word.WHERE (Made (λ q. AnExpr q.0) (λ q e. kind.Filter e)))

pub reads_filter : {top slack : ℕ} → IsReader top slack FilterForm EndsExpr (λ number left most. filter_at number most)
unfolding filter_at
reads_filter {slack = slack} = then_any reads_one_name (after_word slack word.WHERE (omega arith) (make (along (λ q. q.0) reads_expr) (λ q e. kind.Filter e)))

abbrev WordsForm : Spelling Numbers OpSpec
WordsForm = Bind AnExpr (AfterSymbol symbol.COMMA (Made (One Text) (λ q separator. kind.FlatMap (flat.Words q.1 separator))))

reads_words : {top slack : ℕ} → IsReader top slack WordsForm Whatever (λ number left most. words_at number most)
unfolding words_at
reads_words {slack = slack} = follow reads_expr (after_symbol slack symbol.COMMA (omega arith) (make reads_one_text (λ q separator. kind.FlatMap (flat.Words q.1 separator))))
    (begins_both (SymbolOf symbol.COMMA) _ EndsExpr (begins_one (λ u. Symbol symbol.COMMA) EndsExpr (λ u. refl)))

abbrev RangeForm : Spelling Numbers OpSpec
RangeForm = Bind AnExpr (AfterSymbol symbol.COMMA (Made (λ q. AnExpr q.0) (λ q to. kind.FlatMap (flat.Range q.1 to))))

reads_range : {top slack : ℕ} → IsReader top slack RangeForm EndsExpr (λ number left most. range_at number most)
unfolding range_at
reads_range {slack = slack} = follow reads_expr (after_symbol slack symbol.COMMA (omega arith) (make (along (λ q. q.0) reads_expr) (λ q to. kind.FlatMap (flat.Range q.1 to))))
    (begins_both (SymbolOf symbol.COMMA) _ EndsExpr (begins_one (λ u. Symbol symbol.COMMA) EndsExpr (λ u. refl)))

abbrev FlatRest : Spelling Numbers OpSpec
FlatRest = Or (AfterWord word.WORDS WordsForm) (AfterWord word.RANGE RangeForm)

reads_flat_by : {top slack : ℕ} → IsReader top slack FlatRest EndsExpr (λ number left most. flat_by number most)
unfolding flat_by
reads_flat_by {slack = slack} = choose_word slack word.WORDS (omega arith) (ends_so reads_words (λ first e. tt)) (last_word word.RANGE reads_range)
    (λ p a tokens after x e. word_unseen word.RANGE word.WORDS RangeForm refl p a tokens after x)

abbrev pub FlatForm : Spelling Numbers OpSpec
FlatForm = Bind (One Name) (λ q. FlatRest q.0)

pub reads_flat : {top slack : ℕ} → IsReader top slack FlatForm EndsExpr (λ number left most. flat_at number most)
unfolding flat_at
reads_flat = convert (then_any reads_one_name (along (λ q. q.0) reads_flat_by)) (λ p a tokens x. x) (λ p a tokens x. x) (λ next e. e) (λ number left most tokens. refl)

abbrev pub JoinForm : Spelling Numbers OpSpec
JoinForm = Bind (One Name) (Bind Columns (AfterWord word.WITH (Bind (One Name) (Made Columns (λ q right. kind.Join q.0.1 right)))))

pub reads_join : {top slack : ℕ} → IsReader top slack JoinForm (EndsList Whatever) (λ number left most. join_at most)
unfolding join_at
reads_join {slack = slack} =
    then_any reads_one_name
    (follow reads_columns (after_word slack word.WITH (omega arith) (then_any reads_one_name (make reads_columns (λ q right. kind.Join q.0.1 right))))
    (begins_both (WordOf word.WITH) _ (EndsList Whatever) (begins_one (λ u. Keyword word.WITH) (EndsList Whatever) (λ u. (tt, refl)))))

-- none of the four begins with a comma
agg_begins : {P : Type 0} (p : P) (by : Agg) (tokens after : Kinds) → AnAgg p by tokens → EndsList Whatever (first_of (tokens ++ after))
agg_begins p agg.Count tokens after is = rw is (tt, refl)
agg_begins p (agg.Sum column) tokens after is = rw is (tt, refl)
agg_begins p (agg.Min column) tokens after is = rw is (tt, refl)
agg_begins p (agg.Max column) tokens after is = rw is (tt, refl)

abbrev pub ReduceForm : Spelling Numbers OpSpec
ReduceForm = Bind (One Name) (AfterWord word.BY (Bind Columns (Made AnAgg (λ q by. kind.Reduce q.1 by))))

pub reads_reduce : {top slack : ℕ} → IsReader top slack ReduceForm Whatever (λ number left most. reduce_at most)
unfolding reduce_at
reads_reduce {slack = slack} =
    then_any reads_one_name (after_word slack word.BY (omega arith)
    (follow reads_columns (make reads_agg (λ q by. kind.Reduce q.1 by)) (begins_made AnAgg (λ q by. kind.Reduce q.1 by) (EndsList Whatever) agg_begins)))

abbrev pub UnionForm : Spelling Numbers OpSpec
UnionForm = Bind (One Name) (AfterSymbol symbol.COMMA (Made (One Name) (λ q name. kind.Union)))

pub reads_union : {top slack : ℕ} → IsReader top slack UnionForm Whatever (λ number left most. union_at)
unfolding union_at
reads_union {slack = slack} = then_any reads_one_name (after_symbol slack symbol.COMMA (omega arith) (make reads_one_name (λ q name. kind.Union)))

abbrev pub BagForm : OpSpec → Spelling Numbers OpSpec
BagForm op = Made (One Name) (λ number bag. op)

pub reads_bag : {top slack : ℕ} (op : OpSpec) → IsReader top slack (BagForm op) Whatever (λ number left most. of_bag_at op)
unfolding of_bag_at
reads_bag op = make reads_one_name (λ number bag. op)

abbrev pub SumForm : Spelling Numbers OpSpec
SumForm = Bind (One Name) (Made (One Column) (λ q column. kind.Sum column))

pub reads_sum : {top slack : ℕ} → IsReader top slack SumForm Whatever (λ number left most. sum_at)
unfolding sum_at
reads_sum = then_any reads_one_name (make reads_one_column (λ q column. kind.Sum column))

abbrev pub RowForm : Spelling Numbers OpSpec
RowForm = Made Exprs (λ number exprs. kind.MakeRow exprs)

pub reads_row : {top slack : ℕ} → IsReader top slack RowForm Whatever (λ number left most. row_form_at number most)
unfolding row_form_at
reads_row = make reads_exprs (λ number exprs. kind.MakeRow exprs)

abbrev pub EmptyForm : Spelling Numbers OpSpec
EmptyForm = Made Types (λ number types. kind.Empty types)

pub reads_empty : {top slack : ℕ} → IsReader top slack EmptyForm Whatever (λ number left most. empty_at most)
unfolding empty_at
reads_empty = make reads_types (λ number types. kind.Empty types)

abbrev pub ScalarForm : Spelling Numbers OpSpec
ScalarForm = Made AnExpr (λ number e. copy_or_scalar e)

pub reads_scalar : {top slack : ℕ} → IsReader top slack ScalarForm EndsExpr (λ number left most. scalar_at number most)
unfolding scalar_at
reads_scalar = make reads_expr (λ number e. copy_or_scalar e)

-- ---- `write`, and a condition

abbrev WriteForm : Spelling Numbers OpSpec
WriteForm = AfterWord word.WRITE (Bind (One Name) (AfterWord word.TO (Made (λ q. AnExpr q.0) (λ q name. kind.Write name))))

-- the words of `write`, and of a condition, are those of the grammar
is_write : (number : Numbers) (op : OpSpec) (tokens : Kinds) → WriteForm number op tokens → SpellsWrite number op tokens
is_write number op tokens (both one (both (one {a = bag}) (both one (made x)))) = write_form bag x

write_is : (number : Numbers) (op : OpSpec) (tokens : Kinds) → SpellsWrite number op tokens → WriteForm number op tokens
write_is number op tokens (write_form bag x) = both one (both one (both one (made x)))

pub reads_write : {top slack : ℕ} → IsReader top slack SpellsWrite EndsExpr (λ number left most. write_form_at number most)
unfolding write_form_at
reads_write {slack = slack} = convert
    (after_word slack word.WRITE (omega arith) (then_any reads_one_name (after_word slack word.TO (omega arith) (make (along (λ q. q.0) reads_expr) (λ q name. kind.Write name)))))
    is_write write_is (λ next e. e) (λ number left most tokens. refl)

is_condition : (number : Numbers) (op : OpSpec) (tokens : Kinds) → Made AnExpr (λ number e. kind.Scalar e) number op tokens → SpellsCondition number op tokens
is_condition number op tokens (made x) = condition_form x

condition_is : (number : Numbers) (op : OpSpec) (tokens : Kinds) → SpellsCondition number op tokens → Made AnExpr (λ number e. kind.Scalar e) number op tokens
condition_is number op tokens (condition_form x) = made x

pub reads_condition : {top slack : ℕ} → IsReader top slack SpellsCondition EndsExpr (λ number left most. condition_at number most)
unfolding condition_at
reads_condition = convert (make reads_expr (λ number e. kind.Scalar e)) is_condition condition_is (λ next e. e) (λ number left most tokens. refl)
