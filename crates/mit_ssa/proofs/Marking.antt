-- What statements mark.
use Rattle.std.proofs.Common.{◌≡◌, ◌∙◌, ◌<◌, ◌≤◌, ◌+◌, ℕ, List, ◌∷◌, length, get_or, drop, map, ap, sym, ◌||◌}
use Rattle.std.proofs.lemmas.List.{drop_all, drop_more}
use Rattle.mit_ops.specs.declared.kinds.OpSpec.{OpSpec}
use Rattle.mit_ops.specs.declared.types.VarType.{VarType}
use Rattle.mit_script.specs.declared.tree.Stmt.{Stmt}
use Rattle.mit_script.specs.declared.tree.Stmt.TheVariants as stmt
use Rattle.mit_ssa.specs.Weaving.{has_mark}
use Rattle.mit_ssa.specs.Woven.{Weave, assigned_in, weave_of}
use Rattle.mit_ssa.proofs.Counted.{weave_of-If, weave_of-While}
use Rattle.mit_ssa.proofs.Looking.{or_assoc, or_false}

-- those of a block come to the marks
abbrev pub Marks : List ℕ → List ℕ → List Stmt → Type 0
Marks old new block = (types : List VarType) (variable : ℕ) → has_mark new variable ≡ (has_mark old variable || assigned_in (map (weave_of types) block) variable)

-- the marks so far and what is left give the whole
abbrev pub MarksSoFar : List ℕ → List ℕ → List Stmt → ℕ → Type 0
MarksSoFar old now block index = (types : List VarType) (variable : ℕ) →
    (has_mark now variable || assigned_in (map (weave_of types) (drop index block)) variable)
    ≡ (has_mark old variable || assigned_in (map (weave_of types) block) variable)

pub marks_more : (block : List Stmt) (index : ℕ) (stmt : Stmt) (old now new : List ℕ) → index < length block → stmt ≡ get_or block index stmt
    → MarksSoFar old now block index
    → ((types : List VarType) (variable : ℕ) → has_mark new variable ≡ (has_mark now variable || (weave_of types stmt).assigns variable))
    → MarksSoFar old new block (index + 1)
marks_more block index stmt old now new within is so_far one types variable =
    ap (λ m. m || assigned_in (map (weave_of types) (drop (index + 1) block)) variable) (one types variable)
    ∙ (or_assoc (has_mark now variable) ((weave_of types stmt).assigns variable) (assigned_in (map (weave_of types) (drop (index + 1) block)) variable)
    ∙ (ap (λ some. has_mark now variable || assigned_in (map (weave_of types) (some ∷ drop (index + 1) block)) variable) is
    ∙ (ap (λ list. has_mark now variable || assigned_in (map (weave_of types) list) variable) (sym (drop_more block index stmt within))
    ∙ so_far types variable)))

pub marks_all : (block : List Stmt) (index : ℕ) (old now : List ℕ) → length block ≤ index → MarksSoFar old now block index → Marks old now block
marks_all block index old now past so_far types variable =
    or_false (has_mark now variable)
    ∙ (ap (λ list. has_mark now variable || assigned_in (map (weave_of types) list) variable) (sym (drop_all index block past)) ∙ so_far types variable)

pub marks_if : (operator : OpSpec) (args : List ℕ) (on_true on_false on_true' on_false' : List Stmt) (some : Stmt) (old one two : List ℕ)
    → some ≡ stmt.If operator args on_true on_false → on_true' ≡ on_true → on_false' ≡ on_false → Marks old one on_true' → Marks one two on_false'
    → (types : List VarType) (variable : ℕ) → has_mark two variable ≡ (has_mark old variable || (weave_of types some).assigns variable)
marks_if operator args on_true on_false on_true' on_false' some old one two is same same' first second types variable =
    second types variable
    ∙ (ap (λ m. m || assigned_in (map (weave_of types) on_false') variable) (first types variable)
    ∙ (or_assoc (has_mark old variable) (assigned_in (map (weave_of types) on_true') variable) (assigned_in (map (weave_of types) on_false') variable)
    ∙ ((λ i. has_mark old variable || (assigned_in (map (weave_of types) (same i)) variable || assigned_in (map (weave_of types) (same' i)) variable))
    ∙ ap (λ (weave : Weave). has_mark old variable || weave.assigns variable) (sym (ap (weave_of types) is ∙ weave_of-If types operator args on_true on_false)))))

pub marks_while : (operator : OpSpec) (args : List ℕ) (body body' : List Stmt) (some : Stmt) (old one : List ℕ)
    → some ≡ stmt.While operator args body → body' ≡ body → Marks old one body'
    → (types : List VarType) (variable : ℕ) → has_mark one variable ≡ (has_mark old variable || (weave_of types some).assigns variable)
marks_while operator args body body' some old one is same first types variable =
    first types variable
    ∙ (ap (λ list. has_mark old variable || assigned_in (map (weave_of types) list) variable) same
    ∙ ap (λ (weave : Weave). has_mark old variable || weave.assigns variable) (sym (ap (weave_of types) is ∙ weave_of-While types operator args body)))
