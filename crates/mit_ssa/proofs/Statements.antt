-- What a statement adds, by its kind.
use Rattle.std.proofs.Common.{◌≡◌, ◌∙◌, ◌+◌, ℕ, List, [], map, ap, sym, subst, arith, ◌||◌, None}
use Rattle.mit_ops.specs.declared.kinds.OpSpec.{OpSpec}
use Rattle.mit_ops.specs.declared.types.VarType.{VarType}
use Rattle.mit_script.specs.declared.tree.Stmt.{Stmt}
use Rattle.mit_script.specs.declared.tree.Stmt.TheVariants as stmt
use Rattle.mit_ssa.specs.Weaving.{StopsWeaving, Weaves, builder_place, has_mark, split}
use Rattle.mit_ssa.specs.Woven.{Weave, assigned_in, done, weave_adds, weave_counts, weave_of}
use Rattle.mit_ssa.specs.declared.build.Builder.{Builder}
use Rattle.mit_ssa.specs.declared.stop.PlanStop.{PlanStop}
use Rattle.mit_ssa.proofs.Counted.{one_counted, weave_of-If}
use Rattle.mit_ssa.proofs.Laid.{branched_laid, stops_more}
use Rattle.mit_ssa.proofs.Marking.{Marks}

pub if_woven : (types : List VarType) (operator : OpSpec) (args args' : List ℕ) (on_true on_false on_true' on_false' : List Stmt) (some : Stmt) (before condition new : Builder)
    → some ≡ stmt.If operator args on_true on_false → args' ≡ args → on_true' ≡ on_true → on_false' ≡ on_false
    → Weaves 1 0 (done types None operator args' (builder_place before)) before condition
    → Weaves (weave_counts (map (weave_of types) on_true') + weave_counts (map (weave_of types) on_false'))
    (3 + weave_adds (map (weave_of types) on_true') + weave_adds (map (weave_of types) on_false'))
    (split types (map (weave_of types) on_true') (map (weave_of types) on_false') (builder_place condition)) condition new
    → Weaves (weave_of types some).count (weave_of types some).added ((weave_of types some).weave (builder_place before)) before new
if_woven types operator args args' on_true on_false on_true' on_false' some before condition new is same_args same same' first later =
    subst (λ (weave : Weave). Weaves weave.count weave.added (weave.weave (builder_place before)) before new)
    (sym (ap (weave_of types) is ∙ weave_of-If types operator args on_true on_false))
    (branched_laid types operator args (map (weave_of types) on_true) (map (weave_of types) on_false) before condition new
    (subst (λ list. Weaves 1 0 (done types None operator list (builder_place before)) before condition) same_args first)
    (subst (λ list. Weaves (weave_counts (map (weave_of types) on_true) + weave_counts (map (weave_of types) list)) (3 + weave_adds (map (weave_of types) on_true) + weave_adds (map (weave_of types) list))
    (split types (map (weave_of types) on_true) (map (weave_of types) list) (builder_place condition)) condition new) same'
    (subst (λ list. Weaves (weave_counts (map (weave_of types) list) + weave_counts (map (weave_of types) on_false')) (3 + weave_adds (map (weave_of types) list) + weave_adds (map (weave_of types) on_false'))
    (split types (map (weave_of types) list) (map (weave_of types) on_false') (builder_place condition)) condition new) same later)))

pub condition_stops : (types : List VarType) (operator : OpSpec) (args : List ℕ) (on_true on_false : List Stmt) (some : Stmt) (before : Builder) (stop : PlanStop)
    → some ≡ stmt.If operator args on_true on_false → StopsWeaving (before.operator + 1) stop → StopsWeaving ((weave_of types some).weave (builder_place before)).operator stop
condition_stops types operator args on_true on_false some before stop is stops =
    let a = (one_counted types some).grows (builder_place before) in
    let b = ap (λ (weave : Weave). weave.count) (ap (weave_of types) is ∙ weave_of-If types operator args on_true on_false) in
    stops_more (before.operator + 1) ((weave_of types some).weave (builder_place before)).operator stop (omega (arith, a, b)) stops

-- marks from nothing
pub both_marked : (types : List VarType) (none one two marks : List ℕ) (on_true on_false : List Stmt) → none ≡ [] → Marks none one on_true → Marks one two on_false
    → ((variable : ℕ) → has_mark marks variable ≡ has_mark two variable)
    → (variable : ℕ) → has_mark marks variable ≡ (assigned_in (map (weave_of types) on_true) variable || assigned_in (map (weave_of types) on_false) variable)
both_marked types none one two marks on_true on_false empty first second are variable =
    are variable
    ∙ (second types variable
    ∙ ap (λ m. m || assigned_in (map (weave_of types) on_false) variable)
    (first types variable ∙ ap (λ list. has_mark list variable || assigned_in (map (weave_of types) on_true) variable) empty))

pub one_marked : (types : List VarType) (none one marks : List ℕ) (body : List Stmt) → none ≡ [] → Marks none one body
    → ((variable : ℕ) → has_mark marks variable ≡ has_mark one variable)
    → (variable : ℕ) → has_mark marks variable ≡ assigned_in (map (weave_of types) body) variable
one_marked types none one marks body empty first are variable =
    are variable
    ∙ (first types variable ∙ ap (λ list. has_mark list variable || assigned_in (map (weave_of types) body) variable) empty)
