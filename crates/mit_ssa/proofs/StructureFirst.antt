-- The first statement of an accepted script is no write, for nothing is assigned before it.
use Rattle.std.proofs.Common.{◌≡◌, ◌∙◌, ◌<◌, ◌+◌, ◌&&◌, ℕ, zero, suc, List, [], ◌∷◌, ◌++◌, length, map, not, ap, sym, subst, refl, arith, true, false, Ok, Err, Result, inl, inr}
use Rattle.std.specs.Prelude.{◌⊎◌, All, if◌then◌else◌, nat_lt}
use Rattle.std.specs.List.{flat_map, list_all}
use Rattle.std.proofs.lemmas.List.Elements.{All-head}
use Rattle.mit_ops.specs.Kinds.{bag_inputs_of, captures_of}
use Rattle.mit_ops.specs.declared.kinds.OpSpec.{OpSpec}
use Rattle.mit_ops.specs.declared.kinds.OpSpec.TheVariants as op
use Rattle.mit_ops.specs.declared.types.TheConstants.{MAX_CAPTURES}
use Rattle.mit_ops.specs.declared.types.VarType.{VarType}
use Rattle.mit_script.specs.Accepted.{Check, Fault, Known, and_then, at_start, fault_or, passed, captured_args, check_of, check_step, checked_body, in_order, is_assigned, judged, type_of, typed_by, typed_or_code, written_by}
use Rattle.mit_script.specs.Trees.{Head, IsFormedHead, assigns, decides, head_step, heads_in, is_write, writes}
use Rattle.mit_script.specs.declared.tree.Stmt.{Stmt, roll-Stmt}
use Rattle.mit_script.specs.declared.tree.Stmt.TheFolds.{fold-roll-Stmt, ind-Stmt, map-Stmt}
use Rattle.mit_script.specs.declared.tree.Stmt.TheOpen.{Stmt-F}
use Rattle.mit_script.specs.declared.tree.Stmt.TheOpen as layer
use Rattle.mit_script.specs.declared.typed.CheckCode.{CheckCode}
use Rattle.mit_script.specs.declared.typed.CheckCode.TheVariants.{NotScalar, TooLarge, Unassigned}
use Rattle.mit_ssa.proofs.StructureOperators.{Starts, all_front}

-- nothing is assigned
abbrev NothingIsSet : Known → Type 0
NothingIsSet known = (variable : ℕ) → is_assigned known.assigned variable ≡ false

none_at_start : (names : List (List ℕ)) (variable : ℕ) → is_assigned (map (λ _. false) names) variable ≡ false
none_at_start [] variable = refl
none_at_start (name ∷ names) zero = refl
none_at_start (name ∷ names) (suc variable) = none_at_start names variable

was_ok : {A B E : Type 0} (first : Result A E) (next : A → Result B E) (last : B) → and_then first next ≡ Ok last → (value : A) × (first ≡ Ok value)
was_ok (Ok value) next last is = (value, refl)
was_ok (Err fault) next last is = absurd (cc is)

write_takes : (operator : OpSpec) (args : List ℕ) → is_write operator ≡ true → length args ≡ bag_inputs_of operator + captures_of operator → 0 < length args
write_takes (op.Write name) args same complete = omega (arith, complete)
write_takes other args same complete = absurd (cc same)

write_refused : (operator : OpSpec) (args : List ℕ) (known next : Known) → NothingIsSet known → 0 < length args → written_by operator args known ≡ Ok next → ⊥
write_refused operator [] known next none some is = omega (arith, some)
write_refused operator (arg ∷ args) known next none some is = cc (sym refused ∙ is)
  where
    unassigned : list_all (is_assigned known.assigned) (arg ∷ args) ≡ false
    unassigned = ap (λ one. one && list_all (is_assigned known.assigned) args) (none arg)

    code : judged known operator (arg ∷ args) ≡ Err Unassigned
    code = ap (λ all.
        if not all then Err Unassigned
        else if not (list_all (λ variable. (type_of known variable).scalar) (captured_args operator (arg ∷ args))) then Err NotScalar
        else if nat_lt MAX_CAPTURES (length (captured_args operator (arg ∷ args))) then Err TooLarge
        else typed_or_code (typed_by known operator (arg ∷ args))) unassigned

    written : Result VarType CheckCode → Result Known Fault
    written found = and_then (fault_or known found) (λ type. Ok (passed known))

    refused : written_by operator (arg ∷ args) known ≡ Err (known.before + 1, Unassigned)
    refused = ap written code

abbrev Begins : Stmt → Type 0
Begins stmt =
    (variables : ℕ) (known next : Known) → NothingIsSet known → All (IsFormedHead variables) (heads_in stmt) → check_of stmt known ≡ Ok next → Starts (heads_in stmt)

rolled : (one : Stmt-F Stmt)
    → ((variables : ℕ) (known next : Known) → NothingIsSet known → All (IsFormedHead variables) (head_step (map-Stmt Stmt (List Head) heads_in one))
    → check_step (map-Stmt Stmt Check check_of one) known ≡ Ok next → Starts (head_step (map-Stmt Stmt (List Head) heads_in one)))
    → Begins (roll-Stmt one)
rolled one begins = rw (fold-roll-Stmt (List Head) head_step one, fold-roll-Stmt Check check_step one) begins

abbrev Proved : Type 0
Proved = (stmt : Stmt) × Begins stmt

abbrev only : Proved → Stmt
only proved = proved.0

layer_begins : (one : Stmt-F Proved) → Begins (roll-Stmt (map-Stmt Proved Stmt only one))
layer_begins (layer.Assign target operator args) = rolled (layer.Assign target operator args) (λ variables known next none formed is. tt)
layer_begins (layer.Write operator args) = rolled (layer.Write operator args) (λ variables known next none formed is.
    let head = All-head (IsFormedHead variables) (writes operator args) [] formed in
    write_refused operator args known next none (write_takes operator args head.0 head.1.complete) is)
layer_begins (layer.If operator args on_true on_false) =
    rolled (layer.If operator args (map only on_true) (map only on_false)) (λ variables known next none formed is. tt)
layer_begins (layer.While operator args body) = rolled (layer.While operator args (map only body)) (λ variables known next none formed is. tt)

one_begins : (stmt : Stmt) → Begins stmt
one_begins = ind-Stmt Begins (λ one inner same. subst (λ some. Begins (roll-Stmt some)) same (layer_begins inner))

starts_more : (heads more : List Head) → Starts heads → Starts (heads ++ more)
starts_more [] more starts = absurd starts
starts_more (assigns target operator args ∷ heads) more starts = tt
starts_more (writes operator args ∷ heads) more starts = starts
starts_more (decides operator args ∷ heads) more starts = tt

-- there is no statement, or the first one is no write
pub begins : (names : List (List ℕ)) (body : List Stmt) (types : List VarType) (variables : ℕ) → All (IsFormedHead variables) (flat_map heads_in body)
    → checked_body names body ≡ Ok types → (body ≡ []) ⊎ Starts (flat_map heads_in body)
begins names [] types variables formed is = inl refl
begins names (first ∷ later) types variables formed is =
    let all = was_ok (in_order (map check_of (first ∷ later)) (at_start names)) _ types is in
    let one = was_ok (check_of first (at_start names)) (in_order (map check_of later)) all.0 all.1 in
    inr (starts_more (heads_in first) (flat_map heads_in later)
    (one_begins first variables (at_start names) one.0 (none_at_start names) (all_front (IsFormedHead variables) (heads_in first) (flat_map heads_in later) formed) one.1))
