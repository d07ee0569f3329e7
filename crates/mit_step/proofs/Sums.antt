-- Answers and totals, one row after another.
use Rattle.std.proofs.Common.{◌≡◌, ℕ, ◌+◌, ◌<◌, IsSome, List, [], ◌∷◌, ◌++◌, Some, slice_get, length, take, get_or, refl, sym, ◌∙◌, ◌≤◌, ap, rules, subst, Ok, Err}
use Rattle.std.proofs.lemmas.List.{take_all, take_more}
use Rattle.mit_rows.specs.declared.value.ColType.{ColType}
use Rattle.mit_rows.specs.declared.value.ColType.TheVariants as is
use Rattle.mit_rows.specs.Bags.{BagOf, RowOf, bag_of}
use Rattle.mit_ops.specs.Answers.{BagOrFault, both, over}
use Rattle.mit_ops.specs.Results.{agg_type}
use Rattle.mit_ops.specs.declared.faults.OpFault.{OpFault}
use Rattle.mit_ops.specs.declared.kinds.Agg.TheVariants as agg
use Rattle.mit_step.specs.Gathered.{Gathered}

-- what the law of adding up tells
abbrev pub More : Type 0 → Type 0
More X = (answer : X → BagOrFault) (xs : List X) (x : X) → over answer (xs ++ x ∷ []) ≡ both (over answer xs) (answer x)

pub over_start : {X : Type 0} (f : X → BagOrFault) → over f [] ≡ Ok []
unfolding over
over_start f = refl

pub take_next : {X : Type 0} (xs : List X) (i : ℕ) (x : X) → i < length xs → x ≡ get_or xs i x → take (i + 1) xs ≡ take i xs ++ x ∷ []
take_next xs i x within at = take_more xs i x within ∙ ap (λ y. take i xs ++ y ∷ []) (sym at)

pub over_step : {X : Type 0} (f : X → BagOrFault) (xs : List X) (i : ℕ) (x : X) (old new : BagOrFault) → More X → i < length xs → x ≡ get_or xs i x
    → old ≡ over f (take i xs) → new ≡ both old (f x) → new ≡ over f (take (i + 1) xs)
over_step f xs i x old new more within at is e = rw (take_next xs i x within at, more f (take i xs) x, ← is) e

-- ---- rows and faults that are kept apart

pub gathered_step : {X : Type 0} (f : X → BagOrFault) (xs : List X) (i : ℕ) (x : X) (rows : List RowOf) (faults : BagOrFault) → More X → i < length xs → x ≡ get_or xs i x
    → Gathered rows faults (both (over f (take i xs)) (f x)) → Gathered rows faults (over f (take (i + 1) xs))
gathered_step f xs i x rows faults more within at =
    subst (Gathered rows faults) (over_step f xs i x (over f (take i xs)) (both (over f (take i xs)) (f x)) more within at refl refl)

pub gathered_all : {X : Type 0} (f : X → BagOrFault) (xs : List X) (i : ℕ) (rows : List RowOf) (faults : BagOrFault) → length xs ≤ i
    → Gathered rows faults (over f (take i xs)) → Gathered rows faults (over f xs)
gathered_all f xs i rows faults all = subst (λ ys. Gathered rows faults (over f ys)) (take_all i xs all)

pub gathered_rows : (rows : List RowOf) (faults due : BagOrFault) (more : BagOf) → faults ≡ Ok more → Gathered rows faults due → due ≡ Ok (bag_of rows)
gathered_rows rows faults due more is gathered =
    let apart : Gathered rows (Ok more) due = subst (λ f. Gathered rows f due) is gathered in apart.1

pub gathered_fault : (rows : List RowOf) (faults due : BagOrFault) (fault : OpFault) → faults ≡ Err fault → Gathered rows faults due → due ≡ Err fault
gathered_fault rows faults due fault is = subst (λ f. Gathered rows f due) is

-- a column of integers has a sum
pub sum_typed : (columns : List ColType) (column : ℕ) → slice_get columns column ≡ Some is.Int → IsSome (agg_type (agg.Sum column) columns)
sum_typed columns column e = rw e (search rules)
