-- A copy gives the bag that it takes, since bags stand in order.
use Rattle.std.proofs.Common.{◌≡◌, ◌∙◌, ℕ, List, [], ◌∷◌, map, ap, sym, subst, refl, Option, Some, None, Ok}
use Rattle.std.specs.Prelude.{option_and_then, option_map}
use Rattle.std.specs.List.{range_with_len}
use Rattle.std.proofs.lemmas.List.{append-nil}
use Rattle.mit_rows.specs.Bags.{BagOf, IsBag, RowOf, all_rows, bag_of, bag_sum}
use Rattle.mit_files.specs.Files.{FileMap}
use Rattle.mit_ops.specs.Answers.{at_row, over}
use Rattle.mit_ops.specs.Operators.{captured, whole}
use Rattle.mit_ops.specs.declared.kinds.OpSpec.TheVariants as op
use Rattle.mit_plan.specs.Chosen.{Choice, chosen, input_numbers}
use Rattle.mit_plan.specs.Held.{History, Job, all_there, op_of}
use Rattle.mit_plan.specs.Sums.{TakesBags, bag_taken}
use Rattle.mit_meaning.proofs.PlanLaws.{PlanLaws}

-- rows that are given one by one
rows_copied : PlanLaws → (rows : List RowOf) → over (λ row. at_row row (Ok (row ∷ []))) rows ≡ Ok (bag_of rows)
unfolding over bag_of
rows_copied laws [] = refl
rows_copied laws (row ∷ rows) =
    let rest = rows_copied laws rows in
    let same = laws.sorted rows in
    cc

-- a copy of the whole bag
pub whole_copy : PlanLaws → (files : FileMap) (bag : BagOf) → IsBag bag → whole op.Copy (bag ∷ []) files ≡ Ok bag
unfolding captured all_rows
whole_copy laws files bag sorted =
    ap (over (λ row. at_row row (Ok (row ∷ [])))) (append-nil bag) ∙ rows_copied laws bag ∙ ap (λ rows. Ok rows) (sym sorted)

-- where all are there, the first one is
first_there : {A : Type 0} (f : ℕ → Option A) (xs : List ℕ) (one : A) (later : List A) → all_there (map f xs) ≡ Some (one ∷ later) → (x : ℕ) × (f x ≡ Some one)
unfolding all_there
first_there f [] one later all = absurd cc
first_there {A} f (x ∷ xs) one later all = (x, by_parts (f x) (all_there (map f xs)) all)
  where
    by_parts : (first : Option A) (rest : Option (List A)) → option_and_then (λ a. option_map (λ more. a ∷ more) rest) first ≡ Some (one ∷ later) → first ≡ Some one
    by_parts None rest is = absurd cc
    by_parts (Some a) None is = absurd cc
    by_parts (Some a) (Some more) is = cc

-- a sum of bags stands in order
summed : PlanLaws → (all : Option (List BagOf)) (bag : BagOf) → option_map bag_sum all ≡ Some bag → IsBag bag
summed laws None bag is = absurd cc
summed laws (Some bags) bag is = let e : bag_sum bags ≡ bag = cc in subst IsBag e (laws.sorted (all_rows bags))

taken_sorted : PlanLaws → (job : Job) (history : History) (found : Option Choice) (bag : BagOf) → bag_taken job history found ≡ Some bag → IsBag bag
taken_sorted laws job history None bag is = absurd cc
taken_sorted laws job history (Some choice) bag is =
    summed laws (all_there (map _ (range_with_len 0 job.partitions))) bag is

-- a bag that is taken stands in order
pub taken_bag : PlanLaws → (job : Job) (history : History) (place index : ℕ) (columns : ℕ → ℕ) (bag : BagOf) → TakesBags job history place index columns (bag ∷ []) → IsBag bag
taken_bag laws job history place index columns bag takes =
    let op_here = op_of job.plan history.path place index in
    let one = first_there (λ input. bag_taken job history (chosen job.plan history.path op_here input place)) (input_numbers job.plan op_here) bag [] takes.takes in
    taken_sorted laws job history (chosen job.plan history.path op_here one.0 place) bag one.1
