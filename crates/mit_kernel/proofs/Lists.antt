-- Lists of rows with one row more, or emptied where they are not kept.
use Rattle.std.proofs.Common.{◌≡◌, ℕ, zero, suc, ◌<◌, ◌≤◌, Bool, true, false, if◌then◌else◌, List, [], ◌∷◌, ◌++◌, length, take, get_or, set, min, arith, refl, ap}
use Rattle.std.proofs.lemmas.List.Elements.{All-contains_itself, All-nil}
use Rattle.std.specs.List.{All, AllZip, Contains}
use Rattle.mit_rows.specs.Bags.{RowOf}
use Rattle.mit_kernel.specs.Meaning.{kept_lists, with_row}

pub with_row-set : (lists : List (List RowOf)) (input : ℕ) (row : RowOf) (other : List RowOf) → input < length lists → with_row lists input row ≡ set lists input (get_or lists input other ++ row ∷ [])
with_row-set [] input row other within = absurd (omega arith)
with_row-set (rows ∷ later) zero row other within = refl
with_row-set (rows ∷ later) (suc input) row other within = ap (λ l. rows ∷ l) (with_row-set later input row other (omega arith))

pub kept_none : (lists : List (List RowOf)) → kept_lists [] lists ≡ lists
kept_none [] = refl
kept_none (rows ∷ later) = refl

-- one more flag
pub kept_stays : (at : ℕ) (keep : List Bool) (lists : List (List RowOf)) (other : Bool) → at < length keep → get_or keep at other ≡ true → kept_lists (take (suc at) keep) lists ≡ kept_lists (take at keep) lists
kept_stays at keep [] other within stays = refl
kept_stays at [] (rows ∷ later) other within stays = absurd (omega arith)
kept_stays zero (flag ∷ keep) (rows ∷ later) other within stays = rw stays (ap (λ l. rows ∷ l) (kept_none later))
kept_stays (suc at) (flag ∷ keep) (rows ∷ later) other within stays =
    ap (λ l. (if flag then rows else []) ∷ l) (kept_stays at keep later other (omega arith) stays)

pub kept_goes : (at : ℕ) (keep : List Bool) (lists : List (List RowOf)) (other : Bool) → at < length keep → get_or keep at other ≡ false → kept_lists (take (suc at) keep) lists ≡ set (kept_lists (take at keep) lists) at []
kept_goes at keep [] other within goes = refl
kept_goes at [] (rows ∷ later) other within goes = absurd (omega arith)
kept_goes zero (flag ∷ keep) (rows ∷ later) other within goes = rw goes (ap (λ l. [] ∷ l) (kept_none later))
kept_goes (suc at) (flag ∷ keep) (rows ∷ later) other within goes =
    ap (λ l. (if flag then rows else []) ∷ l) (kept_goes at keep later other (omega arith) goes)

pub kept_all : (count : ℕ) (keep : List Bool) (lists : List (List RowOf)) → min (length keep) (length lists) ≤ count → kept_lists (take count keep) lists ≡ kept_lists keep lists
kept_all count keep [] enough = refl
kept_all zero [] (rows ∷ later) enough = refl
kept_all (suc count) [] (rows ∷ later) enough = refl
kept_all zero (flag ∷ keep) (rows ∷ later) enough = absurd (omega arith)
kept_all (suc count) (flag ∷ keep) (rows ∷ later) enough =
    ap (λ l. (if flag then rows else []) ∷ l) (kept_all count keep later (omega arith))

-- each row that is kept was there
if_kept : (flag : Bool) (rows : List RowOf) → All (Contains rows) (if flag then rows else [])
if_kept true rows = All-contains_itself rows
if_kept false rows = All-nil (Contains rows)

pub kept_among : (keep : List Bool) (lists : List (List RowOf)) → AllZip (λ fewer all. All (Contains all) fewer) (kept_lists keep lists) lists
kept_among keep [] = tt
kept_among [] (rows ∷ later) = (if_kept true rows, kept_among_all later)
  where
    kept_among_all : (lists : List (List RowOf)) → AllZip (λ fewer all. All (Contains all) fewer) lists lists
    kept_among_all [] = tt
    kept_among_all (rows ∷ later) = (if_kept true rows, kept_among_all later)
kept_among (flag ∷ keep) (rows ∷ later) = (if_kept flag rows, kept_among keep later)
