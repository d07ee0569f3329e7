-- Lists of rows of numbers fit inputs of columns of integers.
use Rattle.std.proofs.Common.{◌≡◌, ◌<◌, ℕ, zero, suc, ◌+◌, List, [], ◌∷◌, ◌++◌, length, get_or, map, take, drop, replicate, add-one, ap, refl, subst, sym, ◌∙◌, arith}
use Rattle.std.proofs.Math.Seq.{take-suc}
use Rattle.std.proofs.lemmas.List.{length-map, map-append, take-append-drop}
use Rattle.std.proofs.lemmas.List.Elements.{All-append, All-map, All-replicate}
use Rattle.std.specs.List.{All, AllZip}
use Rattle.mit_rows.specs.Bags.{RowOf}
use Rattle.mit_rows.specs.declared.value.ColType.{ColType}
use Rattle.mit_rows.specs.declared.value.ColType.TheVariants as is
use Rattle.mit_ops.specs.Parts.{HaveColumns, input_columns}
use Rattle.mit_ops.specs.Results.{AreBags, IsBagType}
use Rattle.mit_ops.specs.declared.types.VarType.{VarType}

later : (rows : List RowOf) (lists : List (List RowOf)) → All (HaveColumns (is.Int ∷ [])) (rows ∷ lists) → All (HaveColumns (is.Int ∷ [])) lists
later rows lists numbers k d within = numbers (suc k) d (omega arith)

pub scalars_fit : (captures : ℕ) (lists : List (List RowOf)) → All (HaveColumns (is.Int ∷ [])) lists → length lists ≡ captures → AllZip HaveColumns (map (λ capture. capture ∷ []) (replicate captures is.Int)) lists
scalars_fit zero [] numbers count = tt
scalars_fit zero (rows ∷ lists) numbers count = absurd (omega arith)
scalars_fit (suc captures) [] numbers count = absurd (omega arith)
scalars_fit (suc captures) (rows ∷ lists) numbers count = (numbers 0 rows (omega arith), scalars_fit captures lists (later rows lists numbers) (omega arith))

pub both_fit : (columns others : List (List ColType)) (lists more : List (List RowOf)) → AllZip HaveColumns columns lists → AllZip HaveColumns others more → AllZip HaveColumns (columns ++ others) (lists ++ more)
both_fit [] others [] more fit fits = fits
both_fit [] others (rows ∷ lists) more fit fits = absurd fit
both_fit (these ∷ columns) others [] more fit fits = absurd fit
both_fit (these ∷ columns) others (rows ∷ lists) more fit fits = (fit.0, both_fit columns others lists more fit.1 fits)

pub bags_step : {X : Type 0} (rows_of : X → List RowOf) (lists : List X) (i : ℕ) (item : X) (bags after : List VarType) (bag : VarType) → i < length lists → item ≡ get_or lists i item → after ≡ bags ++ bag ∷ [] → IsBagType bag → HaveColumns bag.cols (rows_of item)
    → AreBags bags × AllZip HaveColumns (map (λ bag. bag.cols) bags) (map rows_of (take i lists)) → AreBags after × AllZip HaveColumns (map (λ bag. bag.cols) after) (map rows_of (take (i + 1) lists))
bags_step rows_of lists i item bags after bag within is pushed wide rows before =
    let taken : take (i + 1) lists ≡ take i lists ++ item ∷ [] = rw (add-one) (take-suc lists i item within ∙ ap (λ one. take i lists ++ one ∷ []) (sym is)) in
    rw (pushed, taken, map-append, map-append) (
      All-append IsBagType bags (bag ∷ []) before.0 (All-replicate IsBagType 1 bag wide),
      both_fit (map (λ bag. bag.cols) bags) (bag.cols ∷ []) (map rows_of (take i lists)) (rows_of item ∷ []) before.1 (rows, tt),
    )

pub inputs_fit : {X : Type 0} (rows_of : X → List RowOf) (lists front back : List X) (n : ℕ) (bags : List VarType) (captures : List ColType) (count : ℕ) → front ≡ take n lists → back ≡ drop n lists
    → AllZip HaveColumns (map (λ bag. bag.cols) bags) (map rows_of front) → All (λ one. HaveColumns (is.Int ∷ []) (rows_of one)) back → captures ≡ replicate count is.Int → length back ≡ count
    → AllZip HaveColumns (input_columns bags captures) (map rows_of lists)
inputs_fit rows_of lists front back n bags captures count is_front is_back fit numbers ints long =
    let scalars = scalars_fit count (map rows_of back) (All-map (HaveColumns (is.Int ∷ [])) rows_of back numbers) (rw length-map long) in
    subst (λ all. AllZip HaveColumns (input_columns bags captures) (map rows_of all)) (take-append-drop n lists) (rw map-append (both_fit (map (λ bag. bag.cols) bags) (map (λ capture. capture ∷ []) captures) (map rows_of (take n lists)) (map rows_of (drop n lists))
    (subst (λ some. AllZip HaveColumns (map (λ bag. bag.cols) bags) (map rows_of some)) is_front fit)
    (rw (ints, ← is_back) scalars)))

pub bags_count : {X : Type 0} (rows_of : X → List RowOf) (bags : List VarType) (lists : List X) → AllZip HaveColumns (map (λ bag. bag.cols) bags) (map rows_of lists) → length bags ≡ length lists
bags_count rows_of [] [] fit = refl
bags_count rows_of [] (one ∷ lists) fit = absurd fit
bags_count rows_of (bag ∷ bags) [] fit = absurd fit
bags_count rows_of (bag ∷ bags) (one ∷ lists) fit = let more : length bags ≡ length lists = bags_count rows_of bags lists fit.1 in omega arith
