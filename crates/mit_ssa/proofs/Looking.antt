-- Lists that stand for functions of variables.
use Rattle.std.proofs.Common.{◌≡◌, ◌<◌, ◌≢◌, ℕ, zero, suc, List, [], ◌∷◌, ◌++◌, length, get_or, set, Bool, true, false, cond, eqb, ◌||◌, ◌⊎◌, Option, None, inl, inr, refl, sym, ap, ◌∙◌}
use Rattle.std.proofs.lemmas.Bool.Decides.{eqb_tells}
use Rattle.std.proofs.lemmas.List.{get_or-set_same, get_or-set_other}
use Rattle.std.proofs.lemmas.Option.{unwrap_or-slice_get}
use Rattle.std.proofs.Math.Seq.{get_or-append_seam}
use Rattle.mit_ssa.specs.Weaving.{has_mark, looked, putting}

-- ---- what stands at a place of a longer list

pushed_default : {A : Type 0} (xs : List A) (v : ℕ) (d : A) → get_or (xs ++ d ∷ []) v d ≡ get_or xs v d
pushed_default [] zero d = refl
pushed_default [] (suc v) d = refl
pushed_default (x ∷ xs) zero d = refl
pushed_default (x ∷ xs) (suc v) d = pushed_default xs v d

pushed_other : {A : Type 0} (xs : List A) (y : A) (v : ℕ) (d : A) → v ≢ length xs → get_or (xs ++ y ∷ []) v d ≡ get_or xs v d
pushed_other [] y zero d other = absurd (other refl)
pushed_other [] y (suc v) d other = refl
pushed_other (x ∷ xs) y zero d other = refl
pushed_other (x ∷ xs) y (suc v) d other = pushed_other xs y v d (λ same. other (ap suc same))

-- ---- definitions

pub looked_is : (xs : List (Option ℕ)) (variable : ℕ) → looked xs variable ≡ get_or xs variable None
looked_is xs variable = unwrap_or-slice_get xs variable None

by_place : (xs ys : List (Option ℕ)) → ((variable : ℕ) → get_or xs variable None ≡ get_or ys variable None) → looked xs ≡ looked ys
by_place xs ys same = λ i variable. (looked_is xs variable ∙ (same variable ∙ sym (looked_is ys variable))) i

pub looked_none : (xs : List (Option ℕ)) → looked (xs ++ None ∷ []) ≡ looked xs
looked_none xs = by_place (xs ++ None ∷ []) xs (λ variable. pushed_default xs variable None)

-- one place has this value, and the others are as before
puts_at : (xs ys : List (Option ℕ)) (variable : ℕ) (value : Option ℕ) (other : ℕ) → get_or ys variable None ≡ value
    → (other ≢ variable → get_or ys other None ≡ get_or xs other None)
    → looked ys other ≡ cond (eqb other variable) value (looked xs other)
puts_at xs ys variable value other is stays = by_test (eqb_tells other variable)
  where
    by_test : ((eqb other variable ≡ true) × (other ≡ variable)) ⊎ ((eqb other variable ≡ false) × (other ≢ variable))
        → looked ys other ≡ cond (eqb other variable) value (looked xs other)
    by_test (inl same) =
        looked_is ys other ∙ (ap (λ v. get_or ys v None) same.1 ∙ (is ∙ ap (λ t. cond t value (looked xs other)) (sym same.0)))
    by_test (inr not) =
        looked_is ys other ∙ (stays not.1 ∙ (sym (looked_is xs other) ∙ ap (λ t. cond t value (looked xs other)) (sym not.0)))

puts : (xs ys : List (Option ℕ)) (variable : ℕ) (value : Option ℕ) → get_or ys variable None ≡ value
    → ((other : ℕ) → other ≢ variable → get_or ys other None ≡ get_or xs other None) → looked ys ≡ putting (looked xs) variable value
puts xs ys variable value is stays = λ i other. puts_at xs ys variable value other is (stays other) i

pub looked_push : (xs : List (Option ℕ)) (variable : ℕ) (value : Option ℕ) → length xs ≡ variable
    → looked (xs ++ value ∷ []) ≡ putting (looked xs) variable value
looked_push xs variable value size =
    puts xs (xs ++ value ∷ []) variable value
    (ap (λ v. get_or (xs ++ value ∷ []) v None) (sym size) ∙ get_or-append_seam xs value [] None)
    (λ other not. pushed_other xs value other None (λ same. not (same ∙ size)))

pub looked_set : (xs : List (Option ℕ)) (variable : ℕ) (value : Option ℕ) → variable < length xs
    → looked (set xs variable value) ≡ putting (looked xs) variable value
looked_set xs variable value within =
    puts xs (set xs variable value) variable value (get_or-set_same xs variable value None within)
    (λ other not. get_or-set_other xs variable other value None not)

-- ---- marks

pub or_false : (is : Bool) → is ≡ (is || false)
or_false true = refl
or_false false = refl

pub or_assoc : (a b c : Bool) → ((a || b) || c) ≡ (a || (b || c))
or_assoc true b c = refl
or_assoc false b c = refl

-- one more mark
pub marked_push : (xs : List ℕ) (variable other : ℕ) → has_mark (xs ++ variable ∷ []) other ≡ (has_mark xs other || eqb other variable)
marked_push [] variable other = sym (or_false (eqb other variable))
marked_push (x ∷ xs) variable other =
    ap (λ m. eqb other x || m) (marked_push xs variable other) ∙ sym (or_assoc (eqb other x) (has_mark xs other) (eqb other variable))
