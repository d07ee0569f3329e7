-- The fronts of texts, where they differ, are ordered as the texts are.
--     fronts_decide      two fronts that differ are ordered as the rows that they lead
use Rattle.std.proofs.Common.{◌≡◌, ℕ, zero, suc, ◌+◌, ◌*◌, ◌<◌, ◌≤◌, List, [], ◌∷◌, refl, ap, sym, subst, ◌∙◌, arith}
use Rattle.std.specs.Cmp.{nat_cmp_is, ranks}
use Rattle.std.specs.Ordering.{MatchOrdering, nat_cmp, ordering_then}
use Rattle.std.specs.declared.cmp.Ordering.{Ordering}
use Rattle.std.specs.declared.cmp.Ordering.TheVariants.{Less, Equal, Greater}
use Rattle.mit_rows.specs.declared.value.Value.{Value}
use Rattle.mit_rows.specs.declared.value.Value.TheVariants.{Int, Text, Bool as Truth}
use Rattle.mit_rows.specs.Order.{row_cmp, text_cmp}
use Rattle.mit_rows.specs.Stored.{IsFront, IsFrontOf}

-- what the numbers before tell apart, their fronts do
rises : (count before after front back : ℕ) (first second : List ℕ) → IsFront count before first front → IsFront count after second back
    → before < after → front < back
rises zero before after front back first second f g lt = omega (arith, f, g)
rises (suc count) before after front back [] [] f g lt = rises count (before * 256) (after * 256) front back [] [] f g (omega arith)
rises (suc count) before after front back [] (b ∷ second) f g lt = rises count (before * 256) (after * 256 + b) front back [] second f g.1 (omega arith)
rises (suc count) before after front back (a ∷ first) [] f g lt =
    let small = f.0 in rises count (before * 256 + a) (after * 256) front back first [] f.1 g (omega (arith, small))
rises (suc count) before after front back (a ∷ first) (b ∷ second) f g lt =
    let small = f.0 in rises count (before * 256 + a) (after * 256 + b) front back first second f.1 g.1 (omega (arith, small))

-- no bytes give the least front
least : (count before after front back : ℕ) (second : List ℕ) → IsFront count before [] front → IsFront count after second back → before ≤ after → front ≤ back
least zero before after front back second f g le = omega (arith, f, g)
least (suc count) before after front back [] f g le = least count (before * 256) (after * 256) front back [] f g (omega arith)
least (suc count) before after front back (b ∷ second) f g le = least count (before * 256) (after * 256 + b) front back second f g.1 (omega arith)

below : (front back : ℕ) → front < back → nat_cmp front back ≡ Less
below front back lt = sym (nat_cmp_is front back Less lt)

above : (front back : ℕ) → back < front → nat_cmp front back ≡ Greater
above front back lt = sym (nat_cmp_is front back Greater lt)

front_cmp : (count before front back : ℕ) (first second : List ℕ) → IsFront count before first front → IsFront count before second back
    → (front ≡ back → ⊥) → nat_cmp front back ≡ text_cmp first second
front_cmp zero before front back first second f g differ = absurd (differ (f ∙ sym g))
front_cmp (suc count) before front back [] [] f g differ = front_cmp count (before * 256) front back [] [] f g differ
front_cmp (suc count) before front back [] (b ∷ second) f g differ =
    let le = least count (before * 256) (before * 256 + b) front back second f g.1 (omega arith) in
    below front back (omega (arith, le, differ))
front_cmp (suc count) before front back (a ∷ first) [] f g differ =
    let le = least count (before * 256) (before * 256 + a) back front first g f.1 (omega arith) in
    above front back (omega (arith, le, differ))
front_cmp (suc count) before front back (a ∷ first) (b ∷ second) f g differ =
    by (λ later. front_cmp count (before * 256 + a) front back first second f.1 later differ) (nat_cmp a b) refl (ranks a b)
  where
    by : (IsFront count (before * 256 + a) second back → nat_cmp front back ≡ text_cmp first second)
        → (r : Ordering) → nat_cmp a b ≡ r → MatchOrdering r (a < b) (a ≡ b) (b < a) → nat_cmp front back ≡ text_cmp (a ∷ first) (b ∷ second)
    by later Less e lt =
        below front back (rises count (before * 256 + a) (before * 256 + b) front back first second f.1 g.1 (omega (arith, lt)))
        ∙ sym (ap (λ r. ordering_then r (text_cmp first second)) e)
    by later Equal e same =
        later (subst (λ c. IsFront count (before * 256 + c) second back) (sym same) g.1)
        ∙ sym (ap (λ r. ordering_then r (text_cmp first second)) e)
    by later Greater e lt =
        above front back (rises count (before * 256 + b) (before * 256 + a) back front second first g.1 f.1 (omega (arith, lt)))
        ∙ sym (ap (λ r. ordering_then r (text_cmp first second)) e)

-- a first pair that differs decides two rows
decided : (r o : Ordering) → (r ≡ Equal → ⊥) → ordering_then r o ≡ r
decided Less o apart = refl
decided Equal o apart = absurd (apart refl)
decided Greater o apart = refl

apart_of : (front back : ℕ) → (front ≡ back → ⊥) → nat_cmp front back ≡ Equal → ⊥
apart_of front back differ e = differ (subst (λ r. MatchOrdering r (front < back) (front ≡ back) (back < front)) e (ranks front back))

pub fronts_decide : (front back : ℕ) (first second : List Value) → IsFrontOf front first → IsFrontOf back second → (front ≡ back → ⊥)
    → nat_cmp front back ≡ row_cmp first second
fronts_decide front back [] second f g differ = absurd f
fronts_decide front back (Int number ∷ first) second f g differ = absurd f
fronts_decide front back (Truth truth ∷ first) second f g differ = absurd f
fronts_decide front back (Text words ∷ first) [] f g differ = absurd g
fronts_decide front back (Text words ∷ first) (Int number ∷ second) f g differ = absurd g
fronts_decide front back (Text words ∷ first) (Truth truth ∷ second) f g differ = absurd g
fronts_decide front back (Text words ∷ first) (Text others ∷ second) f g differ =
    let texts : nat_cmp front back ≡ text_cmp words others = front_cmp 8 0 front back words others f g differ in
    texts ∙ sym (decided (text_cmp words others) (row_cmp first second) (λ e. apart_of front back differ (texts ∙ e)))
