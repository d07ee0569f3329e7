-- Sums over the partitions.
--     over_split      what each element gives, summed in the partition to which it goes, is the sum over all
--     sum_first      the sum where only partition 0 answers
use Rattle.std.proofs.Common.{◌≡◌, ℕ, zero, suc, ◌<◌, ◌≤◌, Bool, true, false, List, [], ◌∷◌, refl, ap, sym, ◌∙◌, arith, if◌then◌else◌, Ok, Err, eqb, inl, inr}
use Rattle.std.specs.List.{filter}
use Rattle.std.proofs.lemmas.Bool.{cases_eq, eq-eqb, ne_eqb}
use Rattle.mit_rows.specs.Bags.{bag_of}
use Rattle.mit_ops.specs.Answers.{BagOrFault, both, over, settled}
use Rattle.mit_ops.specs.Parts.{sum_parts}
use Rattle.mit_op_laws.proofs.AnswerSums.{both_assoc, both_none, both_swap, none}
use Rattle.mit_op_laws.proofs.RowLaws.{RowLaws}

pub sum_parts_same : (g h : ℕ → BagOrFault) (parts : ℕ) → ((part : ℕ) → part < parts → g part ≡ h part) → sum_parts g parts ≡ sum_parts h parts
unfolding sum_parts
sum_parts_same g h zero e = refl
sum_parts_same g h (suc n) e = ap (λ t. both t (sum_parts g n)) (e n (omega arith)) ∙ ap (both (h n)) (sum_parts_same g h n (λ part l. e part (omega arith)))

pub sum_parts_none : (parts : ℕ) → sum_parts (λ part. none) parts ≡ none
unfolding sum_parts bag_of
sum_parts_none zero = refl
sum_parts_none (suc n) = ap (both none) (sum_parts_none n)

pub sum_first : (g : ℕ → BagOrFault) (parts : ℕ) → ((part : ℕ) → g (suc part) ≡ none) → settled (g 0) ≡ g 0 → 0 < parts → sum_parts g parts ≡ g 0
unfolding sum_parts bag_of
sum_first g zero e h l = absurd (omega arith)
sum_first g (suc zero) e h l = both_none (g 0) ∙ h
sum_first g (suc (suc n)) e h l = ap (λ t. both t (sum_parts g (suc n))) (e n) ∙ ap (both none) (sum_first g (suc n) e h (omega arith)) ∙ none_first (g 0) h
  where
    none_first : (a : BagOrFault) → settled a ≡ a → both none a ≡ a
    none_first (Ok rows) s = s
    none_first (Err fault) s = refl

-- what goes into one partition alone stands once in the sum
abbrev pub put : BagOrFault → Bool → BagOrFault → BagOrFault
put a here b = if here then both a b else b

module _ (laws : RowLaws) where
  pub sum_parts_both : (g h : ℕ → BagOrFault) (parts : ℕ) → sum_parts (λ part. both (g part) (h part)) parts ≡ both (sum_parts g parts) (sum_parts h parts)
  unfolding sum_parts bag_of
  sum_parts_both g h zero = refl
  sum_parts_both g h (suc n) =
      ap (both (both (g n) (h n))) (sum_parts_both g h n) ∙ regroup (g n) (h n) (sum_parts g n) (sum_parts h n)
    where
      regroup : (a b c d : BagOrFault) → both (both a b) (both c d) ≡ both (both a c) (both b d)
      regroup a b c d = both_assoc laws a b (both c d) ∙ ap (both a) (both_swap laws b c d) ∙ sym (both_assoc laws a c (both b d))

  sum_parts_past : (a : BagOrFault) (g : ℕ → BagOrFault) (to parts : ℕ) → parts ≤ to → sum_parts (λ part. put a (eqb to part) (g part)) parts ≡ sum_parts g parts
  unfolding sum_parts
  sum_parts_past a g to zero l = refl
  sum_parts_past a g to (suc n) l =
      let past : eqb to n ≡ false = ne_eqb to n (omega arith) in
      rw past (ap (both (g n)) (sum_parts_past a g to n (omega arith)))

  pub sum_parts_put : (a : BagOrFault) (g : ℕ → BagOrFault) (to parts : ℕ) → to < parts → sum_parts (λ part. put a (eqb to part) (g part)) parts ≡ both a (sum_parts g parts)
  unfolding sum_parts
  sum_parts_put a g to zero l = absurd (omega arith)
  sum_parts_put a g to (suc n) l =
      elim (cases_eq to n) [
        | inl e ↦
            let here : eqb to n ≡ true = eq-eqb to n e in
            rw here (ap (both (both a (g n))) (sum_parts_past a g to n (omega arith)) ∙ both_assoc laws a (g n) (sum_parts g n))
        | inr e ↦
            let past : eqb to n ≡ false = ne_eqb to n e in
            rw past (ap (both (g n)) (sum_parts_put a g to n (omega arith)) ∙ both_swap laws (g n) a (sum_parts g n))
      ]

  pub over_split : {X : Type 0} (f : X → BagOrFault) (to : X → ℕ) (parts : ℕ) (xs : List X) → ((x : X) → to x < parts) →
      sum_parts (λ part. over f (filter (λ x. eqb (to x) part) xs)) parts ≡ over f xs
  unfolding over
  over_split f to parts [] l = sum_parts_none parts
  over_split f to parts (x ∷ xs) l =
      sum_parts_same (λ part. over f (filter (λ x. eqb (to x) part) (x ∷ xs))) (λ part. put (f x) (eqb (to x) part) (over f (filter (λ x. eqb (to x) part) xs))) parts
      (λ part h. elim (eqb (to x) part) as (λ b. over f (if b then x ∷ filter (λ x. eqb (to x) part) xs else filter (λ x. eqb (to x) part) xs) ≡ put (f x) b (over f (filter (λ x. eqb (to x) part) xs))) [ true ↦ refl | false ↦ refl ])
      ∙ sum_parts_put (f x) (λ part. over f (filter (λ x. eqb (to x) part) xs)) (to x) parts (l x)
      ∙ ap (both (f x)) (over_split f to parts xs l)
