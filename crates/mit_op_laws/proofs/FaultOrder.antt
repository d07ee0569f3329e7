-- The lesser of two by a total order in which only equals tie, and the order of faults.
--     lesser_comm, lesser_assoc      the least of several does not depend on how they are taken
--     fault_total, fault_same      the order of faults is one
use Rattle.std.proofs.Common.{◌≡◌, ℕ, true, false, [], ◌∷◌, refl, ap, sym, ◌∙◌, if◌then◌else◌, slice_index_or}
use Rattle.std.specs.Cmp.{IsTotalOrder}
use Rattle.std.specs.FinMap.{IsAntisymmetric, nat_cmp-IsAntisymmetric}
use Rattle.std.specs.Ordering.{is_gt, is_le, nat_cmp, ordering_reverse, ordering_then}
use Rattle.std.specs.declared.cmp.Ordering.{Ordering}
use Rattle.std.specs.declared.cmp.Ordering.TheVariants.{Less, Equal, Greater}
use Rattle.std.proofs.lemmas.Cmp.{nat_cmp_total, on_total, then_total, upto}
use Rattle.mit_rows.specs.Order.{row_cmp}
use Rattle.mit_ops.specs.Answers.{fault_cmp, kind_detail, kind_number}
use Rattle.mit_ops.specs.declared.faults.FaultKind.{FaultKind}
use Rattle.mit_ops.specs.declared.faults.FaultKind.TheVariants.{Overflow, DivideByZero, NotNumber, TextTooLong, RangeTooLong, NotOne, NoFile, BadName, BadRow, DecisionLimit}
use Rattle.mit_op_laws.proofs.RowLaws.{RowLaws}

either_way : {K : Type 0} (r s : Ordering) (a b : K) → s ≡ ordering_reverse r → (r ≡ Equal → a ≡ b) → (if is_le r then a else b) ≡ (if is_le s then b else a)
either_way Less s a b e h = rw e refl
either_way Equal s a b e h = rw e (h refl)
either_way Greater s a b e h = rw e refl

less_from : (r s : Ordering) → s ≡ ordering_reverse r → is_le r ≡ false → s ≡ Less
less_from Less s e h = cc
less_from Equal s e h = cc
less_from Greater s e h = e

not_gt : (r : Ordering) → is_le r ≡ true → is_gt r ≡ false
not_gt Less h = refl
not_gt Equal h = refl
not_gt Greater h = cc

le_of : (r : Ordering) → is_gt r ≡ false → is_le r ≡ true
le_of Less h = refl
le_of Equal h = refl
le_of Greater h = cc

module _ {K : Type 0} (R : K → K → Ordering) where
  abbrev pub lesser_by : K → K → K
  lesser_by a b = if is_le (R a b) then a else b

  module _ (o : IsTotalOrder R) (same : IsAntisymmetric R) where
    pub lesser_comm : (a b : K) → lesser_by a b ≡ lesser_by b a
    lesser_comm a b = either_way (R a b) (R b a) a b (o.antisymm b a) (same a b)

    pub lesser_assoc : (a b c : K) → lesser_by (lesser_by a b) c ≡ lesser_by a (lesser_by b c)
    lesser_assoc a b c =
        elim (is_le (R a b)) as (λ p. is_le (R a b) ≡ p → lesser_by (lesser_by a b) c ≡ lesser_by a (lesser_by b c)) [
          | true ↦ λ e.
              elim (is_le (R b c)) as (λ q. is_le (R b c) ≡ q → lesser_by (lesser_by a b) c ≡ lesser_by a (lesser_by b c)) [
                | true ↦ λ f. let h = le_of (R a c) (upto o a b c (not_gt (R a b) e) (not_gt (R b c) f)) in simp (e, f, h)
                | false ↦ λ f. simp (e, f)
              ] refl
          | false ↦ λ e.
              elim (is_le (R b c)) as (λ q. is_le (R b c) ≡ q → lesser_by (lesser_by a b) c ≡ lesser_by a (lesser_by b c)) [
                | true ↦ λ f. simp (e, f)
                | false ↦ λ f.
                    let down : R c a ≡ Less = o.trans c b a (less_from (R b c) (R c b) (o.antisymm c b) f) (less_from (R a b) (R b a) (o.antisymm b a) e) in
                    let h : is_le (R a c) ≡ false = ap is_le (o.antisymm a c ∙ ap ordering_reverse down) in
                    simp (e, f, h)
              ] refl
        ] refl

-- the other way round it is one too
pub turned_total : {K : Type 0} (R : K → K → Ordering) → IsTotalOrder R → IsTotalOrder (λ (a b : K). R b a)
turned_total R o = record {
  antisymm = λ x y. o.antisymm y x;
  trans = λ x y z e f. o.trans z y x f e;
  congr = λ x y z e.
      o.antisymm z x ∙ ap ordering_reverse (o.congr x y z (o.antisymm x y ∙ ap ordering_reverse e)) ∙ sym (o.antisymm z y);
}

pub turned_same : {K : Type 0} (R : K → K → Ordering) → IsAntisymmetric R → IsAntisymmetric (λ (a b : K). R b a)
turned_same R same a b e = sym (same b a e)

tied_parts : (r s : Ordering) → ordering_then r s ≡ Equal → (r ≡ Equal) × (s ≡ Equal)
tied_parts Less s e = cc
tied_parts Equal s e = (refl, e)
tied_parts Greater s e = cc

-- the kind of this number, with what it tells beside that
abbrev decode : ℕ → ℕ → FaultKind
decode number detail =
    slice_index_or (Overflow ∷ DivideByZero ∷ NotNumber ∷ TextTooLong ∷ RangeTooLong ∷ NotOne detail ∷ NoFile ∷ BadName ∷ BadRow detail ∷ DecisionLimit ∷ []) number Overflow

decode_kind : (kind : FaultKind) → decode (kind_number kind) (kind_detail kind) ≡ kind
decode_kind Overflow = refl
decode_kind DivideByZero = refl
decode_kind NotNumber = refl
decode_kind TextTooLong = refl
decode_kind RangeTooLong = refl
decode_kind (NotOne rows) = refl
decode_kind NoFile = refl
decode_kind BadName = refl
decode_kind (BadRow number) = refl
decode_kind DecisionLimit = refl

module _ (laws : RowLaws) where
  pub fault_total : IsTotalOrder fault_cmp
  fault_total =
      then_total (on_total (λ f. f.at) laws.total)
      (then_total (on_total (λ f. kind_number f.kind) nat_cmp_total) (on_total (λ f. kind_detail f.kind) nat_cmp_total))

  pub fault_same : IsAntisymmetric fault_cmp
  fault_same a b e =
      let parts = tied_parts (row_cmp a.at b.at) _ e in
      let kinds = tied_parts (nat_cmp (kind_number a.kind) (kind_number b.kind)) (nat_cmp (kind_detail a.kind) (kind_detail b.kind)) parts.1 in
      let at : a.at ≡ b.at = laws.same a.at b.at parts.0 in
      let number : kind_number a.kind ≡ kind_number b.kind = nat_cmp-IsAntisymmetric (kind_number a.kind) (kind_number b.kind) kinds.0 in
      let detail : kind_detail a.kind ≡ kind_detail b.kind = nat_cmp-IsAntisymmetric (kind_detail a.kind) (kind_detail b.kind) kinds.1 in
      let kind : a.kind ≡ b.kind = sym (decode_kind a.kind) ∙ (λ i. decode (number i) (detail i)) ∙ decode_kind b.kind in
      λ i. record { at = at i; kind = kind i }
