-- Counters of which one is greater by one.
use Rattle.std.proofs.Common.{◌≡◌, ◌≤◌, ◌+◌, ℕ, sym, arith, inl, inr, Bool, true, false}
use Rattle.std.specs.Prelude.{◌==◌, ◌&&◌, if◌then◌else◌}
use Rattle.std.proofs.lemmas.Bool.{eq-eqb, ne_eqb}
use Rattle.std.proofs.lemmas.Bool.Decides.{eqb_tells}
use Rattle.mit_machine.specs.State.{raised, raised_in}

-- what holds of what a counter was, and of one more where it is the one that was raised
pub raised_cases : (at number : ℕ) (counts : ℕ → ℕ) (P : ℕ → Type 0) → P (counts number) → (number ≡ at → P (counts number + 1)) → P (raised at counts number)
raised_cases at number counts P old new = elim (eqb_tells number at) [
  | inl e ↦ rw e.0 (new e.1)
  | inr e ↦ rw e.0 old
]

pub raised_in_cases : (op part other from : ℕ) (counts : ℕ → ℕ → ℕ) (P : ℕ → Type 0) → P (counts other from) → (other ≡ op → from ≡ part → P (counts other from + 1))
    → P (raised_in op part counts other from)
raised_in_cases op part other from counts P old new = elim (eqb_tells other op) [
  | inl e ↦ rw e.0 (raised_cases part from (counts other) P old (new e.1))
  | inr e ↦ rw e.0 old
]

pub raised_bag_cases : (edge from to other sender receiver : ℕ) (counts : ℕ → ℕ → ℕ → ℕ) (P : ℕ → Type 0) → P (counts other sender receiver)
    → (other ≡ edge → sender ≡ from → receiver ≡ to → P (counts other sender receiver + 1))
    → P ((if other == edge then raised_in from to (counts other) else counts other) sender receiver)
raised_bag_cases edge from to other sender receiver counts P old new = elim (eqb_tells other edge) [
  | inl e ↦ rw e.0 (raised_in_cases from to sender receiver (counts other) P old (new e.1))
  | inr e ↦ rw e.0 old
]

-- the same with the test whether it is that one
pub raised_tells : (at number : ℕ) (counts : ℕ → ℕ) (P : Bool → ℕ → Type 0) → P false (counts number) → P true (counts number + 1) → P (at == number) (raised at counts number)
raised_tells at number counts P old new = elim (eqb_tells number at) [
  | inl e ↦ rw (e.0, eq-eqb at number (sym e.1)) new
  | inr e ↦ rw (e.0, ne_eqb at number (λ same. e.1 (sym same))) old
]

pub raised_in_tells : (op part other from : ℕ) (counts : ℕ → ℕ → ℕ) (P : Bool → ℕ → Type 0) → P false (counts other from) → P true (counts other from + 1)
    → P ((op == other) && (part == from)) (raised_in op part counts other from)
raised_in_tells op part other from counts P old new = elim (eqb_tells other op) [
  | inl e ↦ rw (e.0, eq-eqb op other (sym e.1)) (raised_tells part from (counts other) P old new)
  | inr e ↦ rw (e.0, ne_eqb op other (λ same. e.1 (sym same))) old
]

pub raised_bag_tells : (edge from to other sender receiver : ℕ) (counts : ℕ → ℕ → ℕ → ℕ) (P : Bool → ℕ → Type 0) → P false (counts other sender receiver)
    → P true (counts other sender receiver + 1)
    → P ((edge == other) && (from == sender) && (to == receiver)) ((if other == edge then raised_in from to (counts other) else counts other) sender receiver)
raised_bag_tells edge from to other sender receiver counts P old new = elim (eqb_tells other edge) [
  | inl e ↦ rw (e.0, eq-eqb edge other (sym e.1)) (raised_in_tells from to sender receiver (counts other) P old new)
  | inr e ↦ rw (e.0, ne_eqb edge other (λ same. e.1 (sym same))) old
]

-- no counter falls
pub raised_in_least : (op part other from : ℕ) (counts : ℕ → ℕ → ℕ) → counts other from ≤ raised_in op part counts other from
raised_in_least op part other from counts = raised_in_cases op part other from counts (λ n. counts other from ≤ n) (omega arith) (λ same own. omega arith)
