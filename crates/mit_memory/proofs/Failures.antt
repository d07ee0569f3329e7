-- How the count of faults goes with the count of calls.
use Rattle.std.proofs.Common.{◌≡◌, ℕ, zero, suc, ◌+◌, ◌≤◌, ◌==◌, true, false, if◌then◌else◌, List, [], refl, add-one, arith}
use Rattle.std.specs.List.{list_any}
use Rattle.mit_memory.specs.Memory.{failures}

-- with no number in the list nothing fails
pub failures-none : (calls : ℕ) → failures [] calls ≡ 0
unfolding failures
failures-none zero = refl
failures-none (suc calls) = failures-none calls

-- a call whose number is in the list raises the count by one
pub failures-failed : (fails : List ℕ) (calls : ℕ) → list_any (λ k. k == calls + 1) fails ≡ true → failures fails (calls + 1) ≡ failures fails calls + 1
unfolding failures
failures-failed fails calls is = rw (add-one calls) (rw (rw (add-one calls) at is) refl)

-- one more call never lowers it
pub failures-rise : (fails : List ℕ) (calls : ℕ) → failures fails calls ≤ failures fails (calls + 1)
unfolding failures
failures-rise fails calls =
    rw (add-one calls) (elim (list_any (λ k. k == suc calls) fails) as (λ b. failures fails calls ≤ (if b then failures fails calls + 1 else failures fails calls)) [
      | true ↦ omega arith
      | false ↦ omega arith
    ])
