-- The tables of senders, targets and of each row's target agree with where rows go.
use Rattle.std.proofs.Common.{◌≡◌, ◌⊎◌, ℕ, zero, suc, ◌+◌, ◌<◌, ◌≤◌, Bool, false, List, [], ◌∷◌, refl, sym, arith, inl, inr}
use Rattle.std.specs.List.{filter}
use Rattle.std.proofs.lemmas.Bool.{ne_eqb}
use Rattle.mit_rows.specs.Bags.{RowOf}
use Rattle.mit_ops.specs.Routes.{goes, senders_of, share, targets_of}
use Rattle.mit_ops.specs.declared.routes.Route.{Route}
use Rattle.mit_ops.specs.declared.routes.Route.TheVariants.{Forward, Gather, Broadcast, ByKey}

filter_none : {X : Type 0} (q : X → Bool) (xs : List X) → ((x : X) → q x ≡ false) → filter q xs ≡ []
filter_none q [] h = refl
filter_none q (x ∷ xs) h = let here : q x ≡ false = h x in rw here (filter_none q xs h)

-- not among so many from a first one on
abbrev IsOutside : ℕ → ℕ × ℕ → Type 0
IsOutside number range = (number < range.0) ⊎ (range.0 + range.1 ≤ number)

apart : (n m : ℕ) → IsOutside n (m, 1) → (n ≡ m → ⊥)
apart n m (inl h) e = omega arith
apart n m (inr h) e = omega arith

pub nothing_sent : (route : Route) (parts from to : ℕ) (rows : List RowOf) → from < parts → IsOutside from (senders_of route to parts) → share rows route parts from to ≡ []
nothing_sent Forward parts from to rows l out = filter_none (goes Forward parts from to) rows (λ row. ne_eqb from to (apart from to out))
nothing_sent Gather parts from zero rows l (inl h) = absurd (omega arith)
nothing_sent Gather parts from zero rows l (inr h) = absurd (omega arith)
nothing_sent Gather parts from (suc to) rows l out = filter_none (goes Gather parts from (suc to)) rows (λ row. ne_eqb 0 (suc to) (omega arith))
nothing_sent Broadcast parts from to rows l (inl h) = absurd (omega arith)
nothing_sent Broadcast parts from to rows l (inr h) = absurd (omega arith)
nothing_sent (ByKey columns) parts from to rows l (inl h) = absurd (omega arith)
nothing_sent (ByKey columns) parts from to rows l (inr h) = absurd (omega arith)

pub nothing_received : (route : Route) (parts from to : ℕ) (rows : List RowOf) → to < parts → IsOutside to (targets_of route from parts) → share rows route parts from to ≡ []
nothing_received Forward parts from to rows l out =
    filter_none (goes Forward parts from to) rows (λ row. ne_eqb from to (λ e. apart to from out (sym e)))
nothing_received Gather parts from to rows l out =
    filter_none (goes Gather parts from to) rows (λ row. ne_eqb 0 to (λ e. apart to 0 out (sym e)))
nothing_received Broadcast parts from to rows l (inl h) = absurd (omega arith)
nothing_received Broadcast parts from to rows l (inr h) = absurd (omega arith)
nothing_received (ByKey columns) parts from to rows l (inl h) = absurd (omega arith)
nothing_received (ByKey columns) parts from to rows l (inr h) = absurd (omega arith)
