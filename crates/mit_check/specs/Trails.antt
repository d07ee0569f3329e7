-- Devices of the proofs: nobody has to believe them. What the tables stand for, which variables became assigned, and how that is taken back.
use Rattle.std.specs.Prelude.{◌≡◌, ℕ, List, [], ◌∷◌, ◌++◌, Bool, true, not, if◌then◌else◌, fold, slice_set}
use Rattle.std.specs.List.{list_all}
use Rattle.mit_ops.specs.declared.types.OpRefused.{OpRefused}
use Rattle.mit_ops.specs.declared.types.OpRefused.TheVariants as refused
use Rattle.mit_script.specs.Accepted.{Known, is_assigned}
use Rattle.mit_script.specs.declared.typed.CheckCode.TheVariants.{TooLarge, TooManyColumns, WrongType}
use Rattle.mit_check.specs.declared.faults.CheckStop.{CheckStop}
use Rattle.mit_check.specs.declared.faults.CheckStop.TheVariants.{Fault, NoMemory}
use Rattle.mit_check.specs.declared.tables.Tables.{Tables}

-- what the tables stand for
abbrev pub known_in : Tables → Known
known_in tables = record { assigned = tables.assigned.items; types = tables.types.items; before = tables.before }

-- how a statement is refused where its operator is
abbrev pub TellsOperatorRefusal : ℕ → OpRefused → CheckStop → Type 0
TellsOperatorRefusal statement refused.TooLarge stop = stop ≡ Fault statement TooLarge
TellsOperatorRefusal statement refused.TooManyColumns stop = stop ≡ Fault statement TooManyColumns
TellsOperatorRefusal statement refused.WrongType stop = stop ≡ Fault statement WrongType
TellsOperatorRefusal statement refused.NoMemory stop = stop ≡ NoMemory

-- the list, where each of these variables stands as this
abbrev pub marked : Bool → List ℕ → List Bool → List Bool
marked is variables assigned = fold (λ list variable. slice_set list variable is) assigned variables

-- the variable, where it is not among the assigned ones
abbrev pub newly : List Bool → ℕ → List ℕ
newly assigned variable = if is_assigned assigned variable then [] else variable ∷ []

-- none of these variables is assigned
abbrev pub are_fresh : List Bool → List ℕ → Bool
are_fresh assigned variables = list_all (λ variable. not (is_assigned assigned variable)) variables

-- the trail has grown by the variables that became assigned, none of which was assigned before
pub record ExtendsTrail (old new : Tables) : Type 0 where
  pub more : List ℕ
  pub trail : new.trail.items ≡ old.trail.items ++ more
  pub assigned : new.assigned.items ≡ marked true more old.assigned.items
  pub fresh : are_fresh old.assigned.items more ≡ true
