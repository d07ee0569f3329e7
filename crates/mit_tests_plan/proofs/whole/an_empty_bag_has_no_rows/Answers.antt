use Rattle.std.proofs.Common.{◌≡◌, ◌∙◌, List, [], Ok, refl, subst, sym}
use Rattle.std.proofs.lemmas.List.Elements.{All-nil}
use Rattle.mit_rows.specs.declared.value.ColType.{ColType}
use Rattle.mit_ops.specs.Results.{IsBagType, bag, typed_as}
use Rattle.mit_ops.specs.declared.kinds.OpSpec.TheVariants.{Empty}
use Rattle.mit_tests_plan.proofs.whole.an_empty_bag_has_no_rows.Goals as goal

pub whole_bag-requires-clause-fits : goal.whole_bag-requires-clause-fits
whole_bag-requires-clause-fits g c =
    let none = c.from_vec-types.ensures ∙ c.new.ensures.items in (
      [],
      [],
      bag c.from_vec-types.result,
      record {
        count = refl;
        wide = All-nil IsBagType;
        typed = subst (λ (types : List ColType). typed_as (Empty types) [] [] ≡ Ok (bag types)) (sym none) refl;
        rows = tt;
      },
    )
