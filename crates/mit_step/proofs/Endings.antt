-- How a script begins and ends.
use Rattle.std.proofs.Common.{◌≡◌, ◌∙◌, ℕ, List, [], false, Option, Some, None, Result, Ok, Err, ap, get_or, length, map, refl, sym}
use Rattle.std.specs.Prelude.{IfSome}
use Rattle.std.proofs.Math.ListN.{get_or-map}
use Rattle.std.proofs.lemmas.List.{length-map}
use Rattle.std.proofs.lemmas.Option.{unwrap_or-slice_get}
use Rattle.mit_rows.specs.Bags.{BagOf}
use Rattle.mit_shelf.specs.declared.stop.Stop.{Stop}
use Rattle.mit_shelf.specs.declared.stop.Stop.TheVariants as stop
use Rattle.mit_ops.specs.declared.faults.ScriptFault.{ScriptFault}
use Rattle.mit_ops.specs.declared.types.VarType.{VarType}
use Rattle.mit_script.specs.Accepted.{Fault, Known, and_then, at_start, check_of, checked, first_type, type_or_unset, in_order}
use Rattle.mit_script.specs.Execution.{Ended, at_fault, ending_of, goes_on}
use Rattle.mit_script.specs.Trees.{IsFormed}
use Rattle.mit_script.specs.declared.tree.Script.{Script}
use Rattle.mit_step.specs.Running.{Faults}
use Rattle.mit_step.specs.Stepping.{EndsAs}
use Rattle.mit_step.specs.Typing.{IsReady, Settles, variable_type}

pub ends_at_fault : (ended : Ended) (why : Stop ScriptFault) → Faults ended why → EndsAs (ending_of ended) (Err why)
ends_at_fault (goes_on state) (stop.Fault fault) is = cc
ends_at_fault (at_fault found) (stop.Fault fault) is = cc
ends_at_fault (goes_on state) stop.Folder is = tt
ends_at_fault (at_fault found) stop.Folder is = tt
ends_at_fault (goes_on state) stop.NoMemory is = tt
ends_at_fault (at_fault found) stop.NoMemory is = tt

-- the types at the end are those of the first assignments
settled : (last : Known) → Settles (map type_or_unset last.types) last
settled last variable =
    by_first (first_type last variable)
    (ap (λ list. list) (get_or-map type_or_unset last.types variable None) ∙ ap type_or_unset (sym (unwrap_or-slice_get last.types variable None)))
  where
    by_first : (first : Option VarType) → variable_type (map type_or_unset last.types) variable ≡ type_or_unset first → IfSome first (λ type. variable_type (map type_or_unset last.types) variable ≡ type)
    by_first None is = tt
    by_first (Some type) is = is

none_assigned : (names : List (List ℕ)) (variable : ℕ) → get_or (map (λ _. false) names) variable false ≡ false
none_assigned names variable = get_or-map (λ _. false) names variable []

pub starts_ready : (script : Script) (types : List VarType) (store : List BagOf) → IsFormed script → checked script ≡ Ok types → length store ≡ length script.names → IsReady script.body store
starts_ready script types store formed accepted sized = by_last (in_order (map check_of script.body) (at_start script.names)) refl accepted
  where
    by_last : (found : Result Known Fault) → in_order (map check_of script.body) (at_start script.names) ≡ found → and_then found (λ last. Ok (map type_or_unset last.types)) ≡ Ok types → IsReady script.body store
    by_last (Err fault) is accepted = cc
    by_last (Ok last) is accepted = (
      map type_or_unset last.types,
      at_start script.names,
      last,
      record {
        checked = is;
        settles = settled last;
        formed = rw sized formed.formed;
        assigned = length-map script.names (λ _. false) ∙ sym sized;
        typed = length-map script.names (λ _. None) ∙ sym sized;
        holds = record {
          typed = λ variable is. absurd (let no = sym (unwrap_or-slice_get (map (λ _. false) script.names) variable false) ∙ is in let none = none_assigned script.names variable in cc);
          held = λ variable is. absurd (let no = sym (unwrap_or-slice_get (map (λ _. false) script.names) variable false) ∙ is in let none = none_assigned script.names variable in cc);
        };
      },
    )
