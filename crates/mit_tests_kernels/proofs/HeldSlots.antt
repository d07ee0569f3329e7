-- What a call leaves of a slot that was fed only rows of these lists.
use Rattle.std.proofs.Common.{◌≡◌, ◌<◌, ◌+◌, ℕ, zero, suc, Bool, true, false, List, [], ◌∷◌, None, length, get_or, replicate, arith, ap, eqb, eq-eqb, refl, subst, sym, ◌∙◌}
use Rattle.std.proofs.lemmas.Bool.{eqb-true}
use Rattle.std.proofs.lemmas.Option.{none-some}
use Rattle.std.proofs.lemmas.List.Elements.{All-append, All-nil}
use Rattle.std.proofs.lemmas.Slice.Zip.{AllZip-long}
use Rattle.std.specs.List.{All, Contains}
use Rattle.mit_rows.specs.Bags.{RowOf}
use Rattle.mit_kernel.specs.Meaning.{Meaning, Takes, begun, changed, fed_row, kept_lists, no_rows, renewed, with_lists, with_row}
use Rattle.mit_ops.specs.Kinds.{bag_inputs_of, captures_of}
use Rattle.mit_ops.specs.Parts.{Fits}
use Rattle.mit_ops.specs.declared.kinds.OpSpec.{OpSpec}
use Rattle.mit_tests_kernels.specs.Held.{Among, HeldSlot, Keeps}

has_one : (all : List RowOf) (row : RowOf) → Contains all row → All (Contains all) (row ∷ [])
has_one all row has zero d within = has
has_one all row has (suc k) d within = absurd (omega arith)

among_added : (fed lists : List (List RowOf)) (input : ℕ) (row : RowOf) → Among fed lists → input < length lists → Contains (get_or lists input []) row → Among (with_row fed input row) lists
among_added [] [] input row among within has = tt
among_added [] (all ∷ lists) input row among within has = absurd among
among_added (rows ∷ fed) [] input row among within has = absurd among
among_added (rows ∷ fed) (all ∷ lists) zero row among within has = (All-append (Contains all) rows (row ∷ []) among.0 (has_one all row has), among.1)
among_added (rows ∷ fed) (all ∷ lists) (suc input) row among within has = (among.0, among_added fed lists input row among.1 (omega arith) has)

among_kept : (keep : List Bool) (fed lists : List (List RowOf)) → Among fed lists → Among (kept_lists keep fed) lists
among_kept keep [] lists among = among
among_kept [] (rows ∷ fed) lists among = among
among_kept (flag ∷ keep) (rows ∷ fed) [] among = absurd among
among_kept (true ∷ keep) (rows ∷ fed) (all ∷ lists) among = (among.0, among_kept keep fed lists among.1)
among_kept (false ∷ keep) (rows ∷ fed) (all ∷ lists) among = (All-nil (Contains all), among_kept keep fed lists among.1)

among_none : (lists : List (List RowOf)) → Among (replicate (length lists) []) lists
among_none [] = tt
among_none (all ∷ lists) = (All-nil (Contains all), among_none lists)

pub lists_none : (spec : OpSpec) (lists : List (List RowOf)) → length lists ≡ bag_inputs_of spec + captures_of spec → no_rows spec ≡ replicate (length lists) []
lists_none spec lists count = ap (λ n. replicate n []) (sym count)

pub held_begun : (kernel : Meaning) (slot : ℕ) (spec : OpSpec) (part parts : ℕ) (lists : List (List RowOf)) → Fits spec lists → no_rows spec ≡ replicate (length lists) [] → HeldSlot (begun kernel slot spec part parts) slot lists
held_begun kernel slot spec part parts lists fits none = record {
  found = record { spec = spec; part = part; parts = parts; lists = no_rows spec };
  is = rw (eq-eqb slot slot refl) refl;
  fits = fits;
  among = rw none (among_none lists);
}

-- where a change of a slot's lists keeps them among these, what was held of any slot still is
held_changed : (kernel : Meaning) (slot : ℕ) (change : List (List RowOf) → List (List RowOf)) (lists : List (List RowOf)) → ((fed : List (List RowOf)) → Among fed lists → Among (change fed) lists)
    → (other : ℕ) → HeldSlot kernel other lists → HeldSlot (changed kernel slot change) other lists
held_changed kernel slot change lists keeps other held =
    elim (eqb other slot) as (λ here. eqb other slot ≡ here → HeldSlot (changed kernel slot change) other lists) [
      | true ↦ λ e. record {
        found = with_lists change held.found;
        is = rw (e, ← eqb-true other slot e, held.is) refl;
        fits = held.fits;
        among = keeps held.found.lists held.among;
      }
      | false ↦ λ e. record { found = held.found; is = rw (e, held.is) refl; fits = held.fits; among = held.among }
    ] refl

module _ (kernel after : Meaning) (slot : ℕ) (lists : List (List RowOf)) where
  pub fed_keeps : (input : ℕ) (row : RowOf) → after ≡ fed_row kernel slot input row → input < length lists → Contains (get_or lists input []) row → Keeps kernel after lists
  fed_keeps input row is within has =
      subst (λ (now : Meaning). Keeps kernel now lists) (sym is) (λ other held.
      let changed = held_changed kernel slot (λ fed. with_row fed input row) lists (λ fed among. among_added fed lists input row among within has) other held in
      record { found = changed.found; is = changed.is; fits = changed.fits; among = changed.among })

  pub renewed_keeps : (keep : List Bool) → after ≡ renewed kernel slot keep → Keeps kernel after lists
  renewed_keeps keep is =
      subst (λ (now : Meaning). Keeps kernel now lists) (sym is) (held_changed kernel slot (kept_lists keep) lists (λ fed among. among_kept keep fed lists among))

  -- the slot that begins was not there before
  pub begun_keeps : (spec : OpSpec) (part parts : ℕ) → kernel.slots slot ≡ None → after ≡ begun kernel slot spec part parts → Keeps kernel after lists
  begun_keeps spec part parts free is =
      subst (λ (now : Meaning). Keeps kernel now lists) (sym is) (λ other held.
      elim (eqb other slot) as (λ here. eqb other slot ≡ here → HeldSlot (begun kernel slot spec part parts) other lists) [
        | true ↦ λ e. absurd (none-some held.found (sym free ∙ ap kernel.slots (sym (eqb-true other slot e)) ∙ held.is))
        | false ↦ λ e. record { found = held.found; is = rw (e, held.is) refl; fits = held.fits; among = held.among }
      ] refl)

pub held_takes : (kernel : Meaning) (slot : ℕ) (lists : List (List RowOf)) → HeldSlot kernel slot lists → (fewer : (spec : OpSpec) (inputs others : List (List RowOf)) → Fits spec inputs → Among others inputs → Fits spec others) (input : ℕ) (row : RowOf)
    → input < length lists → Contains (get_or lists input []) row → Takes kernel slot input row
held_takes kernel slot lists held fewer input row within has = record {
  found = held.found;
  is = held.is;
  within = rw (← AllZip-long (λ few all. All (Contains all) few) held.found.lists lists held.among) within;
  fits = fewer held.found.spec lists (with_row held.found.lists input row) held.fits (among_added held.found.lists lists input row held.among within has);
}
