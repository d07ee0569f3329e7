-- How the entries of the tree that keeps files answer as the finite map does.
use Rattle.std.proofs.Common.{◌≡◌, ℕ, Bool, true, false, List, [], ◌∷◌, String, Vec, length, Some, None, Option, cond, option_map, slice_get, refl, sym, ap, subst, ◌∙◌, vec_len, ◌<◌, arith, rules}
use lib.Dec.{T}
use Rattle.std.specs.String.{string_bytes, string_cmp}
use Rattle.std.specs.Ordering.{nat_cmp, is_eq, match_ordering}
use Rattle.std.specs.BTreeMap.{insert_entry, is_at}
use Rattle.std.specs.Map.{lookup}
use Rattle.std.specs.Cmp.Lexicographic.{nat_list_cmp_total, slice_cmp}
use Rattle.std.proofs.lemmas.List.{length-map}
use Rattle.std.proofs.lemmas.List.Elements.{same_from_all_zip}
use Rattle.std.proofs.lemmas.Option.{slice_get-get_or}
use Rattle.std.specs.List.{AllZip}
use Rattle.std.specs.Option.{IsSome}
use Rattle.std.specs.declared.cmp.Ordering.TheVariants.{Less, Equal, Greater}
use Rattle.std.specs.FinMap as map
use Rattle.std.specs.FinMap.{find, put, is_sorted}
use Rattle.std.specs.FinMap.Entries.{is_sorted-put, by_order}
use Rattle.mit_files.specs.Files.{FileMap, name_cmp}
use Rattle.mit_world.specs.Entries.{name_and_bytes, as_pairs}

pub holds : (b : Bool) → b ≡ true → T b
holds b e = subst T (sym e) tt

pub is_true : (b : Bool) → T b → b ≡ true
is_true true h = refl
is_true false h = absurd h

not_none : {A : Type 0} (x : A) → None ≡ Some x → ⊥
not_none x is = cc

module _ {Y Z : Type 0} where
  -- an insert into the tree puts into the list of its entries
  pub as_pairs-insert_entry : (es : List (String Y × Vec ℕ Z)) (name : String Y) (bytes : Vec ℕ Z)
      → as_pairs (insert_entry string_cmp es name bytes) ≡ put name_cmp (string_bytes name) bytes.items (as_pairs es)
  as_pairs-insert_entry [] name bytes = refl
  as_pairs-insert_entry (e ∷ es) name bytes =
      elim (string_cmp name e.0) as (λ o. as_pairs (match_ordering o ((name, bytes) ∷ e ∷ es) ((e.0, bytes) ∷ es) (e ∷ insert_entry string_cmp es name bytes))
      ≡ by_order o ((string_bytes name, bytes.items) ∷ as_pairs (e ∷ es)) ((string_bytes e.0, bytes.items) ∷ as_pairs es) (name_and_bytes e ∷ put name_cmp (string_bytes name) bytes.items (as_pairs es))) [
        | Less ↦ refl
        | Equal ↦ refl
        | Greater ↦ ap (λ (rest : List (List ℕ × List ℕ)). name_and_bytes e ∷ rest) (as_pairs-insert_entry es name bytes)
      ]

  -- a look-up in the tree finds in the list of its entries
  pub lookup-as_pairs : (es : List (String Y × Vec ℕ Z)) (name : List ℕ)
      → option_map (λ (bytes : Vec ℕ Z). bytes.items) (lookup (is_at (λ (k : String Y). slice_cmp nat_cmp name (string_bytes k))) es) ≡ find name_cmp name (as_pairs es)
  lookup-as_pairs [] name = refl
  lookup-as_pairs (e ∷ es) name =
      elim (slice_cmp nat_cmp name (string_bytes e.0)) as (λ o. option_map (λ (bytes : Vec ℕ Z). bytes.items) (cond (is_eq o) (Some e.1) (lookup (is_at (λ (k : String Y). slice_cmp nat_cmp name (string_bytes k))) es))
      ≡ cond (is_eq o) (Some e.1.items) (find name_cmp name (as_pairs es))) [
        | Less ↦ lookup-as_pairs es name
        | Equal ↦ refl
        | Greater ↦ lookup-as_pairs es name
      ]

  -- the entries of a clone have the same names and bytes
  pub as_pairs-cloned : (es fs : List (String Y × Vec ℕ Z)) → AllZip (λ p q. (string_bytes q.0 ≡ string_bytes p.0) × (AllZip (λ x y. y ≡ x) p.1.items q.1.items × (vec_len q.1 ≡ vec_len p.1))) es fs
      → as_pairs fs ≡ as_pairs es
  as_pairs-cloned [] [] same = refl
  as_pairs-cloned [] (f ∷ fs) same = absurd same
  as_pairs-cloned (e ∷ es) [] same = absurd same
  as_pairs-cloned (e ∷ es) (f ∷ fs) same =
      let bytes : f.1.items ≡ e.1.items = same_from_all_zip _ e.1.items f.1.items same.0.1.0 (λ x y is. is) in
      λ i. (same.0.0 i, bytes i) ∷ as_pairs-cloned es fs same.1 i

-- what shows an element of a list at a place within it is there
pub shown_within : {A B : Type 0} (view : A → B) (r : Option A) (xs : List B) (k : ℕ) → option_map view r ≡ slice_get xs k → k < length xs → IsSome r
shown_within view None [] k is lt = absurd (omega arith)
shown_within view None (x ∷ xs) k is lt = absurd (not_none _ (is ∙ slice_get-get_or (x ∷ xs) k x lt))
shown_within view (Some a) xs k is lt = search rules

-- entries that are those of an insert make the map of the insert
pub insert_from_put : (old new : List (List ℕ × List ℕ)) (name bytes : List ℕ) → T (is_sorted name_cmp old) → new ≡ put name_cmp name bytes old → map.from_sorted {R = name_cmp} new ≡ map.insert (map.from_sorted old) name bytes
insert_from_put old new name bytes sorted is =
    map.same_entries_map _ _ (ap (λ es. map.entries (map.from_sorted {R = name_cmp} es)) is
    ∙ map.entries-from_sorted name_cmp _ (is_sorted-put name_cmp nat_list_cmp_total name bytes old sorted)
    ∙ ap (put name_cmp name bytes) (sym (map.entries-from_sorted name_cmp old sorted))
    ∙ sym (map.entries-insert nat_list_cmp_total _ name bytes))

pub sorted_from_put : (old new : List (List ℕ × List ℕ)) (name bytes : List ℕ) → T (is_sorted name_cmp old) → new ≡ put name_cmp name bytes old → is_sorted name_cmp new ≡ true
sorted_from_put old new name bytes sorted is = is_true _ (subst (λ es. T (is_sorted name_cmp es)) (sym is) (is_sorted-put name_cmp nat_list_cmp_total name bytes old sorted))

-- what the map of sorted entries answers
module _ {Y Z : Type 0} (es : List (String Y × Vec ℕ Z)) (files : FileMap) (ordered : is_sorted name_cmp (as_pairs es) ≡ true) (view : map.from_sorted (as_pairs es) ≡ files) where
  pub entries_of : map.entries files ≡ as_pairs es
  entries_of = subst (λ (m : FileMap). map.entries m ≡ as_pairs es) view (map.entries-from_sorted name_cmp (as_pairs es) (holds _ ordered))

  pub len_of : map.len files ≡ length es
  len_of = map.len-entries files ∙ ap length entries_of ∙ length-map es name_and_bytes

  pub get_of : (name : List ℕ) → map.get files name ≡ find name_cmp name (as_pairs es)
  get_of name = map.get-entries files name ∙ ap (find name_cmp name) entries_of
