-- The places of each block, as a path grows by one block.
use Rattle.std.proofs.Common.{◌≡◌, ◌<◌, ◌∙◌, ℕ, List, [], ◌∷◌, ◌++◌, length, get_or, set, ap, sym, refl, arith, inl, inr}
use Rattle.std.specs.Prelude.{◌⊎◌}
use Rattle.std.proofs.lemmas.List.{get_or_append_left, get_or_push, get_or-set_other, get_or-set_same, length-set, length_push}
use Rattle.std.proofs.lemmas.Bool.{cases_eq, cases_lt}
use Rattle.mit_view.specs.Kept.{ArePlaces, KeepsPlaces}

-- an element of a list with one more
more_read : (xs : List ℕ) (y k : ℕ) → k < length (xs ++ y ∷ []) → ((k < length xs) × (get_or (xs ++ y ∷ []) k 0 ≡ get_or xs k 0)) ⊎ ((k ≡ length xs) × (get_or (xs ++ y ∷ []) k 0 ≡ y))
more_read xs y k within = elim (cases_lt k (length xs)) [
  | inl below ↦ inl (below, get_or_append_left xs (y ∷ []) 0 k below)
  | inr last ↦ let is : k ≡ length xs = omega (arith, length_push xs y) in inr (is, get_or_push xs y 0 k (sym is))
]

pub none_yet : (block : ℕ) → ArePlaces [] block []
none_yet block = record { within = λ k lt. absurd (omega arith); entered = λ k lt. absurd (omega arith); found = λ at lt is. absurd (omega arith) }

pub entered_here : (path places : List ℕ) (block : ℕ) → ArePlaces path block places → ArePlaces (path ++ block ∷ []) block (places ++ length path ∷ [])
entered_here path places block kept = record {
  within = λ k lt. elim (more_read places (length path) k lt) [
    | inl old ↦ omega (arith, old.1, kept.within k old.0, length_push path block)
    | inr new ↦ omega (arith, new.1, length_push path block)
  ];
  entered = λ k lt. elim (more_read places (length path) k lt) [
    | inl old ↦ ap (λ (at : ℕ). get_or (path ++ block ∷ []) at 0) old.1 ∙ (get_or_append_left path (block ∷ []) 0 (get_or places k 0) (kept.within k old.0) ∙ kept.entered k old.0)
    | inr new ↦ ap (λ (at : ℕ). get_or (path ++ block ∷ []) at 0) new.1 ∙ get_or_push path block 0 (length path) refl
  ];
  found = λ at lt is. elim (more_read path block at lt) [
    | inl old ↦ let found = kept.found at old.0 (sym old.1 ∙ is) in
        (found.0, omega (arith, found.1, length_push places (length path)), get_or_append_left places (length path ∷ []) 0 found.0 found.1 ∙ found.2)
    | inr new ↦ (length places, omega (arith, length_push places (length path)), get_or_push places (length path) 0 (length places) refl ∙ sym new.0)
  ];
}

pub entered_elsewhere : (path places : List ℕ) (block other : ℕ) → (block ≡ other → ⊥) → ArePlaces path other places → ArePlaces (path ++ block ∷ []) other places
entered_elsewhere path places block other apart kept = record {
  within = λ k lt. omega (arith, kept.within k lt, length_push path block);
  entered = λ k lt. get_or_append_left path (block ∷ []) 0 (get_or places k 0) (kept.within k lt) ∙ kept.entered k lt;
  found = λ at lt is. elim (more_read path block at lt) [
    | inl old ↦ kept.found at old.0 (sym old.1 ∙ is)
    | inr new ↦ absurd (apart (sym new.1 ∙ is))
  ];
}

pub keeps_none : (places : List (List ℕ)) → ((k : ℕ) → k < length places → get_or places k [] ≡ []) → KeepsPlaces [] places
keeps_none places empty = record {
  known = λ at lt. absurd (omega arith);
  each = λ block lt. rw (empty block lt) (none_yet block);
}

pub keeps_entered : (path : List ℕ) (places : List (List ℕ)) (block : ℕ) → block < length places → KeepsPlaces path places
    → KeepsPlaces (path ++ block ∷ []) (set places block (get_or places block [] ++ length path ∷ []))
keeps_entered path places block lt kept = record {
  known = λ at within. elim (more_read path block at within) [
    | inl old ↦ omega (arith, old.1, kept.known at old.0, length-set places block (get_or places block [] ++ length path ∷ []))
    | inr new ↦ omega (arith, new.1, length-set places block (get_or places block [] ++ length path ∷ []))
  ];
  each = λ other within. let known : other < length places = omega (arith, length-set places block (get_or places block [] ++ length path ∷ [])) in
      elim (cases_eq other block) [
        | inl same ↦ rw (same, get_or-set_same places block (get_or places block [] ++ length path ∷ []) [] lt) (entered_here path (get_or places block []) block (kept.each block lt))
        | inr apart ↦ rw (get_or-set_other places block other (get_or places block [] ++ length path ∷ []) [] apart) (entered_elsewhere path (get_or places other []) block other (λ e. apart (sym e)) (kept.each other known))
      ];
}
