-- The places of a block: they rise, they are those at which the path has the block, and on a longer path more come behind them.
use Rattle.std.proofs.Common.{◌≡◌, ◌∙◌, ◌<◌, ◌≤◌, ◌+◌, ◌-◌, ℕ, List, ◌++◌, length, take, drop, get_or, ap, sym, subst, refl, arith, All, Bool, eqb, inl, inr, true, false, Some}
use Rattle.std.specs.Prelude.{◌==◌, ◌⊎◌, slice_get}
use Rattle.std.specs.List.{filter, range_with_len}
use Rattle.std.proofs.lemmas.Bool.{both_ways, cases_lt, eq-eqb, eqb-true}
use Rattle.std.proofs.lemmas.List.{get_or-append_right, get_or_append_left, length-append, length-take-le, take-append-drop, take_all}
use Rattle.std.proofs.lemmas.List.Elements.{All-filter, filter-append, filter_passes}
use Rattle.std.proofs.lemmas.List.FromFn.{length-range_with_len}
use Rattle.std.proofs.lemmas.List.Kept.{AllPairs-filter}
use Rattle.std.proofs.lemmas.Option.{get_or_from_slice_get, slice_get-get_or, slice_get_within}
use Rattle.mit_machine.specs.Places.{is_counted, block_places}
use Rattle.mit_machine.proofs.Lengthens.{Lengthens}
use Rattle.mit_machine.proofs.Lists.{Rising, any_at, any_found, filter_range, filter_shorter, in_filter, range_append, range_has, range_holds, range_rises}

-- ---- the list

pub places_rise : (path : List ℕ) (block : ℕ) → Rising (block_places path block)
places_rise path block =
    AllPairs-filter (λ (one other : ℕ). one < other) (λ place. eqb (get_or path place 0) block) (range_with_len 0 (length path)) (range_rises 0 (length path))

pub places_below : (path : List ℕ) (block : ℕ) → All (λ place. place < length path) (block_places path block)
places_below path block =
    All-filter (λ place. get_or path place 0 == block) (λ place. place < length path) (range_with_len 0 (length path))
    (range_holds (λ place. place < length path) 0 (length path) (λ k above below. omega (arith, below)))

pub places_shorter : (path : List ℕ) (block : ℕ) → length (block_places path block) ≤ length path
places_shorter path block =
    omega (arith, filter_shorter (λ place. get_or path place 0 == block) (range_with_len 0 (length path)), length-range_with_len 0 (length path))

-- a place of the list is one of the path, and has the block
pub place_is : (path : List ℕ) (block k place : ℕ) → slice_get (block_places path block) k ≡ Some place → (place < length path) × (get_or path place 0 ≡ block)
place_is path block k place there =
    let xs = block_places path block in
    let within = slice_get_within xs k place there in
    let is : get_or xs k place ≡ place = get_or_from_slice_get xs k place place there in
    let passes = filter_passes (λ place. eqb (get_or path place 0) block) (range_with_len 0 (length path)) k place within in (
      subst (λ (one : ℕ). one < length path) is (places_below path block k place within),
      eqb-true (get_or path place 0) block (subst (λ (one : ℕ). eqb (get_or path one 0) block ≡ true) is passes),
    )

-- and each such place is in the list
pub place_found : (path : List ℕ) (block place : ℕ) → place < length path → get_or path place 0 ≡ block → (k : ℕ) × (slice_get (block_places path block) k ≡ Some place)
place_found path block place below is =
    let range = range_with_len 0 (length path) in
    let has = range_has 0 (length path) place (omega arith) (omega (arith, below)) in
    let kept = in_filter (λ place. eqb (get_or path place 0) block) place range has.0 has.1 has.2 (eq-eqb (get_or path place 0) block is) in
    (kept.0, slice_get-get_or (block_places path block) kept.0 place kept.1 ∙ ap Some kept.2)

-- later ones stand later
pub in_order : (path : List ℕ) (block k m one other : ℕ) → slice_get (block_places path block) k ≡ Some one → slice_get (block_places path block) m ≡ Some other → k < m → one < other
in_order path block k m one other first second less =
    let xs = block_places path block in
    let within = slice_get_within xs m other second in
    let rises = places_rise path block k m 0 less within in
    let e = get_or_from_slice_get xs k one 0 first in
    let f = get_or_from_slice_get xs m other 0 second in
    omega (arith, rises, e, f)

-- ---- the first so many

-- something that came of a place came of so many places
pub came_of : (path : List ℕ) (block n k place : ℕ) → slice_get (block_places path block) k ≡ Some place → is_counted n (block_places path block) place ≡ true → k < n
came_of path block n k place there among =
    let one = any_found n place (block_places path block) among in
    elim (cases_lt k n) [
      | inl less ↦ less
      | inr past ↦
          let above = in_order path block one.0 k place place one.2 there (omega (arith, one.1, past)) in
          absurd (omega (arith, above))
    ]

-- nothing came yet of a place
pub not_yet : (path : List ℕ) (block n k place : ℕ) → slice_get (block_places path block) k ≡ Some place → is_counted n (block_places path block) place ≡ false → n ≤ k
not_yet path block n k place there none =
    elim (cases_lt k n) [
      | inl less ↦
          absurd (both_ways (is_counted n (block_places path block) place) none (any_at (λ other. eqb other place) n k place (block_places path block) less there (eq-eqb place place refl)))
      | inr past ↦ past
    ]

-- ---- a longer path

-- the places of a block among those that come behind a path
abbrev pub later_places : List ℕ → List ℕ → ℕ → List ℕ
later_places path more block = filter (λ place. get_or (path ++ more) place 0 == block) (range_with_len (length path) (length more))

pub places_append : (path more : List ℕ) (block : ℕ) → block_places (path ++ more) block ≡ block_places path block ++ later_places path more block
places_append path more block =
    let longer : ℕ → Bool = λ place. get_or (path ++ more) place 0 == block in
    let start : 0 + length path ≡ length path = omega arith in
    ap (λ many. filter longer (range_with_len 0 many)) (length-append path more)
    ∙ ap (filter longer) (range_append 0 (length path) (length more) ∙ ap (λ at. range_with_len 0 (length path) ++ range_with_len at (length more)) start)
    ∙ filter-append longer (range_with_len 0 (length path)) (range_with_len (length path) (length more))
    ∙ ap (λ places. places ++ later_places path more block)
    (filter_range longer (λ place. get_or path place 0 == block) 0 (length path) (λ place below. ap (λ (at : ℕ). at == block) (get_or_append_left path more 0 place (omega (arith, below)))))

pub lengthens_places : (path longer : List ℕ) (block : ℕ) → Lengthens path longer → Lengthens (block_places path block) (block_places longer block)
lengthens_places path longer block more = (later_places path more.0 block, ap (λ whole. block_places whole block) more.1 ∙ places_append path more.0 block)

pub later_above : (path more : List ℕ) (block : ℕ) → All (λ place. length path ≤ place) (later_places path more block)
later_above path more block =
    All-filter (λ place. get_or (path ++ more) place 0 == block) (λ place. length path ≤ place) (range_with_len (length path) (length more))
    (range_holds (λ place. length path ≤ place) (length path) (length more) (λ k above below. above))

-- a place that a path has is one of its places, by its number among those of the longer path
place_within : (path more : List ℕ) (block k place : ℕ) → slice_get (block_places (path ++ more) block) k ≡ Some place → place < length path → k < length (block_places path block)
place_within path more block k place there within = by_order (cases_lt k (length (block_places path block)))
  where
    by_order : (k < length (block_places path block)) ⊎ (length (block_places path block) ≤ k) → k < length (block_places path block)
    by_order (inl below) = below
    by_order (inr above) =
        let later = later_places path more block in
        let split = subst (λ (places : List ℕ). slice_get places k ≡ Some place) (places_append path more block) there in
        let whole = slice_get_within (block_places path block ++ later) k place split in
        let item : get_or later (k - length (block_places path block)) 0 ≡ place =
        sym (get_or-append_right (block_places path block) later (length (block_places path block)) k 0 refl above) ∙ get_or_from_slice_get (block_places path block ++ later) k place 0 split in
        absurd (omega (
          arith,
          within,
          item,
          later_above path more block (k - length (block_places path block)) 0 (omega (arith, whole, above, length-append (block_places path block) later)),
        ))

-- a place in the view is one of the view's places
pub in_view : (path : List ℕ) (block k place seen : ℕ) → slice_get (block_places path block) k ≡ Some place → place < seen → k < length (block_places (take seen path) block)
in_view path block k place seen there before = by_order (cases_lt seen (length path))
  where
    by_order : (seen < length path) ⊎ (length path ≤ seen) → k < length (block_places (take seen path) block)
    by_order (inl below) =
        place_within (take seen path) (drop seen path) block k place
        (subst (λ (whole : List ℕ). slice_get (block_places whole block) k ≡ Some place) (sym (take-append-drop seen path)) there) (omega (arith, before, below, length-take-le seen path))
    by_order (inr above) = subst (λ (whole : List ℕ). k < length (block_places whole block)) (sym (take_all seen path above)) (slice_get_within (block_places path block) k place there)
