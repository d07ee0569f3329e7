-- The text of pieces with something between them, as a loop over a list adds them.
use Rattle.std.proofs.Common.{◌≡◌, ℕ, ◌+◌, ◌-◌, ◌<◌, ◌≤◌, List, [], ◌∷◌, ◌++◌, flat_map, length, get_or, take, drop, ap, sym, ◌∙◌, arith, append_assoc}
use Rattle.std.specs.List.{join_by}
use Rattle.std.proofs.lemmas.Grind.{flat_map-append}
use Rattle.std.proofs.lemmas.List.{flat_map_more, take_all, take_more}

-- what stands between two pieces, and one more piece
pub listed_more : {X K : Type 0} (piece : X → List K) (write : K → List ℕ) (between : List K)
    (initial before middle after : List ℕ) (more : List X) (at : ℕ) (item d : X) → at < length more → item ≡ get_or more at d →
    before ≡ initial ++ flat_map write (flat_map (λ x. between ++ piece x) (take at more)) →
    middle ≡ before ++ flat_map write between →
    after ≡ middle ++ flat_map write (piece item) →
    after ≡ initial ++ flat_map write (flat_map (λ x. between ++ piece x) (take (at + 1) more))
listed_more {X} {K} piece write between initial before middle after more at item d lt is first second third =
    let f = λ (x : X). between ++ piece x in
    let front = flat_map f (take at more) in
    let longer : flat_map f (take (at + 1) more) ≡ front ++ (between ++ piece item) =
    ap (λ xs. flat_map f xs) (take_more more at d lt ∙ ap (λ x. take at more ++ x ∷ []) (sym is)) ∙ sym (flat_map_more f [] (take at more) item) in
    let written : flat_map write (flat_map f (take (at + 1) more)) ≡ flat_map write front ++ (flat_map write between ++ flat_map write (piece item)) =
    ap (λ kinds. flat_map write kinds) longer ∙ flat_map-append write front (between ++ piece item)
    ∙ ap (λ text. flat_map write front ++ text) (flat_map-append write between (piece item)) in
    third ∙ ap (λ text. text ++ flat_map write (piece item)) (second ∙ ap (λ text. text ++ flat_map write between) first)
    ∙ append_assoc (initial ++ flat_map write front) (flat_map write between) (flat_map write (piece item))
    ∙ append_assoc initial (flat_map write front) (flat_map write between ++ flat_map write (piece item))
    ∙ ap (λ text. initial ++ text) (sym written)

-- the first piece, and all that follow it
pub listed_all : {X K : Type 0} (piece : X → List K) (write : K → List ℕ) (between : List K)
    (initial first text : List ℕ) (xs : List X) (at : ℕ) (item d : X) → 1 ≤ length xs → item ≡ get_or xs 0 d →
    length (take (length xs - 1) (drop 1 xs)) ≤ at →
    first ≡ initial ++ flat_map write (piece item) →
    text ≡ first ++ flat_map write (flat_map (λ x. between ++ piece x) (take at (take (length xs - 1) (drop 1 xs)))) →
    text ≡ initial ++ flat_map write (join_by piece between xs)
listed_all piece write between initial first text [] at item d some is all one others = absurd (omega arith)
listed_all piece write between initial first text (x ∷ xs) at item d some is all one others =
    let rest : take at (take (length (x ∷ xs) - 1) xs) ≡ xs =
    take_all at (take (length (x ∷ xs) - 1) xs) all ∙ take_all (length (x ∷ xs) - 1) xs (omega arith) in
    others ∙ ap (λ ys. first ++ flat_map write (flat_map (λ y. between ++ piece y) ys)) rest
    ∙ ap (λ start. start ++ flat_map write (flat_map (λ y. between ++ piece y) xs)) (one ∙ ap (λ y. initial ++ flat_map write (piece y)) is)
    ∙ append_assoc initial (flat_map write (piece x)) (flat_map write (flat_map (λ y. between ++ piece y) xs))
    ∙ ap (λ rest_text. initial ++ rest_text) (sym (flat_map-append write (piece x) (flat_map (λ y. between ++ piece y) xs)))
