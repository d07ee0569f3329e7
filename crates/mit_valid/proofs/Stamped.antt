-- Blocks that are stamped, one after another: the first block is stamped twice that is not apart from those before it.
use Rattle.std.proofs.Common.{◌≡◌, ◌≢◌, ◌∙◌, ◌<◌, ◌≤◌, ◌+◌, ℕ, List, length, get_or, set, ap, sym, arith, inl, inr, ⊎_elim}
use Rattle.std.specs.Prelude.{◌⊎◌}
use Rattle.std.specs.List.{All}
use Rattle.std.proofs.lemmas.Bool.{cases_eq, cases_lt}
use Rattle.std.proofs.lemmas.List.{get_or-set_other, get_or-set_same, get_or_past}
use Rattle.std.proofs.lemmas.List.Elements.{All-set, All-weaker}
use Rattle.mit_plan.specs.Valid.{AreApart}

-- this block and so many of these sources are stamped, and no others; and they are apart
pub record Stamped (own stamp : ℕ) (sources : List ℕ) (count : ℕ) (stamps : List ℕ) : Type 0 where
  pub most : All (λ one. one ≤ stamp) stamps
  pub own_is : get_or stamps own 0 ≡ stamp
  pub each : (at : ℕ) → at < count → get_or stamps (get_or sources at 0) 0 ≡ stamp
  pub found : (block : ℕ) → get_or stamps block 0 ≡ stamp → (block ≡ own) ⊎ ((at : ℕ) × (at < count) × (get_or sources at 0 ≡ block))
  pub distinct : (one other : ℕ) → one < other → other < count → get_or sources one 0 ≢ get_or sources other 0
  pub others : (at : ℕ) → at < count → get_or sources at 0 ≢ own

-- no stamp is here where all are smaller
not_yet : (op block : ℕ) (stamps : List ℕ) → All (λ one. one ≤ op) stamps → get_or stamps block 0 ≢ op + 1
not_yet op block stamps small is = by_order (cases_lt block (length stamps))
  where
    by_order : (block < length stamps) ⊎ (length stamps ≤ block) → ⊥
    by_order (inl below) = omega (arith, is, small block 0 below)
    by_order (inr past) = omega (arith, is, get_or_past stamps block 0 past)

-- where one block is stamped, a stamped block is that one, or was stamped before
stamped_now : (block stamp at : ℕ) (stamps : List ℕ) → get_or (set stamps block stamp) at 0 ≡ stamp → (at ≡ block) ⊎ (get_or stamps at 0 ≡ stamp)
stamped_now block stamp at stamps is =
    ⊎_elim (λ (same : at ≡ block). inl same) (λ (other : at ≢ block). inr (sym (get_or-set_other stamps block at stamp 0 other) ∙ is)) (cases_eq at block)

stays_stamped : (block stamp at : ℕ) (stamps : List ℕ) → block < length stamps → get_or stamps at 0 ≡ stamp → get_or (set stamps block stamp) at 0 ≡ stamp
stays_stamped block stamp at stamps below is =
    ⊎_elim
    (λ (same : at ≡ block). ap (λ (k : ℕ). get_or (set stamps block stamp) k 0) same ∙ get_or-set_same stamps block stamp 0 below)
    (λ (other : at ≢ block). get_or-set_other stamps block at stamp 0 other ∙ is) (cases_eq at block)

-- its own block alone
pub stamped_none : (own op : ℕ) (sources stamps : List ℕ) → All (λ one. one ≤ op) stamps → own < length stamps → Stamped own (op + 1) sources 0 (set stamps own (op + 1))
stamped_none own op sources stamps small below = record {
  most = All-set (λ one. one ≤ op + 1) stamps own (op + 1) (omega arith) (All-weaker (λ one. one ≤ op) (λ one. one ≤ op + 1) (λ one less. omega (arith, less)) stamps small);
  own_is = get_or-set_same stamps own (op + 1) 0 below;
  each = λ at none. absurd (omega (arith, none));
  found = λ block is. ⊎_elim (λ (same : block ≡ own). inl same) (λ (before : get_or stamps block 0 ≡ op + 1). absurd (not_yet op block stamps small before))
      (stamped_now own (op + 1) block stamps is);
  distinct = λ one other less none. absurd (omega (arith, none));
  others = λ at none. absurd (omega (arith, none));
}

-- with one source more, which is not stamped yet
pub stamped_more : (own stamp : ℕ) (sources : List ℕ) (count : ℕ) (stamps : List ℕ) (block : ℕ) → Stamped own stamp sources count stamps
    → get_or sources count 0 ≡ block → block < length stamps → get_or stamps block 0 ≢ stamp → Stamped own stamp sources (count + 1) (set stamps block stamp)
stamped_more own stamp sources count stamps block before is below fresh = record {
  most = All-set (λ one. one ≤ stamp) stamps block stamp (omega arith) before.most;
  own_is = stays_stamped block stamp own stamps below before.own_is;
  each = each;
  found = λ at now. found at (stamped_now block stamp at stamps now);
  distinct = distinct;
  others = others;
}
  where
    each : (at : ℕ) → at < count + 1 → get_or (set stamps block stamp) (get_or sources at 0) 0 ≡ stamp
    each at less =
        ⊎_elim
        (λ (earlier : at < count). stays_stamped block stamp (get_or sources at 0) stamps below (before.each at earlier))
        (λ (last : count ≤ at).
        let e : at ≡ count = omega (arith, less, last) in
        ap (λ (k : ℕ). get_or (set stamps block stamp) (get_or sources k 0) 0) e ∙ ap (λ (k : ℕ). get_or (set stamps block stamp) k 0) is
        ∙ get_or-set_same stamps block stamp 0 below) (cases_lt at count)

    found : (at : ℕ) → (at ≡ block) ⊎ (get_or stamps at 0 ≡ stamp) → (at ≡ own) ⊎ ((k : ℕ) × (k < count + 1) × (get_or sources k 0 ≡ at))
    found at (inl same) = inr (count, omega arith, is ∙ sym same)
    found at (inr earlier) =
        ⊎_elim (λ (own_one : at ≡ own). inl own_one)
        (λ (one : (k : ℕ) × (k < count) × (get_or sources k 0 ≡ at)). inr (one.0, omega (arith, one.1), one.2)) (before.found at earlier)

    distinct : (one other : ℕ) → one < other → other < count + 1 → get_or sources one 0 ≢ get_or sources other 0
    distinct one other less within same =
        ⊎_elim (λ (earlier : other < count). before.distinct one other less earlier same)
        (λ (last : count ≤ other).
        let e : other ≡ count = omega (arith, within, last) in
        fresh (ap (λ (k : ℕ). get_or stamps k 0) (sym (same ∙ ap (λ (k : ℕ). get_or sources k 0) e ∙ is)) ∙ before.each one (omega (arith, less, e)))) (cases_lt other count)

    others : (at : ℕ) → at < count + 1 → get_or sources at 0 ≢ own
    others at less same =
        ⊎_elim (λ (earlier : at < count). before.others at earlier same)
        (λ (last : count ≤ at).
        let e : at ≡ count = omega (arith, less, last) in
        fresh (ap (λ (k : ℕ). get_or stamps k 0) (sym is ∙ ap (λ (k : ℕ). get_or sources k 0) (sym e) ∙ same) ∙ before.own_is)) (cases_lt at count)

-- a source that is stamped already is not apart from the others
pub stamped_twice : (own stamp : ℕ) (sources : List ℕ) (count : ℕ) (stamps : List ℕ) (block : ℕ) → Stamped own stamp sources count stamps
    → get_or sources count 0 ≡ block → count < length sources → get_or stamps block 0 ≡ stamp → ¬ (AreApart sources own)
stamped_twice own stamp sources count stamps block before is within again apart = by_found (before.found block again)
  where
    by_found : (block ≡ own) ⊎ ((at : ℕ) × (at < count) × (get_or sources at 0 ≡ block)) → ⊥
    by_found (inl same) = apart.others count within (is ∙ same)
    by_found (inr one) = apart.distinct one.0 count one.1 within (one.2 ∙ sym is)

pub stamped_all : (own stamp : ℕ) (sources : List ℕ) (count : ℕ) (stamps : List ℕ) → Stamped own stamp sources count stamps → length sources ≤ count → AreApart sources own
stamped_all own stamp sources count stamps before all = record {
  distinct = λ one other less below. before.distinct one other less (omega (arith, below, all));
  others = λ at below. before.others at (omega (arith, below, all));
}
