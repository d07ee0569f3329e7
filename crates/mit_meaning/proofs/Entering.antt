-- What holds at the end of a block holds where the next one is entered; and nothing stands before the first place.
use Rattle.std.proofs.Common.{◌≡◌, ◌∙◌, ◌<◌, ◌≤◌, ◌+◌, ℕ, suc, List, [], ◌∷◌, ◌++◌, length, get_or, ap, sym, subst, arith, Contains, inl, inr}
use Rattle.std.specs.Prelude.{◌⊎◌}
use Rattle.std.specs.Option.{is_some}
use Rattle.std.proofs.lemmas.Bool.{cases_lt}
use Rattle.std.proofs.lemmas.List.{get_or_append_left, get_or_past, get_or_push, length_push}
use Rattle.std.proofs.lemmas.List.Elements.{All-contains}
use Rattle.mit_cfg.specs.declared.block.Block.{Block as Code}
use Rattle.mit_plan.specs.Held.{History, Job, op_of}
use Rattle.mit_plan.specs.Paths.{next_of}
use Rattle.mit_plan.specs.Plans.{PlanOf, block_at, no_block}
use Rattle.mit_plan.specs.Sums.{bag_at}
use Rattle.mit_plan.specs.declared.plan.PlanBlock.{PlanBlock}
use Rattle.mit_script.specs.Execution.{Store}
use Rattle.mit_ssa.specs.Reaching.{AreListed, Reaching, is_for, reach, reaching}
use Rattle.mit_meaning.proofs.Good.{Good, Holds, IsBefore, IsPair, Last, Stands}

-- ---- the first place

-- nothing stands before the first pair
none_before : (other at : ℕ) → IsBefore other at 0 0 → ⊥
none_before other at (inl less) = omega (arith, less)
none_before other at (inr here) = let less = here.1 in omega (arith, less)

-- at the first place nothing is surely defined
pub first_good : (job : Job) (code : List Code) (known : Reaching) → Stands job code known → (history : History) (store : Store) → get_or history.path 0 0 ≡ 0 → Good job known history 0 0 store
unfolding reach
first_good job code known stands history store start = record {
  stood = λ other at there before. absurd (none_before other at before);
  holds = λ variable some.
      let none : length (known.entry (get_or history.path 0 0) variable) ≡ 0 =
      ap (λ (block : ℕ). length (known.entry block variable)) start ∙ ap length (stands.reaches.start variable) in
      absurd (omega (arith, none, some));
}

-- ---- a path with a place more

-- a block that may be left for another one is there
leads_on : (plan : PlanOf) (block next : ℕ) → Contains (next_of (block_at plan block).leave) next → block < length plan.blocks
leads_on plan block next listed = by_order (cases_lt block (length plan.blocks))
  where
    by_order : (block < length plan.blocks) ⊎ (length plan.blocks ≤ block) → block < length plan.blocks
    by_order (inl below) = below
    by_order (inr past) =
        let none : length (next_of (block_at plan block).leave) ≡ 0 = ap (λ (one : PlanBlock). length (next_of one.leave)) (get_or_past plan.blocks block no_block past) in
        let some = listed.1 in
        absurd (omega (arith, none, some))

module _ (plan : PlanOf) (path longer : List ℕ) (place next : ℕ) (size : length path ≡ suc place) (is : longer ≡ path ++ next ∷ []) where
  -- the earlier blocks, operators and pairs are the same
  same_block : (other : ℕ) → other < length path → get_or longer other 0 ≡ get_or path other 0
  same_block other below = ap (λ (blocks : List ℕ). get_or blocks other 0) is ∙ get_or_append_left path (next ∷ []) 0 other below

  block_entered : get_or longer (suc place) 0 ≡ next
  block_entered = ap (λ (blocks : List ℕ). get_or blocks (suc place) 0) is ∙ get_or_push path next 0 (suc place) size

  pair_before : (other at : ℕ) → other < length path → IsPair plan longer other at → IsPair plan path other at
  pair_before other at below pair = (below, subst (λ (block : ℕ). at < (block_at plan block).count) (same_block other below) pair.1)

  pair_after : (other at : ℕ) → IsPair plan path other at → IsPair plan longer other at
  pair_after other at pair =
      let many : length longer ≡ length path + 1 = ap length is ∙ length_push path next in
      let below = pair.0 in
      (omega (arith, many, below), subst (λ (block : ℕ). at < (block_at plan block).count) (sym (same_block other below)) pair.1)

  -- what stands before the new place stands before the end of the block there
  place_before : (other at : ℕ) → IsBefore other at (suc place) 0 → other < length path
  place_before other at (inl less) = omega (arith, size, less)
  place_before other at (inr here) = let less = here.1 in absurd (omega (arith, less))

  before_end : (other at : ℕ) → IsPair plan path other at → IsBefore other at place (block_at plan (get_or path place 0)).count
  before_end other at pair = by_order (cases_lt other place)
    where
      by_order : (other < place) ⊎ (place ≤ other) → IsBefore other at place (block_at plan (get_or path place 0)).count
      by_order (inl less) = inl less
      by_order (inr more) =
          let below = pair.0 in
          let same : other ≡ place = omega (arith, size, more, below) in
          inr (same, subst (λ (block : ℕ). at < (block_at plan block).count) (ap (λ (n : ℕ). get_or path n 0) same) pair.1)

  same_op : (other at : ℕ) → other < length path → op_of plan longer other at ≡ op_of plan path other at
  same_op other at below = ap (λ (block : ℕ). (block_at plan block).first + at) (same_block other below)

  -- the last definition before the end of a block is the last one before the next place
  last_entered : (known : Reaching) (variable : ℕ) → Last plan known path place (block_at plan (get_or path place 0)).count variable → Last plan known longer (suc place) 0 variable
  last_entered known variable last = record {
    at = last.at;
    under = last.under;
    pair = pair_after last.at last.under last.pair;
    before = inl (let below = last.pair.0 in omega (arith, size, below));
    defines = ap known.defines (same_op last.at last.under last.pair.0) ∙ last.defines;
    none = λ other within there after before.
        let below = place_before other within before in
        let pair = pair_before other within below there in
        ap (λ (op : ℕ). is_for (known.defines op) variable) (same_op other within below) ∙ last.none other within pair after (before_end other within pair);
  }

-- ---- the next block

-- the bags that were made before stay
abbrev Stay : Job → History → History → Type 0
Stay job history longer = (other at : ℕ) → other < length history.path → bag_at job longer other at ≡ bag_at job history other at

-- a variable that is surely defined in the next block has the bag that it had at the end of this one
holds_entered : (job : Job) (known : Reaching) (history longer : History) (place next : ℕ) (store : Store) (variable : ℕ) → length history.path ≡ suc place
    → longer.path ≡ history.path ++ next ∷ [] → Stay job history longer
    → AreListed (reaching job.plan known (get_or history.path place 0) (block_at job.plan (get_or history.path place 0)).count variable) (known.entry next variable)
    → Holds job known history place (block_at job.plan (get_or history.path place 0)).count store variable → Holds job known longer (suc place) 0 store variable
unfolding reach last_entered
holds_entered job known history longer place next store variable size is stay listed holds =
    let block = get_or history.path place 0 in
    let op = op_of job.plan history.path holds.last.at holds.last.under in
    let below = holds.last.pair.0 in
    let all = All-contains (Contains (known.entry next variable)) (reaching job.plan known block (block_at job.plan block).count variable) op listed.all holds.listed in
    let moved = subst (λ (one : ℕ). Contains (known.entry next variable) one) (sym (same_op job.plan history.path longer.path place next size is holds.last.at holds.last.under below)) all in
    record {
      last = last_entered job.plan history.path longer.path place next size is known variable holds.last;
      listed = subst (λ (one : ℕ). Contains (known.entry one variable) (op_of job.plan longer.path holds.last.at holds.last.under))
          (sym (block_entered job.plan history.path longer.path place next size is)) moved;
      bag = stay holds.last.at holds.last.under below ∙ holds.bag;
    }

-- what holds at the end of a block holds where the next one is entered
pub enter_good : (job : Job) (code : List Code) (known : Reaching) → Stands job code known → (history longer : History) (place next : ℕ) (store : Store) → length history.path ≡ suc place
    → longer.path ≡ history.path ++ next ∷ [] → Contains (next_of (block_at job.plan (get_or history.path place 0)).leave) next
    → ((other at : ℕ) → other < length history.path → bag_at job longer other at ≡ bag_at job history other at)
    → Good job known history place (block_at job.plan (get_or history.path place 0)).count store → Good job known longer (suc place) 0 store
unfolding reach
enter_good job code known stands history longer place next store size is leads stay good = record {
  stood = λ other at there before.
      let below = place_before job.plan history.path longer.path place next size is other at before in
      let pair = pair_before job.plan history.path longer.path place next size is other at below there in
      ap is_some (stay other at below) ∙ good.stood other at pair (before_end job.plan history.path longer.path place next size is other at pair);
  holds = λ variable some. by_entry variable
      (subst (λ (block : ℕ). 0 < length (known.entry block variable)) (block_entered job.plan history.path longer.path place next size is) some)
      (stands.reaches.leads (get_or history.path place 0) next variable there leads);
}
  where
    there : get_or history.path place 0 < length code
    there = let many = stands.reaches.many in let below = leads_on job.plan (get_or history.path place 0) next leads in omega (arith, many, below)

    by_entry : (variable : ℕ) → 0 < length (known.entry next variable)
        → (known.entry next variable ≡ []) ⊎ AreListed (reaching job.plan known (get_or history.path place 0) (block_at job.plan (get_or history.path place 0)).count variable) (known.entry next variable)
        → Holds job known longer (suc place) 0 store variable
    by_entry variable some (inl none) = let size = ap length none in absurd (omega (arith, size, some))
    by_entry variable some (inr listed) =
        holds_entered job known history longer place next store variable size is stay listed (good.holds variable listed.some)
