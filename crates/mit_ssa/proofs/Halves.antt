-- Statements one after another: what is woven so far and what is left give the whole.
use Rattle.std.proofs.Common.{◌≡◌, ◌∙◌, ◌≤◌, ◌<◌, ◌+◌, ℕ, List, ◌∷◌, length, get_or, drop, map, ap, sym, refl, arith}
use Rattle.std.proofs.lemmas.List.{drop_all, drop_more}
use Rattle.mit_ops.specs.declared.types.VarType.{VarType}
use Rattle.mit_script.specs.declared.tree.Stmt.{Stmt}
use Rattle.mit_ssa.specs.Weaving.{IsSmall, StopsWeaving, Weaves, blocks_built, builder_place}
use Rattle.mit_ssa.specs.Woven.{Weave, WovenStretch, place_after, weave_adds, weave_counts, weave_of, woven_all}
use Rattle.mit_ssa.specs.declared.build.Builder.{Builder}
use Rattle.mit_ssa.specs.declared.stop.PlanStop.{PlanStop}
use Rattle.mit_ssa.proofs.Counted.{block_counted, sum-map-cons}
use Rattle.mit_ssa.proofs.Laid.{same_place, stops_more}

abbrev weaves : List VarType → List Stmt → List Weave
weaves types block = map (weave_of types) block

pub record Half (types : List VarType) (stmts : List Stmt) (index : ℕ) (old now : Builder) : Type 0 where
  pub block : now.block + weave_adds (map (weave_of types) (drop index stmts)) ≡ old.block + weave_adds (map (weave_of types) stmts)
  pub statement : now.statement + weave_counts (map (weave_of types) (drop index stmts)) ≡ old.statement + weave_counts (map (weave_of types) stmts)
  pub operator : (woven_all (map (weave_of types) (drop index stmts)) (builder_place now)).operator ≡ (woven_all (map (weave_of types) stmts) (builder_place old)).operator
  pub defined : (woven_all (map (weave_of types) (drop index stmts)) (builder_place now)).defined ≡ (woven_all (map (weave_of types) stmts) (builder_place old)).defined
  pub onto : (stretch : WovenStretch) → blocks_built now ((woven_all (map (weave_of types) (drop index stmts)) (builder_place now)).onto stretch)
      ≡ blocks_built old ((woven_all (map (weave_of types) stmts) (builder_place old)).onto stretch)
  pub small : IsSmall now

pub half_none : (types : List VarType) (block : List Stmt) (old : Builder) → IsSmall old → Half types block 0 old old
half_none types block old small = record { block = refl; statement = refl; operator = refl; defined = refl; onto = λ stretch. refl; small = small }

-- the next statement, and those after it
next_weaves : (types : List VarType) (block : List Stmt) (index : ℕ) (stmt : Stmt) → index < length block → stmt ≡ get_or block index stmt
    → map (weave_of types) (drop index block) ≡ weave_of types stmt ∷ map (weave_of types) (drop (index + 1) block)
next_weaves types block index stmt within is =
    ap (λ list. map (weave_of types) list) (drop_more block index stmt within)
    ∙ ap (λ some. weave_of types some ∷ map (weave_of types) (drop (index + 1) block)) (sym is)

-- where a statement ends
after_is : (weave : Weave) (now new : Builder) → Weaves weave.count weave.added (weave.weave (builder_place now)) now new
    → builder_place new ≡ place_after (builder_place now) weave (weave.weave (builder_place now))
after_is weave now new done = same_place (builder_place new) (place_after (builder_place now) weave (weave.weave (builder_place now))) done.block done.operator done.statement done.defined

pub half_more : (types : List VarType) (block : List Stmt) (index : ℕ) (stmt : Stmt) (old now new : Builder) → index < length block → stmt ≡ get_or block index stmt
    → Half types block index old now → Weaves (weave_of types stmt).count (weave_of types stmt).added ((weave_of types stmt).weave (builder_place now)) now new
    → Half types block (index + 1) old new
unfolding woven_all
half_more types block index stmt old now new within is half done =
    let first = weave_of types stmt in
    let more = map (weave_of types) (drop (index + 1) block) in
    let next = next_weaves types block index stmt within is in
    let a = ap weave_adds next ∙ sum-map-cons (λ (one : Weave). one.added) first more in
    let b = ap weave_counts next ∙ sum-map-cons (λ (one : Weave). one.count) first more in
    let c = half.block in let d = half.statement in let e = done.block in let f = done.statement in
    let place = after_is first now new done in
    record {
      block = omega (arith, a, c, e);
      statement = omega (arith, b, d, f);
      operator = ap (λ at. (woven_all more at).operator) place ∙ (ap (λ list. (woven_all list (builder_place now)).operator) (sym next) ∙ half.operator);
      defined = ap (λ at. (woven_all more at).defined) place ∙ (ap (λ list. (woven_all list (builder_place now)).defined) (sym next) ∙ half.defined);
      onto = λ stretch.
          ap (λ at. blocks_built new ((woven_all more at).onto stretch)) place
          ∙ (done.onto ((woven_all more (place_after (builder_place now) first (first.weave (builder_place now)))).onto stretch)
          ∙ (ap (λ list. blocks_built now ((woven_all list (builder_place now)).onto stretch)) (sym next) ∙ half.onto stretch));
      small = done.small;
    }

pub half_whole : (types : List VarType) (block : List Stmt) (index : ℕ) (old now : Builder) → length block ≤ index → Half types block index old now
    → Weaves (weave_counts (map (weave_of types) block)) (weave_adds (map (weave_of types) block)) (woven_all (map (weave_of types) block) (builder_place old)) old now
unfolding woven_all
half_whole types block index old now past half =
    let none = ap (λ list. map (weave_of types) list) (drop_all index block past) in
    let a = ap weave_adds none in let b = ap weave_counts none in
    let c = half.block in let d = half.statement in
    record {
      block = omega (arith, a, c);
      operator = ap (λ list. (woven_all list (builder_place now)).operator) (sym none) ∙ half.operator;
      statement = omega (arith, b, d);
      defined = ap (λ list. (woven_all list (builder_place now)).defined) (sym none) ∙ half.defined;
      onto = λ stretch. ap (λ list. blocks_built now ((woven_all list (builder_place now)).onto stretch)) (sym none) ∙ half.onto stretch;
      small = half.small;
    }

-- a statement stops, and so do all
pub half_stops : (types : List VarType) (block : List Stmt) (index : ℕ) (stmt : Stmt) (old now : Builder) (stop : PlanStop) → index < length block
    → stmt ≡ get_or block index stmt → Half types block index old now → StopsWeaving ((weave_of types stmt).weave (builder_place now)).operator stop
    → StopsWeaving (woven_all (map (weave_of types) block) (builder_place old)).operator stop
unfolding woven_all
half_stops types block index stmt old now stop within is half stops =
    let first = weave_of types stmt in
    let more = map (weave_of types) (drop (index + 1) block) in
    let a = (block_counted types (drop (index + 1) block)).grows (place_after (builder_place now) first (first.weave (builder_place now))) in
    let b = ap (λ list. (woven_all list (builder_place now)).operator) (next_weaves types block index stmt within is) in
    let c = half.operator in
    stops_more _ _ stop (omega (arith, a, b, c)) stops
