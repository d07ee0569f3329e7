-- Devices of the proofs: nobody has to believe them. The conditions of a valid plan in three parts, each decided where those before it hold.
use Rattle.std.specs.Prelude.{◌≡◌, IsTrue, Bool, MatchBool, count_by}
use Rattle.mit_plan.specs.Plans.{EachBlock, PlanOf, block_at}
use Rattle.mit_plan.specs.Valid.{EdgesGoUp, EdgesInOrder, GivesTruth, HasLast, HasTypes, InputsHaveEdges, IsReached, IsWithinLimits, JumpsEnd, LeavesNameBlocks, OperandsApart, PhisCopy, PlacesToChoose, RangesFollow, RoutesFit, WritesGiveNothing, is_branch, is_end}

-- whether something holds
abbrev pub Tells : Bool → Type 0 → Type 0
Tells holds P = MatchBool holds P (¬ P)

-- what is seen in the lists themselves
pub record ListsStand (plan : PlanOf) : Type 0 where
  pub ranges : RangesFollow plan
  pub phis : PhisCopy plan
  pub order : EdgesInOrder plan
  pub leaves : LeavesNameBlocks plan
  pub lasts : EachBlock plan (λ block. IsTrue (is_branch (block_at plan block).leave) → HasLast plan.ops (block_at plan block))
  pub jumps : JumpsEnd plan
  pub one_end : count_by (λ block. is_end block.leave) plan.blocks ≡ 1
  pub inputs : InputsHaveEdges plan
  pub operands : OperandsApart plan
  pub upward : EdgesGoUp plan
  pub writes : WritesGiveNothing plan
  pub limits : IsWithinLimits plan

-- what holds of all paths
pub record PathsStand (plan : PlanOf) : Type 0 where
  pub reached : EachBlock plan (IsReached plan)
  pub places : PlacesToChoose plan

-- what holds of types
pub record TypesStand (plan : PlanOf) : Type 0 where
  pub types : HasTypes plan
  pub truths : EachBlock plan (λ block. IsTrue (is_branch (block_at plan block).leave) → GivesTruth plan (block_at plan block))
  pub routes : RoutesFit plan
