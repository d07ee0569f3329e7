-- The blocks of a loop, one after another.
use Rattle.std.proofs.Common.{◌≡◌, ◌∙◌, ◌++◌, ◌+◌, List, [], ◌∷◌, append_assoc, arith, refl}
use Rattle.std.proofs.lemmas.Result.{IfOk-weaker}
use Rattle.mit_ops.specs.declared.leave.Leave.TheVariants.{Branch}
use Rattle.mit_ssa.specs.declared.block.Block.{Block}
use Rattle.mit_ssa.proofs.build.loop_blocks.Goals as goal

-- those before, the header and those of the body
laid : (all entered pushed last before body : List Block) (header : Block)
    → pushed ≡ entered ++ (header ∷ []) → entered ≡ before → last ≡ body → all ≡ pushed ++ last → all ≡ before ++ (header ∷ body)
laid all entered pushed last before body header pushes enters lasts is =
    is ∙ ((λ i. pushes i ++ lasts i) ∙ ((λ i. (enters i ++ (header ∷ [])) ++ body) ∙ rw append_assoc refl))

pub overflow_add-header : goal.overflow_add-header
overflow_add-header c = omega (arith, c.requires.small.blocks, c.requires.small.operators)

pub overflow_add-leave : goal.overflow_add-leave
overflow_add-leave c = omega (arith, c.requires.small.blocks, c.requires.small.operators)

pub overflow_add-leave-2 : goal.overflow_add-leave-2
overflow_add-leave-2 c = omega (arith, c.requires.body.blocks, c.requires.body.operators)

pub returns : goal.returns
returns c =
    let next : c.args.before.block + 1 + 1 ≡ c.args.before.block + 2 = omega arith in
    IfOk-weaker c.followed.result _ _
    (λ all same. laid all.items c.in_ok-entered.entered.items c.push.new.self.items c.in_ok-closed.field-0.items _ _ _
    (c.in_ok-push.ensures.items
    ∙ (λ i. c.in_ok-entered.entered.items ++ (record { operators = c.from_vec.ensures i; leave = Branch (next i) (c.args.body.block + 1) } ∷ [])))
    c.in_ok-entered.ensures c.in_ok-closed.ensures same) c.followed.ensures
