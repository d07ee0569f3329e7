use Rattle.std.proofs.Common.{◌≡◌, ◌∙◌, ◌++◌, ◌∷◌, [], ap, refl, arith, length}
use Rattle.std.proofs.lemmas.Result.{IfOk-weaker}
use Rattle.mit_ssa.specs.Numbering.{AddsOperators}
use Rattle.mit_ssa.proofs.Numbered.{block_added}
use Rattle.mit_ssa.proofs.number.add_block.Goals as goal

pub returns-clause-added : goal.returns-clause-added
returns-clause-added c =
    let number : c.len-number.result ≡ length c.args.lists.blocks.items = c.len-number.ensures ∙ c.args.lists.blocks.ok.0 in
    let first : c.len-first.result ≡ length c.args.lists.ops.items = c.len-first.ensures ∙ c.args.lists.ops.ok.0 in
    let same = c.into_vec-operators.ensures in
    let size = ap length same in
    let count : c.len-3.result ≡ length c.args.block.operators = c.len-3.ensures ∙ (c.into_vec-operators.result.ok.0 ∙ size) in
    let a = c.len.ensures ∙ c.into_vec-operators.result.ok.0 in
    let b = c.len-2.ensures ∙ c.args.lists.ops.ok.0 in
    let d = c.if-len.false in
    let e = c.requires.ops in
    IfOk-weaker c.add_operators.result
    (AddsOperators c.len-number.result c.into_vec-operators.result.items (record { blocks = c.push.new.self; ops = c.args.lists.ops; edges = c.args.lists.edges })) _
    (λ new added. block_added c.args.block c.args.lists (record { blocks = c.push.new.self; ops = c.args.lists.ops; edges = c.args.lists.edges }) new
    c.len-number.result c.into_vec-operators.result.items number same
    (c.in_ok-push.ensures.items ∙ (λ i. c.args.lists.blocks.items ++ record { first = first i; count = count i; leave = c.args.block.leave } ∷ []))
    refl refl (omega (arith, a, b, d, e)) added) c.add_operators.ensures.added
