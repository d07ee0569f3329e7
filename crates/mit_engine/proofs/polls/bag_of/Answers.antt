use Rattle.std.proofs.Common.{◌≡◌, ◌∙◌, ◌≤◌, ℕ, List, ap, subst, take}
use Rattle.std.specs.Prelude.{replicate}
use Rattle.std.proofs.lemmas.List.{take-replicate}
use Rattle.mit_rows.specs.declared.row.TheConstants.{MAX_COLUMNS}
use Rattle.mit_rows.specs.declared.value.ColType.{ColType}
use Rattle.mit_rows.specs.declared.value.ColType.TheVariants as column
use Rattle.mit_files.specs.Rows.{rows_of}
use Rattle.mit_engine.specs.Operators.{PollGivesBag}
use Rattle.mit_engine.specs.Reads.{bag_of_rows, integers}
use Rattle.mit_engine.proofs.polls.bag_of.Goals as goal

-- the first of the most columns, all of integers
few_integers : (count columns : ℕ) → count ≡ columns → columns ≤ MAX_COLUMNS → take count (replicate MAX_COLUMNS column.Int) ≡ integers columns
few_integers count columns same few = ap (λ n. take n (replicate MAX_COLUMNS column.Int)) same ∙ take-replicate columns 16 column.Int few

pub returns-clause-bag : goal.returns-clause-bag
returns-clause-bag c =
    let P : List ColType → Type 0 = λ types. PollGivesBag (bag_of_rows (rows_of c.args.bytes.now types)) c.bag_with.result in
    subst P (few_integers c.from.result c.args.columns c.from.ensures c.requires) c.bag_with.ensures.bag
