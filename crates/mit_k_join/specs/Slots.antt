-- Devices of the proofs: nobody has to believe them. What a slot of the kernel keeps.
use Rattle.std.specs.Prelude.{◌≡◌, ℕ, List, [], length}
use Rattle.mit_kernel.specs.Meaning.{Slot}
use Rattle.mit_ops.specs.Forms.{rows_at}
use Rattle.mit_ops.specs.Kinds.{kind_of}
use Rattle.mit_ops.specs.declared.kinds.OpSpec.{OpSpec}
use Rattle.mit_ops.specs.declared.kinds.OpSpec.TheVariants as op
use Rattle.mit_keyed.specs.Indexes.{IsIndex}
use Rattle.mit_keyed.specs.declared.index.Index.{Index}

-- the columns of the left keys
abbrev pub left_keys : OpSpec → List ℕ
left_keys (op.Join left right) = left
left_keys other = []

-- a join over two lists, with an index of the rows of the first
pub record IsJoin (fed : Slot) (index : Index) : Type 0 where
  pub kind : kind_of fed.spec ≡ 5
  pub two : length fed.lists ≡ 2
  pub indexed : IsIndex (left_keys fed.spec) (rows_at fed.lists 0) index
