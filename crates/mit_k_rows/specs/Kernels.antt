-- What a kernel of rows means.
use Rattle.slab.specs.Slab.{get}
use Rattle.mit_kernel.specs.Meaning.{Meaning}
use Rattle.mit_k_rows.specs.declared.RowsKernel.{RowsKernel}

abbrev pub rows_meaning : RowsKernel → Meaning
rows_meaning kernel = record { kind = kernel.kind.number; fed = kernel.fed; slots = λ slot. get kernel.slots slot }
