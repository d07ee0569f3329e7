-- What a kernel that groups rows means.
use Rattle.slab.specs.Slab.{get}
use Rattle.mit_kernel.specs.Meaning.{Meaning}
use Rattle.mit_k_group.specs.declared.kernel.GroupKernel.{GroupKernel}

abbrev pub group_meaning : GroupKernel → Meaning
group_meaning kernel = record { kind = kernel.kind; fed = kernel.fed; slots = λ slot. get kernel.slots slot }
