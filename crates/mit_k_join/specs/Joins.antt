-- What a kernel of joins means.
use Rattle.slab.specs.Slab.{get}
use Rattle.mit_kernel.specs.Meaning.{Meaning}
use Rattle.mit_k_join.specs.declared.JoinKernel.{JoinKernel}

-- its kind is 5, and its slots are those that it keeps
abbrev pub kernel_meaning : JoinKernel → Meaning
kernel_meaning kernel = record { kind = 5; fed = kernel.fed; slots = λ slot. get kernel.slots slot }
