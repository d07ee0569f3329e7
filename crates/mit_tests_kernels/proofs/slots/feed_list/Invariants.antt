use Rattle.std.proofs.Common.{map}
use Rattle.mit_tests_kernels.specs.Held.{Keeps}
use Rattle.mit_tests_kernels.proofs.slots.feed_list.Given as goal

abbrev pub invariant-loop-row : goal.invariant-loop-row
invariant-loop-row g l =
    Keeps ((goal.Kernel-dyn g (l.initial.kernel.vtable, l.initial.kernel.value)).meaning l.initial.kernel.value)
    ((goal.Kernel-dyn g (l.kernel.vtable, l.kernel.value)).meaning l.kernel.value) (map (λ rows. rows.items) l.lists)
