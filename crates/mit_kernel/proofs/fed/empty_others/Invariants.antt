use Rattle.std.proofs.Common.{◌≡◌, length, map, take}
use Rattle.mit_kernel.specs.Meaning.{kept_lists}
use Rattle.mit_kernel.proofs.fed.empty_others.Given as goal

abbrev pub invariant-loop-input : goal.invariant-loop-input
invariant-loop-input l = record {
  length_same : length l.lists.items ≡ length l.fn.lists.items;
  rows : map (λ rows. rows.items) l.lists.items ≡ kept_lists (take l.input l.keep) (map (λ rows. rows.items) l.fn.lists.items);
}
