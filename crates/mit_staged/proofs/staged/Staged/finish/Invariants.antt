use Rattle.std.proofs.Common.{◌≡◌, take}
use Rattle.mit_staged.proofs.StagedLemmas.{files_of}
use Rattle.mit_staged.proofs.staged.Staged.finish.Given as goal

abbrev pub invariant-loop-put : goal.invariant-loop-put
invariant-loop-put l = l.files ≡ files_of (take l.put-index l.put-items)
