use Rattle.std.proofs.Common.{◌∙◌, List, ap, arith, map}
use Rattle.mit_staged.specs.StoredPuts.{put_of}
use Rattle.mit_staged.specs.declared.staged.Put.{Put as Stored}
use Rattle.mit_staged.proofs.StagedLemmas.{files_all, files_more, files_none}
use Rattle.mit_staged.proofs.staged.Staged.finish.Goals as goal

pub loop-put-init : goal.loop-put-init
loop-put-init c = c.new-files.ensures ∙ files_none

pub loop-put-preserved : goal.loop-put-preserved
loop-put-preserved c =
    files_more c.deref-put-items.result.now c.loop-put.put-index c.put-item.result c.loop-put.files c.put_owned.new.self c.as_str.result.now c.in_ok-text.text.items
    (omega arith) c.put-item.is c.loop-put.invariant c.in_ok-put_owned.ensures.ok c.as_str.ensures.value c.in_ok-text.ensures

pub returns : goal.returns
returns c =
    files_all c.deref-put-items.result.now c.loop-put.put-index c.args.self.now c.loop-put.files c.loop-put-test.false
    (ap (λ (l : List Stored). map put_of l) c.deref-put-items.ensures.value ∙ c.self.view_is) c.loop-put.invariant
