use Rattle.std.proofs.Common.{◌≡◌, ◌∙◌, Ok, Err, ap}
use Rattle.mit_shelf.specs.declared.shelf.FetchFault.TheVariants as fetched
use Rattle.mit_shelf.specs.declared.stop.Stop.TheVariants as stop
use Rattle.mit_step.proofs.Reading.{legal_name, read_absent, read_found, read_illegal}
use Rattle.mit_step.proofs.evaluate.file_bag.Goals as goal

pub returns-in-Ok-clause-bag : goal.returns-in-Ok-clause-bag
returns-in-Ok-clause-bag g c =
    let legal = legal_name c.bytes.result.now (Ok c.in-Ok.place) c.in-Ok.ensures.bad_name (λ same. cc) in
    rw c.bytes.ensures.value at (read_found c.args.shelf.now c.fetch.new.self c.bytes.result.now (g.F.Folder.files c.args.folder.now) c.in-Ok.place c.file_at.result.now
    c.args.types.now c.bag_of_bytes.result legal c.in-Ok.ensures.fetched c.file_at.ensures c.bag_of_bytes.ensures.bag)

pub returns-in-Err-Fault-BadName-clause-bag : goal.returns-in-Err-Fault-BadName-clause-bag
returns-in-Err-Fault-BadName-clause-bag g c = λ files agrees.
    let is : c.in-Err-Fault-BadName.field-0 ≡ stop.Fault fetched.BadName =
    c.in-Err-Fault-BadName.field-0-is ∙ ap stop.Fault (rw c.in-Err-Fault-BadName.field-0-is at c.in-Err-Fault-BadName.field-0-0-is) in
    rw c.bytes.ensures.value at (read_illegal c.bytes.result.now c.args.types.now (c.in-Err-Fault-BadName.ensures.bad_name.0 (ap Err is)) files)

pub returns-in-Err-Fault-NoFile-clause-bag : goal.returns-in-Err-Fault-NoFile-clause-bag
returns-in-Err-Fault-NoFile-clause-bag g c =
    let is : c.in-Err-Fault-NoFile.field-0 ≡ stop.Fault fetched.NoFile =
    c.in-Err-Fault-NoFile.field-0-is ∙ ap stop.Fault (rw c.in-Err-Fault-NoFile.field-0-is at c.in-Err-Fault-NoFile.field-0-0-is) in
    let legal = legal_name c.bytes.result.now (Err c.in-Err-Fault-NoFile.field-0) c.in-Err-Fault-NoFile.ensures.bad_name (λ same. cc) in
    rw c.bytes.ensures.value at (read_absent c.args.shelf.now c.fetch.new.self c.bytes.result.now (g.F.Folder.files c.args.folder.now) c.args.types.now
    c.in-Err-Fault-NoFile.field-0 is legal c.in-Err-Fault-NoFile.ensures.fetched)
