use Rattle.std.proofs.Common.{◌≡◌, ◌∙◌, ℕ, List, Option, Some, None, Result, Ok, Err, ap, subst, sym}
use Rattle.std.specs.Prelude.{IfSome, option_and_then}
use Rattle.std.specs.FinMap as fin
use Rattle.mit_rows.specs.Bags.{BagOf}
use Rattle.mit_rows.specs.declared.value.ColType.{ColType}
use Rattle.mit_files.specs.Files.{FileMap}
use Rattle.mit_files.specs.Rows.{rows_of}
use Rattle.mit_shelf.specs.Shelf.{Agrees, FetchesAs, Kept, bytes_at, kept}
use Rattle.mit_shelf.specs.declared.shelf.FetchFault.{FetchFault}
use Rattle.mit_shelf.specs.declared.shelf.FetchFault.TheVariants as fetched
use Rattle.mit_shelf.specs.declared.stop.Stop.{Stop}
use Rattle.mit_shelf.specs.declared.stop.Stop.TheVariants as stop
use Rattle.mit_ops.specs.declared.faults.FaultKind.{FaultKind}
use Rattle.mit_ops.specs.declared.faults.FaultKind.TheVariants as fault
use Rattle.mit_engine.specs.Operators.{PollGivesBag}
use Rattle.mit_engine.specs.Reads.{bag_of_file, bag_of_rows, integers, read_bag}
use Rattle.mit_engine.proofs.polls.read.Goals as goal

-- files that agree with a shelf have a name as it is kept there
kept_there : (shelf : Kept) (name : List ℕ) (file : Option (List ℕ)) → kept shelf name ≡ Some file → (files : FileMap) → Agrees shelf files → fin.get files name ≡ file
kept_there shelf name file is files agrees =
    let P : Option (Option (List ℕ)) → Type 0 = λ k. IfSome k (λ f. fin.get files name ≡ f) in subst P is (agrees name)

-- what is made of the bytes at the place that a fetch gave is what a read gives
read_found : (old new : Kept) (asked name : List ℕ) (told : Option FileMap) (place : ℕ) (bytes : List ℕ) (types : List ColType) (result : Result BagOf (Stop FaultKind))
    → asked ≡ name → FetchesAs old new asked told (Ok place) → bytes_at new place ≡ Some bytes → PollGivesBag (bag_of_rows (rows_of bytes types)) result
    → (files : FileMap) → Agrees new files → PollGivesBag (read_bag files name types) result
read_found old new asked name told place bytes types result same fetched at gives files agrees =
    let there : bytes_at new place ≡ Some fetched.0 = ap (option_and_then (λ (entry : List ℕ × Option (List ℕ)). entry.1)) fetched.1 in
    let is : fetched.0 ≡ bytes = cc in
    let found : fin.get files name ≡ Some bytes =
    ap (fin.get files) (sym same) ∙ kept_there new asked (Some fetched.0) fetched.2.0 files agrees ∙ ap Some is in
    let P : Option (List ℕ) → Type 0 = λ file. PollGivesBag (bag_of_file types file) result in
    subst P (sym found) gives

-- a name that is kept as absent has no file
read_absent : (old new : Kept) (asked name : List ℕ) (told : Option FileMap) (types : List ColType) (why : Stop FetchFault) (cause : FetchFault)
    → asked ≡ name → why ≡ stop.Fault cause → cause ≡ fetched.NoFile → FetchesAs old new asked told (Err why)
    → (files : FileMap) → Agrees new files → read_bag files name types ≡ Err fault.NoFile
read_absent old new asked name told types why cause same why_is cause_is fetches files agrees =
    let P : Stop FetchFault → Type 0 = λ w. FetchesAs old new asked told (Err w) in
    let keeps : FetchesAs old new asked told (Err (stop.Fault fetched.NoFile)) = subst P (why_is ∙ ap stop.Fault cause_is) fetches in
    ap (bag_of_file types) (ap (fin.get files) (sym same) ∙ kept_there new asked None keeps.0 files agrees)

pub returns-in-Ok-clause-bag : goal.returns-in-Ok-clause-bag
returns-in-Ok-clause-bag g c =
    read_found c.args.shelf.now c.fetch.new.self c.bytes.result.now c.args.name.now (g.F.Folder.files c.args.folder.now) c.in-Ok.place c.file_at.result.now (integers c.args.columns)
    c.bag_of.result c.bytes.ensures c.in-Ok.ensures.fetched c.file_at.ensures c.bag_of.ensures.bag

pub returns-in-Err-Fault-NoFile-clause-bag : goal.returns-in-Err-Fault-NoFile-clause-bag
returns-in-Err-Fault-NoFile-clause-bag g c =
    read_absent c.args.shelf.now c.fetch.new.self c.bytes.result.now c.args.name.now (g.F.Folder.files c.args.folder.now) (integers c.args.columns)
    c.in-Err-Fault-NoFile.field-0 c.in-Err-Fault-NoFile.field-0-0 c.bytes.ensures c.in-Err-Fault-NoFile.field-0-is
    (rw c.in-Err-Fault-NoFile.field-0-is at c.in-Err-Fault-NoFile.field-0-0-is)
    c.in-Err-Fault-NoFile.ensures.fetched
