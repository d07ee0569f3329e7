use Rattle.mit_op_laws.proofs.FileLaws.{part_without_files, whole_without_files}
use Rattle.mit_op_laws.proofs.laws.files_law.Goals as goal

pub returns : goal.returns
returns c = record { part = part_without_files; whole = whole_without_files }
