use Rattle.std.proofs.Common.{Bor, List, ℕ, Some, ◌≡◌, ◌∙◌, rules, inr, true, false}
use Rattle.csv.specs.Records.{fields_of}
use Rattle.mit_shelf.proofs.ParseFacts.{progress_bad, progress_end, progress_more, progress_start}
use Rattle.mit_shelf.proofs.rows.parse_part.Goals as goal

pub loop-number-init : goal.loop-number-init
loop-number-init c =
    let made = c.from_reader-reader.ensures in
    let flexible = c.flexible.ensures in
    let headers = c.has_headers.ensures in
    rw c.new-rows.ensures.items (
    progress_start (λ (s : Bor (List ℕ)). Some s.now) c.args.types.now c.args.part c.args.parts c.args.bytes.now c.from_reader-reader.result
    (rw (flexible, headers) at made.trim ∙ c.new.ensures.trim)
    (inr (inr (rw (flexible, headers) at made.has_headers, made.headers)))
    (rw (flexible, headers) at made.config ∙ c.new.ensures.config)
    made.state
    made.source)

pub returns-then-not-found-clause-rows : goal.returns-then-not-found-clause-rows
returns-then-not-found-clause-rows c =
    let progress = c.loop-number.invariant in
    let none : c.in-Ok.found ≡ false = search rules in
    progress_end (λ (s : Bor (List ℕ)). Some s.now) c.args.types.now c.args.part c.args.parts c.args.bytes.now c.loop-number.reader c.read_byte_record.new.self
    (fields_of c.read_byte_record.new.row) c.loop-number.rows.items c.loop-number.number progress
    (rw none at (c.in-Ok.ensures.reads progress.untrimmed progress.ready))

pub returns-then-not-fits-clause-refused : goal.returns-then-not-fits-clause-refused
returns-then-not-fits-clause-refused c =
    let progress = c.loop-number.invariant in
    let some : c.in-Ok.found ≡ true = search rules in
    progress_bad (λ (s : Bor (List ℕ)). Some s.now) c.args.types.now c.args.part c.args.parts c.args.bytes.now c.loop-number.reader c.read_byte_record.new.self
    (fields_of c.read_byte_record.new.row) c.loop-number.rows.items c.add_row.new.rows.items c.is_of_part-wanted.result c.in_ok-fits.fits c.loop-number.number progress
    (rw some at (c.in-Ok.ensures.reads progress.untrimmed progress.ready))
    c.in_ok-fits.ensures c.if-not-fits.true

pub loop-number-preserved : goal.loop-number-preserved
loop-number-preserved c =
    let progress = c.loop-number.invariant in
    let some : c.in-Ok.found ≡ true = search rules in
    progress_more (λ (s : Bor (List ℕ)). Some s.now) c.args.types.now c.args.part c.args.parts c.args.bytes.now c.loop-number.reader c.read_byte_record.new.self
    (fields_of c.read_byte_record.new.row) c.loop-number.rows.items c.add_row.new.rows.items c.is_of_part-wanted.result c.in_ok-fits.fits c.loop-number.number progress
    (c.in-Ok.ensures.ready progress.untrimmed)
    (rw some at (c.in-Ok.ensures.reads progress.untrimmed progress.ready))
    c.is_of_part-wanted.ensures c.in_ok-fits.ensures c.if-not-fits.false
