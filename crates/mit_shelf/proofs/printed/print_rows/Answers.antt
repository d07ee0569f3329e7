use Rattle.std.proofs.Common.{Some, refl, arith}
use Rattle.csv.specs.Records.{fields_of}
use Rattle.mit_shelf.proofs.PrintFacts.{bag_text_none, printed_more}
use Rattle.mit_shelf.proofs.printed.print_rows.Goals as goal

pub loop-row-init : goal.loop-row-init
loop-row-init c =
    let made = c.from_writer-writer.ensures in
    record {
      written = rw (made.wtr, c.in_ok-text.ensures.items, made.empty, bag_text_none) refl;
      setup = rw (c.flexible.ensures, c.new.ensures) at made.cfg;
      ended = made.fields;
      clean = made.wrote;
    }

pub loop-row-preserved : goal.loop-row-preserved
loop-row-preserved c =
    let wrote = c.in-Ok.ensures in
    printed_more (λ v. Some v.items) c.loop-row.writer c.write_byte_record.new.self c.rows-rows.result.now c.loop-row.row-index c.row-item.result
    (fields_of c.fill_record.new.texts) (omega arith) c.row-item.is c.loop-row.invariant c.in_ok-fill_record.ensures
    wrote.bytes wrote.ended wrote.clean wrote.setup
