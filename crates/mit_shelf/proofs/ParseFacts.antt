-- How a loop reads the rows of a file.
use Rattle.std.proofs.Common.{◌≡◌, ℕ, ◌+◌, inl, true, false, List, [], ◌∷◌, ◌++◌, length, Option, Some, Ok, Err, refl, sym, ap, ◌∙◌, arith, append_assoc}
use Rattle.std.proofs.lemmas.Grind.{common_steps}
use Rattle.csv.specs.Reading.{ReadRecord, Reached, Ready, default_config, reader_config, reader_state, reader_trim, source_of, strip_bom, took_first}
use Rattle.csv.specs.declared.reader.Reader.{Reader}
use Rattle.csv.specs.declared.reader.Trim.TheVariants as trim
use Rattle.csv.specs.declared.parser.State.TheVariants as st
use Rattle.csv.proofs.ReadFacts.{rows-end, rows-more}
use Rattle.std.specs.Prelude.{Bool, cond, ◌==◌, ◌%◌}
use Rattle.mit_rows.specs.Bags.{RowOf}
use Rattle.mit_rows.specs.declared.value.ColType.{ColType}
use Rattle.mit_files.specs.Rows.{part_of, row_of, rows_from, rows_of, rows_of_part}
use Rattle.mit_shelf.specs.Adding.{AddsRow}
use Rattle.mit_shelf.proofs.RecordFacts.{records_begin, records_end}
use Rattle.mit_shelf.proofs.RowFacts.{added, part_none, part_push, refused, rows_bad, rows_many, rows_more, rows_none}

-- the reader reads on after the records that were seen, and these are good and give the rows so far
pub record Progress {R : Type 0} (rem : R → Option (List ℕ)) (types : List ColType) (part parts : ℕ) (bytes : List ℕ) (reader : Reader R) (rows : List RowOf) (number : ℕ) : Type 0 where
  pub untrimmed : reader_trim reader ≡ trim.None
  pub ready : Ready reader
  pub config : reader_config reader ≡ default_config
  pub left : List ℕ
  pub source : source_of rem reader ≡ Some left
  pub seen : List (List (List ℕ))
  pub reached : Reached default_config st.StartRecord (strip_bom bytes) seen (reader_state reader) left
  pub whole : List RowOf
  pub good : rows_from types 0 seen ≡ Ok whole
  pub kept : rows ≡ part_of part parts whole
  pub count : length seen ≡ number

pub progress_start : {R : Type 0} (rem : R → Option (List ℕ)) (types : List ColType) (part parts : ℕ) (bytes : List ℕ) (reader : Reader R)
    → reader_trim reader ≡ trim.None → Ready reader → reader_config reader ≡ default_config → reader_state reader ≡ st.StartRecord
    → source_of rem reader ≡ Some (strip_bom bytes) → Progress rem types part parts bytes reader [] 0
unfolding Reached
progress_start rem types part parts bytes reader t r c s l = record {
  untrimmed = t;
  ready = r;
  config = c;
  left = strip_bom bytes;
  source = l;
  seen = [];
  reached = (sym s, refl);
  whole = [];
  good = rows_none types 0;
  kept = sym (part_none part parts);
  count = refl;
}

pub progress_more : {R : Type 0} (rem : R → Option (List ℕ)) (types : List ColType) (part parts : ℕ) (bytes : List ℕ) (a b : Reader R) (fields : List (List ℕ)) (rows after : List RowOf) (wanted fits : Bool) (number : ℕ)
    → Progress rem types part parts bytes a rows number → took_first b ≡ true → ReadRecord rem a b true fields
    → wanted ≡ (number % parts == part) → AddsRow wanted (row_of types fields) rows after fits → fits ≡ true
    → Progress rem types part parts bytes b after (number + 1)
progress_more rem types part parts bytes a b fields rows after wanted fits number p first r choice adds e =
    let m = rows-more rem a b fields default_config st.StartRecord (strip_bom bytes) p.left p.seen p.config p.source p.reached r in
    let one = added wanted (row_of types fields) rows after fits adds e in
    let many : number ≡ 0 + length p.whole = omega (arith, p.count, rows_many types 0 p.seen p.whole p.good) in
    record {
      untrimmed = r.3 ∙ p.untrimmed;
      ready = inl first;
      config = r.2 ∙ p.config;
      left = m.0;
      source = m.1;
      seen = p.seen ++ fields ∷ [];
      reached = m.2;
      whole = p.whole ++ one.0 ∷ [];
      good = rows_more types 0 p.seen p.whole fields one.0 p.good one.1;
      kept = one.2
          ∙ ap (λ (l : List RowOf). l ++ cond wanted (one.0 ∷ []) []) p.kept
          ∙ ap (λ c. part_of part parts p.whole ++ cond c (one.0 ∷ []) []) choice
          ∙ sym (part_push part parts 0 number p.whole one.0 many);
      count = grind (arith, common_steps, p.count);
    }

-- a record that does not fit
pub progress_bad : {R : Type 0} (rem : R → Option (List ℕ)) (types : List ColType) (part parts : ℕ) (bytes : List ℕ) (a b : Reader R) (fields : List (List ℕ)) (rows after : List RowOf) (wanted fits : Bool) (number : ℕ)
    → Progress rem types part parts bytes a rows number → ReadRecord rem a b true fields → AddsRow wanted (row_of types fields) rows after fits → fits ≡ false
    → rows_of bytes types ≡ Err number
progress_bad rem types part parts bytes a b fields rows after wanted fits number p r adds e =
    let m = rows-more rem a b fields default_config st.StartRecord (strip_bom bytes) p.left p.seen p.config p.source p.reached r in
    let all = records_begin default_config (strip_bom bytes) (p.seen ++ fields ∷ []) (reader_state b) m.0 m.2 in
    ap (rows_from types 0) (all.1 ∙ append_assoc p.seen (fields ∷ []) all.0)
    ∙ rows_bad types 0 p.seen all.0 p.whole fields p.good (refused wanted (row_of types fields) rows after fits adds e)
    ∙ ap Err (omega (arith, p.count))

-- the end of the text
pub progress_end : {R : Type 0} (rem : R → Option (List ℕ)) (types : List ColType) (part parts : ℕ) (bytes : List ℕ) (a b : Reader R) (fields : List (List ℕ)) (rows : List RowOf) (number : ℕ)
    → Progress rem types part parts bytes a rows number → ReadRecord rem a b false fields → rows_of_part part parts (rows_of bytes types) ≡ Ok rows
progress_end rem types part parts bytes a b fields rows number p r =
    let none = rows-end rem a b fields default_config p.left p.config p.source r in
    let all : rows_of bytes types ≡ Ok p.whole =
    ap (rows_from types 0) (records_end default_config (strip_bom bytes) p.seen (reader_state a) p.left p.reached none) ∙ p.good in
    ap (rows_of_part part parts) all ∙ ap Ok (sym p.kept)
