-- How a loop prints the rows of a bag.
use Rattle.std.proofs.Common.{◌≡◌, ◌≢◌, ℕ, ◌+◌, ◌<◌, ◌≤◌, false, List, [], ◌∷◌, ◌++◌, length, get_or, take, map, Option, Some, None, refl, sym, ap, ◌∙◌, append_assoc}
use Rattle.std.proofs.lemmas.List.{append-nil, take_all, take_more}
use Rattle.std.specs.Io.KnownBytes.{Appends}
use Rattle.csv.specs.Writing.{fields_written, has_written, row_text, text_written, writer_setup}
use Rattle.csv.specs.declared.writer.Writer.{Writer}
use Rattle.csv.specs.declared.writer.QuoteStyle.TheVariants as style
use Rattle.mit_rows.specs.Bags.{RowOf}
use Rattle.mit_files.specs.Printed.{bag_text, value_text, writer_of_bags}

-- the writer stands between two records and has written this text
pub record Printed {W : Type 0} (contents : W → Option (List ℕ)) (writer : Writer W) (text : List ℕ) : Type 0 where
  pub written : text_written contents writer ≡ Some text
  pub setup : writer_setup writer ≡ writer_of_bags
  pub ended : fields_written writer ≡ 0
  pub clean : has_written writer ≡ false

known_more : (old : List ℕ) (new : Option (List ℕ)) (bytes : List ℕ) → Appends (Some old) new bytes → new ≡ Some (old ++ bytes)
known_more old None bytes a = absurd a
known_more old (Some all) bytes a = ap Some a

bag_text_push : (rows : List RowOf) (row : RowOf) → bag_text (rows ++ row ∷ []) ≡ bag_text rows ++ row_text writer_of_bags (map value_text row)
unfolding bag_text
bag_text_push [] row = append-nil (row_text writer_of_bags (map value_text row))
bag_text_push (first ∷ rows) row =
    ap (λ (l : List ℕ). row_text writer_of_bags (map value_text first) ++ l) (bag_text_push rows row)
    ∙ sym (append_assoc (row_text writer_of_bags (map value_text first)) (bag_text rows) (row_text writer_of_bags (map value_text row)))

bag_text_more : (rows : List RowOf) (place : ℕ) (row : RowOf) → place < length rows → row ≡ get_or rows place row
    → bag_text (take (place + 1) rows) ≡ bag_text (take place rows) ++ row_text writer_of_bags (map value_text row)
bag_text_more rows place row h e =
    ap bag_text (take_more rows place row h ∙ ap (λ (last : RowOf). take place rows ++ last ∷ []) (sym e)) ∙ bag_text_push (take place rows) row

pub bag_text_none : bag_text [] ≡ []
unfolding bag_text
bag_text_none = refl

-- a record is quoted where that is needed
pub plain_style : {W : Type 0} (writer : Writer W) → writer_setup writer ≡ writer_of_bags → (writer_setup writer).style ≢ style.NonNumeric
plain_style writer e = rw e (λ f. cc)

pub printed_more : {W : Type 0} (contents : W → Option (List ℕ)) (a b : Writer W) (rows : List RowOf) (place : ℕ) (row : RowOf) (fields : List (List ℕ))
    → place < length rows → row ≡ get_or rows place row → Printed contents a (bag_text (take place rows)) → fields ≡ map value_text row
    → (fields_written a ≡ 0 → has_written a ≡ false → (writer_setup a).style ≢ style.NonNumeric
    → Appends (text_written contents a) (text_written contents b) (row_text (writer_setup a) fields))
    → fields_written b ≡ 0 → has_written b ≡ false → writer_setup b ≡ writer_setup a
    → Printed contents b (bag_text (take (place + 1) rows))
printed_more contents a b rows place row fields h item p e writes ended clean same =
    let appends = writes p.ended p.clean (plain_style a p.setup) in
    let added = rw (p.written, p.setup, e) at appends in
    record {
      written = known_more _ (text_written contents b) _ added ∙ ap Some (sym (bag_text_more rows place row h item));
      setup = same ∙ p.setup;
      ended = ended;
      clean = clean;
    }

pub bag_text_all : (rows : List RowOf) (place : ℕ) → length rows ≤ place → bag_text (take place rows) ≡ bag_text rows
bag_text_all rows place h = ap bag_text (take_all place rows h)
