-- A device of the proofs: nobody has to believe it. How a key is stored.
use Rattle.std.specs.Prelude.{List}
use Rattle.mit_rows.specs.declared.value.Value.{Value}
use Rattle.mit_apply.specs.declared.keys.StoredKey.{StoredKey}
use Rattle.mit_apply.specs.declared.keys.StoredKey.TheVariants.{Row, Wide}

-- the values of a key
abbrev pub values_of_key : StoredKey → List Value
values_of_key (Row row) = row
values_of_key (Wide values) = values.items
