-- Bags of rows: finite multisets, each written as its sorted list.
use Rattle.std.specs.Prelude.{◌≡◌, List, [], ◌∷◌, ◌++◌, if◌then◌else◌}
use Rattle.std.specs.Ordering.{is_le}
use Rattle.mit_rows.specs.declared.value.Value.{Value}
use Rattle.mit_rows.specs.Order.{row_cmp}

-- what a clause sees of a row and of a bag
abbrev pub RowOf : Type 0
RowOf = List Value

abbrev pub BagOf : Type 0
BagOf = List RowOf

-- a sorted list with one more row in its place
unfoldable pub insert_row : RowOf → List RowOf → List RowOf
insert_row row [] = row ∷ []
insert_row row (next ∷ rest) = if is_le (row_cmp row next) then row ∷ next ∷ rest else next ∷ insert_row row rest

-- the bag that holds each of these rows as often as it stands there
unfoldable pub bag_of : List RowOf → BagOf
bag_of [] = []
bag_of (row ∷ rows) = insert_row row (bag_of rows)

-- these lists of rows, one after another
unfoldable pub all_rows : List BagOf → List RowOf
all_rows [] = []
all_rows (bag ∷ bags) = bag ++ all_rows bags

-- the sum of bags adds how often each row stands in them
abbrev pub bag_sum : List BagOf → BagOf
bag_sum bags = bag_of (all_rows bags)

-- a list of rows that is a bag: it stands in order
abbrev pub IsBag : List RowOf → Type 0
IsBag rows = rows ≡ bag_of rows
