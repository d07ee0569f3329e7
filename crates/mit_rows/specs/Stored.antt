-- A device of the proofs: nobody has to believe it. How texts and rows are stored: a short text in the value itself; one value in
-- the row itself, and more behind a pointer, with what leads them beside it.
use Rattle.std.specs.Prelude.{◌≡◌, ◌≤◌, ◌<◌, ◌+◌, ◌*◌, ⊤, ℕ, zero, suc, ℤ, List, [], ◌∷◌, Option, Some, None, string_bytes, take}
use Rattle.std.specs.Str.{IsUtf8}
use Rattle.mit_rows.specs.declared.value.Value.{Value}
use Rattle.mit_rows.specs.declared.value.Value.TheVariants.{Int, Text, Bool}
use Rattle.mit_rows.specs.declared.row.Lead.{Lead}
use Rattle.mit_rows.specs.declared.row.Lead.TheVariants.{Number, Front, Other}
use Rattle.mit_rows.specs.declared.row.Stored.{Stored}
use Rattle.mit_rows.specs.declared.row.Stored.TheVariants.{Nothing, One, Two, Three, Four, Many}
use Rattle.mit_rows.specs.declared.text.TheConstants.{MAX_SHORT}
use Rattle.mit_rows.specs.declared.text.Held.{Held}
use Rattle.mit_rows.specs.declared.text.Held.TheVariants.{Short, Long}

-- the bytes of a text
abbrev pub held_bytes : Held → List ℕ
held_bytes (Short count bytes) = take count bytes
held_bytes (Long text) = string_bytes text.value

-- a short text is so many of the bytes, and is text
abbrev pub HeldRight : Held → Type 0
HeldRight (Short count bytes) = (count ≤ MAX_SHORT) × IsUtf8 (take count bytes)
HeldRight (Long text) = ⊤

-- the values that are stored
abbrev pub stored_values : Stored → List Value
stored_values Nothing = []
stored_values (One value) = value ∷ []
stored_values (Two lead values) = values.value
stored_values (Three lead values) = values.value
stored_values (Four lead values) = values.value
stored_values (Many lead values) = values.value.items

-- the first value, where it is an integer
abbrev pub leader : List Value → Option ℤ
leader [] = None
leader (Int number ∷ rest) = Some number
leader (Text words ∷ rest) = None
leader (Bool truth ∷ rest) = None

-- after the number `before`, this many first bytes of a text give the number `front`, with zeros after a shorter text
abbrev pub IsFront : ℕ → ℕ → List ℕ → ℕ → Type 0
IsFront zero before text front = front ≡ before
IsFront (suc count) before [] front = IsFront count (before * 256) [] front
IsFront (suc count) before (byte ∷ text) front = (byte < 256) × IsFront count (before * 256 + byte) text front

-- the first value is a text, and its first eight bytes give this number
abbrev pub IsFrontOf : ℕ → List Value → Type 0
IsFrontOf front [] = ⊥
IsFrontOf front (Int number ∷ rest) = ⊥
IsFrontOf front (Text words ∷ rest) = IsFront 8 0 words front
IsFrontOf front (Bool truth ∷ rest) = ⊥

-- what stands beside values tells what leads them
abbrev pub Leads : Lead → List Value → Type 0
Leads (Number number) values = leader values ≡ Some number
Leads (Front front) values = IsFrontOf front values
Leads Other values = ⊤

abbrev pub IsLed : Stored → Type 0
IsLed Nothing = ⊤
IsLed (One value) = ⊤
IsLed (Two lead values) = Leads lead values.value
IsLed (Three lead values) = Leads lead values.value
IsLed (Four lead values) = Leads lead values.value
IsLed (Many lead values) = Leads lead values.value.items
