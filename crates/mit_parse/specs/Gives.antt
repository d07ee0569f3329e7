-- A device of the proofs: nobody has to believe it. What a reader of the tokens ahead returns, beside what is read of a list.
use Rattle.std.specs.Prelude.{◌≡◌, Result, Ok, Err}
use Rattle.mit_script.specs.Grammar.{Kinds}
use Rattle.mit_parse.specs.declared.stop.Stop.{Stop}
use Rattle.mit_parse.specs.declared.stop.Stop.TheVariants as stop

-- reading stops before the token that was refused, unless memory ran out
abbrev pub StopsReading : {Y : Type 0} → Stop → Result Y Kinds → Type 0
StopsReading stop.NoMemory read = Unit {0}
StopsReading (stop.Refused rest) read = read ≡ Err rest

-- what a function returned is what reading gives, unless memory ran out; and so it is where it is seen by `view`
abbrev pub GivesReading : {Y : Type 0} → Result Y Stop → Result Y Kinds → Type 0
GivesReading (Ok x) read = read ≡ Ok x
GivesReading (Err stop) read = StopsReading stop read

abbrev pub GivesAs : {X Y : Type 0} → (X → Y) → Result X Stop → Result Y Kinds → Type 0
GivesAs view (Ok x) read = read ≡ Ok (view x)
GivesAs view (Err stop) read = StopsReading stop read
