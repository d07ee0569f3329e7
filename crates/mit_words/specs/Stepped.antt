-- Devices of the proofs: nobody has to believe them. The two commands of a run step by step, each alone.
use Rattle.std.specs.Prelude.{◌≡◌, ℕ, List, [], ◌∷◌, codes}
use Rattle.mit_files.specs.Names.{IsLegal}
use Rattle.mit_words.specs.Words.{AreDecisions}

-- the words of a run step by step, without and with a number of decisions
abbrev pub IsStepped : List (List ℕ) → List ℕ → Type 0
IsStepped words script = (words ≡ codes "step" ∷ script ∷ []) × IsLegal script

abbrev pub IsSteppedWithin : List (List ℕ) → ℕ → List ℕ → Type 0
IsSteppedWithin words decisions script =
    (number : List ℕ) × (words ≡ codes "step" ∷ script ∷ codes "--decisions" ∷ number ∷ []) × AreDecisions number decisions × IsLegal script
